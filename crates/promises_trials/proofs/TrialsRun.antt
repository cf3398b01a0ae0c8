-- A history on which the trial stores are tried: a fresh card, mount, put `a`, sync, put `b`; its worlds, and what their calls give. Assumes nothing.
use Rattle.std.specs.Prelude.{Some, None}
use mathlib.Core.Path.{◌≡◌, refl, subst, ◌∙◌}
use mathlib.Core.Bool.{Bool, true, false, not}
use mathlib.Core.List.{List, []}
use mathlib.Core.Option.{none, some}
use Prim.Native.Nat.{ℕ, ◌*◌}
use borrow.Author.Tests.{eq-eqb}
use lib.Dec.{eqb}
use lib.ListN.{length}
use Rattle.words.specs.Lists.{every}
use Rattle.sectors.specs.declared.Sector.{Sector}
use Rattle.sectors.specs.Sectors.{apply_steps}
use Rattle.sectors.proofs.SectorLaws.{apply_steps-length}
use Rattle.entries.specs.Entries.{good_name, sectors_for}
use Rattle.card.specs.Plan.{do_it, go_ahead, guard, need, ended, done}
use Rattle.card.specs.Make.{fresh_card}
use Rattle.card.proofs.FreshSectors.{fresh-length}
use Rattle.card.proofs.MeansParts.{limits-mean}
use Rattle.store.specs.Steps.{mount_steps, sync_steps, at_top, sync_work}
use Rattle.store.specs.Mount.{mount_done, mount}
use Rattle.store.specs.Edit.{place_in, run_in, put_plan, put_work, put_at, put}
use Rattle.store.proofs.Plans.{put-plain}
use Rattle.store.specs.Sync.{both_plan, grown, sync_done, sync}
use Rattle.session.specs.declared.Opened.{Opened}
use Rattle.session.specs.Session.{Session}
use Rattle.session.specs.Fits.{fits}
use Rattle.session.proofs.FitLaws.{fit-inv}
use Rattle.promises_answers.specs.PlainList.{Item, shown_by, shown_in, lookup}
use Rattle.promises_crash.specs.History.{Pending, play, all_written, settled, World, Reach, fresh, call, after_cut, by_number, end_open, before, syncs_by, steps_of, edited, stepped, after, mount_c, sync_c, put_c}
use Rattle.promises_crash.proofs.Inv.{mk}
use Rattle.promises_crash.proofs.Fit.FitHistory.{always-fits}
use Rattle.promises_trials.proofs.TrialsCard.{ten, ten-ok, a, b, seven, stretch, start, work_a, card_s, work_s, work_b, mount-goes, finds, looks}

-- a session in its first stretch: t is 1
unfoldable pub is_first : Session → Bool
is_first None = false
is_first (Some s) = eqb s.t.0 1

-- ---- the calls of any session that fits

-- put goes through where it finds an entry and a run
put-plan : (s : Opened) (work n d : List ℕ) (j : ℕ) (i : Sector) → fits s work ≡ true → s.worn ≡ false → good_name n ≡ true
    → place_in s work n ≡ Some j → run_in s work (sectors_for (length d)) 0 ≡ Some i.0 → put_plan s work n d 0 ≡ do_it j i
unfolding guard need
put-plan s work n d j i f w g p r = put-plain s work n d ∙ rw (f, g, p, r, w)

-- sync goes through
pub sync-plan : (s : Opened) (card work : List ℕ) → length card ≡ 512 * s.geo.s → fits s work ≡ true → s.worn ≡ false
    → both_plan s card work (guard 9 (not s.worn) go_ahead) ≡ go_ahead
unfolding both_plan guard
sync-plan s card work l f w = rw (eq-eqb (length card) (512 * s.geo.s) l, f, w)

-- the world after such a put
put-done : (s : Opened) (card work : List ℕ) (p : Pending) (m : List Item) (n d : List ℕ) (j : ℕ) (i : Sector) → put_plan s work n d 0 ≡ do_it j i
    → after (put_c n d 0) (mk card work (Some s) p m) ≡ mk card (put_work s j i work n d) (Some s) (all_written (put_work s j i work n d) p) m
unfolding after edited put_at ended done by_number
put-done s card work p m n d j i e = rw e

-- and after such a sync
pub sync-done : (s : Opened) (card work : List ℕ) (p : Pending) (m : List Item) → both_plan s card work (guard 9 (not s.worn) go_ahead) ≡ go_ahead
    → after sync_c (mk card work (Some s) p m)
    ≡ mk (apply_steps (sync_steps s card work []) card) (sync_work s work) (Some (grown (at_top s) s)) (play (sync_steps s card work []) p) (shown_in (Some s) work)
unfolding after stepped steps_of syncs_by sync sync_done ended done by_number
sync-done s card work p m e = rw e

-- ---- the worlds

-- after mount of a fresh card
unfoldable pub mounted : World
mounted = mk start start (Some (stretch 1)) (play (mount_steps (fresh_card ten)) (settled (fresh_card ten))) (shown_by (fresh_card ten))

-- after put of `a`
unfoldable pub put_a : World
put_a = mk start work_a (Some (stretch 1)) (all_written work_a mounted.pending) mounted.last

-- after sync
unfoldable pub synced : World
synced = mk card_s work_s (Some (stretch 2)) (play (sync_steps (stretch 1) start work_a []) put_a.pending) (shown_in (Some (stretch 1)) work_a)

-- after put of `b`
unfoldable pub put_b : World
put_b = mk card_s work_b (Some (stretch 2)) (all_written work_b synced.pending) synced.last

mount-is : after mount_c (after_cut (fresh_card ten) (fresh_card ten)) ≡ mounted
unfolding after stepped steps_of before end_open after_cut mount mount_done ended done by_number mounted start
mount-is = rw (mount-goes.0, mount-goes.1)

-- each is reached by a history of this store
pub reach-mounted : Reach mounted
reach-mounted = subst Reach mount-is (call (fresh ten (fresh_card ten) ((limits-mean ten).0 ten-ok)) mount_c)

pub good : (good_name a ≡ true) × (good_name b ≡ true) × (sectors_for (length seven) ≡ 1)
unfolding good_name sectors_for every
good = (refl, refl, refl)

a-goes : put_plan (stretch 1) start a seven 0 ≡ do_it 0 (record { 0 = 6 })
a-goes =
    let f : fits (stretch 1) start ≡ true = unfold mounted in always-fits reach-mounted in
    put-plan (stretch 1) start a seven 0 (record { 0 = 6 }) f refl good.0 finds.0 (rw good.2 finds.1)

pub reach-put_a : Reach put_a
unfolding mounted put_a work_a
reach-put_a = subst Reach (put-done (stretch 1) start start _ _ a seven 0 (record { 0 = 6 }) a-goes) (call reach-mounted (put_c a seven 0))

start-sized : length start ≡ 512 * 10
unfolding start
start-sized = apply_steps-length (mount_steps (fresh_card ten)) (fresh_card ten) ∙ fresh-length ten ten-ok

sync-goes : both_plan (stretch 1) start work_a (guard 9 (not false) go_ahead) ≡ go_ahead
sync-goes =
    let f : fits (stretch 1) work_a ≡ true = unfold put_a in always-fits reach-put_a in
    sync-plan (stretch 1) start work_a start-sized f refl

pub reach-synced : Reach synced
unfolding mounted put_a synced card_s work_s grown at_top
reach-synced = subst Reach (sync-done (stretch 1) start work_a _ _ sync-goes) (call reach-put_a sync_c)

pub b-goes : put_plan (stretch 2) work_s b seven 0 ≡ do_it 1 (record { 0 = 7 })
b-goes =
    let f : fits (stretch 2) work_s ≡ true = unfold synced in always-fits reach-synced in
    put-plan (stretch 2) work_s b seven 1 (record { 0 = 7 }) f refl good.1 finds.2 (rw good.2 finds.3)

pub reach-put_b : Reach put_b
unfolding synced put_b work_b
reach-put_b = subst Reach (put-done (stretch 2) card_s work_s _ _ b seven 1 (record { 0 = 7 }) b-goes) (call reach-synced (put_c b seven 0))

fits-B : fits (stretch 2) work_b ≡ true
unfolding put_b
fits-B = always-fits reach-put_b

sizes : (length card_s ≡ 512 * 10) × (length work_b ≡ 512 * 10)
unfolding card_s
sizes = (apply_steps-length (sync_steps (stretch 1) start work_a []) start ∙ start-sized, (fit-inv (stretch 2) work_b fits-B).sized)

again-goes : both_plan (stretch 2) card_s work_b (guard 9 (not false) go_ahead) ≡ go_ahead
again-goes = sync-plan (stretch 2) card_s work_b sizes.0 fits-B refl

-- ---- what is used of them

-- put of `a` gives 0, and the session does not show `a` before it
pub at-mounted : ((put mounted.session mounted.work a seven).answer.number ≡ 0) × (lookup a (shown_in mounted.session mounted.work) ≡ none)
unfolding mounted put put_at ended done
at-mounted = (rw a-goes refl, looks.0)

-- the first sync gives 0
pub at-put_a : (is_first put_a.session ≡ true) × ((sync put_a.session put_a.card put_a.work).answer.number ≡ 0)
unfolding put_a is_first sync sync_done ended done
at-put_a = (refl, rw sync-goes refl)

-- after it the files of the moment have `a`
pub at-synced : lookup a synced.last ≡ some seven
unfolding synced
at-synced = looks.1

-- `b` is put after it: the session shows `b`, the files of the latest moment do not have it, and a second sync gives 0
pub at-put_b : (is_first put_b.session ≡ false) × ((sync put_b.session put_b.card put_b.work).answer.number ≡ 0)
    × (lookup b put_b.last ≡ none) × (lookup b (shown_in put_b.session put_b.work) ≡ some seven)
unfolding put_b synced is_first sync sync_done ended done
at-put_b = (refl, rw again-goes refl, looks.2, looks.3)

-- both images are as long as they should be
pub put_b-sized : (length put_b.card ≡ 512 * 10) × (length put_b.work ≡ 512 * 10)
unfolding put_b
put_b-sized = sizes
