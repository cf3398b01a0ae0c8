-- Demand 3 of any put; three wrong builds of it; and the history on which they are tried: fresh card, mount, put `a`, sync, remove `a`. Assumes nothing.
use Rattle.std.specs.Prelude.{Option, Some, None}
use mathlib.Core.Path.{◌≡◌, refl, subst}
use mathlib.Core.Bool.{true, false, not}
use mathlib.Core.List.Memᴰ
use mathlib.Core.List.{List}
use mathlib.Core.Logic.{◌⊎◌, inl, inr, ⊎_elim, ◌≢◌}
use Prim.Native.Nat.{ℕ, ◌*◌, ◌<◌}
use native.Mathlib.Decide.{ℕ_discrete}
use lib.ListN.{length}
use Rattle.words.specs.Lists.{first_at, or_else}
use Rattle.sectors.specs.Sectors.{sec, set_sec}
use Rattle.sectors.proofs.SectorLaws.{set_sec-length}
use Rattle.sectors.proofs.FlatLaws.{sec-in, set_here, set_there}
use Rattle.entries.specs.Entries.{good_name, sectors_for}
use Rattle.directory.specs.Directory.{entries_of, gone, named}
use Rattle.apages.specs.Runs.{run_for}
use Rattle.card.specs.Plan.{Plan, guard, need, ended, do_it, do_at, refused, done, Changed}
use Rattle.session.specs.declared.Opened.{Opened}
use Rattle.session.specs.Session.{Session}
use Rattle.session.specs.Views.{present_table, cut_table, present_page}
use Rattle.session.specs.Fits.{fits}
use Rattle.store.specs.Steps.{set_word}
use Rattle.store.specs.Edit.{place_in, run_in, put_plan, put_work, put_at, put, remove_plan, remove_work, remove}
use Rattle.store.proofs.Plans.{put-plain}
use Rattle.promises_answers.specs.PlainList.{Item, shown_by}
use Rattle.promises_crash.specs.History.{Pending, all_written, Left, World, by_number, edited, after, put_c, remove_c, Reach, call}
use Rattle.promises_crash.proofs.Inv.{mk}
use Rattle.promises_crash.proofs.Fit.FitHistory.{always-fits}
use Rattle.promises_crash.proofs.Demand.{demand-three, card-possible}
use Rattle.promises_trials.proofs.TrialsCard.{a, stretch, card_s, work_s, computes}
use Rattle.promises_trials.proofs.TrialsRun.{synced, reach-synced, good}
use Rattle.promises_trials.proofs.TrialsSync.{CutsRead}

-- ---- demand 3 of a put

-- demand 3 at the end of every put, of any put
abbrev pub PutsRead : (Session → List ℕ → List ℕ → List ℕ → Changed) → Type 0
PutsRead p = (w : World) → Reach w → (n d : List ℕ) → CutsRead (edited w (p w.session w.work n d))

-- of the put of this store it is proved
pub of-this-put : PutsRead put
unfolding after put
of-this-put w r n d = (demand-three (after (put_c n d 0) w) (call r (put_c n d 0))).0

-- after a put that gives 0 a cut may leave any card of which each sector is the new working image's or the card's
pub some-landed : (p : Pending) (card image k : List ℕ) → Left p (length card) card → length k ≡ length card
    → ((j : ℕ) → (sec k j ≡ sec image j) ⊎ (sec k j ≡ sec card j)) → Left (all_written image p) (length card) k
unfolding all_written
some-landed p card image k h l f =
    record { sized = l; held = λ j q. ⊎_elim (λ e. Memᴰ.head e) (λ e. Memᴰ.tail (rw e (h.held j q))) (f j) }

-- a card on which one sector of another image has landed
pub one-landed : (S i : ℕ) (card image : List ℕ) → length card ≡ 512 * S → length image ≡ 512 * S → i < S
    → (j : ℕ) → (sec (set_sec card i (sec image i)) j ≡ sec image j) ⊎ (sec (set_sec card i (sec image i)) j ≡ sec card j)
one-landed S i card image l m h j = go (ℕ_discrete j i)
  where
    wide : length (sec image i) ≡ 512
    wide = sec-in image S i m h

    go : Dec (j ≡ i) → (sec (set_sec card i (sec image i)) j ≡ sec image j) ⊎ (sec (set_sec card i (sec image i)) j ≡ sec card j)
    go (yes e) = inl (rw (e, set_here S card (sec image i) i l h wide))
    go (no o) = inr (set_there S card (sec image i) i l h wide j o)

-- so a put is refused that gives 0 and leaves an image of which one sector, landed alone, changes what is read
pub one-shows : (w : World) → Reach w → (r : Changed) (S i : ℕ) → r.answer.number ≡ 0 → length w.card ≡ 512 * S → length r.image ≡ 512 * S → i < S
    → shown_by (set_sec w.card i (sec r.image i)) ≢ w.last → ¬ CutsRead (edited w r)
unfolding edited by_number
one-shows w reach r S i z l m h o c =
    let reads_now : CutsRead (mk w.card r.image w.session (all_written r.image w.pending) w.last) = rw z at c in
    let k = some-landed w.pending w.card r.image _ (card-possible w reach).0 (set_sec-length w.card i (sec r.image i)) (one-landed S i w.card r.image l m h) in
    o (reads_now (set_sec w.card i (sec r.image i)) k).shows

-- ---- the builds: put, by any choice of the entry and of the run

unfoldable pub plan_by : (Opened → List ℕ → List ℕ → Option ℕ) → (Opened → List ℕ → ℕ → Option ℕ) → Opened → List ℕ → List ℕ → List ℕ → Plan
plan_by place run s work n d =
    guard 2 (fits s work) (guard 9 (not s.worn) (guard 5 (good_name n)
    (need 7 (place s work n) (λ j. need 8 (run s work (sectors_for (length d))) (λ a. do_it j (record { 0 = a }))))))

unfoldable pub put_by : (Opened → List ℕ → List ℕ → Option ℕ) → (Opened → List ℕ → ℕ → Option ℕ) → Session → List ℕ → List ℕ → List ℕ → Changed
put_by place run None work n d = record { answer = refused 4; image = work }
put_by place run (Some s) work n d =
    ended (plan_by place run s work n d) (λ k. record { answer = refused k; image = work }) (λ j i. record { answer = done 0; image = put_work s j i work n d })

-- this store's run, without a goal
unfoldable pub lowest_in : Opened → List ℕ → ℕ → Option ℕ
lowest_in s work k = run_in s work k 0

-- its put is one of them
pub as-this-put : (s : Session) (work n d : List ℕ) → put_by place_in lowest_in s work n d ≡ put s work n d
unfolding put_by plan_by put put_at lowest_in
as-this-put None work n d = refl
as-this-put (Some s) work n d = rw (put-plain s work n d)

-- "Reusing a sector freed since the last sync while the cut view still holds it": the run is free in the present view
unfoldable pub run_now : Opened → List ℕ → ℕ → Option ℕ
run_now s work k = run_for k 0 (present_page s (sec work)) (present_page s (sec work))

-- "Giving an entry a new name while its cut view is still present": the entry is absent in the present view
unfoldable pub place_now : Opened → List ℕ → List ℕ → Option ℕ
place_now s work n =
    let tp = present_table s (sec work) in
    or_else (first_at (named tp (cut_table s (sec work)) n) 0 (entries_of s.geo (sec work))) (first_at (gone tp tp) 0 (entries_of s.geo (sec work)))

-- "Writing table word c in the working image before the other sectors have landed": put itself writes it
unfoldable pub early_put : Session → List ℕ → List ℕ → List ℕ → Changed
early_put None work n d = record { answer = refused 4; image = work }
early_put (Some s) work n d =
    ended (put_plan s work n d 0) (λ k. record { answer = refused k; image = work })
    (λ j i. record { answer = done 0; image = set_word s.c.0 s.t.0 (put_work s j i work n d) })

-- ---- the history: fresh card, mount, put `a`, sync (world `synced`), remove `a`

unfoldable pub work_r : List ℕ
work_r = remove_work (stretch 2) 0 work_s a

unfoldable pub removed : World
removed = mk card_s work_r (Some (stretch 2)) (all_written work_r synced.pending) synced.last

remove-finds : first_at (named (present_table (stretch 2) (sec work_s)) (present_table (stretch 2) (sec work_s)) a) 0 (entries_of (stretch 2).geo (sec work_s)) ≡ Some 0
unfolding computes
remove-finds = refl

remove-plan : (s : Opened) (work n : List ℕ) (j : ℕ) → fits s work ≡ true → s.worn ≡ false → good_name n ≡ true
    → first_at (named (present_table s (sec work)) (present_table s (sec work)) n) 0 (entries_of s.geo (sec work)) ≡ Some j → remove_plan s work n ≡ do_at j
unfolding remove_plan guard need
remove-plan s work n j f w g p = rw (f, g, p, w)

remove-done : (s : Opened) (card work : List ℕ) (p : Pending) (m : List Item) (n : List ℕ) (j : ℕ) → remove_plan s work n ≡ do_at j
    → after (remove_c n) (mk card work (Some s) p m) ≡ mk card (remove_work s j work n) (Some s) (all_written (remove_work s j work n) p) m
unfolding after edited remove ended done by_number
remove-done s card work p m n j e = rw e

pub reach-removed : Reach removed
unfolding synced removed work_r
reach-removed =
    let f : fits (stretch 2) work_s ≡ true = unfold synced in always-fits reach-synced in
    subst Reach (remove-done (stretch 2) card_s work_s _ _ a 0 (remove-plan (stretch 2) work_s a 0 f refl good.0 remove-finds)) (call reach-synced (remove_c a))

pub removed-fits : fits (stretch 2) work_r ≡ true
unfolding removed
removed-fits = always-fits reach-removed
