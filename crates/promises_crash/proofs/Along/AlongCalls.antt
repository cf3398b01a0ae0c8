-- The plain store of a world, and that every call moves it by the plain rules. Assumes nothing.
use Rattle.std.specs.Prelude.{Some, None}
use mathlib.Core.Path.{◌≡◌, refl, ap}
use mathlib.Core.List.{List}
use mathlib.Core.Option.{Option, none, some}
use Prim.Native.Nat.{ℕ, zero, suc}
use native.Mathlib.Omega.{arith}
use Rattle.counts.specs.declared.Geo.{Geo}
use Rattle.card.specs.Plan.{refused}
use Rattle.card.proofs.PlanLaws.{ahead!, guard-num}
use Rattle.card.specs.Make.{make}
use Rattle.session.specs.declared.Opened.{Opened}
use Rattle.session.specs.Session.{Session}
use Rattle.session.proofs.FitMeansProved.{fits-mean}
use Rattle.store.specs.Mount.{Ended, mount_done, mount}
use Rattle.store.specs.Edit.{put_at, remove}
use Rattle.store.specs.Sync.{land, sync_done, sync, unmount}
use Rattle.store.proofs.Plans.{both-num, mount-num}
use Rattle.promises_answers.specs.PlainList.{Item, shown_by, shown_in}
use Rattle.promises_answers.proofs.AnswersProved.{put-answers, remove-answers}
use Rattle.promises_crash.specs.History.{Pending, World, Call, make_c, mount_c, sync_c, unmount_c, put_c, remove_c, land_c, get_c, list_c, free_c, after_cut, by_number, end_open, before, edited, stepped, after, Reach}
use Rattle.promises_crash.proofs.Inv.{mk}
use Rattle.promises_crash.proofs.Demand.{card-possible}
use Rattle.store.specs.Inner.{FitOf}
use Rattle.promises_crash.proofs.Fit.FitHistory.{always-fits}
use Rattle.promises_crash.proofs.SteadyProved.{through, make-shows, mount-shows, sync-same}
use Rattle.promises_crash.proofs.Leaves.LeavesProved.{unmount-changes}
use Rattle.promises_crash.proofs.WholeProved.{reads_as, looks-as}
use Rattle.promises_crash.specs.Along.{Plain, at_rest, Does, makes, mounts, puts, removes, syncs, unmounts, lands, gets, lists, frees, refused_by, Moves, gives_at, SessionTells, Tells}

-- ---- the plain store of a world: the files of the latest moment, and those that the session shows

unfoldable pub now_of : Session → List ℕ → Option (List Item)
now_of None work = none
now_of (Some s) work = some (shown_in (Some s) work)

abbrev pub plain_of : World → Plain
plain_of w = record { kept = w.last; present = now_of w.session w.work }

session-tells : (o : Session) (work : List ℕ) → FitOf o work → SessionTells o work (now_of o work)
unfolding now_of
session-tells None work f = tt
session-tells (Some s) work f = looks-as s work ((fits-mean s work).0 f)

pub world-tells : (w : World) → Reach w → Tells w (plain_of w)
world-tells w r = record { reading = reads_as w.card w.last (card-possible w r).1; session = session-tells w.session w.work (always-fits r) }

-- ---- a call

-- a call that goes on, or is refused
by_number_lem : (c : Call) (k : ℕ) (p : Plain) (next v : World) → (k ≡ 0 → Does c p (plain_of next)) → plain_of v ≡ refused_by c p → Moves c k p (plain_of (by_number k next v))
unfolding by_number
by_number_lem c zero p next v x y = x refl
by_number_lem c (suc k) p next v x y = y

-- a call that changes nothing
still : (c : Call) (k : ℕ) (p : Plain) → Does c p p → p ≡ refused_by c p → Moves c k p p
still c zero p x y = x
still c (suc k) p x y = y

moves-make : (w : World) (g : Geo) → Moves (make_c g) (gives_at (make_c g) w) (plain_of w) (plain_of (after (make_c g) w))
unfolding after gives_at
moves-make w g = by_number_lem (make_c g) (make g w.card).answer.number (plain_of w) _ w (λ z. go z) (unfold refused_by in refl)
  where
    go : (make g w.card).answer.number ≡ 0 → Does (make_c g) (plain_of w) (plain_of (after_cut (make g w.card).image w.work))
    go z = unfold after_cut now_of in rw (make-shows g w.card z) (makes g (plain_of w))

moves_put : (w : World) (n d : List ℕ) (goal : ℕ) → Moves (put_c n d goal) (gives_at (put_c n d goal) w) (plain_of w) (plain_of (after (put_c n d goal) w))
unfolding after edited gives_at
moves_put w n d goal = by_number_lem (put_c n d goal) (put_at w.session w.work n d goal).answer.number (plain_of w) _ w (λ z. go w.session z) (unfold refused_by in refl)
  where
    go : (o : Session) → (put_at o w.work n d goal).answer.number ≡ 0
        → Does (put_c n d goal) (record { kept = w.last; present = now_of o w.work }) (record { kept = w.last; present = now_of o (put_at o w.work n d goal).image })
    go None z = unfold put_at refused in absurd (omega (arith, z))
    go (Some s) z = unfold now_of in puts n d goal (put-answers (Some s) w.work n d goal z)

moves-remove : (w : World) (n : List ℕ) → Moves (remove_c n) (gives_at (remove_c n) w) (plain_of w) (plain_of (after (remove_c n) w))
unfolding after edited gives_at
moves-remove w n = by_number_lem (remove_c n) (remove w.session w.work n).answer.number (plain_of w) _ w (λ z. go w.session z) (unfold refused_by in refl)
  where
    go : (o : Session) → (remove o w.work n).answer.number ≡ 0
        → Does (remove_c n) (record { kept = w.last; present = now_of o w.work }) (record { kept = w.last; present = now_of o (remove o w.work n).image })
    go None z = unfold remove refused in absurd (omega (arith, z))
    go (Some s) z = unfold now_of in rw (remove-answers (Some s) w.work n z) (removes n w.last (shown_in (Some s) w.work))

moves-land : (w : World) (i : ℕ) → Moves (land_c i) (gives_at (land_c i) w) (plain_of w) (plain_of (after (land_c i) w))
unfolding after gives_at
moves-land w i = by_number_lem (land_c i) (land w.session w.card w.work i).answer.number (plain_of w) _ w (λ z. lands i (plain_of w)) (unfold refused_by in refl)

-- a sync that gives 0 leaves a session open, and an unmount none
sync-now : (s : Opened) (card work x : List ℕ) → (sync (Some s) card work).answer.number ≡ 0
    → now_of (sync (Some s) card work).session x ≡ some (shown_in (sync (Some s) card work).session x)
unfolding sync refused
sync-now s card work x =
    through (λ (r : Ended). r.answer.number) (λ r. now_of r.session x ≡ some (shown_in r.session x)) _ _ (λ k. refl)
    (both-num s card work (guard-num 8 _ ahead!)) (λ j a e. unfold sync_done now_of in refl)

moves-sync : (w : World) → Moves sync_c (gives_at sync_c w) (plain_of w) (plain_of (after sync_c w))
unfolding after stepped gives_at
moves-sync w = by_number_lem sync_c (sync w.session w.card w.work).answer.number (plain_of w) _ w (λ z. go w.session z) (unfold refused_by in refl)
  where
    go : (o : Session) → (sync o w.card w.work).answer.number ≡ 0
        → Does sync_c (record { kept = w.last; present = now_of o w.work })
        (record { kept = shown_in o w.work; present = now_of (sync o w.card w.work).session (sync o w.card w.work).work })
    go None z = unfold sync refused in absurd (omega (arith, z))
    go (Some s) z =
        rw (sync-now s w.card w.work (sync (Some s) w.card w.work).work z, sync-same (Some s) w.card w.work z)
        (unfold now_of in syncs w.last (shown_in (Some s) w.work))

moves-unmount : (w : World) → Moves unmount_c (gives_at unmount_c w) (plain_of w) (plain_of (after unmount_c w))
unfolding after stepped gives_at
moves-unmount w = by_number_lem unmount_c (unmount w.session w.card w.work).answer.number (plain_of w) _ w (λ z. go w.session z) (unfold refused_by in refl)
  where
    go : (o : Session) → (unmount o w.card w.work).answer.number ≡ 0
        → Does unmount_c (record { kept = w.last; present = now_of o w.work })
        (record { kept = shown_in o w.work; present = now_of (unmount o w.card w.work).session (unmount o w.card w.work).work })
    go None z = unfold unmount refused in absurd (omega (arith, z))
    go (Some s) z = rw (unmount-changes s w.card w.work z).closed (unfold now_of in unmounts w.last (shown_in (Some s) w.work))

-- ---- mount

mount-now : (card work x : List ℕ) → (mount card work).answer.number ≡ 0 → now_of (mount card work).session x ≡ some (shown_in (mount card work).session x)
unfolding mount refused
mount-now card work x =
    through (λ (r : Ended). r.answer.number) (λ r. now_of r.session x ≡ some (shown_in r.session x)) _ _ (λ k. refl)
    (mount-num card work) (λ j a e. unfold mount_done now_of in refl)

mount-goes : (card work : List ℕ) (p : Plain) → shown_by card ≡ p.kept → (mount card work).answer.number ≡ 0
    → Does mount_c p (record { kept = shown_by card; present = now_of (mount card work).session (mount card work).work })
mount-goes card work p h z = rw (mount-now card work (mount card work).work z, mount-shows card work z, h) (mounts p)

moves-mount : (o : Session) (card work : List ℕ) (q : Pending) (m : List Item) → shown_by card ≡ m
    → Moves mount_c (gives_at mount_c (mk card work o q m)) (plain_of (mk card work o q m)) (plain_of (after mount_c (mk card work o q m)))
unfolding gives_at after before stepped end_open after_cut
moves-mount None card work q m h =
    by_number_lem mount_c (mount card work).answer.number (plain_of (mk card work None q m)) _ (mk card work None q m) (λ z. mount-goes card work _ h z) (unfold refused_by now_of in refl)
moves-mount (Some s) card work q m h =
    by_number_lem mount_c (mount card work).answer.number (plain_of (mk card work (Some s) q m)) _ (after_cut card work) (λ z. mount-goes card work _ h z)
    (unfold refused_by now_of after_cut in (ap at_rest h))

-- ---- every call

pub moves : (w : World) → Reach w → (c : Call) → Moves c (gives_at c w) (plain_of w) (plain_of (after c w))
moves w r (make_c g) = moves-make w g
moves w r mount_c = moves-mount w.session w.card w.work w.pending w.last (card-possible w r).1.shows
moves w r sync_c = moves-sync w
moves w r unmount_c = moves-unmount w
moves w r (put_c n d goal) = moves_put w n d goal
moves w r (remove_c n) = moves-remove w n
moves w r (land_c i) = moves-land w i
moves w r (get_c n out) = unfold after refused_by in still (get_c n out) (gives_at (get_c n out) w) (plain_of w) (gets n out (plain_of w)) refl
moves w r (list_c lines) = unfold after refused_by in still (list_c lines) (gives_at (list_c lines) w) (plain_of w) (lists lines (plain_of w)) refl
moves w r free_c = unfold after refused_by in still free_c (gives_at free_c w) (plain_of w) (frees (plain_of w)) refl
