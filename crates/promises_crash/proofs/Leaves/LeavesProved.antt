-- What land, mount, sync and unmount leave, and that five calls count 0: proved. Assumes nothing.
use Rattle.std.specs.Prelude.{Some, None}
use mathlib.Core.Path.{◌≡◌, refl, ◌∙◌}
use mathlib.Core.List.{List}
use Prim.Native.Nat.{ℕ, ◌+◌, ◌*◌, ◌^◌, ◌<◌}
use native.Mathlib.Omega.{arith}
use borrow.Author.Tests.{eqb-true, ltb-true}
use lib.ListN.{length}
use Rattle.sectors.specs.declared.Sector.{Sector}
use Rattle.sectors.specs.Sectors.{sec, set_sec, apply_steps}
use Rattle.sectors.proofs.SectorLaws.{set_sec-length}
use Rattle.sectors.proofs.FlatLaws.{sec-in, set_here, set_there}
use Rattle.counts.specs.declared.Geo.{Geo}
use Rattle.counts.specs.Geometry.{g_n, geo_of, count_of}
use Rattle.counts.proofs.GeoLaws.{limits, head_of}
use Rattle.card.specs.Plan.{Plan, refuse, do_it, ended, refused, done, Changed}
use Rattle.card.proofs.PlanLaws.{ahead!, guard-inv, guard-num}
use Rattle.card.specs.Make.{make}
use Rattle.card.proofs.SoundLaws.{shape-inv}
use Rattle.session.specs.declared.Opened.{Opened}
use Rattle.session.specs.Session.{Session}
use Rattle.session.proofs.FitLaws.{Fit, fit-inv}
use Rattle.store.specs.Steps.{set_count, mount_steps}
use Rattle.store.proofs.StepLaws.{count-length, count-here, count-count}
use Rattle.store.specs.Mount.{Ended, opened_from, mount_done, mount}
use Rattle.store.specs.Edit.{remove, put_at}
use Rattle.store.specs.Sync.{both_plan, land, sync, unmount}
use Rattle.store.proofs.Plans.{both-inv, both-num, mount-few, mount-good, mount-num, sync-live}
use Rattle.promises_crash.proofs.SteadyProved.{through}
use Rattle.promises_crash.specs.Leaves.{LandLeaves, MountLeaves, SyncLeaves, UnmountLeaves, LandChanges, MountChanges, SyncChanges, UnmountChanges, CountsNothing}
use Rattle.promises_crash.proofs.Leaves.LeavesSync.{sync-done}
use Rattle.promises_crash.proofs.Leaves.LeavesUnmount.{unmount-done}

-- the card is as long as the session says
both-sized : (s : Opened) (card work : List ℕ) (pl : Plan) {j : ℕ} {a : Sector} → both_plan s card work pl ≡ do_it j a → length card ≡ 512 * s.geo.s
unfolding both_plan
both-sized s card work pl h = eqb-true _ _ (guard-inv 1 _ _ h).0

-- ---- land

land-done : (s : Opened) (card work : List ℕ) (i : ℕ) → length card ≡ 512 * s.geo.s → Fit s work → i < s.geo.s → LandLeaves s i card work (set_sec card i (sec work i))
land-done s card work i l F h =
    let w = sec-in work s.geo.s i F.sized h in
    record {
      size = set_sec-length card i (sec work i);
      inside = h;
      landed = set_here s.geo.s card (sec work i) i l h w;
      others = set_there s.geo.s card (sec work i) i l h w;
    }

pub land-changes : LandChanges
unfolding land refused
land-changes s card work i =
    through (λ (r : Changed). r.answer.number) (λ r. LandLeaves s i card work r.image) _ _ (λ k. refl) (both-num s card work (guard-num 10 _ ahead!))
    (λ j a e.
    let (f, q) = both-inv s card work _ e in
    land-done s card work i (both-sized s card work _ e) (fit-inv s work f) (ltb-true i s.geo.s (guard-inv 11 _ _ q).0))

-- ---- mount

module _ (card : List ℕ) (l : length card ≡ 512 * (geo_of (sec card)).s) (pos : 0 < (geo_of (sec card)).s) (small : count_of (sec card) + 1 < 2 ^ 32) where
  abbrev S : ℕ
  S = (geo_of (sec card)).s

  abbrev up : List ℕ
  up = set_count (count_of (sec card) + 1) card

  wide : length (sec up 0) ≡ 512
  wide = sec-in up S 0 (count-length (count_of (sec card) + 1) S card small l pos) pos

  first : sec (set_sec card 0 (sec up 0)) 0 ≡ sec up 0
  first = set_here S card (sec up 0) 0 l pos wide

  mount-done : MountLeaves card (mount_done card)
  unfolding mount_done mount_steps apply_steps opened_from
  mount-done =
      record {
        size = set_sec-length card 0 (sec up 0);
        head = first ∙ count-here (count_of (sec card) + 1) S card small l pos;
        count = (head_of (sec up) (sec (set_sec card 0 (sec up 0))) first).0 ∙ count-count (count_of (sec card) + 1) S card small l pos;
        others = set_there S card (sec up 0) 0 l pos wide;
        copied = refl;
        session = refl;
      }

pub mount-changes : MountChanges
unfolding mount refused
mount-changes card work =
    through (λ (r : Ended). r.answer.number) (λ r. MountLeaves card r) _ _ (λ k. refl) (mount-num card work)
    (λ j a e. let (x, y) = shape-inv card (mount-good card work j a e).0 in let L = limits (geo_of (sec card)) x in
    mount-done card y (omega (arith, L.s_low)) (unfold g_n in omega (arith, mount-few card work j a e, L.t_high)))

-- ---- sync and unmount

pub sync-changes : SyncChanges
unfolding sync refused
sync-changes s card work =
    through (λ (r : Ended). r.answer.number) (λ r. SyncLeaves s card work r) _ _ (λ k. refl) (both-num s card work (guard-num 8 _ ahead!))
    (λ j a e. sync-done s card work (both-sized s card work _ e) (sync-live s card work e).0)

pub unmount-changes : UnmountChanges
unfolding unmount refused
unmount-changes s card work =
    through (λ (r : Ended). r.answer.number) (λ r. UnmountLeaves s card work r) _ _ (λ k. refl) (both-num s card work ahead!)
    (λ j a e. unmount-done s card work (both-sized s card work _ e) (fit-inv s work (both-inv s card work _ e).0))

-- ---- counts

-- a call whose every end counts 0
counts-none : {A : Type 0} (count : A → ℕ) (f : ℕ → A) (h : ℕ → Sector → A) → ((k : ℕ) → count (f k) ≡ 0) → ((j : ℕ) (a : Sector) → count (h j a) ≡ 0) → (p : Plan) → count (ended p f h) ≡ 0
unfolding ended
counts-none count f h x y (refuse k) = x k
counts-none count f h x y (do_it j a) = y j a

count-make : (g : Geo) (card : List ℕ) → (make g card).answer.count ≡ 0
unfolding make refused done
count-make g card = counts-none (λ (r : Changed). r.answer.count) _ _ (λ k. refl) (λ j a. refl) _

count-mount : (card work : List ℕ) → (mount card work).answer.count ≡ 0
unfolding mount mount_done refused done
count-mount card work = counts-none (λ (r : Ended). r.answer.count) _ _ (λ k. refl) (λ j a. refl) _

count-put : (s : Session) (work n d : List ℕ) (goal : ℕ) → (put_at s work n d goal).answer.count ≡ 0
unfolding put_at refused done
count-put None work n d goal = refl
count-put (Some s) work n d goal = counts-none (λ (r : Changed). r.answer.count) _ _ (λ k. refl) (λ j a. refl) _

count-remove : (s : Session) (work n : List ℕ) → (remove s work n).answer.count ≡ 0
unfolding remove refused done
count-remove None work n = refl
count-remove (Some s) work n = counts-none (λ (r : Changed). r.answer.count) _ _ (λ k. refl) (λ j a. refl) _

count-land : (s : Session) (card work : List ℕ) (i : ℕ) → (land s card work i).answer.count ≡ 0
unfolding land refused done
count-land None card work i = refl
count-land (Some s) card work i = counts-none (λ (r : Changed). r.answer.count) _ _ (λ k. refl) (λ j a. refl) _

pub counts-nothing : CountsNothing
counts-nothing =
    record {
      of_make = count-make;
      of_mount = count-mount;
      of_put = count-put;
      of_remove = count-remove;
      of_land = count-land;
    }
