-- land: "4, 1, 2, 11"; sync: "4, 1, 2, 9"; unmount: "4, 1, 2". Assumes nothing.
use Rattle.std.specs.Prelude.{Bool, true, false, not, List, [], ℕ, ◌+◌, ◌*◌, length, ltb, eqb, Some, None}
use Rattle.sectors.specs.Sectors.{sec, set_sec, apply_steps, writes_in}
use Rattle.card.specs.Plan.{Plan, guard, ended, go_ahead, refused, done, Changed}
use Rattle.session.specs.declared.Opened.{Opened}
use Rattle.session.specs.Session.{Session}
use Rattle.session.specs.Fits.{fits}
use Rattle.store.specs.Steps.{sync_steps, unmount_steps, unmount_count, sync_work, unmount_work, at_top}
use Rattle.store.specs.Mount.{Ended}

-- "In a session call 1 means only a card not of 512·S bytes by the session's own S"; then 2
unfoldable pub both_plan : Opened → List ℕ → List ℕ → Plan → Plan
both_plan s card work p = guard 1 (eqb (length card) (512 * s.geo.s)) (guard 2 (fits s work) p)

-- "land 4, 1, 2, 11"; "Land copies one sector to the card"
unfoldable pub land : Session → List ℕ → List ℕ → ℕ → Changed
land None card work i = record { answer = refused 4; image = card }
land (Some s) card work i =
    ended (both_plan s card work (guard 11 (ltb i s.geo.s) go_ahead)) (λ k. record { answer = refused k; image = card })
    (λ j a. record { answer = done 0; image = set_sec card i (sec work i) })

-- "Then t grows by 1. At t = 2,147,483,647 it lands too, t stays, and the session is worn"
unfoldable pub grown : Bool → Opened → Opened
grown true s = record { geo = s.geo; c = s.c; t = s.t; worn = true }
grown false s = record { geo = s.geo; c = s.c; t = record { 0 = s.t.0 + 1 }; worn = false }

-- "and report how many they wrote"
unfoldable pub sync_done : Opened → List ℕ → List ℕ → Ended
sync_done s card work =
    record {
      answer = done (writes_in (sync_steps s card work []));
      session = Some (grown (at_top s) s);
      card = apply_steps (sync_steps s card work []) card;
      work = sync_work s work;
    }

-- "sync 4, 1, 2, 9"
unfoldable pub sync : Session → List ℕ → List ℕ → Ended
sync None card work = record { answer = refused 4; session = None; card = card; work = work }
sync (Some s) card work =
    ended (both_plan s card work (guard 9 (not s.worn) go_ahead))
    (λ k. record { answer = refused k; session = Some s; card = card; work = work })
    (λ j a. sync_done s card work)

-- "The session is closed"
unfoldable pub unmount_done : Opened → List ℕ → List ℕ → Ended
unmount_done s card work =
    record { answer = done (unmount_count s card work); session = None; card = apply_steps (unmount_steps s card work) card; work = unmount_work s work }

-- "unmount 4, 1, 2"
unfoldable pub unmount : Session → List ℕ → List ℕ → Ended
unmount None card work = record { answer = refused 4; session = None; card = card; work = work }
unmount (Some s) card work =
    ended (both_plan s card work go_ahead) (λ k. record { answer = refused k; session = Some s; card = card; work = work })
    (λ j a. unmount_done s card work)
