-- What Refusals states, proved. Assumes nothing.
use Rattle.std.specs.Prelude.{Some, None}
use mathlib.Core.Path.{◌≡◌, refl}
use mathlib.Core.List.{List}
use mathlib.Core.Logic.{◌≢◌}
use Prim.Native.Nat.{ℕ}
use Rattle.sectors.specs.declared.Sector.{Sector}
use Rattle.counts.specs.declared.Geo.{Geo}
use Rattle.card.specs.declared.Line.{Line}
use Rattle.card.specs.Plan.{Report, Plan, refuse, do_it, ended, refused, done, Changed, Got, Listed}
use Rattle.card.specs.Files.{get_end, list_end}
use Rattle.card.specs.Make.{make_plan, make}
use Rattle.card.specs.Reading.{read, read_list, read_get}
use Rattle.session.specs.Session.{Session}
use Rattle.session.specs.Views.{session_files}
use Rattle.store.specs.Mount.{Ended, mount_plan, mount_done, mount}
use Rattle.store.specs.Edit.{put_plan, remove_plan, remove, put_at}
use Rattle.store.specs.Given.{Room}
use Rattle.store.specs.Look.{get, list, no_figures, figures, free}
use Rattle.store.specs.Sync.{land, sync_done, sync, unmount_done, unmount}
use Rattle.promises_answers.specs.Refusals.{Same, SameOut, SameLines, SameBoth, Refusals}

refused-so : {A : Type 0} (num : A → ℕ) (P : A → Type 0) (f : ℕ → A) (h : ℕ → Sector → A) → ((j : ℕ) (a : Sector) → num (h j a) ≡ 0) → ((k : ℕ) → P (f k))
    → (p : Plan) → num (ended p f h) ≢ 0 → P (ended p f h)
unfolding ended
refused-so num P f h z q (refuse k) n = q k
refused-so num P f h z q (do_it j a) n = absurd (n (z j a))

of-make : (g : Geo) (card : List ℕ) → (make g card).answer.number ≢ 0 → Same (make g card) card
unfolding make refused done
of-make g card n = refused-so (λ (r : Changed). r.answer.number) (λ r. Same r card) _ _ (λ j a. refl) (λ k. (refl, refl)) (make_plan g card) n

of-mount : (card work : List ℕ) → (mount card work).answer.number ≢ 0 → SameBoth (mount card work) None card work
unfolding mount mount_done refused done
of-mount card work n =
    refused-so (λ (r : Ended). r.answer.number) (λ r. SameBoth r None card work) _ _ (λ j a. refl) (λ k. (refl, refl, refl, refl)) (mount_plan card work) n

of-put : (s : Session) (work n d : List ℕ) (goal : ℕ) → (put_at s work n d goal).answer.number ≢ 0 → Same (put_at s work n d goal) work
unfolding put_at refused done
of-put None work n d goal h = (refl, refl)
of-put (Some s) work n d goal h = refused-so (λ (r : Changed). r.answer.number) (λ r. Same r work) _ _ (λ j a. refl) (λ k. (refl, refl)) (put_plan s work n d goal) h

of-remove : (s : Session) (work n : List ℕ) → (remove s work n).answer.number ≢ 0 → Same (remove s work n) work
unfolding remove refused done
of-remove None work n h = (refl, refl)
of-remove (Some s) work n h = refused-so (λ (r : Changed). r.answer.number) (λ r. Same r work) _ _ (λ j a. refl) (λ k. (refl, refl)) (remove_plan s work n) h

got_same : (g : Geo) (tab img out : List ℕ) (p : Plan) → (get_end g tab img out p).answer.number ≢ 0 → SameOut (get_end g tab img out p) out
unfolding get_end refused done
got_same g tab img out p h = refused-so (λ (r : Got). r.answer.number) (λ r. SameOut r out) _ _ (λ j a. refl) (λ k. (refl, refl)) p h

listed_same : (files lines : List Line) (p : Plan) → (list_end files lines p).answer.number ≢ 0 → SameLines (list_end files lines p) lines
unfolding list_end refused done
listed_same files lines p h = refused-so (λ (r : Listed). r.answer.number) (λ r. SameLines r lines) _ _ (λ j a. refl) (λ k. (refl, refl)) p h

of-get : (s : Session) (work n out : List ℕ) → (get s work n out).answer.number ≢ 0 → SameOut (get s work n out) out
unfolding get refused
of-get None work n out h = (refl, refl)
of-get (Some s) work n out h = got_same _ _ work out _ h

of-list : (s : Session) (work : List ℕ) (lines : List Line) → (list s work lines).answer.number ≢ 0 → SameLines (list s work lines) lines
unfolding list
of-list s work lines h = listed_same (session_files s work) lines _ h

of-free : (s : Session) (work : List ℕ) → (free s work).number ≢ 0 → ((free s work).free ≡ 0) × ((free s work).waiting ≡ 0)
unfolding free no_figures figures
of-free None work h = (refl, refl)
of-free (Some s) work h = refused-so (λ (r : Room). r.number) (λ r. (r.free ≡ 0) × (r.waiting ≡ 0)) _ _ (λ j a. refl) (λ k. (refl, refl)) _ h

of-land : (s : Session) (card work : List ℕ) (i : ℕ) → (land s card work i).answer.number ≢ 0 → Same (land s card work i) card
unfolding land refused done
of-land None card work i h = (refl, refl)
of-land (Some s) card work i h = refused-so (λ (r : Changed). r.answer.number) (λ r. Same r card) _ _ (λ j a. refl) (λ k. (refl, refl)) _ h

of-sync : (s : Session) (card work : List ℕ) → (sync s card work).answer.number ≢ 0 → SameBoth (sync s card work) s card work
unfolding sync sync_done refused done
of-sync None card work h = (refl, refl, refl, refl)
of-sync (Some s) card work h =
    refused-so (λ (r : Ended). r.answer.number) (λ r. SameBoth r (Some s) card work) _ _ (λ j a. refl) (λ k. (refl, refl, refl, refl)) _ h

of-unmount : (s : Session) (card work : List ℕ) → (unmount s card work).answer.number ≢ 0 → SameBoth (unmount s card work) s card work
unfolding unmount unmount_done refused done
of-unmount None card work h = (refl, refl, refl, refl)
of-unmount (Some s) card work h =
    refused-so (λ (r : Ended). r.answer.number) (λ r. SameBoth r (Some s) card work) _ _ (λ j a. refl) (λ k. (refl, refl, refl, refl)) _ h

of-read : (img : List ℕ) → (read img).number ≢ 0 → ((read img).c.0 ≡ 0) × ((read img).n ≡ 0) × ((read img).files ≡ 0) × ((read img).free ≡ 0)
unfolding read
of-read img h =
    refused-so (λ (r : Report). r.number) (λ r. (r.c.0 ≡ 0) × (r.n ≡ 0) × (r.files ≡ 0) × (r.free ≡ 0)) _ _ (λ j a. refl) (λ k. (refl, refl, refl, refl)) _ h

of-read-list : (img : List ℕ) (lines : List Line) → (read_list img lines).answer.number ≢ 0 → SameLines (read_list img lines) lines
unfolding read_list
of-read-list img lines h = listed_same _ lines _ h

of-read-get : (img n out : List ℕ) → (read_get img n out).answer.number ≢ 0 → SameOut (read_get img n out) out
unfolding read_get
of-read-get img n out h = got_same _ _ img out _ h

pub refusals : Refusals
refusals =
    record {
      of_make = of-make;
      of_mount = of-mount;
      of_put = of-put;
      of_remove = of-remove;
      of_get = of-get;
      of_list = of-list;
      of_free = of-free;
      of_land = of-land;
      of_sync = of-sync;
      of_unmount = of-unmount;
      of_read = of-read;
      of_read_list = of-read-list;
      of_read_get = of-read-get;
    }
