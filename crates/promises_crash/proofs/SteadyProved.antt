-- What Steady states, proved. Assumes nothing.
use Rattle.std.specs.Prelude.{Some, None}
use mathlib.Core.Path.{◌≡◌, refl, ap, ◌∙◌}
use mathlib.Core.Bool.{true, false}
use mathlib.Core.List.{List, []}
use mathlib.Core.Logic.{◌≢◌}
use Prim.Native.Nat.{ℕ, zero, suc, ◌<◌}
use native.Mathlib.Omega.{arith}
use Rattle.sectors.specs.declared.Sector.{Sector}
use Rattle.sectors.specs.Sectors.{sec, apply_steps}
use Rattle.counts.specs.Geometry.{g_n, geo_ok, geo_of, count_of}
use Rattle.card.specs.Plan.{Plan, do_it, ended, refused, Changed}
use Rattle.card.proofs.PlanLaws.{Num, ahead!, guard-num, passing}
use Rattle.card.specs.Sound.{shape_ok, sound}
use Rattle.card.specs.Make.{fresh_card, make}
use Rattle.card.proofs.FreshLaws.{fresh-empty}
use Rattle.card.specs.Reading.{files_in, files_shown}
use Rattle.card.proofs.SoundLaws.{shape-inv}
use Rattle.session.specs.declared.Opened.{Opened}
use Rattle.session.proofs.FitLaws.{Fit}
use Rattle.store.specs.Steps.{mount_steps, sync_work, at_top}
use Rattle.store.specs.Mount.{Ended, opened_from, mount_done, mount}
use Rattle.store.specs.Sync.{land, grown, sync_done, sync, unmount}
use Rattle.store.proofs.StepLaws.{mount-bump}
use Rattle.store.proofs.Plans.{both-num, make-num, make-ok, mount-few, mount-good, mount-num, sync-live}
use Rattle.promises_answers.specs.PlainList.{items, shown_by, shown_in}
use Rattle.promises_crash.specs.History.{World, unmount_c, by_number, edited, stepped, after, call}
use Rattle.promises_answers.proofs.Items.{bump-items}
use Rattle.promises_answers.proofs.Synced.{sync-shows}
use Rattle.promises_crash.proofs.Demand.{card-possible}
use Rattle.promises_answers.proofs.Fit.FitCalm.{rest-shows}
use Rattle.promises_answers.proofs.Fit.FitAll.{sync-rest}
use Rattle.promises_crash.proofs.Fit.FitMount.{mount-rest, mount-up, opened-is, at_word}
use Rattle.promises_crash.specs.Steady.{MakeShows, MountShows, MountCut, SyncShows, UnmountShows, LandShows, Refused}

by-not : {A : Type 0} (k : ℕ) (a b : A) → k ≢ 0 → by_number k a b ≡ b
unfolding by_number
by-not zero a b h = absurd (h refl)
by-not (suc k) a b h = refl

by_zero : {A : Type 0} (k : ℕ) (a b : A) → k ≡ 0 → by_number k a b ≡ a
unfolding by_number
by_zero k a b h = rw h

pub refused-same : (w : World) → Refused w
unfolding after edited stepped
refused-same w =
    record {
      of_make = λ g h. by-not _ _ w h;
      of_put = λ n d goal h. by-not _ _ w h;
      of_remove = λ n h. by-not _ _ w h;
      of_land = λ i h. by-not _ _ w h;
      of_sync = λ h. by-not _ _ w h;
      of_unmount = λ h. by-not _ _ w h;
    }

pub land-shows : LandShows
unfolding after
land-shows w i = go (land w.session w.card w.work i).answer.number _
  where
    go : (k : ℕ) (card : List ℕ)
        → ((by_number k (record { card = card; work = w.work; session = w.session; pending = w.pending; last = w.last }) w).session ≡ w.session)
        × ((by_number k (record { card = card; work = w.work; session = w.session; pending = w.pending; last = w.last }) w).work ≡ w.work)
    go zero card = unfold by_number in (refl, refl)
    go (suc k) card = unfold by_number in (refl, refl)

pub unmount-shows : UnmountShows
unmount-shows w r h = (card-possible (after unmount_c w) (call r unmount_c)).1.shows ∙ last-is
  where
    last-is : (after unmount_c w).last ≡ shown_in w.session w.work
    last-is = unfold after stepped in ap (λ (v : World). v.last) (by_zero (unmount w.session w.card w.work).answer.number _ w h)

-- a plan that comes to 0 goes through
pub through : {A : Type 0} (num : A → ℕ) (P : A → Type 0) (f : ℕ → A) (h : ℕ → Sector → A) → ((k : ℕ) → num (f k) ≡ k) → {p : Plan} → Num p → ((j : ℕ) (a : Sector) → p ≡ do_it j a → P (h j a))
    → num (ended p f h) ≡ 0 → P (ended p f h)
through num P f h e p q = passing (λ r. num r ≡ 0 → P r) f h p (λ k z. absurd (omega (arith, e (suc k)))) (λ j a d z. q j a d)

pub make-shows : MakeShows
unfolding make refused
make-shows g card h =
    through (λ (r : Changed). r.answer.number) (λ r. shown_by r.image ≡ []) _ _ (λ k. refl) (make-num g card) (λ j a e. empty (make-ok g card e)) h
  where
    empty : geo_ok g ≡ true → shown_by (fresh_card g) ≡ []
    empty ok = unfold shown_by items in rw (fresh-empty g ok)

sync-done : (s : Opened) (work : List ℕ) → Fit s work → s.worn ≡ false → shown_in (Some (grown (at_top s) s)) (sync_work s work) ≡ shown_in (Some s) work
sync-done s work F live = rest-shows s (sync_work s work) (sync-rest s work F live) (at_top s) ∙ (unfold sync_work in sync-shows s work F live)

pub sync-same : SyncShows
unfolding sync refused
sync-same None card work h = refl
sync-same (Some s) card work h =
    through (λ (r : Ended). r.answer.number) (λ r. shown_in r.session r.work ≡ shown_in (Some s) work) _ _ (λ k. refl)
    (both-num s card work (guard-num 8 _ ahead!)) (λ j a e. let (F, live) = sync-live s card work e in (unfold sync_done in sync-done s work F live)) h

mount-done : (card : List ℕ) → shape_ok card ≡ true → sound card ≡ true → count_of (sec card) < g_n (geo_of (sec card)) → shown_in (Some (opened_from card)) (apply_steps (mount_steps card) card) ≡ shown_by card
unfolding sound shown_by files_shown
mount-done card x y few =
    rw (mount-up card x y few, opened-is card)
    (rest-shows (at_word card) _ (mount-rest card x y few) false ∙ bump-items (geo_of (sec card)) card _ (mount-bump card (shape-inv card x).0 (shape-inv card x).1 few) y)

pub mount-shows : MountShows
unfolding mount refused
mount-shows card work h =
    through (λ (r : Ended). r.answer.number) (λ r. shown_in r.session r.work ≡ shown_by card) _ _ (λ k. refl) (mount-num card work)
    (λ j a e. let (x, y) = mount-good card work j a e in (unfold mount_done in mount-done card x y (mount-few card work j a e))) h

cut-done : (card : List ℕ) → shape_ok card ≡ true → sound card ≡ true → count_of (sec card) < g_n (geo_of (sec card))
    → items (apply_steps (mount_steps card) card) (files_in (geo_of (sec card)) (sec (apply_steps (mount_steps card) card))) ≡ shown_by card
unfolding sound shown_by files_shown
cut-done card x y few = rw (mount-up card x y few) (bump-items (geo_of (sec card)) card _ (mount-bump card (shape-inv card x).0 (shape-inv card x).1 few) y)

pub mount-cut : MountCut
unfolding mount refused
mount-cut card work h =
    through (λ (r : Ended). r.answer.number) (λ r. items r.work (files_in (geo_of (sec card)) (sec r.work)) ≡ shown_by card) _ _ (λ k. refl) (mount-num card work)
    (λ j a e. let (x, y) = mount-good card work j a e in (unfold mount_done in cut-done card x y (mount-few card work j a e))) h
