-- After mount, sync and unmount the bytes hold the session that the call gives. Assumes nothing.
use Rattle.std.specs.Prelude.{Some, None}
use mathlib.Core.Path.{◌≡◌, refl, ap, ◌∙◌}
use mathlib.Core.Bool.{Bool, true, false}
use mathlib.Core.List.{List}
use mathlib.Core.Logic.{◌≢◌}
use Prim.Native.Nat.{ℕ, ◌+◌, ◌≤◌, ◌<◌}
use native.Mathlib.Omega.{arith}
use borrow.Author.Tests.{eq-eqb, ne_eqb}
use Rattle.sectors.specs.declared.Sector.{Sector}
use Rattle.sectors.specs.Sectors.{sec}
use Rattle.counts.specs.Geometry.{g_n, geo_ok, geo_of}
use Rattle.counts.proofs.GeoLaws.{limits, table-inv}
use Rattle.counts.specs.Stamps.{max_tx}
use Rattle.card.specs.Plan.{do_it, refused, done}
use Rattle.card.proofs.PlanLaws.{ahead!, guard-num, passing}
use Rattle.card.specs.Sound.{sound}
use Rattle.card.proofs.SoundLaws.{shape-inv, sound-inv}
use Rattle.session.specs.declared.Opened.{Opened}
use Rattle.session.specs.Session.{Session}
use Rattle.session.proofs.FitLaws.{Fit}
use Rattle.store.specs.Mount.{Ended, mount_plan, opened_from, mount_done, mount}
use Rattle.store.specs.Steps.{at_top}
use Rattle.store.specs.Sync.{grown, sync_done, sync, unmount_done, unmount}
use Rattle.store.proofs.Plans.{both-num, mount-few, mount-good, mount-num, sync-live}
use Rattle.host_crossing.specs.Crossing.{decoded, encoded, kept_by, kept}
use Rattle.host_crossing.proofs.SessionBytes.{InWords, closed-back, opened-back}

-- what store_sync and store_unmount leave in the session's bytes
pub kept-refused : (e : Ended) (b : List ℕ) → e.answer.number ≢ 0 → kept e b ≡ b
unfolding kept kept_by
kept-refused e b n = rw (ne_eqb e.answer.number 0 n)

kept-done : (e : Ended) (b : List ℕ) → e.answer.number ≡ 0 → kept e b ≡ encoded e.session
unfolding kept kept_by
kept-done e b n = rw (eq-eqb e.answer.number 0 n)

-- ---- the session that a call gives is the one that its bytes hold

-- inside the limits every number is a word
small : (o : Opened) → geo_ok o.geo ≡ true → o.c.0 < g_n o.geo → o.t.0 ≤ max_tx + 1 → InWords o
unfolding g_n
small o ok c t =
    let L = limits o.geo ok in
    record {
      of_s = omega (arith, L.s_high);
      of_t = omega (arith, L.t_high);
      of_d = omega (arith, L.d_high);
      of_c = omega (arith, c, L.t_high);
      of_tx = omega (arith, t);
    }

mount-words : (card work : List ℕ) (j : ℕ) (a : Sector) → mount_plan card work ≡ do_it j a → InWords (opened_from card)
unfolding opened_from sound
mount-words card work j a h =
    let (x, y) = mount-good card work j a h in
    let few = mount-few card work j a h in
    let w = (table-inv _ _ _ (sound-inv (geo_of (sec card)) (sec card) y).tab).word few in
    small (opened_from card) (shape-inv card x).0 few (omega (arith, w))

-- after store_mount
pub mount-crosses : (card work : List ℕ) → decoded (encoded (mount card work).session) ≡ (mount card work).session
unfolding mount mount_done
mount-crosses card work =
    passing (λ (r : Ended). decoded (encoded r.session) ≡ r.session) _ _ (mount-num card work) (λ k. closed-back)
    (λ j a e. opened-back (opened_from card) (mount-words card work j a e))

grown-words : (s : Opened) (work : List ℕ) (top : Bool) → Fit s work → InWords (grown top s)
unfolding grown
grown-words s work true F = small (grown true s) F.shape F.count (omega (arith, F.tx))
grown-words s work false F = small (grown false s) F.shape F.count (omega (arith, F.tx))

sync-over : (z : Session) (b card work : List ℕ) → decoded b ≡ z → decoded (kept (sync z card work) b) ≡ (sync z card work).session
unfolding sync sync_done refused done
sync-over None b card work h = ap decoded (kept-refused _ b (λ e. absurd (omega arith))) ∙ h
sync-over (Some s) b card work h =
    passing (λ (r : Ended). decoded (kept r b) ≡ r.session) _ _ (both-num s card work (guard-num 8 _ ahead!)) (λ k. ap decoded (kept-refused _ b (λ e. absurd (omega arith))) ∙ h)
    (λ j a e. ap decoded (kept-done _ b refl) ∙ opened-back (grown (at_top s) s) (grown-words s work (at_top s) (sync-live s card work e).0))

-- after store_sync, refused or not
pub sync-crosses : (b card work : List ℕ) → decoded (kept (sync (decoded b) card work) b) ≡ (sync (decoded b) card work).session
sync-crosses b card work = sync-over (decoded b) b card work refl

unmount-over : (z : Session) (b card work : List ℕ) → decoded b ≡ z → decoded (kept (unmount z card work) b) ≡ (unmount z card work).session
unfolding unmount unmount_done refused done
unmount-over None b card work h = ap decoded (kept-refused _ b (λ e. absurd (omega arith))) ∙ h
unmount-over (Some s) b card work h =
    passing (λ (r : Ended). decoded (kept r b) ≡ r.session) _ _ (both-num s card work ahead!) (λ k. ap decoded (kept-refused _ b (λ e. absurd (omega arith))) ∙ h)
    (λ j a e. ap decoded (kept-done _ b refl) ∙ closed-back)

-- after store_unmount, refused or not
pub unmount-crosses : (b card work : List ℕ) → decoded (kept (unmount (decoded b) card work) b) ≡ (unmount (decoded b) card work).session
unmount-crosses b card work = unmount-over (decoded b) b card work refl
