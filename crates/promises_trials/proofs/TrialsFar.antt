-- A session whose t comes to the top: a fresh card, mount, and 2,147,483,646 syncs. Its worlds are reached by this store, by induction. Assumes nothing.
use Rattle.std.specs.Prelude.{Some}
use mathlib.Core.Path.{◌≡◌, refl, sym, ap, subst, ◌∙◌}
use mathlib.Core.Bool.{true, false, not}
use mathlib.Core.List.{List, []}
use mathlib.Core.Option.{none}
use Prim.Native.Nat.{ℕ, zero, suc, ◌+◌, ◌-◌, ◌*◌, ◌<◌}
use native.Mathlib.Numerals.{add-one}
use native.Mathlib.Omega.{arith}
use native.Mathlib.Decide.{dec_lt}
use borrow.Author.Tests.{ne_eqb}
use lib.ListN.{length, get_or}
use lib.Seq.{ext_get_or}
use Rattle.words.specs.Lists.{splice}
use Rattle.words.specs.Bytes.{word_bytes}
use Rattle.words.proofs.WordLaws.{word_bytes-length}
use Rattle.words.proofs.SpliceLaws.{splice-length, splice-before, splice-after, splice-in}
use Rattle.sectors.specs.Sectors.{apply_steps}
use Rattle.counts.specs.Stamps.{max_tx}
use Rattle.card.specs.Plan.{go_ahead, guard}
use Rattle.session.specs.Fits.{fits}
use Rattle.session.proofs.FitLaws.{Fit, fit-inv}
use Rattle.store.specs.Steps.{set_word, sync_steps, at_top, sync_work}
use Rattle.store.specs.Sync.{both_plan, grown}
use Rattle.promises_answers.specs.PlainList.{Item, lookup, shown_in}
use Rattle.promises_crash.specs.History.{Pending, play, World, Reach, call, sync_c}
use Rattle.promises_crash.proofs.Inv.{mk}
use Rattle.promises_crash.proofs.State.{Live}
use Rattle.promises_crash.proofs.Demand.{inv}
use Rattle.promises_answers.proofs.Synced.{sync-shows}
use Rattle.promises_crash.proofs.Run.SyncRun.{sync-card}
use Rattle.promises_answers.proofs.Fit.FitCalm.{rest-shows}
use Rattle.promises_answers.proofs.Fit.FitAll.{sync-rest}
use Rattle.promises_crash.proofs.Fit.FitHistory.{always-fits}
use Rattle.promises_trials.proofs.TrialsCard.{b, stretch, start, computes}
use Rattle.promises_trials.proofs.TrialsRun.{mounted, reach-mounted, sync-plan, sync-done}

-- both images after n syncs with nothing put
unfoldable pub img : ℕ → List ℕ
img n = set_word 0 n start

-- a word written again
word-again : (c t u : ℕ) (x : List ℕ) → set_word c u (set_word c t x) ≡ set_word c u x
unfolding set_word
word-again c t u x =
    ext_get_or 0 _ _ (splice-length (splice x at (word_bytes t)) at (word_bytes u) ∙ splice-length x at (word_bytes t) ∙ sym (splice-length x at (word_bytes u)))
    (λ i h. go i (omega (arith, h, splice-length (splice x at (word_bytes t)) at (word_bytes u), splice-length x at (word_bytes t))) (dec_lt i at) (dec_lt i (at + 4)))
  where
    at : ℕ
    at = 512 + 4 * c

    wt : length (word_bytes t) ≡ 4
    wt = word_bytes-length t

    wu : length (word_bytes u) ≡ 4
    wu = word_bytes-length u

    go : (i : ℕ) → i < length x → Dec (i < at) → Dec (i < at + 4) → get_or (splice (splice x at (word_bytes t)) at (word_bytes u)) i 0 ≡ get_or (splice x at (word_bytes u)) i 0
    go i l (yes p) d = splice-before _ at (word_bytes u) i 0 p ∙ splice-before x at (word_bytes t) i 0 p ∙ sym (splice-before x at (word_bytes u) i 0 p)
    go i l (no p) (no q) =
        splice-after _ at (word_bytes u) i 0 (omega (arith, wu)) ∙ splice-after x at (word_bytes t) i 0 (omega (arith, wt)) ∙ sym (splice-after x at (word_bytes u) i 0 (omega (arith, wu)))
    go i l (no p) (yes q) =
        let e : at + (i - at) ≡ i = omega arith in
        rw e at (splice-in (splice x at (word_bytes t)) at (word_bytes u) (i - at) 0 (omega (arith, wu)) (omega (arith, splice-length x at (word_bytes t)))
        ∙ sym (splice-in x at (word_bytes u) (i - at) 0 (omega (arith, wu)) (omega arith)))

-- the world after n syncs
pub record Far (n : ℕ) : Type 0 where
  pub p : Pending
  pub m : List Item
  pub reach : Reach (mk (img n) (img n) (Some (stretch (n + 1))) p m)
  pub plain : lookup b (shown_in (Some (stretch (n + 1))) (img n)) ≡ none

at_first : (img 0 ≡ start) × (lookup b (shown_in (Some (stretch 1)) start) ≡ none)
unfolding computes img
at_first = (refl, refl)

far-first : Far 0
unfolding mounted
far-first = record { p = mounted.pending; m = mounted.last; reach = rw at_first.0 reach-mounted; plain = rw at_first.0 at_first.1 }

-- one sync more
module _ (n : ℕ) (f : Far n) where
  abbrev w : World
  w = mk (img n) (img n) (Some (stretch (n + 1))) f.p f.m

  far-fits : fits (stretch (n + 1)) (img n) ≡ true
  far-fits = always-fits f.reach

  pub F : Fit (stretch (n + 1)) (img n)
  F = fit-inv (stretch (n + 1)) (img n) far-fits

  pub live : Live (stretch (n + 1)) (img n) (img n) f.p f.m
  live = inv f.reach

  pub far-goes : both_plan (stretch (n + 1)) (img n) (img n) (guard 9 (not false) go_ahead) ≡ go_ahead
  far-goes = sync-plan (stretch (n + 1)) (img n) (img n) F.sized far-fits refl

  pub far-work : sync_work (stretch (n + 1)) (img n) ≡ img (n + 1)
  unfolding sync_work img
  far-work = word-again 0 n (n + 1) start

  pub far-card : apply_steps (sync_steps (stretch (n + 1)) (img n) (img n) []) (img n) ≡ img (n + 1)
  far-card = sync-card (stretch (n + 1)) (img n) (img n) f.p f.m live F refl [] ∙ (unfold apply_steps sync_work in far-work)

  grows : n + 1 < max_tx → grown (at_top (stretch (n + 1))) (stretch (n + 1)) ≡ stretch (n + 1 + 1)
  unfolding at_top grown
  grows h = rw (ne_eqb (n + 1) max_tx (omega arith))

  -- nothing else is shown
  still : shown_in (Some (grown (at_top (stretch (n + 1))) (stretch (n + 1)))) (sync_work (stretch (n + 1)) (img n)) ≡ shown_in (Some (stretch (n + 1))) (img n)
  unfolding sync_work
  still =
      rest-shows (stretch (n + 1)) _ (sync-rest (stretch (n + 1)) (img n) F refl) (at_top (stretch (n + 1)))
      ∙ sync-shows (stretch (n + 1)) (img n) F refl

  far-next : n + 1 < max_tx → Far (n + 1)
  far-next h =
      record {
        p = play (sync_steps (stretch (n + 1)) (img n) (img n) []) f.p;
        m = shown_in (Some (stretch (n + 1))) (img n);
        reach = rw (far-card, far-work, grows h) at (subst Reach (sync-done (stretch (n + 1)) (img n) (img n) f.p f.m far-goes) (call f.reach sync_c));
        plain = ap (lookup b) (rw (far-work, grows h) at still) ∙ f.plain;
      }

-- as many as it takes
pub far : (n : ℕ) → n < max_tx → Far n
far zero h = far-first
far (suc n) h = subst Far (add-one n) (far-next n (far n (omega arith)) (omega arith))
