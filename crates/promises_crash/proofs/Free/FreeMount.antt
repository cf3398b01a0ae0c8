-- A session's figures at its mount: what reading the card shows free, and nothing waiting. Assumes nothing.
use Rattle.std.specs.Prelude.{Some}
use mathlib.Core.Path.{◌≡◌, refl, sym, ◌∙◌}
use mathlib.Core.Bool.{true, false}
use mathlib.Core.List.{List}
use Prim.Native.Nat.{ℕ, ◌+◌, ◌<◌}
use native.Mathlib.Omega.{arith}
use Rattle.sectors.specs.Sectors.{sec, apply_steps}
use Rattle.counts.specs.Geometry.{g_n, geo_of, count_of, table_of}
use Rattle.apages.specs.Bits.{clear_bits}
use Rattle.apages.specs.Index.{page_in}
use Rattle.card.specs.Plan.{guard, ended, refused}
use Rattle.card.specs.Sound.{shape_ok, sound}
use Rattle.card.proofs.SoundLaws.{sound-view, shape-inv}
use Rattle.card.proofs.AgreeLaws.{Bump, bump-table, page-agree}
use Rattle.card.specs.Reading.{page_shown, read_plan, read}
use Rattle.session.proofs.FitLaws.{fit-intro}
use Rattle.store.specs.Steps.{set_count, mount_steps}
use Rattle.store.proofs.StepLaws.{mount-bump}
use Rattle.store.specs.Mount.{Ended, opened_from, mount_done, mount}
use Rattle.store.proofs.Plans.{mount-few, mount-good, mount-num}
use Rattle.store.specs.Look.{free}
use Rattle.promises_answers.proofs.Fit.FitCalm.{rest-map, rest-cut}
use Rattle.promises_crash.proofs.Fit.FitMount.{at_word, opened-is, mount-rest, mount-up, mount-fits}
use Rattle.promises_crash.proofs.SteadyProved.{through}
use Rattle.promises_crash.specs.Free.{MountFree}
use Rattle.promises_crash.proofs.Free.FreeProved.{one-view}

module _ (card : List ℕ) (shape : shape_ok card ≡ true) (good : sound card ≡ true) (few : count_of (sec card) < g_n (geo_of (sec card))) where
  reads : (read card).free ≡ clear_bits (page_shown card)
  unfolding read read_plan guard ended
  reads = rw (shape, good)

  abbrev up : List ℕ
  up = set_count (count_of (sec card) + 1) card

  bump : Bump (sec card) (sec up)
  bump = mount-bump card (shape-inv card shape).0 (shape-inv card shape).1 few

  -- the count that grew changes nothing in the map
  same_map : page_in (geo_of (sec card)) (table_of (geo_of (sec card)) (sec up)) (sec up) ≡ page_shown card
  unfolding page_shown sound
  same_map =
      rw (bump-table (geo_of (sec card)) (sec card) (sec up) bump)
      (page-agree (geo_of (sec card)) (sec card) (sec up) 0 (omega arith) bump.other (count_of (sec card)) (table_of (geo_of (sec card)) (sec card)) (sound-view (geo_of (sec card)) (sec card) good))

  figures-at : ((free (Some (opened_from card)) (apply_steps (mount_steps card) card)).free ≡ (read card).free) × ((free (Some (opened_from card)) (apply_steps (mount_steps card) card)).waiting ≡ 0)
  figures-at =
      let R = mount-rest card shape good few in
      let fit = fit-intro _ _ (mount-fits card shape good few) in
      let r = one-view (opened_from card) (apply_steps (mount_steps card) card) fit (page_shown card)
      (rw (mount-up card shape good few, opened-is card) (rest-map (at_word card) up R false ∙ same_map)) (rw (mount-up card shape good few, opened-is card) (rest-cut (at_word card) up R false ∙ same_map)) in
      (r.1 ∙ sym reads, r.2)

pub mount-free : MountFree
unfolding mount refused
mount-free card work h =
    through (λ (r : Ended). r.answer.number) (λ r. ((free r.session r.work).free ≡ (read card).free) × ((free r.session r.work).waiting ≡ 0)) _ _ (λ k. refl) (mount-num card work)
    (λ j a e. let (x, y) = mount-good card work j a e in (unfold mount_done in figures-at card x y (mount-few card work j a e))) h
