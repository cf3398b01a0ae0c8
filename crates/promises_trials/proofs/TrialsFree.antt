-- Trial stores that make up one of the two figures of free, on the request's own story: a table put, synced and removed on the least card. Assumes nothing.
use Rattle.std.specs.Prelude.{Some, None}
use mathlib.Core.Path.{◌≡◌, refl, ap, ◌∙◌}
use mathlib.Core.Bool.{true, false, not}
use mathlib.Core.List.{List}
use Prim.Native.Nat.{ℕ}
use native.Mathlib.Omega.{arith}
use Rattle.words_sums.specs.Sums.{total}
use Rattle.sectors.specs.Sectors.{sec, apply_steps}
use Rattle.entries.specs.Entries.{good_name}
use Rattle.apages.specs.Bits.{clear_bits}
use Rattle.apages.specs.Free.{free_in, waits, waiting_in}
use Rattle.card.specs.Make.{fresh_card}
use Rattle.card.proofs.MeansParts.{name-means}
use Rattle.session.specs.declared.Opened.{Opened}
use Rattle.session.specs.Session.{Session}
use Rattle.session.specs.Views.{present_page, cut_page}
use Rattle.session.specs.Fits.{fits}
use Rattle.session.proofs.FitMeansProved.{fits-mean}
use Rattle.store.specs.Given.{Room}
use Rattle.store.specs.Steps.{mount_steps, sync_work}
use Rattle.store.specs.Edit.{place_in, put_work, put, remove_work}
use Rattle.store.specs.Look.{no_figures, figures, free}
use Rattle.promises_answers.proofs.Numbers.NumbersFile.{an-entry}
use Rattle.promises_crash.specs.Free.{how_many, clear, FreePromise}
use Rattle.promises_crash.proofs.Free.FreeProved.{free-promise}
use Rattle.promises_answers.proofs.ShownProved.{free-is}
use Rattle.promises_trials.proofs.TrialsCard.{a, b, seven, computes}
use Rattle.promises_trials.proofs.TrialsStore.{least, free-true}

-- ---- the history: mount of a fresh card of one data sector, put `a`, sync, remove `a`

abbrev pub least_at : ℕ → Opened
least_at t = record { geo = least; c = record { 0 = 0 }; t = record { 0 = t }; worn = false }

unfoldable pub start : List ℕ
start = apply_steps (mount_steps (fresh_card least)) (fresh_card least)

unfoldable pub removed : List ℕ
removed = remove_work (least_at 2) 0 (sync_work (least_at 1) (put_work (least_at 1) 0 (record { 0 = 6 }) start a seven)) a

-- both sessions fit
start_fits : fits (least_at 1) start ≡ true
unfolding computes start
start_fits = refl

removed-fits : fits (least_at 2) removed ≡ true
unfolding computes start removed remove_work
removed-fits = refl

-- at first the sector is free; after the remove it waits
start-room : figures (least_at 1) start ≡ record { number = 0; free = 1; waiting = 0 }
unfolding computes start figures free_in waits waiting_in
start-room = refl

removed-room : figures (least_at 2) removed ≡ record { number = 0; free = 0; waiting = 1 }
unfolding computes start removed remove_work figures free_in waits waiting_in
removed-room = refl

-- what any call that keeps the promise gives there
module _ (f : Session → List ℕ → Room) (h : FreePromise f) where
  at-start : f (Some (least_at 1)) start ≡ record { number = 0; free = 1; waiting = 0 }
  at-start = free-true f h (least_at 1) start ((fits-mean (least_at 1) start).0 start_fits) ∙ free-is (least_at 1) start start_fits ∙ start-room

  at-removed : f (Some (least_at 2)) removed ≡ record { number = 0; free = 0; waiting = 1 }
  at-removed = free-true f h (least_at 2) removed ((fits-mean (least_at 2) removed).0 removed-fits) ∙ free-is (least_at 2) removed removed-fits ∙ removed-room

-- ---- "A fitter removed a table, read "free 40" and got 8 on the next put"

-- a good name, and an entry for it
good-b : good_name b ≡ true
unfolding computes
good-b = refl

place-b : place_in (least_at 2) removed b ≡ Some 1
unfolding computes start removed remove_work
place-b = refl

-- none is free: 8
pub next-put : (put (Some (least_at 2)) removed b seven).answer.number ≡ 8
next-put =
    ((free-promise (least_at 2) removed ((fits-mean (least_at 2) removed).0 removed-fits)).full b seven refl ((name-means b).0 good-b) (an-entry (least_at 2) removed b 1 place-b) (omega arith) (omega arith)).1
    (ap (λ (r : Room). r.free) (at-removed free free-promise))

-- ---- wrong figures

-- "Document 01 counts the wrong bits": the clear bits of the present view alone
unfoldable pub present_only : Session → List ℕ → Room
present_only None work = no_figures 4
present_only (Some s) work = record { number = 0; free = clear_bits (present_page s (sec work)); waiting = 0 }

present-reads : (present_only (Some (least_at 2)) removed).free ≡ 1
unfolding computes start removed remove_work present_only
present-reads = refl

-- it reads 1, and the next put gives 8
pub present-only : ¬ FreePromise present_only
present-only h =
    let z = ((h (least_at 2) removed ((fits-mean (least_at 2) removed).0 removed-fits)).full b seven refl ((name-means b).0 good-b) (an-entry (least_at 2) removed b 1 place-b) (omega arith) (omega arith)).0 next-put in
    absurd (omega (arith, z, present-reads))

-- waiting as the bits that the cut view has set
unfoldable pub cut_bits : Session → List ℕ → Room
cut_bits None work = no_figures 4
cut_bits (Some s) work = record { number = 0; free = free_in (present_page s (sec work)) (cut_page s (sec work)); waiting = how_many (λ n. not (clear (cut_page s (sec work)) n)) s.geo.s }

cut-reads : (cut_bits (Some (least_at 2)) removed).waiting ≡ 7
unfolding computes start removed remove_work cut_bits total
cut-reads = refl

-- it reads 7, and one sector waits
pub cut-bits : ¬ FreePromise cut_bits
cut-bits h = let z = ap (λ (r : Room). r.waiting) (at-removed cut_bits h) in absurd (omega (arith, z, cut-reads))

-- a figure that is the same in every session, either of the two
pub free-made-up : (f : Session → List ℕ → Room) (k : ℕ) → ((s : Opened) (work : List ℕ) → (f (Some s) work).free ≡ k) → ¬ FreePromise f
free-made-up f k e h =
    let x = ap (λ (r : Room). r.free) (at-start f h) in
    let y = ap (λ (r : Room). r.free) (at-removed f h) in absurd (omega (arith, x, y, e (least_at 1) start, e (least_at 2) removed))

pub waiting-made-up : (f : Session → List ℕ → Room) (k : ℕ) → ((s : Opened) (work : List ℕ) → (f (Some s) work).waiting ≡ k) → ¬ FreePromise f
waiting-made-up f k e h =
    let x = ap (λ (r : Room). r.waiting) (at-start f h) in
    let y = ap (λ (r : Room). r.waiting) (at-removed f h) in absurd (omega (arith, x, y, e (least_at 1) start, e (least_at 2) removed))
