-- The sectors that a change of one run's bits touches, and no others: the index and the page at A. Assumes nothing.
use mathlib.Core.Path.{◌≡◌, sym, ap, ◌∙◌}
use mathlib.Core.List.{List}
use mathlib.Core.Logic.{◌≢◌}
use Prim.Native.Nat.{ℕ, suc, ◌+◌, ◌*◌, ◌/◌, ◌%◌, ◌≤◌}
use native.Mathlib.Omega.{arith}
use lib.ListN.{length}
use Rattle.words.specs.Lists.{set_part}
use Rattle.words.proofs.PartLaws.{set_part-length, part_same, part-other}
use Rattle.sectors.specs.Sectors.{sec, set_sec}
use Rattle.sectors.proofs.SectorLaws.{set_sec-length, sec-same, sec-other}
use Rattle.counts.specs.declared.Geo.{Geo}
use Rattle.counts.specs.declared.Stamp.{Stamp}
use Rattle.counts.specs.Stamps.{standing}
use Rattle.apages.specs.declared.Index.{Index}
use Rattle.apages.specs.Bits.{set_run}
use Rattle.apages.proofs.RunLaws.{set_run-length}
use Rattle.apages.specs.Index.{index_of, group_bytes, group_of, index_in, changed_index, page_before, changed_run, change_run}
use Rattle.apages.proofs.IndexLaws.{group-length}

module _ (g : Geo) (tab : List ℕ) (own : Stamp) (a n v : ℕ) (img ix : List ℕ) (read : index_in g (sec img) ≡ ix) (wide : length ix ≡ 512) where
  abbrev pub p : ℕ
  p = a / 4096

  abbrev pub x : Index
  x = changed_index (standing tab own (index_of (group_of ix (a / 4096))).stamp) own (index_of (group_of ix (a / 4096)))

  abbrev pub old : List ℕ
  old = sec img (page_before (standing tab own (index_of (group_of ix (a / 4096))).stamp) x)

  abbrev pub new : List ℕ
  new = set_run old (a % 4096) (suc n) v

  run_is : change_run g tab own a (suc n) v img ≡ set_sec (set_sec img (g.t + 1) (set_part 16 ix p (group_bytes x))) x.a.0 new
  unfolding change_run changed_run
  run_is = rw read

  ix-length : length (set_part 16 ix p (group_bytes x)) ≡ 512
  ix-length = set_part-length 16 ix p (group_bytes x) ∙ wide

  module _ (page : length old ≡ 512) where
    new-length : length new ≡ 512
    new-length = set_run-length old (a % 4096) (suc n) v ∙ page

    pub bits-length : length (change_run g tab own a (suc n) v img) ≡ length img
    bits-length = ap length run_is ∙ set_sec-length _ x.a.0 new ∙ set_sec-length img (g.t + 1) _

    pub bits-other : (i : ℕ) → i ≢ g.t + 1 → i ≢ x.a.0 → sec (change_run g tab own a (suc n) v img) i ≡ sec img i
    bits-other i o q = ap (λ (y : List ℕ). sec y i) run_is ∙ sec-other _ x.a.0 new new-length i q ∙ sec-other img (g.t + 1) _ ix-length i o

    -- the index sector is as it was but for group p
    pub index-now : x.a.0 ≢ g.t + 1 → 512 * (g.t + 1) + 512 ≤ length img → sec (change_run g tab own a (suc n) v img) (g.t + 1) ≡ set_part 16 ix p (group_bytes x)
    index-now o h =
        ap (λ (y : List ℕ). sec y (g.t + 1)) run_is ∙ sec-other _ x.a.0 new new-length (g.t + 1) (λ q. o (sym q)) ∙ sec-same img (g.t + 1) _ ix-length h

    -- group p holds the stamp and the two pages, every other group is as it was
    pub group-here : x.a.0 ≢ g.t + 1 → 512 * (g.t + 1) + 512 ≤ length img → 16 * p + 16 ≤ 512 → group_of (sec (change_run g tab own a (suc n) v img) (g.t + 1)) p ≡ group_bytes x
    unfolding group_of
    group-here o h r = rw (index-now o h) (part_same 16 ix p (group_bytes x) (group-length x) (omega (arith, wide)))

    pub group-there : x.a.0 ≢ g.t + 1 → 512 * (g.t + 1) + 512 ≤ length img → (q : ℕ) → q ≢ p → group_of (sec (change_run g tab own a (suc n) v img) (g.t + 1)) q ≡ group_of ix q
    unfolding group_of
    group-there o h q z = rw (index-now o h) (part-other 16 ix p (group_bytes x) (group-length x) q z)

    -- and A the page with the bits changed
    pub bits-page : 512 * x.a.0 + 512 ≤ length img → sec (change_run g tab own a (suc n) v img) x.a.0 ≡ new
    bits-page h = ap (λ (y : List ℕ). sec y x.a.0) run_is ∙ sec-same _ x.a.0 new new-length (rw (set_sec-length img (g.t + 1) (set_part 16 ix p (group_bytes x))) h)
