-- How code reads the groups of the index and changes a run of bits: what its calls say, put together. Assumes nothing.
use mathlib.Core.Path.{◌≡◌, refl, sym, ap, ◌∙◌}
use mathlib.Core.Bool.{Bool, true, false, not, ◌&&◌}
use mathlib.Core.List.{List}
use mathlib.Core.Logic.{◌≢◌}
use Prim.Native.Nat.{ℕ, zero, suc, ◌+◌, ◌-◌, ◌*◌, ◌/◌, ◌%◌, ◌≤◌, ◌<◌}
use native.Mathlib.Numerals.{add-one}
use native.Mathlib.Omega.{arith}
use borrow.Author.Tests.{not-true, not-false}
use lib.ListN.{length, take, drop}
use lib.Seq.{drop-drop}
use Rattle.std.specs.List.{list_all, zip, range_with_len}
use Rattle.std.specs.Simd.{first_chunks}
use Rattle.words.specs.Lists.{part, splice, set_part}
use Rattle.words.specs.Bytes.{word_at}
use Rattle.words.proofs.PartLaws.{part-part, set_part-length}
use Rattle.words.proofs.InnerLaws.{splice-part}
use Rattle.sectors.specs.Sectors.{sec, set_sec}
use Rattle.counts.specs.declared.Geo.{Geo}
use Rattle.counts.specs.declared.Stamp.{Stamp}
use Rattle.counts.specs.declared.Standing.{Standing}
use Rattle.counts.specs.Stamps.{standing}
use Rattle.entries.specs.declared.Run.{Run}
use Rattle.apages.specs.declared.Index.{Index}
use Rattle.apages.specs.Bits.{set_run}
use Rattle.apages.proofs.RunLaws.{set_run-length}
use Rattle.apages.specs.Index.{index_of, group_bytes, group_of, index_in, pair_ok, every_group, changed_index, page_before, changed_run, change_run, change_bits}
use Rattle.apages.proofs.IndexLaws.{group-length}
use Rattle.apages.specs.Inner.{IsPage, group_at}
use Rattle.apages.proofs.PageLaws.{pair-pages, changed-pages, set_sec-twice}
use Rattle.sectors.proofs.SectorLaws.{set_sec-length, sec-same, sec-other}

pub group-lent : (g : Geo) (img : List ℕ) (p : ℕ) → p < 32 → take 16 (drop (group_at g p) img) ≡ group_of (index_in g (sec img)) p
unfolding group_of index_in sec part
group-lent g img p h =
    let e : 16 * (32 * (g.t + 1) + p) ≡ group_at g p = omega arith in
    let q : take 16 (drop (16 * p) (take 512 (drop (512 * (g.t + 1)) img))) ≡ take 16 (drop (16 * (32 * (g.t + 1) + p)) img) = part-part 16 32 img (g.t + 1) p h in
    sym (rw e at q)

-- and written back
pub group-put : (g : Geo) (img : List ℕ) (p : ℕ) (bs : List ℕ) → p < 32 → length bs ≡ 16 → splice img (group_at g p) bs ≡ set_sec img (g.t + 1) (set_part 16 (index_in g (sec img)) p bs)
unfolding index_in set_sec set_part sec part
group-put g img p bs h l = sym (splice-part 512 (512 * (g.t + 1)) (16 * p) img bs (omega arith))

-- the bytes of a group, lent from the index sector
pub group-part : (ix : List ℕ) (p : ℕ) → take (16 * p + 16 - 16 * p) (drop (16 * p) ix) ≡ group_of ix p
unfolding group_of part
group-part ix p = let e : 16 * p + 16 - 16 * p ≡ 16 = omega arith in rw e

-- ---- a loop over the groups: the answer for those that are left

module _ (f : ℕ → List ℕ → Bool) (ix : List ℕ) (n : ℕ) where
  pub groups-start : every_group f ix 0 n ≡ every_group f ix 0 (n - 0)
  groups-start = let e : n - 0 ≡ n = omega arith in rw e

  groups-next : (p : ℕ) → p < n → every_group f ix p (n - p) ≡ (f p (group_of ix p) && every_group f ix (p + 1) (n - (p + 1)))
  unfolding every_group
  groups-next p h =
      let e : n - p ≡ suc (n - (p + 1)) = omega arith in rw (e, add-one)

  pub groups-stop : (p : ℕ) (r : Bool) {b : Bool} → p < n → r ≡ f p (group_of ix p) → not r ≡ true → b ≡ every_group f ix p (n - p) → false ≡ b
  groups-stop p r h e q i = let z : f p (group_of ix p) ≡ false = sym e ∙ not-true r q in sym (i ∙ groups-next p h ∙ ap (λ (t : Bool). t && every_group f ix (p + 1) (n - (p + 1))) z)

  pub groups-go : (p : ℕ) (r : Bool) {b : Bool} → p < n → r ≡ f p (group_of ix p) → not r ≡ false → b ≡ every_group f ix p (n - p) → b ≡ every_group f ix (p + 1) (n - (p + 1))
  groups-go p r h e q i = let z : f p (group_of ix p) ≡ true = sym e ∙ not-false r q in i ∙ groups-next p h ∙ ap (λ (t : Bool). t && every_group f ix (p + 1) (n - (p + 1))) z

  pub groups-end : (p : ℕ) {b : Bool} → n ≤ p → b ≡ every_group f ix p (n - p) → true ≡ b
  unfolding every_group
  groups-end p h i = let e : n - p ≡ 0 = omega arith in sym (rw e at i)

-- ---- a walk over the groups, each with its number

groups-zip : (f : ℕ → List ℕ → Bool) (ix : List ℕ) (n p k : ℕ) → n ≤ k → list_all (λ w. f w.0 w.1) (zip (range_with_len p n) (first_chunks 16 k (drop (16 * p) ix))) ≡ every_group f ix p n
unfolding every_group group_of part
groups-zip f ix zero p k h = refl
groups-zip f ix (suc n) p zero h = absurd (omega arith)
groups-zip f ix (suc n) p (suc k) h =
    let e : 16 * p + 16 ≡ 16 * (p + 1) = omega arith in
    ap (λ (b : Bool). f p (take 16 (drop (16 * p) ix)) && b)
    (rw (drop-drop 16 (16 * p) ix, e) (groups-zip f ix n (p + 1) k (omega arith) ∙ ap (λ (i : ℕ). every_group f ix i n) (add-one p)))

pub groups-walked : (f : ℕ → List ℕ → Bool) (ix : List ℕ) (n k : ℕ) → n ≤ k → list_all (λ w. f w.0 w.1) (zip (range_with_len 0 n) (first_chunks 16 k ix)) ≡ every_group f ix 0 n
groups-walked f ix n k h = groups-zip f ix n 0 k h

-- ---- changing a run of bits

-- no bit changes
pub run_none : (g : Geo) (tab : List ℕ) (own : Stamp) (a n v : ℕ) (img : List ℕ) → n ≡ 0 → img ≡ change_run g tab own a n v img
unfolding change_run
run_none g tab own a zero v img h = refl
run_none g tab own a (suc n) v img h = absurd (omega arith)

-- the group that code reads from its part of the image
module _ (g : Geo) (img : List ℕ) (own : Stamp) (st : Standing) (a : ℕ) (small : a / 4096 < 32) {x y : Index}
    (ex : x ≡ index_of (take 16 (drop (group_at g (a / 4096)) img))) (ey : y ≡ changed_index st own x) where
  group-read : x ≡ index_of (group_of (index_in g (sec img)) (a / 4096))
  group-read = ex ∙ ap index_of (group-lent g img (a / 4096) small)

  pub change-named : pair_ok g (a / 4096) (word_at (group_of (index_in g (sec img)) (a / 4096)) 8) (word_at (group_of (index_in g (sec img)) (a / 4096)) 12) ≡ true
      → IsPage g (a / 4096) y.a.0 × IsPage g (a / 4096) y.b.0
  unfolding index_of
  change-named h = rw (ey, group-read) (changed-pages g (a / 4096) st own (index_of (group_of (index_in g (sec img)) (a / 4096))) (pair-pages g (a / 4096) _ _ h))

  -- some bit changes
  pub run-some : (tab : List ℕ) (n v : ℕ) {f : List ℕ} → n ≢ 0 → st ≡ standing tab own x.stamp → f ≡ changed_run g st y a n v img → f ≡ change_run g tab own a n v img
  unfolding change_run
  run-some tab zero v o es ef = absurd (o refl)
  run-some tab (suc n) v o es ef =
      let x₀ = index_of (group_of (index_in g (sec img)) (a / 4096)) in
      let st₀ = standing tab own x₀.stamp in
      let q : st ≡ st₀ = es ∙ ap (λ (i : Index). standing tab own i.stamp) group-read in
      let y₀ : y ≡ changed_index st₀ own x₀ = ey ∙ ap (λ (s : Standing). changed_index s own x) q ∙ ap (λ (i : Index). changed_index st₀ own i) group-read in
      ef ∙ ap (λ (s : Standing). changed_run g s y a (suc n) v img) q ∙ ap (λ (i : Index). changed_run g st₀ i a (suc n) v img) y₀

-- the writers one after the other: the group, the page copied to A, its run
pub run-written : (g : Geo) (st : Standing) (y : Index) (a n v : ℕ) (img : List ℕ) {w₁ w₂ w₃ : List ℕ} → a / 4096 < 32 → g.t + 1 ≢ page_before st y
    → (index : length (index_in g (sec img)) ≡ 512) → (page : length (sec img (page_before st y)) ≡ 512) → 512 * y.a.0 + 512 ≤ length img
    → w₁ ≡ splice img (group_at g (a / 4096)) (group_bytes y) → w₂ ≡ set_sec w₁ y.a.0 (sec w₁ (page_before st y)) → w₃ ≡ set_sec w₂ y.a.0 (set_run (sec w₂ y.a.0) (a % 4096) n v)
    → w₃ ≡ changed_run g st y a n v img
unfolding changed_run
run-written g st y a n v img {w₁} {w₂} {w₃} small off index page room e₁ e₂ e₃ =
    let ix = set_part 16 (index_in g (sec img)) (a / 4096) (group_bytes y) in
    let f₁ : w₁ ≡ set_sec img (g.t + 1) ix = e₁ ∙ group-put g img (a / 4096) (group_bytes y) small (group-length y) in
    let l : length ix ≡ 512 = set_part-length 16 (index_in g (sec img)) (a / 4096) (group_bytes y) ∙ index in
    let s₁ : sec w₁ (page_before st y) ≡ sec img (page_before st y) = ap (λ (w : List ℕ). sec w (page_before st y)) f₁ ∙ sec-other img (g.t + 1) ix l (page_before st y) (λ q. off (sym q)) in
    let f₂ : w₂ ≡ set_sec w₁ y.a.0 (sec img (page_before st y)) = e₂ ∙ ap (λ (p : List ℕ). set_sec w₁ y.a.0 p) s₁ in
    let r : 512 * y.a.0 + 512 ≤ length w₁ = omega (arith, ap length f₁, set_sec-length img (g.t + 1) ix) in
    let s₂ : sec w₂ y.a.0 ≡ sec img (page_before st y) = ap (λ (w : List ℕ). sec w y.a.0) f₂ ∙ sec-same w₁ y.a.0 (sec img (page_before st y)) page r in
    let new = set_run (sec img (page_before st y)) (a % 4096) n v in
    let f₃ : w₃ ≡ set_sec w₂ y.a.0 new = e₃ ∙ ap (λ (p : List ℕ). set_sec w₂ y.a.0 (set_run p (a % 4096) n v)) s₂ in
    f₃ ∙ ap (λ (w : List ℕ). set_sec w y.a.0 new) f₂ ∙ set_sec-twice w₁ y.a.0 (sec img (page_before st y)) new (sym (set_run-length (sec img (page_before st y)) (a % 4096) n v))
    ∙ ap (λ (w : List ℕ). set_sec w y.a.0 new) f₁

-- set, then clear
pub bits-both : (g : Geo) (tab : List ℕ) (own : Stamp) (new old : Run) (img : List ℕ) {w₁ w₂ : List ℕ} → w₁ ≡ change_run g tab own new.start.0 new.sectors 1 img
    → w₂ ≡ change_run g tab own old.start.0 old.sectors 0 w₁ → w₂ ≡ change_bits g tab own new old img
unfolding change_bits
bits-both g tab own new old img e f = rw (f, e)
