-- Make, answer by answer. Assumes nothing.
use mathlib.Core.Path.{◌≡◌, sym, ap, ◌∙◌}
use mathlib.Core.Bool.{true, false}
use mathlib.Core.List.{List, ◌++◌, append_assoc}
use Prim.Native.Nat.{ℕ, suc, ◌+◌, ◌-◌, ◌*◌, ◌≤◌, ◌<◌}
use native.Mathlib.Nat.{zero-add}
use native.Mathlib.Numerals.{add-one}
use native.Mathlib.Omega.{arith}
use borrow.Author.Tests.{eq-eqb, ne_eqb}
use lib.Dec.{eqb}
use lib.ListN.{length, take, drop, replicate, length-replicate, replicate-append-replicate}
use lib.Seq.{drop-drop, take_at, drop_at}
use Rattle.words.specs.Lists.{splice, pad}
use Rattle.words.proofs.SpliceLaws.{splice-parts}
use Rattle.sectors.specs.Sectors.{set_sec}
use Rattle.counts.specs.declared.Geo.{Geo}
use Rattle.counts.specs.Geometry.{g_p, geo_ok, pair_low, pair_high}
use Rattle.apages.specs.Runs.{fresh_page}
use Rattle.apages.specs.Index.{group_bytes}
use Rattle.apages.proofs.IndexLaws.{group-length}
use Rattle.card.specs.Plan.{guard, ended, refused, done}
use Rattle.card.specs.Make.{block_bytes, fresh_group, fresh_groups, fresh_index, fresh_pages, fresh_card, make_plan, make}
use Rattle.card.proofs.FreshSectors.{groups-length, groups-snoc}

module _ (g : Geo) (card : List ℕ) where
  pub make-geo : false ≡ geo_ok g → (refused 1 ≡ (make g card).answer) × (card ≡ (make g card).image)
  unfolding make make_plan guard ended
  make-geo e = (rw (← e), rw (← e))

  module _ (e : true ≡ geo_ok g) where
    pub make-size : (length card ≡ 512 * g.s → ⊥) → (refused 1 ≡ (make g card).answer) × (card ≡ (make g card).image)
    unfolding make make_plan guard ended
    make-size d = let l : eqb (length card) (512 * g.s) ≡ false = ne_eqb _ _ d in (rw (← e, l), rw (← e, l))

    pub make-done : length card ≡ 512 * g.s → {x : List ℕ} → x ≡ fresh_card g → (done 0 ≡ (make g card).answer) × (x ≡ (make g card).image)
    unfolding make make_plan guard ended
    make-done d h = let l : eqb (length card) (512 * g.s) ≡ true = eq-eqb _ _ d in (rw (← e, l), rw (← e, l) h)

-- block and index written over zeros, then the pairs one by one
pub fresh_start : (g : Geo) (n : ℕ) {z b i block index : List ℕ} → n ≡ 512 * g.s → z ≡ replicate n 0 → block ≡ block_bytes 0 g → index ≡ fresh_index g
    → b ≡ set_sec z 0 block → i ≡ set_sec b (g.t + 1) index → fresh_pages g 0 (g_p g) i ≡ fresh_card g
unfolding fresh_card
fresh_start g n l e₀ e₁ e₂ f₀ f₁ = rw (f₁, f₀, e₀, e₁, e₂, l)

-- a turn of the loop over the pairs: both pages of pair p
pub fresh-turn : (g : Geo) (p : ℕ) (img : List ℕ) {a b page card : List ℕ} → p < g_p g → fresh_pages g p (g_p g - p) img ≡ card → page ≡ fresh_page g p → a ≡ set_sec img (pair_low g p) page
    → b ≡ set_sec a (pair_high g p) page → fresh_pages g (p + 1) (g_p g - (p + 1)) b ≡ card
unfolding fresh_pages
fresh-turn g p img h e f x y =
    let m : g_p g - p ≡ suc (g_p g - (p + 1)) = omega arith in
    rw (y, x, f, add-one) (rw (m, add-one) at e)

pub fresh-end : (g : Geo) (p : ℕ) {img card : List ℕ} → g_p g ≤ p → fresh_pages g p (g_p g - p) img ≡ card → img ≡ card
unfolding fresh_pages
fresh-end g p h e = let m : g_p g - p ≡ 0 = omega arith in rw m at e

-- group p written into the index that is built
pub group-turn : (g : Geo) (p : ℕ) {s t : List ℕ} → length s ≡ 512 → 16 * p + 16 ≤ 512 → s ≡ pad 512 (fresh_groups g 0 p) → t ≡ splice s (16 * p) (group_bytes (fresh_group g p)) → t ≡ pad 512 (fresh_groups g 0 (p + 1))
unfolding pad
group-turn g p {s} {t} l h e f =
    let n : length (fresh_groups g 0 p) ≡ 16 * p = groups-length g p 0 in
    let r : 512 - 16 * p ≡ 16 + (512 - (16 * p + 16)) = omega arith in
    let m : length (fresh_groups g 0 (p + 1)) ≡ 16 * p + 16 = groups-length g (p + 1) 0 ∙ omega arith in
    let q : length (group_bytes (fresh_group g p)) ≡ 16 = group-length (fresh_group g p) in
    let d : drop (16 * p + 16) (fresh_groups g 0 p ++ replicate (512 - 16 * p) 0) ≡ replicate (512 - (16 * p + 16)) 0 =
    sym (drop-drop 16 (16 * p) (fresh_groups g 0 p ++ replicate (512 - 16 * p) 0)) ∙ ap (λ (x : List ℕ). drop 16 x) (drop_at (fresh_groups g 0 p) (replicate (512 - 16 * p) 0) (16 * p) n)
    ∙ (rw r (ap (λ (x : List ℕ). drop 16 x) (sym (replicate-append-replicate 16 (512 - (16 * p + 16)) 0)) ∙ drop_at (replicate 16 0) _ 16 (length-replicate {A = ℕ} 16 0))) in
    let c : splice s (16 * p) (group_bytes (fresh_group g p)) ≡ take (16 * p) s ++ (group_bytes (fresh_group g p) ++ drop (16 * p + length (group_bytes (fresh_group g p))) s) =
    splice-parts s (16 * p) (group_bytes (fresh_group g p)) (omega arith) in
    let e' : s ≡ fresh_groups g 0 p ++ replicate (512 - 16 * p) 0 = rw n at e in
    let w : take (16 * p) s ≡ fresh_groups g 0 p = ap (λ (x : List ℕ). take (16 * p) x) e' ∙ take_at (fresh_groups g 0 p) (replicate (512 - 16 * p) 0) (16 * p) n in
    let v : drop (16 * p + length (group_bytes (fresh_group g p))) s ≡ replicate (512 - (16 * p + 16)) 0 = rw q (ap (λ (x : List ℕ). drop (16 * p + 16) x) e' ∙ d) in
    f ∙ c ∙ (rw (w, v, m, groups-snoc g p 0, zero-add p) (sym (append_assoc (fresh_groups g 0 p) (group_bytes (fresh_group g p)) (replicate (512 - (16 * p + 16)) 0))))
