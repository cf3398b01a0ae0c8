-- Where no run starts at or after a sector, the lowest run lies in the sectors that a run from before it can reach. Assumes nothing.
use Rattle.std.specs.Prelude.{None}
use mathlib.Core.Path.{◌≡◌, refl, sym, ap, ◌∙◌}
use mathlib.Core.Bool.{Bool, false, ◌&&◌}
use mathlib.Core.List.{List, [], ◌∷◌}
use Prim.Native.Nat.{ℕ, zero, suc, ◌+◌, ◌-◌, ◌*◌, ◌≤◌, ◌<◌, min}
use native.Mathlib.Decide.{dec_lt}
use native.Mathlib.Omega.{arith}
use lib.ListN.{length, take, drop, length-take}
use lib.Seq.{take_all}
use Rattle.words.specs.Lists.{is_zero}
use Rattle.words.proofs.EveryLaws.{and-false}
use Rattle.counts.specs.Geometry.{in_page}
use Rattle.apages.specs.Bits.{bits_of}
use Rattle.apages.specs.Runs.{merge, all_clear, find_run, run_after}
use Rattle.apages.specs.Inner.{run_within}
use Rattle.apages.proofs.LowestLaws.{both-length}

-- the first k of a list are those of its first m
clear-take : (k m : ℕ) (l : List ℕ) → k ≤ m → all_clear k (take m l) ≡ all_clear k l
unfolding all_clear
clear-take zero m l h = refl
clear-take (suc k) zero l h = absurd (omega arith)
clear-take (suc k) (suc m) [] h = refl
clear-take (suc k) (suc m) (x ∷ l) h = ap (λ (b : Bool). is_zero x && b) (clear-take k m l (omega arith))

-- a list with fewer than k has no k clear, and no run of k
clear-short : (k : ℕ) (l : List ℕ) → length l < k → all_clear k l ≡ false
unfolding all_clear
clear-short zero l h = absurd (omega arith)
clear-short (suc k) [] h = refl
clear-short (suc k) (x ∷ l) h = rw (clear-short k l (omega arith)) (and-false (is_zero x))

find-short : (k i : ℕ) (l : List ℕ) → length l < k → find_run k i l ≡ None
unfolding find_run
find-short k i [] h = refl
find-short k i (x ∷ l) h = rw (clear-short k (x ∷ l) h, and-false (in_page i k)) (find-short k (suc i) l (omega arith))

-- no run of k + 1 starts at place j of a list or later: the lowest is that of the first j + k
pub find-reach : (k i j : ℕ) (l : List ℕ) → find_run (suc k) (i + j) (drop j l) ≡ None → find_run (suc k) i l ≡ find_run (suc k) i (take (j + k) l)
unfolding find_run
find-reach k i zero l none =
    let e : i + 0 ≡ i = omega arith in
    rw e at none ∙ sym (find-short (suc k) i (take (0 + k) l) (omega (arith, length-take (0 + k) l)))
find-reach k i (suc j) [] none = let e : suc j + k ≡ suc (j + k) = omega arith in rw e
find-reach k i (suc j) (x ∷ l) none =
    let e : suc j + k ≡ suc (j + k) = omega arith in
    let f : i + suc j ≡ suc i + j = omega arith in
    rw (e, clear-take (suc k) (suc (j + k)) (x ∷ l) (omega arith), find-reach k (suc i) j l (rw f at none))

-- of a page: the end is the page's own where a run from before the sector could reach past it
pub page-reach : (k j : ℕ) (p q : List ℕ) → 0 < k → length p ≡ length q → 8 * length p ≡ 4096 → run_after k j p q ≡ None
    → run_after k 0 p q ≡ run_within k 0 (min (j + k - 1) 4096) p q
unfolding run_after run_within
page-reach zero j p q some alike page none = absurd (omega arith)
page-reach (suc k) j p q some alike page none = find-reach k 0 j l (rw z none) ∙ ap (λ (m : List ℕ). find_run (suc k) 0 m) (go (dec_lt 4096 (j + k)))
  where
    l : List ℕ
    l = merge (bits_of p) (bits_of q)

    z : 0 + j ≡ j
    z = omega arith

    n : length l ≡ 4096
    n = both-length (suc k) p q some alike ∙ page

    go : Dec (4096 < j + k) → take (j + k) l ≡ take (min (j + suc k - 1) 4096) l
    go (yes h) = let e : min (j + suc k - 1) 4096 ≡ 4096 = omega arith in rw (e, take_all (j + k) l (omega (arith, n))) (sym (take_all 4096 l (omega (arith, n))))
    go (no h) = let e : min (j + suc k - 1) 4096 ≡ j + k = omega arith in rw e
