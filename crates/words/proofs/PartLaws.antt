-- Parts of a list, one law for every width: a word is 4, an entry 128, a sector 512 bytes wide. Assumes nothing.
use mathlib.Core.Path.{◌≡◌, refl, sym, ap, ◌∙◌}
use mathlib.Core.Logic.{◌≢◌}
use mathlib.Core.List.{List, [], ◌∷◌}
use Prim.Native.Nat.{ℕ, zero, suc, ◌+◌, ◌*◌, ◌≤◌, ◌<◌}
use native.Mathlib.Decide.{dec_lt}
use native.Mathlib.Nat.{mul-suc, mul-add, mul_assoc, mul-le-mul_left, zero-add, suc-add}
use native.Mathlib.Omega.{arith}
use lib.ListN.{length, take, drop, length-drop}
use lib.Seq.{length-take-le, take-take, drop-drop, take_all}
use Rattle.words.specs.Lists.{part, splice, set_part}
use Rattle.words.proofs.SpliceLaws.{splice-length, range_same, range-before, drop-after}

-- part i of n parts lies inside them
pub room : (w i n : ℕ) → i < n → w * i + w ≤ w * n
room w i n h = rw (mul-suc w i) at (mul-le-mul_left w h)

pub part_length : (w : ℕ) (img : List ℕ) (i : ℕ) → w * i + w ≤ length img → length (part w img i) ≡ w
unfolding part
part_length w img i h = length-take-le w (drop (w * i) img) (simp length-drop (omega arith))

pub set_part-length : (w : ℕ) (img : List ℕ) (i : ℕ) (vs : List ℕ) → length (set_part w img i vs) ≡ length img
unfolding set_part
set_part-length w img i vs = splice-length img (w * i) vs

module _ (w : ℕ) (img : List ℕ) (i : ℕ) (vs : List ℕ) (l : length vs ≡ w) where
  -- the part that was written, and another one
  pub part_same : w * i + w ≤ length img → part w (set_part w img i vs) i ≡ vs
  unfolding part set_part
  part_same h = range_same img (w * i) w vs l h

  pub part-other : (j : ℕ) → j ≢ i → part w (set_part w img i vs) j ≡ part w img j
  unfolding part set_part
  part-other j d = go (dec_lt j i)
    where
      go : Dec (j < i) → take w (drop (w * j) (splice img (w * i) vs)) ≡ take w (drop (w * j) img)
      go (yes a) = range-before img (w * i) vs (w * j) w (room w j i a)
      go (no a) =
          let o : w * i + w ≤ w * j = room w i j (omega arith) in
          ap (λ (x : List ℕ). take w x) (drop-after img (w * i) vs (w * j) (omega arith))

take-drop-take : (n a m : ℕ) (s : List ℕ) → a + n ≤ m → take n (drop a (take m s)) ≡ take n (drop a s)
take-drop-take n zero m s q = take-take n m s (omega arith)
take-drop-take n (suc a) zero s q = absurd (omega arith)
take-drop-take n (suc a) (suc m) [] q = refl
take-drop-take n (suc a) (suc m) (x ∷ s) q = take-drop-take n a m s (omega arith)

pub drop-take : (n m : ℕ) (l : List ℕ) → drop n (take (n + m) l) ≡ take m (drop n l)
drop-take zero m l = rw zero-add
drop-take (suc n) m [] = rw suc-add (sym (take_all m [] (omega arith)))
drop-take (suc n) m (x ∷ l) = rw suc-add (drop-take n m l)

-- part j of width v in part i, which is m times as wide
pub part-part : (v m : ℕ) (img : List ℕ) (i j : ℕ) → j < m → part v (part (v * m) img i) j ≡ part v img (m * i + j)
unfolding part
part-part v m img i j h =
    let e : v * m * i + v * j ≡ v * (m * i + j) = ap (λ (k : ℕ). k + v * j) (mul_assoc v m i) ∙ sym (mul-add v (m * i) j) in
    take-drop-take v (v * j) (v * m) (drop (v * m * i) img) (room v j m h)
    ∙ ap (λ (l : List ℕ). take v l) (drop-drop (v * j) (v * m * i) img ∙ ap (λ (k : ℕ). drop k img) e)
