-- An image and its sectors: writes that lie inside one sector or over several, and images with the same sectors. Assumes nothing.
use mathlib.Core.Path.{◌≡◌, refl, sym, ap, ◌∙◌}
use mathlib.Core.Logic.{◌≢◌}
use mathlib.Core.List.{List, [], ◌∷◌, ◌++◌}
use Prim.Native.Nat.{ℕ, zero, suc, ◌+◌, ◌*◌, ◌≤◌, ◌<◌}
use native.Mathlib.Nat.{le_of_suc-le-suc, not-suc-le-zero, zero-add, suc-add}
use native.Mathlib.Decide.{dec_lt}
use native.Mathlib.Omega.{arith}
use lib.ListN.{length, take, drop, drop_of_length-le}
use lib.Seq.{take_all, take-add, drop-drop}
use Rattle.words.specs.Lists.{part, over, splice}
use Rattle.words.proofs.SpliceLaws.{range-before, drop-after}
use Rattle.sectors.specs.Sectors.{sec, set_sec}
use Rattle.sectors.proofs.SectorLaws.{sec-length, sec-same, sec-other}

-- ---- sectors of an image of S sectors

pub sec-in : (img : List ℕ) (S i : ℕ) → length img ≡ 512 * S → i < S → length (sec img i) ≡ 512
sec-in img S i l h = sec-length img i (omega arith)

pub sec-beyond : (img : List ℕ) (S i : ℕ) → length img ≡ 512 * S → S ≤ i → sec img i ≡ []
unfolding sec part
sec-beyond img S i l h = rw (drop_of_length-le img {i = 512 * i} (omega arith))

module _ (S : ℕ) (img s : List ℕ) (x : ℕ) (l : length img ≡ 512 * S) (h : x < S) (m : length s ≡ 512) where
  pub set_here : sec (set_sec img x s) x ≡ s
  set_here = sec-same img x s m (omega arith)

  pub set_there : (i : ℕ) → i ≢ x → sec (set_sec img x s) i ≡ sec img i
  set_there i o = sec-other img x s m i o

-- ---- images with the same sectors

-- n sectors in a row are alike where each of them is
pub flat-same : (a b : List ℕ) (n i : ℕ) → ((j : ℕ) → i ≤ j → j < i + n → sec a j ≡ sec b j) → take (512 * n) (drop (512 * i) a) ≡ take (512 * n) (drop (512 * i) b)
unfolding sec part
flat-same a b zero i h = refl
flat-same a b (suc n) i h =
    let e : 512 * suc n ≡ 512 + 512 * n = omega arith in
    let f : 512 * i + 512 ≡ 512 * suc i = omega arith in
    let q : take 512 (drop (512 * i) a) ≡ take 512 (drop (512 * i) b) = h i (omega arith) (omega arith) in
    let r = flat-same a b n (suc i) (λ j lo hi. h j (omega arith) (omega arith)) in
    rw (e, take-add 512 (512 * n) (drop (512 * i) a), take-add 512 (512 * n) (drop (512 * i) b), drop-drop 512 (512 * i) a, drop-drop 512 (512 * i) b, f, r)
    (ap (λ (x : List ℕ). x ++ take (512 * n) (drop (512 * suc i) b)) q)

pub image-same : (a b : List ℕ) (S : ℕ) → length a ≡ 512 * S → length b ≡ 512 * S → ((j : ℕ) → j < S → sec a j ≡ sec b j) → a ≡ b
image-same a b S l m h =
    sym (take_all (512 * S) a (omega arith)) ∙ flat-same a b S 0 (λ j lo hi. h j (omega arith)) ∙ take_all (512 * S) b (omega arith)

-- ---- a write inside one sector

drop-splice : (n : ℕ) (s : List ℕ) (at : ℕ) (vs : List ℕ) → drop n (splice s (n + at) vs) ≡ splice (drop n s) at vs
unfolding splice over
drop-splice zero s at vs = rw zero-add
drop-splice (suc n) [] zero [] = rw suc-add
drop-splice (suc n) [] zero (v ∷ vs) = rw suc-add
drop-splice (suc n) [] (suc at) vs = rw suc-add
drop-splice (suc n) (x ∷ s) at vs = rw suc-add (drop-splice n s at vs)

take-over : (n : ℕ) (s vs : List ℕ) → length vs ≤ n → take n (over s vs) ≡ over (take n s) vs
unfolding over
take-over n s [] h = refl
take-over zero s (v ∷ vs) h = absurd (not-suc-le-zero h)
take-over (suc n) [] (v ∷ vs) h = refl
take-over (suc n) (x ∷ s) (v ∷ vs) h = ap (λ (r : List ℕ). v ∷ r) (take-over n s vs (le_of_suc-le-suc h))

take-splice : (n : ℕ) (s : List ℕ) (at : ℕ) (vs : List ℕ) → at + length vs ≤ n → take n (splice s at vs) ≡ splice (take n s) at vs
unfolding splice
take-splice n s zero vs h = take-over n s vs (omega arith)
take-splice zero s (suc at) vs h = absurd (omega arith)
take-splice (suc n) [] (suc at) vs h = refl
take-splice (suc n) (x ∷ s) (suc at) vs h = ap (λ (r : List ℕ). x ∷ r) (take-splice n s at vs (omega arith))

module _ (img : List ℕ) (i at : ℕ) (vs : List ℕ) (h : at + length vs ≤ 512) where
  pub inside-here : sec (splice img (512 * i + at) vs) i ≡ splice (sec img i) at vs
  unfolding sec part
  inside-here = ap (λ (x : List ℕ). take 512 x) (drop-splice (512 * i) img at vs) ∙ take-splice 512 (drop (512 * i) img) at vs h

  pub inside-other : (j : ℕ) → j ≢ i → sec (splice img (512 * i + at) vs) j ≡ sec img j
  unfolding sec part
  inside-other j o = go (dec_lt j i)
    where
      go : Dec (j < i) → take 512 (drop (512 * j) (splice img (512 * i + at) vs)) ≡ take 512 (drop (512 * j) img)
      go (yes a) = range-before img (512 * i + at) vs (512 * j) 512 (omega arith)
      go (no a) = ap (λ (x : List ℕ). take 512 x) (drop-after img (512 * i + at) vs (512 * j) (omega arith))

-- ---- a write of n whole sectors from sector a on

pub run-other : (img : List ℕ) (a n : ℕ) (vs : List ℕ) (i : ℕ) → length vs ≡ 512 * n → ¬ ((a ≤ i) × (i < a + n)) → sec (splice img (512 * a) vs) i ≡ sec img i
unfolding sec part
run-other img a n vs i m o = go (dec_lt i a)
  where
    go : Dec (i < a) → take 512 (drop (512 * i) (splice img (512 * a) vs)) ≡ take 512 (drop (512 * i) img)
    go (yes h) = range-before img (512 * a) vs (512 * i) 512 (omega arith)
    go (no h) = past (dec_lt i (a + n))
      where
        past : Dec (i < a + n) → take 512 (drop (512 * i) (splice img (512 * a) vs)) ≡ take 512 (drop (512 * i) img)
        past (yes u) = absurd (o (omega arith, u))
        past (no u) = ap (λ (x : List ℕ). take 512 x) (drop-after img (512 * a) vs (512 * i) (omega arith))
