-- Sectors that are alike, all free in both of two pages or all busy, seen by the bits of one byte. Assumes nothing.
use mathlib.Core.Path.{◌≡◌, refl, sym, ap, ◌∙◌}
use mathlib.Core.Bool.{Bool, true, false}
use mathlib.Core.Logic.{◌⊎◌, inl, inr}
use mathlib.Core.List.{List}
use Prim.Native.Nat.{ℕ, ◌+◌, ◌-◌, ◌*◌, ◌/◌, ◌%◌, ◌^◌, max, ◌≤◌, ◌<◌}
use native.Mathlib.Omega.{arith}
use borrow.Author.Tests.{eq-eqb, ne_eqb}
use lib.Bits.{bit_and, bit_or, and_mask}
use lib.Pow.{ones_split, ones_lt, high}
use lib.ListN.{get_or}
use Rattle.words.specs.Lists.{is_zero}
use Rattle.apages.specs.Bits.{digit, bit_at}
use Rattle.apages.proofs.BitLaws.{digit-zero, digit_shift, digit_low, digit_ones}
use Rattle.apages.specs.Inner.{busy_at, Alike, either_of}
use Rattle.apages.proofs.Either.{either-digit}

-- a sector is free where neither byte has its bit, busy where one of them has
max-free : (x y z : ℕ) → z ≡ max x y → z ≡ 0 → is_zero (x + y) ≡ true
max-free x y z e h = eq-eqb (x + y) 0 (omega arith)

max-busy : (x y z : ℕ) → z ≡ max x y → z ≡ 1 → is_zero (x + y) ≡ false
max-busy x y z e h = ne_eqb (x + y) 0 (λ n. omega arith)

-- a full byte shifted until m of its bits are left
full-shifted : (m : ℕ) → m ≤ 8 → 255 / 2 ^ (8 - m) ≡ 2 ^ m - 1
full-shifted m h =
    let e : m + (8 - m) ≡ 8 = omega arith in
    let f : 255 ≡ (2 ^ m - 1) * 2 ^ (8 - m) + (2 ^ (8 - m) - 1) = rw e at (ones_split m (8 - m)) in
    ap (λ (x : ℕ). x / 2 ^ (8 - m)) f ∙ high (2 ^ m - 1) (8 - m) (ones_lt (8 - m))

-- m sectors from n on, whose bits lie in one byte: the bits of either map, shifted down
module _ (p q : List ℕ) (n m : ℕ) (l : n % 8 + m ≤ 8) (x mask : ℕ) (em : mask ≡ 255 / 2 ^ (8 - m)) (ex : x ≡ bit_and (bit_or (get_or p (n / 8) 0) (get_or q (n / 8) 0) / 2 ^ (n % 8)) mask) where
  ones : mask ≡ 2 ^ m - 1
  ones = em ∙ full-shifted m (omega arith)

  part-digit : (i : ℕ) → n ≤ i → i < n + m → digit x (i - n) ≡ max (bit_at p i) (bit_at q i)
  unfolding bit_at
  part-digit i a b =
      let e : i / 8 ≡ n / 8 = omega arith in
      let f : n % 8 + (i - n) ≡ i % 8 = omega arith in
      let y = bit_or (get_or p (n / 8) 0) (get_or q (n / 8) 0) in
      let low : x ≡ y / 2 ^ (n % 8) % 2 ^ m = ex ∙ ap (λ (k : ℕ). bit_and (y / 2 ^ (n % 8)) k) ones ∙ and_mask (y / 2 ^ (n % 8)) m in
      rw e (
      ap (λ (k : ℕ). digit k (i - n)) low ∙ digit_low m (y / 2 ^ (n % 8)) (i - n) (omega arith) ∙ digit_shift y (n % 8) (i - n) ∙ ap (λ (k : ℕ). digit y k) f
      ∙ (unfold either_of in either-digit (get_or p (n / 8) 0) (get_or q (n / 8) 0) (i % 8)))

  part-each : (x ≡ 0) ⊎ (x ≡ mask) → Bool
  part-each (inl h) = true
  part-each (inr h) = false

  part_free : (h : (x ≡ 0) ⊎ (x ≡ mask)) (i : ℕ) → n ≤ i → i < n + m → is_zero (busy_at p q i) ≡ part-each h
  unfolding busy_at part-each
  part_free (inl h) i a b = max-free (bit_at p i) (bit_at q i) (digit x (i - n)) (part-digit i a b) (rw h (digit-zero (i - n)))
  part_free (inr h) i a b = max-busy (bit_at p i) (bit_at q i) (digit x (i - n)) (part-digit i a b) (rw (h ∙ ones) (digit_ones m (i - n) (omega arith)))

  -- none of the bits is set in either map, or each in one of them
  pub part-alike : (x ≡ 0) ⊎ (x ≡ mask) → 1 ≤ m → Alike p q n m
  part-alike h o i a b = part_free h i a b ∙ sym (part_free h n (omega arith) (omega arith))

-- the same of a whole byte
pub byte-alike : (p q : List ℕ) (n x : ℕ) → n % 8 ≡ 0 → x ≡ bit_or (get_or p (n / 8) 0) (get_or q (n / 8) 0) → (x ≡ 0) ⊎ (x ≡ 255) → Alike p q n 8
byte-alike p q n x z e h = part-alike p q n 8 (omega arith) _ 255 refl refl (rw (← e, z) (full-or-none h)) (omega arith)
  where
    full-or-none : (x ≡ 0) ⊎ (x ≡ 255) → (bit_and (x / 2 ^ 0) 255 ≡ 0) ⊎ (bit_and (x / 2 ^ 0) 255 ≡ 255)
    full-or-none (inl f) = inl (rw f)
    full-or-none (inr f) = inr (rw f)

-- one sector is like itself
pub one_alike : (p q : List ℕ) (n : ℕ) → Alike p q n 1
one_alike p q n i a b = let e : i ≡ n = omega arith in rw e
