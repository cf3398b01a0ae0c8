-- Two maps as one, set where either is: word by word, and the two figures of free by its ones. Assumes nothing.
use mathlib.Core.Path.{◌≡◌, refl, sym, ap, ◌∙◌}
use mathlib.Core.List.{List, [], ◌∷◌}
use Prim.Native.Nat.{ℕ, zero, suc, ◌+◌, ◌-◌, ◌*◌, ◌/◌, ◌%◌, ◌^◌, max, ◌<◌}
use native.Mathlib.Omega.{arith}
use lib.Bits.{bit_or, or_zero_l, or_lt, or_block, or_shr, or_mod}
use lib.ListN.{length, get_or}
use Rattle.words_sums.specs.Sums.{total}
use Rattle.words_sums.proofs.SumLaws.{total-add, total-one}
use Rattle.words.specs.Bytes.{word_at}
use Rattle.words.proofs.WordLaws.{word_at-get_or}
use Rattle.apages.specs.Bits.{digit, bit_at}
use Rattle.apages.proofs.BitLaws.{bit-lt}
use Rattle.apages.specs.Ones.{word64_at, set_bits}
use Rattle.apages.specs.Free.{free_in, waiting_in}
use Rattle.apages.proofs.FreeLaws.{free_at, waits_at, free-total, waiting-total}
use Rattle.apages.specs.Inner.{either_of, either}

pub either-length : (p q : List ℕ) → length p ≡ length q → length (either p q) ≡ length p
unfolding either
either-length [] [] h = refl
either-length [] (y ∷ q) h = refl
either-length (x ∷ p) [] h = absurd (omega arith)
either-length (x ∷ p) (y ∷ q) h = ap suc (either-length p q (omega arith))

either-at : (p q : List ℕ) (j : ℕ) → length p ≡ length q → get_or (either p q) j 0 ≡ either_of (get_or p j 0) (get_or q j 0)
unfolding either
either-at [] [] j h = unfold either_of in sym (or_zero_l 0)
either-at [] (y ∷ q) j h = absurd (omega arith)
either-at (x ∷ p) [] j h = absurd (omega arith)
either-at (x ∷ p) (y ∷ q) zero h = refl
either-at (x ∷ p) (y ∷ q) (suc j) h = either-at p q j (omega arith)

-- ---- one number

either_lt : (k x y : ℕ) → x < 2 ^ k → y < 2 ^ k → either_of x y < 2 ^ k
unfolding either_of
either_lt k x y a b = or_lt k x y a b

either-block : (k a b r s : ℕ) → r < 2 ^ k → s < 2 ^ k → either_of (a * 2 ^ k + r) (b * 2 ^ k + s) ≡ either_of a b * 2 ^ k + either_of r s
unfolding either_of
either-block k a b r s x y = or_block k a b r s x y

-- a bit of it is set where one of the two is
either-bits : (x y : ℕ) → x < 2 → y < 2 → bit_or x y ≡ max x y
either-bits zero zero a b = refl
either-bits zero (suc zero) a b = refl
either-bits (suc zero) zero a b = refl
either-bits (suc zero) (suc zero) a b = refl
either-bits (suc (suc x)) y a b = absurd (omega arith)
either-bits zero (suc (suc y)) a b = absurd (omega arith)
either-bits (suc zero) (suc (suc y)) a b = absurd (omega arith)

pub either-digit : (x y b : ℕ) → digit (either_of x y) b ≡ max (digit x b) (digit y b)
unfolding either_of
either-digit x y b = ap (λ (z : ℕ). z % 2) (or_shr x y b) ∙ or_mod (x / 2 ^ b) (y / 2 ^ b) 1 ∙ either-bits (digit x b) (digit y b) (omega arith) (omega arith)

-- ---- two maps of bytes, word by word

module _ (p q : List ℕ) (alike : length p ≡ length q) (ps : (j : ℕ) → get_or p j 0 < 256) (qs : (j : ℕ) → get_or q j 0 < 256) where
  pub either-bytes : (j : ℕ) → get_or (either p q) j 0 < 256
  either-bytes j = rw (either-at p q j alike) (either_lt 8 (get_or p j 0) (get_or q j 0) (ps j) (qs j))

  -- four bytes
  half : (at : ℕ) → word_at (either p q) at ≡ either_of (word_at p at) (word_at q at)
  half at =
      let a = get_or p at 0 in
      let b = get_or p (at + 1) 0 in
      let c = get_or p (at + 2) 0 in
      let d = get_or p (at + 3) 0 in
      let u = get_or q at 0 in
      let v = get_or q (at + 1) 0 in
      let w = get_or q (at + 2) 0 in
      let x = get_or q (at + 3) 0 in
      let e : word_at p at ≡ ((d * 256 + c) * 256 + b) * 256 + a = omega (arith, word_at-get_or p at) in
      let f : word_at q at ≡ ((x * 256 + w) * 256 + v) * 256 + u = omega (arith, word_at-get_or q at) in
      let g : either_of (word_at p at) (word_at q at) ≡ either_of (((d * 256 + c) * 256 + b) * 256 + a) (((x * 256 + w) * 256 + v) * 256 + u) = rw (e, f) in
      omega (
        arith,
        word_at-get_or (either p q) at,
        either-at p q at alike,
        either-at p q (at + 1) alike,
        either-at p q (at + 2) alike,
        either-at p q (at + 3) alike,
        g,
        either-block 8 ((d * 256 + c) * 256 + b) ((x * 256 + w) * 256 + v) a u (ps at) (qs at),
        either-block 8 (d * 256 + c) (x * 256 + w) b v (ps (at + 1)) (qs (at + 1)),
        either-block 8 d x c w (ps (at + 2)) (qs (at + 2)),
      )

  half_lt : (r : List ℕ) → ((j : ℕ) → get_or r j 0 < 256) → (at : ℕ) → word_at r at < 4294967296
  half_lt r h at = omega (arith, word_at-get_or r at, h at, h (at + 1), h (at + 2), h (at + 3))

  -- eight bytes
  pub either-word : (at : ℕ) → word64_at (either p q) at ≡ either_of (word64_at p at) (word64_at q at)
  unfolding word64_at
  either-word at =
      let e : word_at p at + 4294967296 * word_at p (at + 4) ≡ word_at p (at + 4) * 2 ^ 32 + word_at p at = omega arith in
      let f : word_at q at + 4294967296 * word_at q (at + 4) ≡ word_at q (at + 4) * 2 ^ 32 + word_at q at = omega arith in
      rw (e, f) (omega (arith, half at, half (at + 4), either-block 32 (word_at p (at + 4)) (word_at q (at + 4)) (word_at p at) (word_at q at) (half_lt p ps at) (half_lt q qs at)))

-- ---- the figures by the ones

module _ (p q : List ℕ) (alike : length p ≡ length q) where
  either-bit : (n : ℕ) → bit_at (either p q) n ≡ max (bit_at p n) (bit_at q n)
  unfolding bit_at
  either-bit n = ap (λ (x : ℕ). digit x (n % 8)) (either-at p q (n / 8) alike) ∙ either-digit (get_or p (n / 8) 0) (get_or q (n / 8) 0) (n % 8)

  one_each : (x y : ℕ) → x < 2 → y < 2 → (1 - (x + y) + max x y ≡ 1) × (x + (1 - x) * y ≡ max x y)
  one_each zero y a b = (omega arith, omega arith)
  one_each (suc zero) y a b = (omega arith, omega arith)
  one_each (suc (suc x)) y a b = absurd (omega arith)

  -- free are those that neither has set
  pub free-ones : free_in p q + set_bits (either p q) ≡ 8 * length p
  unfolding set_bits
  free-ones =
      omega (
        arith,
        free-total p q alike,
        total-one (8 * length p),
        ap (λ (m : ℕ). total (bit_at (either p q)) (8 * m)) (either-length p q alike),
        total-add (free_at p q) (bit_at (either p q)) (λ n. 1) (8 * length p)
            (λ n l. (unfold free_at in rw (either-bit n) (one_each (bit_at p n) (bit_at q n) (bit-lt p n) (bit-lt q n)).0)),
      )

  -- waiting those that only the second has
  pub waiting-ones : set_bits p + waiting_in p q ≡ set_bits (either p q)
  unfolding set_bits
  waiting-ones =
      omega (
        arith,
        waiting-total p q alike,
        ap (λ (m : ℕ). total (bit_at (either p q)) (8 * m)) (either-length p q alike),
        total-add (bit_at p) (waits_at p q) (bit_at (either p q)) (8 * length p)
            (λ n l. (unfold waits_at in rw (either-bit n) (one_each (bit_at p n) (bit_at q n) (bit-lt p n) (bit-lt q n)).1)),
      )
