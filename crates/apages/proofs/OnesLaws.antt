-- Laws of the ones of a map: a word's are those of its bytes, ones and clear bits make the whole, and a run of bits that is set. Assumes nothing.
use mathlib.Core.Path.{◌≡◌, refl, sym, ap, ◌∙◌}
use mathlib.Core.Bool.{Bool, true, false}
use mathlib.Core.List.{List}
use Prim.Native.Nat.{ℕ, zero, suc, ◌+◌, ◌-◌, ◌*◌, ◌/◌, ◌%◌, ◌^◌, ◌≤◌, ◌<◌}
use native.Mathlib.Decide.{ℕ_discrete}
use native.Mathlib.Nat.{pow-suc, add-zero, add_assoc}
use native.Mathlib.Omega.{arith}
use borrow.Author.Tests.{eqb-true, eq-eqb}
use lib.Count.{ones, ones_step, ones_cat, ones-ones}
use lib.Dec.{eqb}
use lib.ListN.{length, get_or}
use Rattle.words_sums.specs.Sums.{total}
use Rattle.words_sums.proofs.SumLaws.{total-add, total-same, total-split, total-front, total-one, total-tight}
use Rattle.words.proofs.BoolLaws.{both, join}
use Rattle.words.specs.Bytes.{word_at}
use Rattle.words.proofs.WordLaws.{word_at-get_or}
use Rattle.apages.specs.Bits.{digit, bit_at, clear_bits}
use Rattle.apages.proofs.BitLaws.{digit-suc, digit-full, bit-lt}
use Rattle.apages.proofs.RunLaws.{clear-total}
use Rattle.apages.specs.Ones.{word64_at, ones_of, set_bits, all_set}

-- ---- the ones of a word

-- a number's set digits, counted one by one
ones-digits : (k x : ℕ) → x < 2 ^ k → ones x ≡ total (digit x) k
unfolding ones total
ones-digits zero x h = let e : x ≡ 0 = omega arith in rw e
ones-digits (suc k) x h =
    ones_step x ∙ ap (λ (z : ℕ). x % 2 + z) (ones-digits k (x / 2) (omega (arith, pow-suc 2 k)) ∙ total-same (digit (x / 2)) (λ i. digit x (suc i)) k (λ i l. sym (digit-suc x i)))
    ∙ omega (arith, total-front (digit x) k)

-- what the machine counts of a word are its set bits
pub ones-word : (x : ℕ) → x < 2 ^ 64 → ones x ≡ ones_of x
unfolding ones_of
ones-word x h = ones-digits 64 x h

-- the bits of one byte of a map
byte-bits : (m : List ℕ) (j : ℕ) → get_or m j 0 < 256 → ones (get_or m j 0) ≡ total (λ i. bit_at m (8 * j + i)) 8
unfolding bit_at
byte-bits m j h =
    ones-digits 8 (get_or m j 0) h
    ∙ total-same (digit (get_or m j 0)) (λ i. digit (get_or m ((8 * j + i) / 8) 0) ((8 * j + i) % 8)) 8
    (λ i l. let a : (8 * j + i) / 8 ≡ j = omega arith in let b : (8 * j + i) % 8 ≡ i = omega arith in rw (a, b))

module _ (m : List ℕ) (bytes : (j : ℕ) → get_or m j 0 < 256) where
  abbrev byte_ones : ℕ → ℕ → ℕ
  byte_ones at i = ones (get_or m (at + i) 0)

  -- the ones of the next k bytes
  bytes-more : (at k : ℕ) → total (bit_at m) (8 * (at + k)) ≡ total (bit_at m) (8 * at) + total (byte_ones at) k
  unfolding total
  bytes-more at zero = rw (add-zero at) (omega arith)
  bytes-more at (suc k) =
      let e : 8 * (at + suc k) ≡ 8 * (at + k) + 8 = omega arith in
      rw e (omega (arith, total-split (bit_at m) (8 * (at + k)) 8, byte-bits m (at + k) (bytes (at + k)), bytes-more at k))

  -- a word of 32 bits has the ones of its four bytes
  half-ones : (at : ℕ) → ones (word_at m at) ≡ total (byte_ones at) 4
  unfolding total
  half-ones at =
      let a = get_or m at 0 in
      let b = get_or m (at + 1) 0 in
      let c = get_or m (at + 2) 0 in
      let d = get_or m (at + 3) 0 in
      let e : word_at m at ≡ ((d * 256 + c) * 256 + b) * 256 + a = omega (arith, word_at-get_or m at) in
      let z : get_or m (at + 0) 0 ≡ a = ap (λ (i : ℕ). get_or m i 0) (add-zero at) in
      omega
      (arith, ap ones e, ap ones z, ones_cat 8 ((d * 256 + c) * 256 + b) a (bytes at), ones_cat 8 (d * 256 + c) b (bytes (at + 1)), ones_cat 8 d c (bytes (at + 2)))

  half_lt : (at : ℕ) → word_at m at < 4294967296
  half_lt at = omega (arith, word_at-get_or m at, bytes at, bytes (at + 1), bytes (at + 2), bytes (at + 3))

  pub word_lt : (at : ℕ) → word64_at m at < 2 ^ 64
  unfolding word64_at
  word_lt at = omega (arith, half_lt at, half_lt (at + 4))

  -- a word of 64 bits has the ones of its eight bytes
  word_ones : (at : ℕ) → ones_of (word64_at m at) ≡ total (byte_ones at) 8
  unfolding word64_at
  word_ones at =
      let lo = word_at m at in
      let hi = word_at m (at + 4) in
      let e : lo + 4294967296 * hi ≡ hi * 2 ^ 32 + lo = omega arith in
      let f : total (byte_ones (at + 4)) 4 ≡ total (λ i. byte_ones at (4 + i)) 4 = total-same (byte_ones (at + 4)) (λ i. byte_ones at (4 + i)) 4 (λ i l. ap (λ (j : ℕ). ones (get_or m j 0)) (add_assoc at 4 i)) in
      sym (ones-word (word64_at m at) (word_lt at)) ∙ ap ones e
      ∙ omega (arith, ones_cat 32 hi lo (half_lt at), half-ones at, half-ones (at + 4), total-split (byte_ones at) 4 4)

  -- the loop's turn: the ones of the next eight bytes
  pub ones-more : (at s : ℕ) {r : ℕ} → s ≡ total (bit_at m) (8 * at) → r ≡ ones_of (word64_at m at) → s + r ≡ total (bit_at m) (8 * (at + 8))
  ones-more at s e f = omega (arith, bytes-more at 8, word_ones at)

-- ---- ones and clear bits

pub set-clear : (m : List ℕ) → clear_bits m + set_bits m ≡ 8 * length m
unfolding set_bits
set-clear m =
    omega
    (arith, clear-total m, total-add (λ n. 1 - bit_at m n) (bit_at m) (λ n. 1) (8 * length m) (λ n l. omega (arith, bit-lt m n)), total-one (8 * length m))

-- ---- a run of bits that is set

pub all-at : (m : List ℕ) (k a n : ℕ) → all_set m a k ≡ true → a ≤ n → n < a + k → bit_at m n ≡ 1
unfolding all_set
all-at m zero a n h x y = absurd (omega arith)
all-at m (suc k) a n h x y = go (all-at m k (suc a) n (both (eqb (bit_at m a) 1) (all_set m (suc a) k) h).1) (ℕ_discrete a n)
  where
    go : (suc a ≤ n → n < suc a + k → bit_at m n ≡ 1) → Dec (a ≡ n) → bit_at m n ≡ 1
    go ih (yes e) = ap (bit_at m) (sym e) ∙ eqb-true _ 1 (both (eqb (bit_at m a) 1) (all_set m (suc a) k) h).0
    go ih (no e) = ih (omega arith) (omega arith)

pub all_set_lem : (m : List ℕ) (k a : ℕ) → ((n : ℕ) → a ≤ n → n < a + k → bit_at m n ≡ 1) → all_set m a k ≡ true
unfolding all_set
all_set_lem m zero a h = refl
all_set_lem m (suc k) a h = join _ _ (eq-eqb (bit_at m a) 1 (h a (omega arith) (omega arith))) (all_set_lem m k (suc a) (λ n x y. h n (omega arith) (omega arith)))

-- a full word's bits, a full byte's, and one bit that is set or none
pub word_set : (m : List ℕ) (bytes : (j : ℕ) → get_or m j 0 < 256) (n : ℕ) → n % 64 ≡ 0 → word64_at m (n / 8) ≡ 18446744073709551615 → all_set m n 64 ≡ true
word_set m bytes n z h =
    all_set_lem m 64 n
    (λ i x y. let e : 8 * (n / 8) + (i - n) ≡ i = omega arith in
    rw e at (total-tight (λ j. bit_at m (8 * (n / 8) + j)) (λ j. 1) 64 (λ j l. omega (arith, bit-lt m (8 * (n / 8) + j))) sum (i - n) (omega arith)))
  where
    sum : total (λ j. bit_at m (8 * (n / 8) + j)) 64 ≡ total (λ j. 1) 64
    sum =
        let a : 8 * (n / 8 + 8) ≡ 8 * (n / 8) + 64 = omega arith in
        let b : ones (word64_at m (n / 8)) ≡ 64 = ap ones h ∙ ones-ones 64 in
        omega
        (arith, total-one 64, total-split (bit_at m) (8 * (n / 8)) 64, rw a at (bytes-more m bytes (n / 8) 8), word_ones m bytes (n / 8), ones-word (word64_at m (n / 8)) (word_lt m bytes (n / 8)))

pub full-set : (m : List ℕ) (n : ℕ) → n % 8 ≡ 0 → get_or m (n / 8) 0 ≡ 255 → all_set m n 8 ≡ true
unfolding bit_at
full-set m n z h =
    all_set_lem m 8 n
    (λ i x y. let e : i / 8 ≡ n / 8 = omega arith in
    rw (e, h) (digit-full (i % 8) (omega arith)))

pub bit-set : (m : List ℕ) (n : ℕ) {b : ℕ} → b ≡ bit_at m n → all_set m n b ≡ true
bit-set m n {b} e = all_set_lem m b n (λ i x y. let q : i ≡ n = omega (arith, bit-lt m n) in rw q (omega (arith, bit-lt m n)))

-- the answer after the first r of a run, which are set
all-skip : (m : List ℕ) (r a k : ℕ) → r ≤ k → all_set m a r ≡ true → all_set m a k ≡ all_set m (a + r) (k - r)
unfolding all_set
all-skip m zero a k l h = let e : k - 0 ≡ k = omega arith in rw (add-zero, e)
all-skip m (suc r) a zero l h = absurd (omega arith)
all-skip m (suc r) a (suc k) l h =
    let (x, y) = both (eqb (bit_at m a) 1) (all_set m (suc a) r) h in
    let e : a + suc r ≡ suc a + r = omega arith in
    let f : suc k - suc r ≡ k - r = omega arith in
    rw (e, f, x) (all-skip m r (suc a) k (omega arith) y)

-- a loop over a run that ends before sector e: the answer for the sectors from n on
pub all_start : (m : List ℕ) (a k : ℕ) → all_set m a k ≡ all_set m a (a + k - a)
all_start m a k = let e : a + k - a ≡ k = omega arith in rw e

module _ (m : List ℕ) (n e : ℕ) {b : Bool} (inv : b ≡ all_set m n (e - n)) where
  pub all_go : (r : ℕ) → n + r ≤ e → all_set m n r ≡ true → b ≡ all_set m (n + r) (e - (n + r))
  all_go r l h = let f : e - n - r ≡ e - (n + r) = omega arith in inv ∙ all-skip m r n (e - n) (omega arith) h ∙ rw f

  pub all-stop : n < e → bit_at m n ≡ 0 → false ≡ b
  unfolding all_set
  all-stop l z = let f : e - n ≡ suc (e - suc n) = omega arith in sym (inv ∙ rw (f, z))

  pub all_end : e ≤ n → true ≡ b
  unfolding all_set
  all_end l = let f : e - n ≡ 0 = omega arith in sym (rw f at inv)
