-- The sectors of a fresh card as code builds them: the block, bytes of bits. Assumes nothing.
use mathlib.Core.Path.{◌≡◌, refl, ◌∙◌}
use mathlib.Core.Logic.{◌⊎◌, inl, inr}
use mathlib.Core.Bool.{true, false, ◌||◌}
use mathlib.Core.List.{List, ◌++◌}
use Prim.Native.Nat.{ℕ, zero, suc, ◌+◌, ◌*◌, ◌/◌, ◌%◌, ◌≤◌, ◌<◌}
use native.Mathlib.Decide.{ℕ_discrete, dec_lt}
use native.Mathlib.Omega.{arith}
use borrow.Author.Tests.{lt-ltb, le-ltb, le-leb, lt-leb}
use lib.Dec.{leb, ltb}
use lib.ListN.{length, get_or, set, replicate, get_or-replicate}
use lib.Seq.{get_or-set_same, get_or-set_other, set_out}
use Rattle.words.specs.Lists.{splice}
use Rattle.words.specs.Bytes.{word_bytes}
use Rattle.words.proofs.SpliceLaws.{splice-parts}
use Rattle.words.proofs.WordLaws.{four-words}
use Rattle.counts.specs.declared.Geo.{Geo}
use Rattle.counts.specs.Geometry.{g_f}
use Rattle.apages.specs.Bits.{bit_at, put_digit, put_bit, set_run}
use Rattle.apages.proofs.BitLaws.{digit-zero, put_digit-lt, digit-full}
use Rattle.apages.specs.Runs.{outside}
use Rattle.card.specs.Make.{block_bytes}

-- four words put into a fresh sector are the transaction block
pub block-built : (C : ℕ) (g : Geo) {t u v w : List ℕ} → t ≡ splice (replicate 512 0) 0 (word_bytes C) → u ≡ splice t 4 (word_bytes g.s)
    → v ≡ splice u 8 (word_bytes g.t) → w ≡ splice v 12 (word_bytes g.d) → w ≡ block_bytes C g
unfolding block_bytes word_bytes
block-built C g e₁ e₂ e₃ e₄ =
    four-words (replicate 512 0) 0 C g.s g.t g.d e₁ e₂ e₃ e₄
    ∙ splice-parts (replicate 512 0) 0 (word_bytes C ++ word_bytes g.s ++ word_bytes g.t ++ word_bytes g.d) (omega arith)

-- ---- pages of bytes

abbrev zeros : ℕ → List ℕ
zeros m = replicate m 0

abbrev pub full : ℕ → List ℕ
full m = replicate m 255

put_bit-bytes : (p : List ℕ) (n v : ℕ) → v < 2 → ((j : ℕ) → get_or p j 0 < 256) → (j : ℕ) → get_or (put_bit p n v) j 0 < 256
unfolding put_bit
put_bit-bytes p n v two h j = go (ℕ_discrete j (n / 8)) (dec_lt (n / 8) (length p))
  where
    x : ℕ
    x = put_digit (get_or p (n / 8) 0) (n % 8) v

    go : Dec (j ≡ n / 8) → Dec (n / 8 < length p) → get_or (set p (n / 8) x) j 0 < 256
    go (yes e) (yes l) = rw (e, get_or-set_same p (n / 8) x 0 l) (put_digit-lt 8 (get_or p (n / 8) 0) (n % 8) v two (omega arith) (h (n / 8)))
    go (yes e) (no l) = rw (set_out p (n / 8) x (omega arith)) (h j)
    go (no e) d = rw (get_or-set_other p (n / 8) j x 0 e) (h j)

pub set_run-bytes : (p : List ℕ) (a k v : ℕ) → v < 2 → ((j : ℕ) → get_or p j 0 < 256) → (j : ℕ) → get_or (set_run p a k v) j 0 < 256
unfolding set_run
set_run-bytes p a zero v two h j = h j
set_run-bytes p a (suc k) v two h j = put_bit-bytes (set_run p a k v) (a + k) v two (set_run-bytes p a k v two h) j

pub copies_at : (m x : ℕ) → x < 256 → (j : ℕ) → get_or (replicate m x) j 0 < 256
copies_at zero x h j = omega arith
copies_at (suc m) x h zero = h
copies_at (suc m) x h (suc j) = copies_at m x h j

zeros-at : (m j : ℕ) → ◌≡◌ {A = ℕ} (get_or (replicate m 0) j 0) 0
zeros-at zero j = refl
zeros-at (suc m) zero = refl
zeros-at (suc m) (suc j) = zeros-at m j

pub clear-bit : (m n : ℕ) → bit_at (zeros m) n ≡ 0
unfolding bit_at
clear-bit m n = rw (zeros-at m (n / 8)) (digit-zero (n % 8))

full_at : (m j : ℕ) → j < m → get_or (full m) j 0 ≡ 255
full_at m j h = get_or-replicate m j (let x : ℕ = 255 in x) 0 h

pub full-bit : (m n : ℕ) → n < 8 * m → bit_at (full m) n ≡ 1
unfolding bit_at
full-bit m n h = rw (full_at m (n / 8) (omega arith)) (digit-full (n % 8) (omega arith))

-- ---- "the bits below F, from S up"

-- a sector is below F, from S up, or one of the data
pub side : (g : Geo) (n : ℕ) → ((n < g_f g) × (outside g n ≡ true)) ⊎ (((g_f g ≤ n) × (g.s ≤ n) × (outside g n ≡ true)) ⊎ ((g_f g ≤ n) × (n < g.s) × (outside g n ≡ false)))
unfolding outside
side g n = go (dec_lt n (g_f g)) (dec_lt n g.s)
  where
    go : Dec (n < g_f g) → Dec (n < g.s)
        → ((n < g_f g) × ((ltb n (g_f g) || leb g.s n) ≡ true))
        ⊎ (((g_f g ≤ n) × (g.s ≤ n) × ((ltb n (g_f g) || leb g.s n) ≡ true)) ⊎ ((g_f g ≤ n) × (n < g.s) × ((ltb n (g_f g) || leb g.s n) ≡ false)))
    go (yes a) d = inl (a, rw (lt-ltb n (g_f g) a))
    go (no a) (yes b) = inr (inr (omega arith, b, rw (le-ltb n (g_f g) (omega arith), lt-leb g.s n b)))
    go (no a) (no b) = inr (inl (omega arith, omega arith, rw (le-ltb n (g_f g) (omega arith), le-leb g.s n (omega arith))))
