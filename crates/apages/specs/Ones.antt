-- The ones of a map: how many there are, and whether a run of bits is set. Assumes nothing.
use Rattle.std.specs.Prelude.{Bool, true, ◌&&◌, List, ℕ, zero, suc, ◌+◌, ◌*◌, length, eqb}
use Rattle.words_sums.specs.Sums.{total}
use Rattle.words.specs.Bytes.{word_at}
use Rattle.apages.specs.Bits.{digit, bit_at}

-- eight bytes as one word of 64 bits, least byte first
unfoldable pub word64_at : List ℕ → ℕ → ℕ
word64_at m at = word_at m at + 4294967296 * word_at m (at + 4)

-- how many bits of a word of 64 bits are set
unfoldable pub ones_of : ℕ → ℕ
ones_of x = total (digit x) 64

-- "the count of ones in the bitmap's words": how many bits of a map are set
unfoldable pub set_bits : List ℕ → ℕ
set_bits m = total (bit_at m) (8 * length m)

-- the bits of k sectors from a on are set
unfoldable pub all_set : List ℕ → ℕ → ℕ → Bool
all_set m a zero = true
all_set m a (suc k) = eqb (bit_at m a) 1 && all_set m (suc a) k
