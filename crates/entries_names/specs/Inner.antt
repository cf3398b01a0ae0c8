-- What the contracts of inner functions cite besides the words of the papers: what such a function asks of its caller, and what it answers. Assumes nothing.
use Rattle.std.specs.Prelude.{List, [], ◌∷◌, ℕ, ◌*◌, ◌%◌}
use Rattle.std.specs.Int.Bits.{bit_xor}

-- one byte more
unfoldable pub hash_step : ℕ → ℕ → ℕ
hash_step h b = bit_xor h b * 16777619 % 4294967296

unfoldable pub hash_from : ℕ → List ℕ → ℕ
hash_from h [] = h
hash_from h (b ∷ bs) = hash_from (hash_step h b) bs

unfoldable pub hash_of : List ℕ → ℕ
hash_of n = hash_from 2166136261 n
