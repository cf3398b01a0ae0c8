-- Four words and what stands behind them: sector 0 and the index. Assumes nothing.
use mathlib.Core.Path.{◌≡◌, refl}
use mathlib.Core.List.{List, ◌++◌}
use Prim.Native.Nat.{ℕ, ◌+◌, ◌^◌, ◌<◌}
use native.Mathlib.Omega.{arith}
use lib.ListN.{length, drop}
use Rattle.words.specs.Bytes.{word_at, word_bytes}
use Rattle.words.proofs.WordLaws.{join-bytes}

abbrev pub four : ℕ → ℕ → ℕ → ℕ → List ℕ → List ℕ
four a b c d r = word_bytes a ++ word_bytes b ++ word_bytes c ++ word_bytes d ++ r

module _ (a b c d : ℕ) (r : List ℕ) where
  pub four-first : a < 2 ^ 32 → word_at (four a b c d r) 0 ≡ a
  unfolding word_at word_bytes
  four-first h = join-bytes a h

  pub four-second : b < 2 ^ 32 → word_at (four a b c d r) 4 ≡ b
  unfolding word_at word_bytes
  four-second h = join-bytes b h

  pub four-third : c < 2 ^ 32 → word_at (four a b c d r) 8 ≡ c
  unfolding word_at word_bytes
  four-third h = join-bytes c h

  pub four-fourth : d < 2 ^ 32 → word_at (four a b c d r) 12 ≡ d
  unfolding word_at word_bytes
  four-fourth h = join-bytes d h

  pub four-rest : drop 16 (four a b c d r) ≡ r
  unfolding word_bytes
  four-rest = refl

  pub four-length : length (four a b c d r) ≡ 16 + length r
  unfolding word_bytes
  four-length = omega arith
