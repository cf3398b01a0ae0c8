-- The last byte of a name, where there is none. Assumes nothing.
use mathlib.Core.Path.{◌≡◌, sym}
use mathlib.Core.List.{List}
use Prim.Native.Nat.{ℕ, ◌-◌}
use native.Mathlib.Omega.{arith}
use lib.ListN.{length, get_or, get_or-eq_default}

-- the last byte of a name; 0 if there is none
unfoldable pub last_of : List ℕ → ℕ
last_of n = get_or n (length n - 1) 0

pub last_none : (n : List ℕ) → length n ≡ 0 → 0 ≡ last_of n
unfolding last_of
last_none n h = sym (get_or-eq_default n 0 (omega arith))
