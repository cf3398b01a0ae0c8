-- "32-bit FNV-1a (start 2,166,136,261, factor 16,777,619)": the hash of a name as code folds it. Assumes nothing.
use Rattle.std.specs.Prelude.{fold}
use mathlib.Core.Path.{◌≡◌, refl}
use mathlib.Core.List.{List, [], ◌∷◌}
use Prim.Native.Nat.{ℕ}
use Rattle.entries_names.specs.Inner.{hash_step, hash_from}

pub hash_fold : (h : ℕ) (n : List ℕ) → fold hash_step h n ≡ hash_from h n
unfolding hash_from
hash_fold h [] = refl
hash_fold h (b ∷ n) = hash_fold (hash_step h b) n
