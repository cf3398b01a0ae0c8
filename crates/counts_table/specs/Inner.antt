-- What the contracts of inner functions cite besides the words of the papers: what such a function asks of its caller, and what it answers. Assumes nothing.
use Rattle.std.specs.Prelude.{◌≡◌, Bool, true, ◌⊎◌, ℕ, ◌+◌}

-- how many of n words are looked at: all, or those up to c
abbrev pub Judged : ℕ → ℕ → Bool → ℕ → Type 0
Judged n c past r = (r ≡ n) ⊎ ((past ≡ true) × (r ≡ c + 1))
