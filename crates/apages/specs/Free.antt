-- "Free is to mean clear in both views; a second figure gives the sectors the next sync releases": both figures of two maps. Assumes nothing.
use Rattle.std.specs.Prelude.{List, [], ◌∷◌, ℕ, ◌+◌, ◌-◌, ◌*◌}
use Rattle.apages.specs.Bits.{bits_of, clear_in}
use Rattle.apages.specs.Runs.{merge}

-- "clear in both views": the sectors that neither of two maps has set
unfoldable pub free_in : List ℕ → List ℕ → ℕ
free_in p q = clear_in (merge (bits_of p) (bits_of q))

-- how many places have a clear bit in the first list and a set one in the second
unfoldable pub waits : List ℕ → List ℕ → ℕ
waits [] q = 0
waits (x ∷ p) [] = 0
waits (x ∷ p) (y ∷ q) = (1 - x) * y + waits p q

-- "the sectors the next sync releases": those that the second map has set and the first one clear
unfoldable pub waiting_in : List ℕ → List ℕ → ℕ
waiting_in p q = waits (bits_of p) (bits_of q)
