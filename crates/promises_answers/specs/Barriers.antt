-- The barriers of "Cuts": how many writes stand before each, and how many sectors a sync copies. Assumes nothing.
use Rattle.std.specs.Prelude.{List, [], ◌∷◌, ℕ, suc, ◌+◌}
use Rattle.sectors.specs.Sectors.{Step, write, settle, diff_steps, writes_in}
use Rattle.session.specs.declared.Opened.{Opened}
use Rattle.store.specs.Steps.{past_table}

-- for each barrier, how many writes stand before it, counted from n
unfoldable pub barriers_from : ℕ → List Step → List ℕ
barriers_from n [] = []
barriers_from n (write i x ∷ r) = barriers_from (suc n) r
barriers_from n (settle ∷ r) = n ∷ barriers_from n r

abbrev pub barriers : List Step → List ℕ
barriers r = barriers_from 0 r

-- how many sectors sync copies: sector 0 and those past the table, where they differ
abbrev pub copies : Opened → List ℕ → List ℕ → ℕ
copies s card work = writes_in (diff_steps card work 0 1 []) + writes_in (diff_steps card work (s.geo.t + 1) (past_table s) [])
