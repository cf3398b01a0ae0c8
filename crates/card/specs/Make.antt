-- "A fresh card", and make. Assumes nothing.
use Rattle.std.specs.Prelude.{◌&&◌, List, [], ◌++◌, ℕ, zero, suc, ◌+◌, ◌*◌, length, replicate, eqb}
use Rattle.words.specs.Lists.{pad}
use Rattle.words.specs.Bytes.{word_bytes}
use Rattle.sectors.specs.Sectors.{set_sec}
use Rattle.counts.specs.declared.Geo.{Geo}
use Rattle.counts.specs.Geometry.{g_p, geo_ok, pair_low, pair_high}
use Rattle.apages.specs.declared.Index.{Index}
use Rattle.apages.specs.Runs.{fresh_page}
use Rattle.apages.specs.Index.{group_bytes}
use Rattle.card.specs.Plan.{Plan, guard, ended, go_ahead, refused, done, Changed}

-- "transaction block: words C (crash count), S, T, D; the rest 0"
unfoldable pub block_bytes : ℕ → Geo → List ℕ
block_bytes C g = word_bytes C ++ word_bytes g.s ++ word_bytes g.t ++ word_bytes g.d ++ replicate 496 0

-- group p of a fresh index: the words 0, 0 and the two sectors of its pair
unfoldable pub fresh_group : Geo → ℕ → Index
fresh_group g p =
    record {
      stamp = record { cc = record { 0 = 0 }; txc = record { 0 = 0 } };
      a = record { 0 = pair_low g p };
      b = record { 0 = pair_high g p };
    }

-- n groups from p on
unfoldable pub fresh_groups : Geo → ℕ → ℕ → List ℕ
fresh_groups g p zero = []
fresh_groups g p (suc n) = group_bytes (fresh_group g p) ++ fresh_groups g (suc p) n

-- "the index holds P groups", and "the rest 0"
unfoldable pub fresh_index : Geo → List ℕ
fresh_index g = pad 512 (fresh_groups g 0 (g_p g))

-- both pages of n pairs from p on, "showing the data free"
unfoldable pub fresh_pages : Geo → ℕ → ℕ → List ℕ → List ℕ
fresh_pages g p zero img = img
fresh_pages g p (suc n) img = fresh_pages g (suc p) n (set_sec (set_sec img (pair_low g p) (fresh_page g p)) (pair_high g p) (fresh_page g p))

-- "C = 0, table 0, index .., both apages showing the data free, directory and data zero"
unfoldable pub fresh_card : Geo → List ℕ
fresh_card g = fresh_pages g 0 (g_p g) (set_sec (set_sec (replicate (512 * g.s) 0) 0 (block_bytes 0 g)) (g.t + 1) (fresh_index g))

-- "make 1"
unfoldable pub make_plan : Geo → List ℕ → Plan
make_plan g card = guard 1 (geo_ok g && eqb (length card) (512 * g.s)) go_ahead

unfoldable pub make : Geo → List ℕ → Changed
make g card =
    ended (make_plan g card) (λ k. record { answer = refused k; image = card }) (λ j a. record { answer = done 0; image = fresh_card g })
