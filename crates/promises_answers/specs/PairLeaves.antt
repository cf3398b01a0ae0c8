-- "Changing the bitmap", in a pair of pages in which put or remove changes a bit: the stamp, which page is A and which is B, and the page at B. (`pairs` of Untouched
-- says that every other pair stays to the byte, and its fields on bits say what the page at A holds.) Assumes nothing.
use Rattle.std.specs.Prelude.{◌≡◌, List, ◌≢◌, ℕ, ◌<◌}
use Rattle.words.specs.Bytes.{word_at}
use Rattle.sectors.specs.declared.Sector.{Sector}
use Rattle.sectors.specs.Sectors.{sec}
use Rattle.counts.specs.Geometry.{g_p}
use Rattle.counts.specs.Stamps.{stamp_of}
use Rattle.entries.specs.declared.Version.TheVariants.{Absent, Present}
use Rattle.apages.specs.Index.{group_of, index_in, shown_page}
use Rattle.card.specs.Plan.{do_it}
use Rattle.card.specs.Means.{Alive}
use Rattle.session.specs.declared.Opened.{Opened}
use Rattle.session.specs.Views.{own_stamp, present_table, cut_table}
use Rattle.store.specs.Edit.{put_plan, put_run, put_work, remove_plan, remove_work}
use Rattle.promises_answers.specs.Untouched.{Changes}

-- group q of an image's index, its A and its B
abbrev pub group : Opened → List ℕ → ℕ → List ℕ
group s img q = group_of (index_in s.geo (sec img)) q

abbrev pub A : List ℕ → ℕ
A x = word_at x 8

abbrev pub B : List ℕ → ℕ
B x = word_at x 12

pub record PairLeaves (s : Opened) (work after : List ℕ) (q : ℕ) : Type 0 where
  -- "and the stamp becomes (c, t)"
  pub stamp : stamp_of (group s after q) ≡ own_stamp s
  -- "If the index stamp is not (c, t): when alive, A and B trade places in the index"
  pub mine : stamp_of (group s work q) ≡ own_stamp s → (A (group s after q) ≡ A (group s work q)) × (B (group s after q) ≡ B (group s work q))
  pub trade : stamp_of (group s work q) ≢ own_stamp s → Alive (cut_table s (sec work)) (stamp_of (group s work q))
      → (A (group s after q) ≡ B (group s work q)) × (B (group s after q) ≡ A (group s work q))
  pub stay : ¬ Alive (cut_table s (sec work)) (stamp_of (group s work q)) → (A (group s after q) ≡ A (group s work q)) × (B (group s after q) ≡ B (group s work q))
  -- "Bits change in A": the present view shows A, and the page at B stays
  pub shows : shown_page (present_table s (sec work)) (group s after q) ≡ A (group s after q)
  pub kept : sec after (B (group s after q)) ≡ sec work (B (group s after q))

abbrev pub PutPairs : Type 0
PutPairs = (s : Opened) (work n d : List ℕ) (goal j : ℕ) (a : Sector) → put_plan s work n d goal ≡ do_it j a
    → (q : ℕ) → q < g_p s.geo → Changes s work j (Present (put_run a d)) q → PairLeaves s work (put_work s j a work n d) q

abbrev pub RemovePairs : Type 0
RemovePairs = (s : Opened) (work n : List ℕ) (j : ℕ) (a : Sector) → remove_plan s work n ≡ do_it j a
    → (q : ℕ) → q < g_p s.geo → Changes s work j Absent q → PairLeaves s work (remove_work s j work n) q
