-- The search over the pages of an image that has its pairs, as code goes through them. Assumes nothing.
use Rattle.std.specs.Prelude.{Option, Some, None}
use mathlib.Core.Path.{◌≡◌, refl, sym, ◌∙◌}
use mathlib.Core.List.{List}
use Prim.Native.Nat.{ℕ, suc, ◌+◌, ◌-◌, ◌*◌, ◌/◌, ◌%◌, ◌≤◌, ◌<◌, min}
use native.Mathlib.Numerals.{add-one}
use native.Mathlib.Omega.{arith}
use Rattle.words.specs.Lists.{or_else}
use Rattle.sectors.specs.Sectors.{sec}
use Rattle.counts.specs.declared.Geo.{Geo}
use Rattle.counts.specs.Geometry.{g_p}
use Rattle.counts.specs.Inner.{LaidOut}
use Rattle.apages.specs.Runs.{run_after, lowest_run, goal_run}
use Rattle.apages.specs.Index.{page_at, page_in}
use Rattle.apages.specs.Inner.{PairIn, run_from, run_within, further}
use Rattle.apages.proofs.LowestLaws.{within_all}
use Rattle.apages.proofs.MapLaws.{Wide}
use Rattle.apages.proofs.PageSearch.{pages-wide, run_end, run-turn, after_turn, below-goal}

-- what was found in one page, as a sector of the card
pub further-at : (d a : ℕ) {h o : Option ℕ} → h ≡ o → h ≡ Some a → Some (d + a) ≡ further d o
unfolding further
further-at d a e f = rw (← e, f)

pub further-none : (d : ℕ) {h o : Option ℕ} → h ≡ o → h ≡ None → None ≡ further d o
unfolding further
further-none d e f = rw (← e, f)

-- with a goal: what was found at or after it, else the lowest
pub goal-after : (k goal a : ℕ) (p q : List ℕ) {r : Option ℕ} → r ≡ run_after k goal p q → r ≡ Some a → Some a ≡ goal_run k goal p q
unfolding goal_run
goal-after k goal a p q er ea = rw (← er, ea) (unfold or_else in refl)

pub goal-below : (k goal : ℕ) (p q : List ℕ) {r o : Option ℕ} → r ≡ run_after k goal p q → r ≡ None → o ≡ lowest_run k p q → o ≡ goal_run k goal p q
unfolding goal_run
goal-below k goal p q er en eo = eo ∙ rw (← er, en) (unfold or_else in refl)

module _ (g : Geo) (tp tc img : List ℕ) (c : ℕ) (laid : LaidOut g img) (pairs : PairIn g img) (some : 0 < c) where
  wide : (tab : List ℕ) → Wide g tab (sec img)
  wide = pages-wide g img laid pairs

  -- a search with no end but the page's
  whole : (p j : ℕ) → p < g_p g → run_within c j 4096 (page_at g tp (sec img) p) (page_at g tc (sec img) p) ≡ run_after c j (page_at g tp (sec img) p) (page_at g tc (sec img) p)
  whole p j l = within_all c (page_at g tp (sec img) p) (page_at g tc (sec img) p) some (wide tp p l ∙ sym (wide tc p l)) j 4096 (omega (arith, wide tp p l))

  -- ---- a loop over pages: what is found in those that are left

  pub search-end : (p e : ℕ) {r : Option ℕ} → e ≤ p → r ≡ run_from g tp tc (sec img) c p (e - p) → None ≡ r
  search-end p e l er = let z : e - p ≡ 0 = omega arith in sym (er ∙ rw z (run_end g tp tc (sec img) c (wide tp) (wide tc) p))

  module _ (p e : ℕ) (b : p < e) (l : e ≤ g_p g) {h r : Option ℕ} (eh : h ≡ further (4096 * p) (run_within c 0 4096 (page_at g tp (sec img) p) (page_at g tc (sec img) p)))
      (er : r ≡ run_from g tp tc (sec img) c p (e - p)) where
    turn : r ≡ or_else h (run_from g tp tc (sec img) c (p + 1) (e - (p + 1)))
    turn =
        let z : e - p ≡ suc (e - (p + 1)) = omega arith in
        er ∙ rw (z, eh, whole p 0 (omega arith), add-one) (run-turn g tp tc (sec img) c (wide tp) (wide tc) p (e - suc p) (omega arith))

    pub search-go : h ≡ None → r ≡ run_from g tp tc (sec img) c (p + 1) (e - (p + 1))
    search-go en = turn ∙ (unfold or_else in rw en)

    pub search-found : (a : ℕ) → h ≡ Some a → Some a ≡ r
    search-found a ea = sym (turn ∙ (unfold or_else in rw ea))

  -- ---- a goal
  module _ (goal : ℕ) (low : goal < 4096 * g_p g) where
    -- at or after it: the goal's page from the goal on, then the later pages
    module _ {h : Option ℕ} (eh : h ≡ further (4096 * (goal / 4096)) (run_within c (goal % 4096) 4096 (page_at g tp (sec img) (goal / 4096)) (page_at g tc (sec img) (goal / 4096)))) where
      at-goal : run_after c goal (page_in g tp (sec img)) (page_in g tc (sec img)) ≡ or_else h (run_from g tp tc (sec img) c (goal / 4096 + 1) (g_p g - (goal / 4096 + 1)))
      at-goal =
          rw (eh, whole (goal / 4096) (goal % 4096) (omega arith), add-one) (after_turn g tp tc (sec img) c (wide tp) (wide tc) goal (g_p g - suc (goal / 4096)) (omega arith))

      pub after-here : (a : ℕ) → h ≡ Some a → Some a ≡ run_after c goal (page_in g tp (sec img)) (page_in g tc (sec img))
      after-here a ea = sym (at-goal ∙ (unfold or_else in rw ea))

      pub after-later : {m : ℕ} {r : Option ℕ} → h ≡ None → m ≡ g_p g → r ≡ run_from g tp tc (sec img) c (goal / 4096 + 1) (m - (goal / 4096 + 1))
          → r ≡ run_after c goal (page_in g tp (sec img)) (page_in g tc (sec img))
      after-later en em er = er ∙ rw em (sym (at-goal ∙ (unfold or_else in rw en)))

    -- below it: the pages before the goal's, then what a run from below the goal can reach of its page
    module _ (none : run_after c goal (page_in g tp (sec img)) (page_in g tc (sec img)) ≡ None) {h : Option ℕ} (eh : h ≡ run_from g tp tc (sec img) c 0 (goal / 4096 - 0)) where
      below : lowest_run c (page_in g tp (sec img)) (page_in g tc (sec img))
          ≡ or_else h (further (4096 * (goal / 4096)) (run_within c 0 (min (goal % 4096 + c - 1) 4096) (page_at g tp (sec img) (goal / 4096)) (page_at g tc (sec img) (goal / 4096))))
      below =
          let z : goal / 4096 - 0 ≡ goal / 4096 = omega arith in
          rw (eh, z) (below-goal g tp tc (sec img) c (wide tp) (wide tc) goal low some none)

      pub below-before : (a : ℕ) → h ≡ Some a → Some a ≡ lowest_run c (page_in g tp (sec img)) (page_in g tc (sec img))
      below-before a ea = sym (below ∙ (unfold or_else in rw ea))

      pub below-page : {e : ℕ} {r : Option ℕ} → h ≡ None → e ≡ min (goal % 4096 + c - 1) 4096
          → r ≡ further (4096 * (goal / 4096)) (run_within c 0 e (page_at g tp (sec img) (goal / 4096)) (page_at g tc (sec img) (goal / 4096)))
          → r ≡ lowest_run c (page_in g tp (sec img)) (page_in g tc (sec img))
      below-page en ee er = er ∙ rw ee (sym (below ∙ (unfold or_else in rw en)))
