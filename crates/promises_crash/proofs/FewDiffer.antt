-- In every history the sectors that differ are few: what the changes marked, the index where they marked a pair, and of each marked pair the page that the cut view does
-- not show. Assumes nothing.
use mathlib.Core.Path.{◌≡◌, refl, sym, ◌∙◌}
use mathlib.Core.Bool.{Bool, true, false}
use mathlib.Core.List.{List}
use Prim.Native.Nat.{ℕ, zero, suc, ◌+◌, ◌-◌, ◌/◌, ◌≤◌, ◌<◌}
use native.Mathlib.Omega.{arith}
use native.Mathlib.Decide.{ℕ_discrete, dec_lt}
use Rattle.words.specs.Lists.{eq_list}
use Rattle.words.proofs.EveryMore.{eq_list-refl}
use Rattle.words_sums.specs.Sums.{bit, total, in_run}
use Rattle.words_sums.proofs.SumLaws.{total-le, total-add, total-zero}
use Rattle.sectors.specs.Sectors.{sec, differs, unlike}
use Rattle.counts.specs.declared.Geo.{Geo}
use Rattle.counts.specs.Geometry.{g_p, g_dir, table_of, first_page, pair_low, pair_high}
use Rattle.counts.proofs.TableLaws.{dir-is}
use Rattle.apages.specs.Index.{group_of, index_in, shown_page}
use Rattle.apages.proofs.PassLaws.{shown-range, index-inv}
use Rattle.card.proofs.SoundLaws.{sound-view}
use Rattle.session.specs.declared.Opened.{Opened}
use Rattle.promises_answers.specs.PlainList.{Item}
use Rattle.promises_crash.specs.History.{Pending}
use Rattle.promises_crash.proofs.Play.{top-mem}
use Rattle.promises_crash.proofs.State.{Live}
use Rattle.promises_crash.proofs.Run.Steps.{work-keeps}
use Rattle.promises_crash.specs.Fewer.{differs_at, differing, Marks, counted, some_of}
use Rattle.promises_crash.proofs.FewerProved.{at_low, at-past}
use Rattle.promises_crash.proofs.Touched.{OneValue, Unmarked, neither}
use Rattle.promises_crash.proofs.MarksFew.{run-few, run-here}

-- ---- a sector that does not differ

differs_none : (card work : List ℕ) (i : ℕ) → sec card i ≡ sec work i → differs card work i ≡ 0
unfolding differs
differs_none card work i e = rw (e, eq_list-refl (sec work i))

differs-one : (card work : List ℕ) (i : ℕ) → differs card work i ≤ 1
unfolding differs
differs-one card work i = go (eq_list (sec card i) (sec work i))
  where
    go : (b : Bool) → unlike b ≤ 1
    go true = omega arith
    go false = omega arith

-- ---- one sector of each marked pair below n

each : (ℕ → ℕ) → (ℕ → Bool) → ℕ → ℕ → ℕ
each o f zero i = 0
each o f (suc q) i = each o f q i + in_run (o q) (bit (f q)) i

each-few : (o : ℕ → ℕ) (f : ℕ → Bool) (n S : ℕ) → total (each o f n) S ≤ counted f n
unfolding each counted total
each-few o f zero S = omega (arith, total-zero S)
each-few o f (suc q) S =
    let x = total-add (each o f q) (in_run (o q) (bit (f q))) (λ i. each o f q i + in_run (o q) (bit (f q)) i) S (λ i l. refl) in
    let y : total (each o f q) S ≤ total (λ i. bit (f i)) q = (unfold counted in each-few o f q S) in
    omega (arith, run-few (o q) (bit (f q)) S)

each-here : (o : ℕ → ℕ) (f : ℕ → Bool) (n q : ℕ) → q < n → f q ≡ true → 1 ≤ each o f n (o q)
unfolding each
each-here o f zero q h e = absurd (omega arith)
each-here o f (suc n) q h e = go (ℕ_discrete q n) (λ l. each-here o f n q l e)
  where
    go : Dec (q ≡ n) → (q < n → 1 ≤ each o f n (o q)) → 1 ≤ each o f n (o q) + in_run (o n) (bit (f n)) (o q)
    go (yes z) i = let t : f n ≡ true = rw z at e in rw (z, t) (omega (arith, run-here (o n)))
    go (no z) i = let l : q < n = omega arith in omega (arith, i l)

-- none is marked
some-none : (f : ℕ → Bool) (n : ℕ) → some_of f n ≡ false → (q : ℕ) → q < n → f q ≡ false
unfolding some_of
some-none f zero h q l = absurd (omega arith)
some-none f (suc n) h q l = let (x, y) = neither (some_of f n) (f n) h in go y (ℕ_discrete q n) (λ k. some-none f n x q k)
  where
    go : f n ≡ false → Dec (q ≡ n) → (q < n → f q ≡ false) → f q ≡ false
    go y (yes e) i = rw e y
    go y (no o) i = i (omega arith)

-- ---- a live session

module _ (s : Opened) (card work : List ℕ) (p : Pending) (m : List Item) (V₀ : Live s card work p m) (M : Marks) (T : Unmarked s p M) where
  abbrev g : Geo
  g = s.geo

  -- the page of pair q that the cut view shows, and the other one
  shows : ℕ → ℕ
  shows q = shown_page (table_of g (sec V₀.img₀)) (group_of (index_in g (sec V₀.img₀)) q)

  other : ℕ → ℕ
  other q = (pair_low g q) + (pair_high g q) - shows q

  shows-range : (q : ℕ) → q < g_p g → (pair_low g q ≤ shows q) × (shows q ≤ pair_high g q)
  unfolding shows
  shows-range q l =
      shown-range g q _ _ ((index-inv g _ _ _ (sound-view g (sec V₀.img₀) V₀.base.good).index).groups q l).pair

  equal : (i : ℕ) → OneValue (p i) → differs card work i ≡ 0
  equal i o = differs_none card work i (o (sec card i) (sec work i) (V₀.may i) (top-mem (p i) (V₀.top i)))

  -- a sector that the cut view fixes
  head-same : (i : ℕ) → i ≤ g.t → differs card work i ≡ 0
  head-same i h = differs_none card work i ((V₀.keeps i (sec card i) (V₀.may i)).fixed h ∙ sym ((work-keeps s card work p m V₀ i).fixed h))

  page-same : (q : ℕ) → q < g_p g → differs card work (shows q) ≡ 0
  unfolding shows
  page-same q l =
      let i = shown_page (table_of g (sec V₀.img₀)) (group_of (index_in g (sec V₀.img₀)) q) in
      differs_none card work i ((V₀.keeps i (sec card i) (V₀.may i)).page q l refl ∙ sym ((work-keeps s card work p m V₀ i).page q l refl))

  -- what a sector that differs may be
  bound_at : ℕ → ℕ
  bound_at i = bit (M.sectors i) + in_run (g.t + 1) (bit (some_of M.pages (g_p g))) i + each other M.pages (g_p g) i

  paged : (i : ℕ) → first_page g ≤ i → i < g_dir g → differs card work i ≤ each other M.pages (g_p g) i
  paged i lo hi = go (M.pages q) refl (ℕ_discrete i (shows q)) (ℕ_discrete i (pair_low g q))
    where
      q : ℕ
      q = (i - (first_page g)) / 2

      l : q < g_p g
      l = omega (arith, dir-is g)

      go : (b : Bool) → M.pages q ≡ b → Dec (i ≡ shows q) → Dec (i ≡ pair_low g q) → differs card work i ≤ each other M.pages (g_p g) i
      go false z d₁ (yes e) = let k : differs card work i ≡ 0 = rw e (equal _ (T.page q l z).0) in omega arith
      go false z d₁ (no e) = let f : i ≡ pair_high g q = omega arith in let k : differs card work i ≡ 0 = rw f (equal _ (T.page q l z).1) in omega arith
      go true z (yes e) d₂ = let k : differs card work i ≡ 0 = rw e (page-same q l) in omega arith
      go true z (no o) d₂ =
          let r = shows-range q l in
          let e : other q ≡ i = (unfold other in omega (arith, r.0, r.1)) in
          let h : 1 ≤ each other M.pages (g_p g) i = rw e at (each-here other M.pages (g_p g) q l z) in
          omega (arith, differs-one card work i)

  at-index : differs card work (g.t + 1) ≤ in_run (g.t + 1) (bit (some_of M.pages (g_p g))) (g.t + 1)
  at-index = go (some_of M.pages (g_p g)) refl
    where
      go : (b : Bool) → some_of M.pages (g_p g) ≡ b → differs card work (g.t + 1) ≤ in_run (g.t + 1) (bit b) (g.t + 1)
      go true z = omega (arith, run-here (g.t + 1), differs-one card work (g.t + 1))
      go false z = let k = equal (g.t + 1) (T.index (some-none M.pages (g_p g) z)) in omega arith

  at_rest : (i : ℕ) → g_dir g ≤ i → differs card work i ≤ bit (M.sectors i)
  at_rest i lo = go (M.sectors i) refl
    where
      go : (b : Bool) → M.sectors i ≡ b → differs card work i ≤ bit b
      go true z = differs-one card work i
      go false z = let k = equal i (T.sector i lo z) in omega arith

  past-at : (i : ℕ) → g.t < i → differs card work i ≤ bound_at i
  unfolding bound_at
  past-at i h = go (ℕ_discrete i (g.t + 1)) (dec_lt i (g_dir g))
    where
      go : Dec (i ≡ g.t + 1) → Dec (i < g_dir g) → differs card work i ≤ bit (M.sectors i) + in_run (g.t + 1) (bit (some_of M.pages (g_p g))) i + each other M.pages (g_p g) i
      go (yes e) d₁ = rw e (omega (arith, at-index))
      go (no e) (yes l) = let k = paged i (omega arith) l in omega arith
      go (no e) (no l) = let k = at_rest i (omega arith) in omega arith

  at_each : (i : ℕ) → Dec (g.t < i) → differs_at g card work i ≤ bound_at i
  at_each i (yes h) = rw (at-past g card work i h) (past-at i h)
  at_each i (no h) = let e : differs_at g card work i ≡ 0 = at_low g card work i (omega arith) (head-same 0 (omega arith)) in omega arith

  bound-total : (S : ℕ) → total bound_at S ≤ counted M.sectors S + counted M.pages (g_p g) + bit (some_of M.pages (g_p g))
  unfolding bound_at
  bound-total S =
      let some = bit (some_of M.pages (g_p g)) in
      let x = total-add (λ i. bit (M.sectors i)) (in_run (g.t + 1) some) (λ i. bit (M.sectors i) + in_run (g.t + 1) some i) S (λ i l. refl) in
      let y = total-add (λ i. bit (M.sectors i) + in_run (g.t + 1) some i) (each other M.pages (g_p g)) (λ i. bit (M.sectors i) + in_run (g.t + 1) some i + each other M.pages (g_p g) i) S (λ i l. refl) in
      let z : counted M.sectors S ≡ total (λ i. bit (M.sectors i)) S = (unfold counted in refl) in
      omega (arith, run-few (g.t + 1) some S, each-few other M.pages (g_p g) S)

  pub few-differ : differing g card work ≤ counted M.sectors g.s + counted M.pages (g_p g) + bit (some_of M.pages (g_p g))
  unfolding differing
  few-differ = let h = total-le (differs_at g card work) bound_at g.s (λ i l. at_each i (dec_lt g.t i)) in omega (arith, bound-total g.s)
