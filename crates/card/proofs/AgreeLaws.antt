-- Cards that agree but for one sector before the index: what follows for views and soundness; the count one up. Assumes nothing.
use mathlib.Core.Path.{◌≡◌, refl}
use mathlib.Core.Bool.{true, not, ◌&&◌, ◌||◌}
use mathlib.Core.List.{List, [], ◌∷◌}
use mathlib.Core.Logic.{◌≢◌}
use Prim.Native.Nat.{ℕ, ◌+◌, ◌≤◌, ◌<◌}
use native.Mathlib.Omega.{arith}
use lib.ListN.{drop}
use Rattle.words.specs.Lists.{every, pairwise, is_zero, eq_list}
use Rattle.words.proofs.BoolLaws.{both, join}
use Rattle.words.proofs.EveryMore.{every-weaker}
use Rattle.sectors.specs.Sectors.{Cells}
use Rattle.counts.specs.declared.Geo.{Geo}
use Rattle.counts.specs.Geometry.{g_n, count_of, table_of}
use Rattle.counts.specs.Stamps.{stamp_of, table_ok}
use Rattle.counts.proofs.TableLaws.{past_index}
use Rattle.counts.proofs.GeoLaws.{table_same, dead-mono, table-inv, table-next}
use Rattle.entries.specs.declared.Version.{Version}
use Rattle.entries.specs.declared.Version.TheVariants.{Absent, Present}
use Rattle.entries.specs.Entries.{shown, is_absent, name_of, entry_ok}
use Rattle.entries.proofs.PassLaws.{passes, passes-intro}
use Rattle.directory.specs.Directory.{entries_of, gone, apart}
use Rattle.directory.proofs.SpotLaws.{entries-same}
use Rattle.apages.specs.Index.{group_of, index_in, shown_page, page_at, page_in}
use Rattle.apages.proofs.MapLaws.{map_same}
use Rattle.apages.proofs.PassLaws.{index-inv, index-intro}
use Rattle.card.specs.Reading.{files_in}
use Rattle.card.specs.Sound.{view_ok, sound_in}
use Rattle.card.proofs.SoundLaws.{View, view-inv, view-intro, view-page, sound-inv, sound-intro}

-- ---- a higher bound for dead stamps

entry-mono : (g : Geo) (b b' : ℕ) (tab p : List ℕ) → b ≤ b' → entry_ok g b tab p ≡ true → entry_ok g b' tab p ≡ true
entry-mono g b b' tab p l h =
    let P = passes g b tab p h in
    passes-intro g b' tab p (record { stamp = P.stamp; dead = dead-mono b b' tab (stamp_of p) l P.dead; zeros = P.zeros; wf = P.wf; name = P.name })

pub view-mono : (g : Geo) (b b' : ℕ) (tab : List ℕ) (k : Cells) → b ≤ b' → view_ok g b tab k ≡ true → view_ok g b' tab k ≡ true
view-mono g b b' tab k l h =
    let w = view-inv g b tab k h in
    let x = index-inv g b tab (index_in g k) w.index in
    view-intro g b' tab k
    (record {
      index = index-intro g b' tab (index_in g k) (record { groups = λ p h. let y = x.groups p h in record { stamp = y.stamp; dead = dead-mono b b' tab (stamp_of (group_of (index_in g k) p)) l y.dead; pair = y.pair }; zeros = x.zeros });
      entries = every-weaker (entry_ok g b tab) (entry_ok g b' tab) (entries_of g k) (λ p q. entry-mono g b b' tab p l q) w.entries;
      page = w.page;
    })

-- ---- names that do not clash in two views do not in the first

apart-first : (tp tc p q : List ℕ) → apart tp tc p q ≡ true → apart tp tp p q ≡ true
unfolding apart gone
apart-first tp tc p q h = go (shown tp p) (shown tc p) (shown tp q) (shown tc q) h
  where
    go : (a b c d : Version) → (is_absent a && is_absent b || is_absent c && is_absent d || not (eq_list (name_of p) (name_of q))) ≡ true
        → (is_absent a && is_absent a || is_absent c && is_absent c || not (eq_list (name_of p) (name_of q))) ≡ true
    go Absent b c d h = refl
    go (Present a) b Absent d h = refl
    go (Present a) b (Present c) d h = h

pub alone-first : (tp tc : List ℕ) (ps : List (List ℕ)) → pairwise (apart tp tc) ps ≡ true → pairwise (apart tp tp) ps ≡ true
unfolding pairwise
alone-first tp tc [] h = refl
alone-first tp tc (p ∷ ps) h =
    let (a, b) = both (every (apart tp tc p) ps) (pairwise (apart tp tc) ps) h in
    join _ _ (every-weaker (apart tp tc p) (apart tp tp p) ps (λ q e. apart-first tp tc p q e) a) (alone-first tp tc ps b)

-- ---- one sector x before the index differs

module _ (g : Geo) (k k' : Cells) (x : ℕ) (low : x ≤ g.t) (other : (i : ℕ) → i ≢ x → k' i ≡ k i) where
  pub entries-agree : entries_of g k' ≡ entries_of g k
  entries-agree = entries-same g k k' (λ i lo hi. other i (omega (arith, past_index g)))

  pub index-agree : index_in g k' ≡ index_in g k
  unfolding index_in
  index-agree = other (g.t + 1) (omega arith)

  pub page-agree : (bound : ℕ) (tab : List ℕ) → View g bound tab k → page_in g tab k' ≡ page_in g tab k
  page-agree bound tab w =
      map_same g tab tab k k'
      (λ p l. (unfold page_at in rw index-agree (other (shown_page tab (group_of (index_in g k) p)) (λ e. omega (arith, (view-page g bound tab k w p l).0)))))

  pub view-agree : (bound : ℕ) (tab : List ℕ) → view_ok g bound tab k ≡ true → view_ok g bound tab k' ≡ true
  view-agree bound tab h =
      let w = view-inv g bound tab k h in
      view-intro g bound tab k'
      (record { index = rw index-agree w.index; entries = rw entries-agree w.entries; page = rw (entries-agree, page-agree bound tab w) w.page })

  pub sound-agree : (tab : List ℕ) → table_of g k' ≡ tab → count_of k' ≤ g_n g → every is_zero (drop 16 (k' 0)) ≡ true → table_ok g (count_of k') tab ≡ true
      → view_ok g (count_of k') tab k ≡ true → pairwise (apart tab tab) (entries_of g k) ≡ true → sound_in g k' ≡ true
  sound-agree tab e h₁ h₂ h₃ h₄ h₅ =
      sound-intro g k' (record { small = h₁; tail = h₂; tab = rw e h₃; view = rw e (view-agree (count_of k') tab h₄); alone = rw (e, entries-agree) h₅ })

-- ---- the count grows by one, and nothing else changes

pub record Bump (k k' : Cells) : Type 0 where
  pub count : count_of k' ≡ count_of k + 1
  pub tail : drop 16 (k' 0) ≡ drop 16 (k 0)
  pub other : (i : ℕ) → i ≢ 0 → k' i ≡ k i

module _ (g : Geo) (k k' : Cells) (B : Bump k k') where
  pub bump-table : table_of g k' ≡ table_of g k
  bump-table = table_same g k k' (λ i lo hi. B.other i (omega arith))

  pub bump-files : files_in g k' ≡ files_in g k
  unfolding files_in
  bump-files = rw (bump-table, entries-agree g k k' 0 (omega arith) B.other)

  pub bump-sound : count_of k < g_n g → sound_in g k ≡ true → sound_in g k' ≡ true
  bump-sound small good =
      let s = sound-inv g k good in
      let t = table-inv g (count_of k) (table_of g k) s.tab in
      let e = B.count in
      sound-agree g k k' 0 (omega arith) B.other (table_of g k) bump-table (omega arith) (rw B.tail s.tail)
      (rw e (table-next g (count_of k) (table_of g k) t.max t.past)) (view-mono g (count_of k) (count_of k') (table_of g k) k (omega arith) s.view) s.alone
