-- Put and remove, sector by sector: nothing, a loose sector, an entry, or the index. Assumes nothing.
use mathlib.Core.Path.{◌≡◌, refl, sym, ◌∙◌, subst}
use mathlib.Core.List.{List}
use Prim.Native.Nat.{ℕ, ◌+◌, ◌-◌, ◌/◌, ◌≤◌, ◌<◌}
use native.Mathlib.Omega.{arith}
use native.Mathlib.Decide.{ℕ_discrete, dec_lt}
use Rattle.sectors.specs.Sectors.{Cells, sec}
use Rattle.counts.specs.declared.Geo.{Geo}
use Rattle.counts.specs.Geometry.{g_p, g_f, g_dir, table_of, first_page}
use Rattle.counts.proofs.TableLaws.{past_index, dir-data, dir-is}
use Rattle.entries.specs.declared.Version.{Version}
use Rattle.directory.specs.Directory.{spot_of}
use Rattle.apages.specs.Index.{group_of, index_in, shown_page}
use Rattle.apages.proofs.PassLaws.{shown-range}
use Rattle.card.proofs.FileLaws.{Holds}
use Rattle.card.specs.Reading.{files_in}
use Rattle.session.specs.declared.Opened.{Opened}
use Rattle.store.specs.Edit.{edit_work}
use Rattle.promises_answers.proofs.Keep.{EntrySame}
use Rattle.promises_answers.proofs.Edit.{Wrote, stays, loose, entry, index, step_same}
use Rattle.promises_answers.proofs.Ready.{own_of, tc_of, entry_at, entry_for, index_at, lim, hc, hw, paired, Ready, spot_is, in_cut, stamps}
use Rattle.promises_answers.proofs.Change.{page-low, page-kept, low, high, index_same, entry-put, left_alone}

-- k₀ is read at a cut as the working image is
module _ (s : Opened) (j a k : ℕ) (v : Version) (work n d : List ℕ) (k₀ : Cells) (R : Ready s j a k v work n d k₀) (tab≡ : table_of s.geo k₀ ≡ tc_of s work)
    (shown≡ : (p : ℕ) → p < g_p s.geo → shown_page (tc_of s work) (group_of (index_in s.geo k₀) p) ≡ shown_page (tc_of s work) (group_of (index_at s work) p))
    (in_data : (i : ℕ) → Holds (files_in s.geo k₀) i → g_f s.geo ≤ i) where
  abbrev g : Geo
  g = s.geo

  step : (p₀ : List ℕ) → EntrySame g (tc_of s work) (own_of s) p₀ (entry_at s j work) → EntrySame g (tc_of s work) (own_of s) p₀ (entry_for s j v work n)
  step =
      step_same g (lim s work R.fit R.live) (tc_of s work) (own_of s) (hc s work R.fit R.live) (hw s work R.fit R.live) R.fit.count R.fit.tx
      (entry_at s j work) n v (stamps s j a k v work n d k₀ R) (in_cut s j a k v work n d k₀ R).wf R.short R.good R.named (in_cut s j a k v work n d k₀ R).zeros

  -- which pair a page is of
  pair_of : (i : ℕ) → first_page g ≤ i → i < g_dir g → (i - (first_page g)) / 2 < g_p g
  pair_of i lo hi = omega (arith, dir-is g)

  one-pair : (i p : ℕ) → p < g_p g → i ≡ shown_page (tc_of s work) (group_of (index_at s work) p) → p ≡ (i - (first_page g)) / 2
  one-pair i p l e =
      let r = shown-range g p (tc_of s work) (group_of (index_at s work) p) ((paired s work R.fit R.live).pair p l) in
      omega (arith, r.0, r.1)

  page-wrote : (i : ℕ) → first_page g ≤ i → i < g_dir g → Dec (i ≡ shown_page (tc_of s work) (group_of (index_at s work) ((i - (first_page g)) / 2))) → Wrote g (own_of s) k₀ (sec work) (sec (edit_work s j v work n d)) i
  page-wrote i lo hi (yes e) = stays (rw e (page-kept s j a k v work n d k₀ R ((i - (first_page g)) / 2) (pair_of i lo hi)))
  page-wrote i lo hi (no o) =
      loose
      (record {
        past = omega arith;
        page = (rw tab≡ (λ p l e.
            let f : i ≡ shown_page (tc_of s work) (group_of (index_at s work) p) = e ∙ shown≡ p l in
            let q : p ≡ (i - (first_page g)) / 2 = one-pair i p l f in
            o (rw q at f)));
        dir = λ q. omega (arith, q.0);
        held = λ h. omega (arith, in_data i h, dir-data g);
      })

  run-wrote : (i : ℕ) → a ≤ i → i < a + k → Wrote g (own_of s) k₀ (sec work) (sec (edit_work s j v work n d)) i
  run-wrote i lo hi =
      let f = R.inside i lo hi in
      loose
      (record {
        past = omega (arith, past_index g, dir-data g);
        page = (rw tab≡ (λ p l e. omega (arith, e, shown≡ p l, (page-low s j a k v work n d k₀ R (tc_of s work) p l).1, dir-data g)));
        dir = λ q. omega (arith, q.1);
        held = R.clear i lo hi;
      })

  entry-wrote : Wrote g (own_of s) k₀ (sec work) (sec (edit_work s j v work n d)) (spot_of g j).sector
  entry-wrote =
      entry
      (record {
        low = low s j a k v work n d k₀ R;
        high = high s j a k v work n d k₀ R;
        r = (spot_of g j).slot;
        entry = entry_for s j v work n;
        entries = entry-put s j a k v work n d k₀ R;
        step = (rw tab≡ (λ p₀ q. step p₀ (subst (λ (x : List ℕ). EntrySame g (tc_of s work) (own_of s) p₀ x) (sym (spot_is s j a k v work n d k₀ R)) q)));
      })

  index-wrote : Wrote g (own_of s) k₀ (sec work) (sec (edit_work s j v work n d)) (g.t + 1)
  index-wrote = index refl (rw tab≡ (unfold index_in in index_same s j a k v work n d k₀ R))

  pub wrote : (i : ℕ) → Wrote g (own_of s) k₀ (sec work) (sec (edit_work s j v work n d)) i
  wrote i = go (ℕ_discrete i (spot_of g j).sector) (ℕ_discrete i (g.t + 1)) (dec_lt i (first_page g)) (dec_lt i (g_dir g)) (dec_lt i a) (dec_lt i (a + k))
    where
      go : Dec (i ≡ (spot_of g j).sector) → Dec (i ≡ g.t + 1) → Dec (i < first_page g) → Dec (i < g_dir g) → Dec (i < a) → Dec (i < a + k) → Wrote g (own_of s) k₀ (sec work) (sec (edit_work s j v work n d)) i
      go (yes e) d₁ d₂ d₃ d₄ d₅ = rw e entry-wrote
      go (no e) (yes f) d₂ d₃ d₄ d₅ = rw f index-wrote
      go (no e) (no f) (no x) (yes y) d₄ d₅ = page-wrote i (omega arith) y (ℕ_discrete i _)
      go (no e) (no f) (yes x) d₃ (no u) (yes w) = run-wrote i (omega arith) w
      go (no e) (no f) (yes x) d₃ (yes u) d₅ = stays (left_alone s j a k v work n d k₀ R i e f (λ q. omega (arith, q.0)) (λ q. omega (arith, q.0)))
      go (no e) (no f) (yes x) d₃ (no u) (no w) = stays (left_alone s j a k v work n d k₀ R i e f (λ q. omega (arith, q.0)) (λ q. w q.1))
      go (no e) (no f) (no x) (no y) (no u) (yes w) = run-wrote i (omega arith) w
      go (no e) (no f) (no x) (no y) (yes u) d₅ = stays (left_alone s j a k v work n d k₀ R i e f (λ q. y q.1) (λ q. omega (arith, q.0)))
      go (no e) (no f) (no x) (no y) (no u) (no w) = stays (left_alone s j a k v work n d k₀ R i e f (λ q. y q.1) (λ q. w q.1))
