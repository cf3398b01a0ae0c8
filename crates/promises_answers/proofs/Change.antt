-- Put and remove, on the bytes: what one change of an entry does to the sectors, the index and the maps. Assumes nothing.
use mathlib.Core.Path.{◌≡◌, refl, ap, ◌∙◌}
use mathlib.Core.List.{List}
use mathlib.Core.Logic.{◌⊎◌, ⊎_elim, ◌≢◌}
use Prim.Native.Nat.{ℕ, zero, suc, ◌+◌, ◌*◌, ◌/◌, ◌≤◌, ◌<◌}
use native.Mathlib.Omega.{arith}
use lib.ListN.{length, set}
use Rattle.counts.proofs.TableLaws.{past_index, dir-data}
use Rattle.sectors.specs.Sectors.{Cells, sec}
use Rattle.counts.specs.declared.Geo.{Geo}
use Rattle.counts.specs.Geometry.{g_p, g_f, g_dir, first_page, pair_low, pair_high}
use Rattle.counts.proofs.GeoLaws.{Limits}
use Rattle.counts.specs.Stamps.{stamp_of}
use Rattle.entries.specs.declared.Version.{Version}
use Rattle.directory.specs.Directory.{sector_entries, entries_of, spot_of, set_entry}
use Rattle.directory.proofs.SpotLaws.{entry_length, entry_other, entry_here, spot-here, dir-set}
use Rattle.apages.specs.Bits.{set_run}
use Rattle.apages.specs.Index.{group_of, index_in, shown_page, page_at, page_in, change_run, change_bits}
use Rattle.apages.proofs.PassLaws.{shown-before}
use Rattle.apages.proofs.MapLaws.{map_same}
use Rattle.apages.proofs.Remapped.{Paired, Remapped, cut-map}
use Rattle.apages.specs.Inner.{PairSame}
use Rattle.apages.proofs.Changing.{bits-changed}
use Rattle.card.specs.Files.{run_of, run_at}
use Rattle.session.specs.declared.Opened.{Opened}
use Rattle.session.specs.Views.{own_stamp}
use Rattle.session.proofs.FitLaws.{present-live}
use Rattle.store.specs.Edit.{put_content, edit_work}
use Rattle.store.proofs.EditLaws.{content-length, content-other}
use Rattle.apages.proofs.IndexViews.{IndexSame}
use Rattle.promises_answers.proofs.Ready.{own_of, tc_of, tp_of, entry_for, index_at, old_run, lim, hc, hw, paired, Ready, spot, in-card, old-room, old-page, wide}

module _ (s : Opened) (j a k : ℕ) (v : Version) (work n d : List ℕ) (k₀ : Cells) (R : Ready s j a k v work n d k₀) where
  abbrev g : Geo
  g = s.geo

  -- the working image with the content and the entry written
  two : List ℕ
  two = set_entry (spot_of g j) (entry_for s j v work n) (put_content (run_of v) d work)

  one-length : length (put_content (run_of v) d work) ≡ 512 * g.s
  one-length = content-length (run_of v) d work ∙ R.fit.sized

  one-other : (i : ℕ) → ¬ ((a ≤ i) × (i < a + k)) → sec (put_content (run_of v) d work) i ≡ sec work i
  one-other i o = content-other (run_of v) d work (rw R.is.1 R.enough) i (rw (R.is.0, R.is.1) o)

  in_one : 512 * (spot_of g j).sector + 512 ≤ length (put_content (run_of v) d work)
  in_one = omega (arith, one-length, in-card s j a k v work n d k₀ R)

  two-length : length two ≡ 512 * g.s
  unfolding two
  two-length = entry_length (spot_of g j) _ _ in_one (spot s j a k v work n d k₀ R).four (wide s j a k v work n d k₀ R) ∙ one-length

  two-other : (i : ℕ) → i ≢ (spot_of g j).sector → ¬ ((a ≤ i) × (i < a + k)) → sec two i ≡ sec work i
  unfolding two
  two-other i x o =
      entry_other (spot_of g j) _ _ in_one (spot s j a k v work n d k₀ R).four (wide s j a k v work n d k₀ R) i x ∙ one-other i o

  -- a sector before the directory is as it was
  two-low : (i : ℕ) → i < g_dir g → sec two i ≡ sec work i
  two-low i h = two-other i (omega (arith, low-spot)) (λ q. omega (arith, R.inside i q.0 q.1, dir-data g))
    where
      low-spot : g_dir g ≤ (spot_of g j).sector
      low-spot = (spot s j a k v work n d k₀ R).low

  abbrev pub new_work : List ℕ
  new_work = edit_work s j v work n d

  edit-open : new_work ≡ change_bits g (tp_of s work) (own_of s) (run_of v) (old_run s j work) two
  unfolding edit_work run_at own_stamp two
  edit-open = rw (present-live s (sec work) R.live)

  -- the index and the maps that the change of the bitmap finds are those of the working image
  index-two : index_in g (sec two) ≡ index_at s work
  unfolding index_in
  index-two = two-low (g.t + 1) (omega (arith, past_index g))

  L : Limits g
  L = lim s work R.fit R.live

  pub page-low : (tab : List ℕ) (p : ℕ) → p < g_p g → (first_page g ≤ shown_page tab (group_of (index_at s work) p)) × (shown_page tab (group_of (index_at s work) p) < g_dir g)
  page-low tab p l = shown-before g p tab (group_of (index_at s work) p) l ((paired s work R.fit R.live).pair p l)

  map-two : (tab : List ℕ) → page_in g tab (sec two) ≡ page_in g tab (sec work)
  map-two tab = map_same g tab tab (sec work) (sec two) (λ p l. (unfold page_at in rw index-two (two-low (shown_page tab (group_of (index_at s work) p)) (page-low tab p l).1)))

  paired-two : Paired g (own_of s) two
  paired-two =
      let Q = paired s work R.fit R.live in
      record { sized = two-length; pair = λ p l. (rw index-two (Q.pair p l)); stamps = λ p l. (rw index-two (Q.stamps p l)) }

  abbrev b : ℕ
  b = (old_run s j work).start.0

  abbrev m : ℕ
  m = (old_run s j work).sectors

  -- what the change of the bitmap does
  remapped : Remapped g (tc_of s work) (own_of s) (λ p. set_run (set_run p a k 1) b m 0) (λ q. ((0 < k) × (q ≡ a / 4096)) ⊎ ((0 < m) × (q ≡ b / 4096))) two new_work
  unfolding run_of
  remapped =
      rw edit-open
      (rw (R.is.0, R.is.1) at
      (bits-changed g L (tc_of s work) (own_of s) R.fit.count R.fit.tx (hc s work R.fit R.live) (hw s work R.fit R.live) (run_of v) (old_run s j work) two paired-two
      (rw (R.is.0, R.is.1) (R.page, λ h. omega (arith, R.fits, L.covered)))
      (old-page s j a k v work n d k₀ R, λ h. omega (arith, old-room s j a k v work n d k₀ R, L.covered))))

  pub edit-length : length new_work ≡ 512 * g.s
  edit-length = remapped.paired.sized

  -- the index, at a cut read as before
  pub index_same : IndexSame g (tc_of s work) (own_of s) (index_at s work) (index_in g (sec new_work))
  index_same = rw index-two at remapped.index

  -- a pair with a changing bit has the session's stamp
  pub stamped-now : (q : ℕ) → q < g_p g → ((0 < k) × (q ≡ a / 4096)) ⊎ ((0 < m) × (q ≡ b / 4096)) → stamp_of (group_of (index_in g (sec new_work)) q) ≡ own_of s
  stamped-now = remapped.stamped

  -- the map of the present view has the change, that of the cut view none
  pub map-now : page_in g (tp_of s work) (sec new_work) ≡ set_run (set_run (page_in g (tp_of s work) (sec work)) a k 1) b m 0
  map-now = rw (map-two (tp_of s work)) at remapped.map

  pub cut-now : page_in g (tc_of s work) (sec new_work) ≡ page_in g (tc_of s work) (sec work)
  cut-now = cut-map g (tc_of s work) (own_of s) remapped ∙ map-two (tc_of s work)

  -- a pair with no changing bit stays to the byte
  pub pair-kept : (q : ℕ) → q < g_p g → ¬ ((0 < k) × (q ≡ a / 4096)) → ¬ ((0 < m) × (q ≡ b / 4096)) → PairSame g work new_work q
  pair-kept q l x y =
      let r = remapped.pairs q l (λ w. ⊎_elim x y w) in
      record {
        group = rw index-two at r.group;
        first = r.first ∙ two-low (pair_low g q) (omega (arith, L.dir_is));
        second = r.second ∙ two-low (pair_high g q) (omega (arith, L.dir_is));
      }

  -- with no bit to change the index stays too
  no_run : (x c u : ℕ) (img : List ℕ) → c ≡ 0 → change_run g (tp_of s work) (own_of s) x c u img ≡ img
  unfolding change_run
  no_run x zero u img e = refl
  no_run x (suc c) u img e = absurd (omega arith)

  no_bits : (img : List ℕ) → k ≡ 0 → m ≡ 0 → change_bits g (tp_of s work) (own_of s) (run_of v) (old_run s j work) img ≡ img
  unfolding change_bits
  no_bits img x y = no_run b m 0 _ y ∙ no_run (run_of v).start.0 (run_of v).sectors 1 img (R.is.1 ∙ x)

  pub index_kept : k ≡ 0 → m ≡ 0 → index_in g (sec new_work) ≡ index_at s work
  index_kept x y = ap (λ (img : List ℕ). index_in g (sec img)) (edit-open ∙ no_bits two x y) ∙ index-two

  -- the pages that the cut view shows
  pub page-kept : (p : ℕ) → p < g_p g → sec new_work (shown_page (tc_of s work) (group_of (index_at s work) p)) ≡ sec work (shown_page (tc_of s work) (group_of (index_at s work) p))
  page-kept p l = (rw index-two at (remapped.cut p l)) ∙ two-low (shown_page (tc_of s work) (group_of (index_at s work) p)) (page-low (tc_of s work) p l).1

  pub low : g_dir g ≤ (spot_of g j).sector
  low = (spot s j a k v work n d k₀ R).low

  pub high : (spot_of g j).sector < g_f g
  unfolding g_f
  high = (spot s j a k v work n d k₀ R).high

  -- the directory sector, the data, and all that is left alone
  pub entry-put : sector_entries (sec new_work (spot_of g j).sector) ≡ set (sector_entries (sec work (spot_of g j).sector)) (spot_of g j).slot (entry_for s j v work n)
  unfolding two
  entry-put =
      ap sector_entries (remapped.other (spot_of g j).sector (λ e. omega (arith, low, past_index g)) (λ q. omega (arith, q.1, low)))
      ∙ entry_here (spot_of g j) _ _ in_one (spot s j a k v work n d k₀ R).four (wide s j a k v work n d k₀ R)
      ∙ rw (one-other (spot_of g j).sector (λ q. omega (arith, high, R.inside _ q.0 q.1)))

  pub data-put : (i : ℕ) → g_f g ≤ i → sec new_work i ≡ sec (put_content (run_of v) d work) i
  unfolding two
  data-put i h =
      remapped.other i (λ e. omega (arith, past_index g, dir-data g)) (λ q. omega (arith, q.1, dir-data g))
      ∙ entry_other (spot_of g j) _ _ in_one (spot s j a k v work n d k₀ R).four (wide s j a k v work n d k₀ R) i (λ e. omega (arith, high))

  pub left_alone : (i : ℕ) → i ≢ (spot_of g j).sector → i ≢ g.t + 1 → ¬ ((first_page g ≤ i) × (i < g_dir g)) → ¬ ((a ≤ i) × (i < a + k)) → sec new_work i ≡ sec work i
  left_alone i x y z o = remapped.other i y z ∙ two-other i x o

  -- the directory's list changes at j alone
  pub entries-now : entries_of g (sec new_work) ≡ set (entries_of g (sec work)) j (entry_for s j v work n)
  unfolding entries_of spot_of g_f
  entries-now =
      dir-set (sec work) (sec new_work) (spot_of g j).sector (spot_of g j).slot (entry_for s j v work n) entry-put (g_dir g) (g_dir g + g.d)
      (λ i lo hi o. left_alone i o (omega (arith, past_index g)) (λ q. omega (arith, q.1)) (λ q. omega (arith, R.inside i q.0 q.1)))
      g.d (g_dir g) j _ (omega arith) (omega arith) (spot-here g (sec work) j R.below) refl refl
