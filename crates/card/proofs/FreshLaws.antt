-- "A fresh card": it has the right shape and its geometry, is sound, and shows no file. Assumes nothing.
use mathlib.Core.Path.{◌≡◌, refl, ap, ◌∙◌}
use mathlib.Core.Bool.{true, cond}
use mathlib.Core.List.{[]}
use mathlib.Core.Logic.{inl, inr}
use Prim.Native.Nat.{ℕ, ◌+◌, ◌*◌, ◌/◌, ◌%◌, ◌<◌}
use native.Mathlib.Omega.{arith}
use borrow.Author.Tests.{lt-ltb, le-leb, eq-eqb}
use lib.Dec.{leb}
use lib.ListN.{length, drop, get_or, replicate}
use Rattle.words.specs.Lists.{every, pairwise, is_zero}
use Rattle.words.specs.Bytes.{word_at}
use Rattle.words.proofs.BoolLaws.{join, or-intro}
use Rattle.words.proofs.EveryMore.{every_drop, zero-at, every-replicate, pairwise_replicate, zeros-zero}
use Rattle.words.proofs.FourWords.{four-first, four-second, four-third, four-fourth, four-rest}
use Rattle.sectors.specs.Sectors.{Cells, sec}
use Rattle.counts.specs.declared.Geo.{Geo}
use Rattle.counts.specs.Geometry.{g_n, g_p, geo_ok, geo_of, count_of, table_of, pair_low, pair_high}
use Rattle.counts.specs.Stamps.{max_tx, stamp_of, showing, table_ok}
use Rattle.entries.specs.Entries.{entry_ok}
use Rattle.directory.specs.Directory.{entries_of, apart}
use Rattle.apages.specs.Bits.{bit_at}
use Rattle.apages.specs.Runs.{outside, wanted, page_ok, fresh_page}
use Rattle.apages.specs.declared.Index.{Index}
use Rattle.apages.specs.Index.{index_of, group_of, index_in, index_ok, shown_page, page_at, page_in}
use Rattle.apages.proofs.IndexLaws.{index_back}
use Rattle.apages.proofs.PassLaws.{pair-intro, index-intro}
use Rattle.apages.proofs.MapLaws.{Wide, map-length, map-bytes, map-bit}
use Rattle.card.proofs.FreshPage.{page-length, fresh-bytes, fresh-bit}
use Rattle.card.proofs.PageIs.{bits-page}
use Rattle.counts.proofs.GeoLaws.{Limits, limits}
use Rattle.card.proofs.BlankLaws.{zero-max, e₀, no_stamp, alive-blank, stamp-blank, dead-blank, entry-blank, apart-blank, no-files}
use Rattle.card.proofs.FreshSectors.{fresh-group, fresh-rest, fresh-length, at_zero, at-index, at-page, zero-table, blank-dir}
use Rattle.card.specs.Files.{files_of, cover}
use Rattle.card.specs.Sound.{view_ok, sound_in, shape_ok, sound}
use Rattle.card.specs.Make.{block_bytes, fresh_group, fresh_card}
use Rattle.card.specs.Reading.{files_in, files_shown}

module _ (g : Geo) (ok : geo_ok g ≡ true) where
  L : Limits g
  L = limits g ok

  abbrev k : Cells
  k = sec (fresh_card g)

  count-zero : count_of k ≡ 0
  unfolding count_of block_bytes
  count-zero = rw (at_zero g ok) (four-first 0 g.s g.t g.d (replicate 496 0) (omega arith))

  geo-same : (a b c : ℕ) → a ≡ g.s → b ≡ g.t → c ≡ g.d → ◌≡◌ {A = Geo} (record { s = a; t = b; d = c }) g
  geo-same a b c p q r = rw (p, q, r)

  -- its geometry
  pub fresh-geo : geo_of k ≡ g
  unfolding geo_of block_bytes
  fresh-geo =
      rw (at_zero g ok)
      (geo-same _ _ _ (four-second 0 g.s g.t g.d (replicate 496 0) (omega (arith, L.s_high)))
      (four-third 0 g.s g.t g.d (replicate 496 0) (omega (arith, L.t_high)))
      (four-fourth 0 g.s g.t g.d (replicate 496 0) (omega (arith, L.d_high))))

  -- the opposite of number 1
  pub fresh-shape : shape_ok (fresh_card g) ≡ true
  unfolding shape_ok
  fresh-shape = rw fresh-geo (join _ _ ok (eq-eqb _ _ (fresh-length g ok)))

  block-rest : every is_zero (drop 16 (k 0)) ≡ true
  unfolding block_bytes
  block-rest = rw (at_zero g ok, four-rest 0 g.s g.t g.d (replicate 496 0)) (zeros-zero 496)

  table-good : table_ok g 0 (table_of g k) ≡ true
  unfolding table_ok
  table-good =
      let z = zero-table g ok in
      join _ _ (join _ _ (zero-max (table_of g k) z) (every_drop is_zero (0 + 1) (table_of g k) z))
      (or-intro (leb (g_n g) 0) _ (inr (lt-ltb (get_or (table_of g k) 0 0) max_tx (omega (arith, zero-at (table_of g k) 0 z)))))

  -- ---- the index

  group-read : (p : ℕ) → p < g_p g → index_of (group_of (index_in g k) p) ≡ fresh_group g p
  unfolding index_in fresh_group
  group-read p h =
      rw (at-index g ok, fresh-group g p h)
      (index_back (fresh_group g p) (omega arith) (omega arith) (omega (arith, L.t_high, L.few)) (omega (arith, L.t_high, L.few)))

  group-stamp : (p : ℕ) → p < g_p g → stamp_of (group_of (index_in g k) p) ≡ no_stamp
  unfolding index_of fresh_group
  group-stamp p h = ap (λ (x : Index). x.stamp) (group-read p h)

  group-a : (p : ℕ) → p < g_p g → word_at (group_of (index_in g k) p) 8 ≡ pair_low g p
  unfolding index_of fresh_group
  group-a p h = ap (λ (x : Index). x.a.0) (group-read p h)

  group-b : (p : ℕ) → p < g_p g → word_at (group_of (index_in g k) p) 12 ≡ pair_high g p
  unfolding index_of fresh_group
  group-b p h = ap (λ (x : Index). x.b.0) (group-read p h)

  index-good : index_ok g 0 (table_of g k) (index_in g k) ≡ true
  index-good =
      index-intro g 0 (table_of g k) (index_in g k)
      (record {
        groups = λ p h. record {
          stamp = rw (group-stamp p h) (stamp-blank g ok);
          dead = rw (group-stamp p h) (dead-blank 0 (table_of g k));
          pair = rw (group-a p h, group-b p h) (pair-intro g p _ _ (inl (refl, refl)));
        };
        zeros = (unfold index_in in rw (at-index g ok) (fresh-rest g));
      })

  shows-page : (p : ℕ) → p < g_p g → page_at g (table_of g k) k p ≡ fresh_page g p
  unfolding page_at shown_page showing
  shows-page p h = rw (group-stamp p h, alive-blank (table_of g k), group-a p h) (at-page g ok p h)

  -- ---- the map

  wide : Wide g (table_of g k) k
  wide p h = rw (shows-page p h) (page-length g p)

  map-bits : (n : ℕ) → n < 8 * length (page_in g (table_of g k) k) → bit_at (page_in g (table_of g k) k) n ≡ wanted g (cover []) n
  unfolding wanted cover
  map-bits n l =
      let e : 4096 * (n / 4096) + n % 4096 ≡ n = omega arith in
      let h : n / 4096 < g_p g = omega (arith, map-length g (table_of g k) k wide) in
      let f : bit_at (page_at g (table_of g k) k (n / 4096)) (n % 4096) ≡ cond (outside g (4096 * (n / 4096) + n % 4096)) 1 0 =
      rw (shows-page (n / 4096) h) (fresh-bit g (record { s = L.s_high; t = L.t_high; d = L.d_high }) (n / 4096) (n % 4096) (omega arith)) in
      rw e at (map-bit g (table_of g k) k wide (n / 4096) (n % 4096) h (omega arith) ∙ f)

  page-good : page_ok g (cover []) (page_in g (table_of g k) k) ≡ true
  page-good =
      bits-page g (cover []) (page_in g (table_of g k) k) (omega (arith, map-length g (table_of g k) k wide, L.covered))
      (λ j past. map-bytes g (table_of g k) k (λ p h i. rw (shows-page p h) (fresh-bytes g p i)) j) map-bits

  -- ---- the whole

  no-file : files_of (table_of g k) (entries_of g k) ≡ []
  no-file = rw (blank-dir g ok).1 (no-files (table_of g k) (blank-dir g ok).0)

  view-good : view_ok g 0 (table_of g k) k ≡ true
  unfolding view_ok
  view-good =
      let a : every (entry_ok g 0 (table_of g k)) (entries_of g k) ≡ true =
      rw (blank-dir g ok).1 (every-replicate (entry_ok g 0 (table_of g k)) e₀ (blank-dir g ok).0 (entry-blank g 0 (table_of g k) ok)) in
      join _ _ index-good (join _ _ a (rw no-file page-good))

  sound-in : sound_in g k ≡ true
  unfolding sound_in
  sound-in =
      let a : pairwise (apart (table_of g k) (table_of g k)) (entries_of g k) ≡ true =
      rw (blank-dir g ok).1 (pairwise_replicate (apart (table_of g k) (table_of g k)) e₀ (blank-dir g ok).0 (apart-blank (table_of g k) (table_of g k))) in
      rw count-zero (join _ _ (join _ _ (join _ _ (join _ _ (le-leb 0 (g_n g) (omega arith)) block-rest) table-good) view-good) a)

  pub fresh-sound : sound (fresh_card g) ≡ true
  unfolding sound
  fresh-sound = rw fresh-geo sound-in

  -- it shows no file
  pub fresh-empty : files_shown (fresh_card g) ≡ []
  unfolding files_shown files_in
  fresh-empty = rw fresh-geo no-file
