-- "A fresh card", sector by sector: its groups and pages, its table is 0, its directory blank. Assumes nothing.
use mathlib.Core.Path.{◌≡◌, refl, sym, ◌∙◌}
use mathlib.Core.Bool.{true}
use mathlib.Core.List.{List, ◌++◌, append_assoc, append-nil}
use mathlib.Core.Logic.{◌≢◌}
use Prim.Native.Nat.{ℕ, zero, suc, ◌+◌, ◌-◌, ◌*◌, ◌≤◌, ◌<◌}
use native.Mathlib.Decide.{ℕ_discrete}
use native.Mathlib.Omega.{arith}
use lib.ListN.{length, drop, replicate, length-replicate, length-append}
use lib.Seq.{take_at, drop_at, drop-append-add}
use Rattle.words.specs.Lists.{every, is_zero, part, pad}
use Rattle.words.specs.Bytes.{words}
use Rattle.words.proofs.FourWords.{four-length}
use Rattle.words.proofs.EveryMore.{every_append, zeros-zero}
use Rattle.sectors.specs.Sectors.{Cells, sec, set_sec}
use Rattle.sectors.proofs.SectorLaws.{set_sec-length, sec-same, sec-other}
use Rattle.counts.specs.declared.Geo.{Geo}
use Rattle.counts.specs.Geometry.{g_p, g_dir, geo_ok, table_from, table_of, first_page, pair_low, pair_high}
use Rattle.directory.specs.Directory.{entries_from, entries_of}
use Rattle.apages.specs.Runs.{fresh_page}
use Rattle.apages.specs.Index.{group_bytes, group_of}
use Rattle.apages.proofs.IndexLaws.{group-length}
use Rattle.counts.proofs.GeoLaws.{Limits, limits}
use Rattle.card.proofs.BlankLaws.{blank, zero-sector, zero-words, e₀, four-blank}
use Rattle.card.specs.Make.{block_bytes, fresh_group, fresh_groups, fresh_index, fresh_pages, fresh_card}
use Rattle.card.proofs.FreshPage.{page-length}

-- ---- the groups of the index

pub groups-length : (g : Geo) (n p : ℕ) → length (fresh_groups g p n) ≡ 16 * n
unfolding fresh_groups
groups-length g zero p = refl
groups-length g (suc n) p = simp length-append (omega (arith, group-length (fresh_group g p), groups-length g n (suc p)))

-- one group more, at the end
pub groups-snoc : (g : Geo) (n p : ℕ) → fresh_groups g p (n + 1) ≡ fresh_groups g p n ++ group_bytes (fresh_group g (p + n))
unfolding fresh_groups
groups-snoc g zero p = let e : p + 0 ≡ p = omega arith in rw e (append-nil (group_bytes (fresh_group g p)))
groups-snoc g (suc n) p =
    let e : p + suc n ≡ suc p + n = omega arith in
    let f : suc n + 1 ≡ suc (n + 1) = omega arith in
    rw (e, f, groups-snoc g n (suc p)) (sym (append_assoc (group_bytes (fresh_group g p)) (fresh_groups g (suc p) n) (group_bytes (fresh_group g (suc p + n)))))

-- group i of them
group-in : (g : Geo) (n p i : ℕ) (r : List ℕ) → i < n → group_of (fresh_groups g p n ++ r) i ≡ group_bytes (fresh_group g (p + i))
unfolding fresh_groups group_of part
group-in g zero p i r h = absurd (omega arith)
group-in g (suc n) p zero r h =
    let e : p + 0 ≡ p = omega arith in
    rw (e, append_assoc) (take_at (group_bytes (fresh_group g p)) _ 16 (group-length (fresh_group g p)))
group-in g (suc n) p (suc i) r h =
    let e : 16 * suc i ≡ length (group_bytes (fresh_group g p)) + 16 * i = omega (arith, group-length (fresh_group g p)) in
    let f : p + suc i ≡ suc p + i = omega arith in
    rw (e, f, append_assoc, drop-append-add (group_bytes (fresh_group g p)) (fresh_groups g (suc p) n ++ r) (16 * i)) (group-in g n (suc p) i r (omega arith))

pub fresh-group : (g : Geo) (p : ℕ) → p < g_p g → group_of (fresh_index g) p ≡ group_bytes (fresh_group g p)
unfolding fresh_index pad
fresh-group g p h = let e : 0 + p ≡ p = omega arith in rw e at (group-in g (g_p g) 0 p (replicate (512 - length (fresh_groups g 0 (g_p g))) 0) h)

pub fresh-rest : (g : Geo) → every is_zero (drop (16 * g_p g) (fresh_index g)) ≡ true
unfolding fresh_index pad
fresh-rest g =
    let l : length (fresh_groups g 0 (g_p g)) ≡ 16 * g_p g = groups-length g (g_p g) 0 in
    rw (drop_at (fresh_groups g 0 (g_p g)) (replicate (512 - length (fresh_groups g 0 (g_p g))) 0) (16 * g_p g) l) (zeros-zero (512 - length (fresh_groups g 0 (g_p g))))

index-wide : (g : Geo) → g_p g ≤ 16 → length (fresh_index g) ≡ 512
unfolding fresh_index pad
index-wide g h = simp (length-append, length-replicate) (omega (arith, groups-length g (g_p g) 0))

-- ---- the pages

module _ (g : Geo) where
  pages-length : (n p : ℕ) (img : List ℕ) → length (fresh_pages g p n img) ≡ length img
  unfolding fresh_pages
  pages-length zero p img = refl
  pages-length (suc n) p img = pages-length n (suc p) _ ∙ set_sec-length _ (pair_high g p) (fresh_page g p) ∙ set_sec-length img (pair_low g p) (fresh_page g p)

  pages-other : (n p : ℕ) (img : List ℕ) (i : ℕ) → ¬ ((pair_low g p ≤ i) × (i < pair_low g (p + n))) → sec (fresh_pages g p n img) i ≡ sec img i
  unfolding fresh_pages
  pages-other zero p img i o = refl
  pages-other (suc n) p img i o =
      pages-other n (suc p) _ i (λ q. o (omega (arith, q.0), omega (arith, q.1)))
      ∙ sec-other _ (pair_high g p) (fresh_page g p) (page-length g p) i (λ e. o (omega arith, omega arith))
      ∙ sec-other img (pair_low g p) (fresh_page g p) (page-length g p) i (λ e. o (omega arith, omega arith))

  pages-at : (n p : ℕ) (img : List ℕ) (q : ℕ) → p ≤ q → q < p + n → 512 * pair_low g (p + n) ≤ length img → sec (fresh_pages g p n img) (pair_low g q) ≡ fresh_page g q
  unfolding fresh_pages
  pages-at zero p img q lo hi l = absurd (omega arith)
  pages-at (suc n) p img q lo hi l = go (ℕ_discrete q p) (λ z. pages-at n (suc p) two q z (omega arith) (omega (arith, two-length)))
    where
      one : List ℕ
      one = set_sec img (pair_low g p) (fresh_page g p)

      two : List ℕ
      two = set_sec one (pair_high g p) (fresh_page g p)

      two-length : length two ≡ length img
      two-length = set_sec-length one (pair_high g p) (fresh_page g p) ∙ set_sec-length img (pair_low g p) (fresh_page g p)

      go : Dec (q ≡ p) → (suc p ≤ q → sec (fresh_pages g (suc p) n two) (pair_low g q) ≡ fresh_page g q) → sec (fresh_pages g (suc p) n two) (pair_low g q) ≡ fresh_page g q
      go (yes e) ih =
          rw e
          (pages-other n (suc p) two (pair_low g p) (λ z. omega (arith, z.0))
          ∙ sec-other one (pair_high g p) (fresh_page g p) (page-length g p) (pair_low g p) (λ z. omega arith)
          ∙ sec-same img (pair_low g p) (fresh_page g p) (page-length g p) (omega arith))
      go (no o) ih = ih (omega arith)

-- ---- the sectors

module _ (g : Geo) (ok : geo_ok g ≡ true) where
  L : Limits g
  L = limits g ok

  abbrev k : Cells
  k = sec (fresh_card g)

  abbrev m0 : List ℕ
  m0 = replicate (512 * g.s) 0

  abbrev m1 : List ℕ
  m1 = set_sec m0 0 (block_bytes 0 g)

  abbrev m2 : List ℕ
  m2 = set_sec m1 (g.t + 1) (fresh_index g)

  l0 : length m0 ≡ 512 * g.s
  l0 = length-replicate (512 * g.s) 0

  l1 : length m1 ≡ 512 * g.s
  l1 = set_sec-length m0 0 (block_bytes 0 g) ∙ l0

  l2 : length m2 ≡ 512 * g.s
  l2 = set_sec-length m1 (g.t + 1) (fresh_index g) ∙ l1

  pub fresh-length : length (fresh_card g) ≡ 512 * g.s
  unfolding fresh_card
  fresh-length = pages-length g (g_p g) 0 m2 ∙ l2

  block-length : length (block_bytes 0 g) ≡ 512
  unfolding block_bytes
  block-length = four-length 0 g.s g.t g.d (replicate 496 0)

  index-length : length (fresh_index g) ≡ 512
  index-length = index-wide g L.few

  off2 : (i : ℕ) → ¬ ((first_page g ≤ i) × (i < g_dir g)) → k i ≡ sec m2 i
  unfolding fresh_card
  off2 i o = pages-other g (g_p g) 0 m2 i (λ q. o (omega (arith, q.0), omega (arith, q.1, L.dir_is)))

  off1 : (i : ℕ) → ¬ ((first_page g ≤ i) × (i < g_dir g)) → i ≢ g.t + 1 → k i ≡ sec m1 i
  off1 i o r = off2 i o ∙ sec-other m1 (g.t + 1) (fresh_index g) index-length i r

  pub at_zero : k 0 ≡ block_bytes 0 g
  at_zero = off1 0 (λ q. omega (arith, q.0)) (omega arith) ∙ sec-same m0 0 (block_bytes 0 g) block-length (omega (arith, l0, L.s_low, L.past, L.dir))

  pub at-index : k (g.t + 1) ≡ fresh_index g
  at-index = off2 (g.t + 1) (λ q. omega (arith, q.0)) ∙ sec-same m1 (g.t + 1) (fresh_index g) index-length (omega (arith, l1, L.s_low, L.past, L.dir))

  pub at-page : (p : ℕ) → p < g_p g → k (pair_low g p) ≡ fresh_page g p
  unfolding fresh_card
  at-page p h = pages-at g (g_p g) 0 m2 p (omega arith) (omega arith) (omega (arith, l2, L.dir_is, L.dir, L.s_low))

  at_rest : (i : ℕ) → i < g.s → i ≢ 0 → i ≢ g.t + 1 → ¬ ((first_page g ≤ i) × (i < g_dir g)) → k i ≡ blank
  at_rest i h z a b = off1 i b a ∙ sec-other m0 0 (block_bytes 0 g) block-length i z ∙ zero-sector g.s i h

  -- ---- its parts

  zero-from : (n i : ℕ) → 1 ≤ i → i + n ≤ g.t + 1 → every is_zero (table_from i n k) ≡ true
  unfolding table_from
  zero-from zero i lo hi = unfold every in refl
  zero-from (suc n) i lo hi =
      let e : k i ≡ blank = at_rest i (omega (arith, L.s_low, L.past, L.dir)) (omega arith) (omega arith) (λ q. omega (arith, q.0)) in
      every_append is_zero (words (k i)) _ (rw e zero-words) (zero-from n (suc i) (omega arith) (omega arith))

  pub zero-table : every is_zero (table_of g k) ≡ true
  unfolding table_of
  zero-table = zero-from g.t 1 (omega arith) (omega arith)

  blank-from : (n i : ℕ) → g_dir g ≤ i → i + n ≤ g.s → (m : ℕ) × (entries_from i n k ≡ replicate m e₀)
  unfolding entries_from
  blank-from zero i lo hi = (0, refl)
  blank-from (suc n) i lo hi =
      let (m, q) = blank-from n (suc i) (omega arith) (omega arith) in
      let e : k i ≡ blank = at_rest i (omega arith) (omega (arith, L.past)) (omega (arith, L.past)) (λ z. omega (arith, z.1)) in
      (suc (suc (suc (suc m))), rw (e, four-blank, q))

  pub blank-dir : (m : ℕ) × (entries_of g k ≡ replicate m e₀)
  unfolding entries_of
  blank-dir = blank-from g.d (g_dir g) (omega arith) (omega (arith, L.s_low, L.past, L.dir))
