-- The page that the present view shows after one change of an entry, bit by bit. Assumes nothing.
use mathlib.Core.Path.{◌≡◌, sym, ap, ◌∙◌}
use mathlib.Core.Bool.{false}
use mathlib.Core.List.{List, [], ◌∷◌}
use mathlib.Core.Logic.{◌⊎◌, inl, inr, ⊎_elim, ◌↔◌}
use Prim.Native.Nat.{ℕ, zero, suc, ◌+◌, ◌*◌, ◌/◌, ◌%◌, ◌≤◌, ◌<◌}
use native.Mathlib.Omega.{arith}
use lib.Dec.{lit<}
use lib.ListN.{length, get_or, set}
use Rattle.sectors.specs.Sectors.{sec}
use Rattle.counts.specs.declared.Geo.{Geo}
use Rattle.counts.specs.Geometry.{g_p, g_f, table_of}
use Rattle.counts.proofs.GeoLaws.{Limits, table_same}
use Rattle.entries.specs.declared.Version.{Version}
use Rattle.entries.specs.Entries.{shown}
use Rattle.directory.specs.Directory.{entries_of}
use Rattle.apages.specs.Bits.{bit_at, set_run}
use Rattle.apages.specs.Index.{page_in}
use Rattle.apages.proofs.RunLaws.{set_run-length, run_in, run_out}
use Rattle.card.specs.Files.{FileHolds, files_of, cover, run_of, run_at}
use Rattle.card.proofs.PieceLaws.{holds-run, holds-count}
use Rattle.card.proofs.RuleLaws.{cover-version}
use Rattle.card.proofs.SpaceLaws.{page-wide}
use Rattle.session.specs.declared.Opened.{Opened}
use Rattle.session.specs.Views.{present_table, present_page}
use Rattle.session.proofs.FitLaws.{present-live}
use Rattle.store.specs.Edit.{edit_work}
use Rattle.store.specs.Inner.{CanEdit}
use Rattle.promises_answers.proofs.Ready.{tc_of, tp_of, old_run, lim, pres, Ready, spot}
use Rattle.promises_answers.proofs.Change.{map-now, left_alone}
use Rattle.promises_answers.specs.Untouched.{earlier_run, Changes}

-- sector i is one of the k sectors from a on
abbrev pub InRun : ℕ → ℕ → ℕ → Type 0
InRun a k i = (a ≤ i) × (i < a + k)

earlier-is : (s : Opened) (work : List ℕ) (j : ℕ) → s.worn ≡ false → earlier_run s work j ≡ old_run s j work
unfolding run_at
earlier-is s work j live = rw (present-live s (sec work) live)

-- the version in one run of k sectors from a on, and the file's earlier run
module _ (s : Opened) (work : List ℕ) (j a k : ℕ) (v : Version) (live : s.worn ≡ false) (is : ((run_of v).start.0 ≡ a) × ((run_of v).sectors ≡ k)) where
  pub holds-new : (i : ℕ) → FileHolds (run_of v) i ↔ InRun a k i
  holds-new i = (
    λ h. let (lo, hi) = (holds-run (run_of v) i).0 h in (omega (arith, is.0), omega (arith, is.0, is.1)),
    λ h. (holds-run (run_of v) i).1 (omega (arith, is.0, h.0), omega (arith, is.0, is.1, h.1)),
  )

  pub holds-old : (i : ℕ) → FileHolds (earlier_run s work j) i ↔ InRun (old_run s j work).start.0 (old_run s j work).sectors i
  holds-old i = rw (earlier-is s work j live) (holds-run (old_run s j work) i)

  -- the pages in which a bit changes, by the runs
  abbrev InRuns : ℕ → Type 0
  InRuns q = ((0 < k) × (q ≡ a / 4096)) ⊎ ((0 < (old_run s j work).sectors) × (q ≡ (old_run s j work).start.0 / 4096))

  pub changes-runs : (q : ℕ) → a % 4096 + k ≤ 4096 → (old_run s j work).start.0 % 4096 + (old_run s j work).sectors ≤ 4096 → Changes s work j v q → InRuns q
  changes-runs q x y (i, c, e) =
      ⊎_elim (λ h. let (lo, hi) = (holds-new i).0 h in inl (omega arith, omega arith)) (λ h. let (lo, hi) = (holds-old i).0 h in inr (omega arith, omega arith)) c

  pub runs-change : (q : ℕ) → InRuns q → Changes s work j v q
  runs-change q w =
      ⊎_elim (λ h. (a, inl ((holds-new a).1 (omega arith, omega (arith, h.0))), h.1))
      (λ h. ((old_run s j work).start.0, inr ((holds-old (old_run s j work).start.0).1 (omega arith, omega (arith, h.0))), h.1)) w

-- a sector of entry j's file is held by a file of the view
entry-held : (tab : List ℕ) (ps : List (List ℕ)) (j i : ℕ) → j < length ps → FileHolds (run_of (shown tab (get_or ps j []))) i → 1 ≤ cover (files_of tab ps) i
unfolding files_of
entry-held tab [] j i h q = absurd (omega arith)
entry-held tab (p ∷ ps) zero i h q = omega (arith, cover-version p (shown tab p) (files_of tab ps) i, (holds-count (run_of (shown tab p)) i).0 q)
entry-held tab (p ∷ ps) (suc j) i h q = omega (arith, cover-version p (shown tab p) (files_of tab ps) i, entry-held tab ps j i (omega arith) q)

-- ---- one change of an entry

module _ (s : Opened) (j a k : ℕ) (v : Version) (work n d : List ℕ) (R : Ready s j a k v work n d (sec work)) (C : CanEdit s work j (run_of v) n d)
    (free : (i : ℕ) → a ≤ i → i < a + k → cover (files_of (tp_of s work) (entries_of s.geo (sec work))) i ≡ 0) where
  abbrev g : Geo
  g = s.geo

  abbrev after : List ℕ
  after = edit_work s j v work n d

  abbrev b : ℕ
  b = (old_run s j work).start.0

  abbrev m : ℕ
  m = (old_run s j work).sectors

  L : Limits g
  L = lim s work R.fit R.live

  pub same_head : (i : ℕ) → i ≤ g.t → sec after i ≡ sec work i
  unfolding g_f
  same_head i h =
      left_alone s j a k v work n d (sec work) R i (omega (arith, (spot s j a k v work n d (sec work) R).low)) (omega arith) (λ q. omega (arith, q.0))
      (λ q. omega (arith, R.inside i q.0 q.1))

  pub same-table : table_of g (sec after) ≡ tc_of s work
  same-table = table_same g (sec work) (sec after) (λ i lo hi. same_head i hi)

  same-present : present_table s (sec after) ≡ tp_of s work
  same-present = present-live s (sec after) R.live ∙ ap (λ (t : List ℕ). set t s.c.0 s.t.0) same-table

  -- the two bitmaps, bit by bit
  bit-now : (i : ℕ) → bit_at (present_page s (sec after)) i ≡ bit_at (set_run (set_run (page_in g (tp_of s work) (sec work)) a k 1) b m 0) i
  unfolding present_page
  bit-now i = rw (same-present, map-now s j a k v work n d (sec work) R)

  bit-before : (i : ℕ) → bit_at (present_page s (sec work)) i ≡ bit_at (page_in g (tp_of s work) (sec work)) i
  unfolding present_page
  bit-before i = rw (present-live s (sec work) R.live)

  wide : length (page_in g (tp_of s work) (sec work)) ≡ 512 * g_p g
  wide = page-wide g s.c.0 (tp_of s work) work R.fit.shape R.fit.sized (pres s work R.fit R.live)

  new_in : a + k ≤ 8 * length (page_in g (tp_of s work) (sec work))
  new_in = omega (arith, wide, C.top, R.is.0, R.is.1)

  old-in : b + m ≤ 8 * length (set_run (page_in g (tp_of s work) (sec work)) a k 1)
  old-in = omega (arith, wide, set_run-length (page_in g (tp_of s work) (sec work)) a k 1, old-top)
    where
      old-top : b + m ≤ 4096 * g_p g
      old-top = rw (earlier-is s work j R.live) at C.earlier

  -- the content goes to none of the earlier sectors
  not-both : (i : ℕ) → InRun a k i → ¬ InRun b m i
  not-both i q r = omega (arith, free i q.0 q.1, entry-held (tp_of s work) (entries_of s.geo (sec work)) j i R.below ((holds-run (old_run s j work) i).1 r))

  pub bit-set : (i : ℕ) → InRun a k i → bit_at (present_page s (sec after)) i ≡ 1
  bit-set i q =
      bit-now i ∙ run_out (set_run (page_in g (tp_of s work) (sec work)) a k 1) b 0 (lit< tt) m i old-in (λ x y. not-both i q (x, y))
      ∙ run_in (page_in g (tp_of s work) (sec work)) a 1 (lit< tt) k i new_in q.0 q.1

  pub bit-clear : (i : ℕ) → InRun b m i → bit_at (present_page s (sec after)) i ≡ 0
  bit-clear i q = bit-now i ∙ run_in (set_run (page_in g (tp_of s work) (sec work)) a k 1) b 0 (lit< tt) m i old-in q.0 q.1

  pub bit-same : (i : ℕ) → ¬ InRun a k i → ¬ InRun b m i → bit_at (present_page s (sec after)) i ≡ bit_at (present_page s (sec work)) i
  bit-same i o u =
      bit-now i ∙ run_out (set_run (page_in g (tp_of s work) (sec work)) a k 1) b 0 (lit< tt) m i old-in (λ x y. u (x, y))
      ∙ run_out (page_in g (tp_of s work) (sec work)) a 1 (lit< tt) k i new_in (λ x y. o (x, y)) ∙ sym (bit-before i)
