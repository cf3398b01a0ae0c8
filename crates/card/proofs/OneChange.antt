-- "P = 1 must give today's bytes": changing the bitmap at S up to 4,096 writes what document 01 says, run by run or at once. Assumes nothing.
use mathlib.Core.Path.{◌≡◌, refl, ap, ◌∙◌}
use mathlib.Core.Bool.{true, false, cond}
use mathlib.Core.List.{List, ◌++◌}
use Prim.Native.Nat.{ℕ, zero, suc, ◌+◌, ◌/◌, ◌%◌, ◌≤◌, ◌<◌}
use native.Mathlib.Omega.{arith}
use borrow.Author.Tests.{ne_eqb}
use lib.ListN.{length, drop, get_or, set, replicate}
use Rattle.words.specs.Lists.{every, is_zero, set_part}
use Rattle.sectors.specs.Sectors.{sec, set_sec}
use Rattle.sectors.proofs.FlatLaws.{sec-in}
use Rattle.counts.specs.declared.Geo.{Geo}
use Rattle.counts.specs.declared.Stamp.{Stamp}
use Rattle.counts.specs.Geometry.{g_n, g_p}
use Rattle.counts.proofs.GeoLaws.{Limits}
use Rattle.counts.specs.Stamps.{max_tx, standing}
use Rattle.entries.specs.declared.Run.{Run}
use Rattle.apages.specs.declared.Index.{Index}
use Rattle.apages.specs.Bits.{set_run}
use Rattle.apages.specs.Index.{index_of, group_bytes, group_of, index_in, changed_index, page_before, changed_run, change_run, change_bits}
use Rattle.apages.proofs.Remapped.{Paired}
use Rattle.apages.proofs.Joined.{runs-joined}
use Rattle.card.proofs.OnePair.{group-word, stamp-today, bytes-today}

-- "Changing the bitmap, only where a bit changes": the index and A, in A k sectors from a on set, then m sectors from b on clear
unfoldable pub today_change : Geo → List ℕ → Stamp → ℕ → ℕ → ℕ → ℕ → List ℕ → List ℕ
today_change g tab own a k b m img =
    let x = index_of (index_in g (sec img)) in
    let st = standing tab own x.stamp in
    let y = changed_index st own x in
    cond (is_zero (k + m)) img
    (set_sec (set_sec img (g.t + 1) (group_bytes y ++ replicate 496 0)) y.a.0 (set_run (set_run (sec img (page_before st y)) a k 1) b m 0))

module _ (g : Geo) (L : Limits g) (one : g_p g ≡ 1) (tab : List ℕ) (own : Stamp) (c_n : own.cc.0 < g_n g) (t_m : own.txc.0 ≤ max_tx)
    (hc : own.cc.0 < length tab) (hw : get_or tab own.cc.0 0 + 1 ≡ own.txc.0) (img : List ℕ) (P : Paired g own img)
    (zeros : every is_zero (drop 16 (index_in g (sec img))) ≡ true) where
  abbrev present : List ℕ
  present = set tab own.cc.0 own.txc.0

  abbrev ix : List ℕ
  ix = index_in g (sec img)

  wide : length ix ≡ 512
  unfolding index_in
  wide = sec-in img g.s (g.t + 1) P.sized (omega (arith, L.past, L.dir, L.s_low))

  read : index_of (group_of ix 0) ≡ index_of ix
  unfolding index_of
  read = rw (stamp-today g one ix wide, group-word g one ix wide 8 (omega arith), group-word g one ix wide 12 (omega arith))

  -- the write of group 0, and of A with its bits changed by f
  with_group : Index → (List ℕ → List ℕ) → List ℕ
  with_group x f =
      let st = standing present own x.stamp in
      let y = changed_index st own x in
      set_sec (set_sec img (g.t + 1) (set_part 16 ix 0 (group_bytes y))) y.a.0 (f (sec img (page_before st y)))

  old : (List ℕ → List ℕ) → List ℕ
  old f =
      let st = standing present own (index_of ix).stamp in
      let y = changed_index st own (index_of ix) in
      set_sec (set_sec img (g.t + 1) (group_bytes y ++ replicate 496 0)) y.a.0 (f (sec img (page_before st y)))

  alike : (f : List ℕ → List ℕ) → with_group (index_of (group_of ix 0)) f ≡ old f
  unfolding with_group old
  alike f = ap (λ (x : Index). with_group x f) read ∙ (unfold with_group in rw (bytes-today g one ix wide (changed_index (standing present own (index_of ix).stamp) own (index_of ix)) zeros))

  single : (a n v : ℕ) → a + suc n ≤ 4096 → change_run g present own a (suc n) v img ≡ with_group (index_of (group_of ix 0)) (λ p. set_run p a (suc n) v)
  unfolding change_run changed_run with_group
  single a n v h =
      let d : a / 4096 ≡ 0 = omega arith in
      let r : a % 4096 ≡ a = omega arith in rw (d, r)

  double : (a k b m : ℕ) → a + suc k ≤ 4096 → b + suc m ≤ 4096
      → change_run g present own b (suc m) 0 (change_run g present own a (suc k) 1 img) ≡ with_group (index_of (group_of ix 0)) (λ p. set_run (set_run p a (suc k) 1) b (suc m) 0)
  unfolding with_group
  double a k b m ha hb =
      let d : a / 4096 ≡ 0 = omega arith in
      let r : a % 4096 ≡ a = omega arith in
      let r' : b % 4096 ≡ b = omega arith in
      rw (d, r, r') at (runs-joined g L tab own c_n t_m hc hw a k 1 b m 0 img P (omega (arith, one)) (omega arith))

  run_no : (b v : ℕ) (x : List ℕ) → change_run g present own b 0 v x ≡ x
  unfolding change_run
  run_no b v x = refl

  runs-today : (a k b m : ℕ) → a + k ≤ 4096 → b + m ≤ 4096
      → change_run g present own b m 0 (change_run g present own a k 1 img) ≡ today_change g present own a k b m img
  unfolding today_change
  runs-today a zero b zero ha hb = run_no b 0 (change_run g present own a 0 1 img) ∙ run_no a 1 img
  runs-today a (suc k) b zero ha hb =
      let o : is_zero (suc k + 0) ≡ false = ne_eqb (suc k + 0) 0 (λ e. omega arith) in
      rw o (run_no b 0 (change_run g present own a (suc k) 1 img) ∙ single a k 1 ha ∙ alike (λ p. set_run p a (suc k) 1) ∙ (unfold old set_run in refl))
  runs-today a zero b (suc m) ha hb =
      let o : is_zero (0 + suc m) ≡ false = ne_eqb (0 + suc m) 0 (λ e. omega arith) in
      rw o (ap (λ (x : List ℕ). change_run g present own b (suc m) 0 x) (run_no a 1 img) ∙ single b m 0 hb ∙ alike (λ p. set_run p b (suc m) 0) ∙ (unfold old set_run in refl))
  runs-today a (suc k) b (suc m) ha hb =
      let o : is_zero (suc k + suc m) ≡ false = ne_eqb (suc k + suc m) 0 (λ e. omega arith) in
      rw o (double a k b m ha hb ∙ alike (λ p. set_run (set_run p a (suc k) 1) b (suc m) 0) ∙ (unfold old in refl))

  pub change-today : (r q : Run) → r.start.0 + r.sectors ≤ 4096 → q.start.0 + q.sectors ≤ 4096
      → change_bits g present own r q img ≡ today_change g present own r.start.0 r.sectors q.start.0 q.sectors img
  unfolding change_bits
  change-today r q = runs-today r.start.0 r.sectors q.start.0 q.sectors
