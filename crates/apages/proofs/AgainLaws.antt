-- A run of bits changed once can be changed again: every pair stays one, and the table is left alone. Assumes nothing.
use mathlib.Core.Path.{◌≡◌, refl, ap, ◌∙◌}
use mathlib.Core.Bool.{true}
use mathlib.Core.List.{List}
use mathlib.Core.Logic.{◌≢◌}
use Prim.Native.Nat.{ℕ, zero, suc, ◌+◌, ◌*◌, ◌/◌, ◌≤◌, ◌<◌}
use native.Mathlib.Decide.{ℕ_discrete}
use native.Mathlib.Omega.{arith}
use lib.ListN.{length}
use Rattle.words.specs.Bytes.{word_at}
use Rattle.sectors.specs.Sectors.{sec}
use Rattle.sectors.proofs.SectorLaws.{sec-length}
use Rattle.counts.specs.declared.Geo.{Geo}
use Rattle.counts.specs.declared.Stamp.{Stamp}
use Rattle.counts.specs.declared.Standing.{Standing}
use Rattle.counts.specs.declared.Standing.TheVariants.{Own, Alive, Dead}
use Rattle.counts.specs.declared.View.{View}
use Rattle.counts.specs.Geometry.{g_p}
use Rattle.counts.proofs.GeoLaws.{table_same}
use Rattle.counts.specs.Inner.{LaidOut}
use Rattle.counts.proofs.TableLaws.{pages-few, dir-is}
use Rattle.counts.specs.Stamps.{standing, table_in}
use Rattle.entries.specs.declared.Run.{Run}
use Rattle.apages.specs.declared.Index.{Index}
use Rattle.apages.specs.Index.{index_of, group_bytes, group_of, index_in, pair_ok, changed_index, page_before, change_run, change_bits}
use Rattle.apages.proofs.IndexLaws.{group-a, group-b}
use Rattle.apages.specs.Inner.{PairIn, IsPage}
use Rattle.apages.proofs.PassLaws.{pair-swap}
use Rattle.apages.proofs.PageLaws.{pair-pages, before-page}
use Rattle.apages.proofs.FrameLaws.{bits-other, group-here, group-there}
use Rattle.apages.proofs.ChangeLaws.{bits-both}

-- A and B trade places or stay
changed-pair : (g : Geo) (p : ℕ) (st : Standing) (own : Stamp) (x : Index) → pair_ok g p x.a.0 x.b.0 ≡ true
    → pair_ok g p (changed_index st own x).a.0 (changed_index st own x).b.0 ≡ true
unfolding changed_index
changed-pair g p Own own x h = h
changed-pair g p Alive own x h = pair-swap g p x.a.0 x.b.0 h
changed-pair g p Dead own x h = h

module _ (g : Geo) (tab : List ℕ) (own : Stamp) (img : List ℕ) (laid : LaidOut g img) (pairs : PairIn g img) where
  module _ (a n v : ℕ) (small : a / 4096 < g_p g) where
    abbrev ix : List ℕ
    ix = index_in g (sec img)

    abbrev st : Standing
    st = standing tab own (index_of (group_of ix (a / 4096))).stamp

    abbrev y : Index
    y = changed_index st own (index_of (group_of ix (a / 4096)))

    pair : pair_ok g (a / 4096) y.a.0 y.b.0 ≡ true
    unfolding index_of
    pair = changed-pair g (a / 4096) st own (index_of (group_of ix (a / 4096))) (pairs (a / 4096) small)

    named : IsPage g (a / 4096) y.a.0 × IsPage g (a / 4096) y.b.0
    named = pair-pages g (a / 4096) _ _ pair

    few : a / 4096 < 16
    few = omega (arith, small, pages-few g laid.s)

    wide : length ix ≡ 512
    unfolding index_in
    wide = sec-length img (g.t + 1) (omega (arith, laid.past, laid.dir, laid.room))

    page : length (sec img (page_before st y)) ≡ 512
    page = let w = before-page g (a / 4096) st y named in sec-length img (page_before st y) (omega (arith, w.1, small, dir-is g, laid.dir, laid.room))

    off : y.a.0 ≢ g.t + 1
    off e = omega (arith, e, named.0.0)

    room : 512 * (g.t + 1) + 512 ≤ length img
    room = omega (arith, laid.past, laid.dir, laid.room)

    pair-back : pair_ok g (a / 4096) (word_at (group_bytes y) 8) (word_at (group_bytes y) 12) ≡ true
    pair-back = rw (group-a y (omega (arith, named.0.1, few, laid.t)), group-b y (omega (arith, named.1.1, few, laid.t))) pair

    pair-at : (q : ℕ) → q < g_p g → Dec (q ≡ a / 4096)
        → pair_ok g q (word_at (group_of (index_in g (sec (change_run g tab own a (suc n) v img))) q) 8) (word_at (group_of (index_in g (sec (change_run g tab own a (suc n) v img))) q) 12) ≡ true
    unfolding index_in
    pair-at q l (yes e) = rw (e, group-here g tab own a n v img ix refl wide page off room (omega (arith, few))) pair-back
    pair-at q l (no o) = rw (group-there g tab own a n v img ix refl wide page off room q o) (pairs q l)

    low_same : (i : ℕ) → i ≤ g.t → sec (change_run g tab own a (suc n) v img) i ≡ sec img i
    low_same i h = bits-other g tab own a n v img ix refl wide page i (λ e. omega (arith, e)) (λ e. omega (arith, e, named.0.0))

  run-pairs : (a n v : ℕ) → (0 < n → a < 4096 * g_p g) → PairIn g (change_run g tab own a n v img)
  unfolding change_run
  run-pairs a zero v h = pairs
  run-pairs a (suc n) v h =
      let s : a < 4096 * g_p g = h (omega arith) in
      let w : a / 4096 < g_p g = omega arith in
      unfold change_run in (λ q l. pair-at a n v w q l (ℕ_discrete q (a / 4096)))

  run-table : (a n v : ℕ) → (0 < n → a < 4096 * g_p g) → (w : View) → table_in g w (sec (change_run g tab own a n v img)) ≡ table_in g w (sec img)
  run-table a zero v h w = (unfold change_run in refl)
  run-table a (suc n) v h w =
      let s : a < 4096 * g_p g = h (omega arith) in
      unfold table_in in (rw (table_same g (sec img) (sec (change_run g tab own a (suc n) v img)) (λ i lo hi. low_same a n v (omega arith) i hi)))

-- set, then clear: what the first leaves
module _ (g : Geo) (own : Stamp) (w : View) (img : List ℕ) (laid : LaidOut g img) (pairs : PairIn g img) (new : Run)
    (inside : 0 < new.sectors → new.start.0 < 4096 * g_p g) {first : List ℕ} (e : first ≡ change_run g (table_in g w (sec img)) own new.start.0 new.sectors 1 img) where
  pub pairs-again : PairIn g first
  pairs-again = rw e (run-pairs g (table_in g w (sec img)) own img laid pairs new.start.0 new.sectors 1 inside)

  pub bits-again : (old : Run) {second : List ℕ} → second ≡ change_run g (table_in g w (sec first)) own old.start.0 old.sectors 0 first
      → second ≡ change_bits g (table_in g w (sec img)) own new old img
  bits-again old f =
      let t : table_in g w (sec first) ≡ table_in g w (sec img) = ap (λ (x : List ℕ). table_in g w (sec x)) e ∙ run-table g (table_in g w (sec img)) own img laid pairs new.start.0 new.sectors 1 inside w in
      bits-both g (table_in g w (sec img)) own new old img e (f ∙ ap (λ (l : List ℕ). change_run g l own old.start.0 old.sectors 0 first) t)
