-- A run of bits changed under its group, sector by sector, and what it leaves. Assumes nothing.
use mathlib.Core.Path.{◌≡◌, refl, sym, ap, ◌∙◌}
use mathlib.Core.List.{List}
use mathlib.Core.Logic.{◌≢◌, ◌⊎◌, ⊎_elim}
use Prim.Native.Nat.{ℕ, zero, suc, ◌+◌, ◌*◌, ◌/◌, ◌%◌, ◌≤◌, ◌<◌}
use native.Mathlib.Decide.{ℕ_discrete}
use native.Mathlib.Omega.{arith}
use lib.ListN.{length, drop, get_or, set}
use Rattle.words.specs.Lists.{every, is_zero, set_part}
use Rattle.words.proofs.SpliceLaws.{drop-after}
use Rattle.sectors.specs.Sectors.{sec}
use Rattle.sectors.proofs.FlatLaws.{sec-in}
use Rattle.counts.specs.declared.Geo.{Geo}
use Rattle.counts.specs.declared.Stamp.{Stamp}
use Rattle.counts.specs.Geometry.{g_n, g_p, first_page, pair_low, pair_high}
use Rattle.counts.proofs.GeoLaws.{Limits}
use Rattle.counts.specs.Stamps.{max_tx, standing}
use Rattle.entries.specs.declared.Run.{Run}
use Rattle.apages.specs.declared.Index.{Index}
use Rattle.apages.specs.Bits.{set_run}
use Rattle.apages.specs.Index.{index_of, group_bytes, group_of, index_in, shown_page, page_at, changed_index, page_before, change_run, change_bits}
use Rattle.apages.specs.Inner.{InOnePage}
use Rattle.apages.proofs.IndexLaws.{group-length}
use Rattle.apages.proofs.PassLaws.{shown-range}
use Rattle.apages.proofs.MapLaws.{map-set}
use Rattle.apages.proofs.Remapped.{Paired, Remapped, remapped-then, paired-wide}
use Rattle.apages.proofs.FrameLaws.{bits-length, bits-other, index-now, group-here, group-there, bits-page}
use Rattle.apages.proofs.IndexViews.{IdxSame, idx-refl, IndexSame, index-refl, before-shown, hidden, between, back-stamp, now-page, index-step}

-- page q has the sectors of a run, which lie in one page
abbrev OfRun : Run → ℕ → Type 0
OfRun r q = (0 < r.sectors) × (q ≡ r.start.0 / 4096)

module _ (g : Geo) (L : Limits g) (tab : List ℕ) (own : Stamp) (c_n : own.cc.0 < g_n g) (t_m : own.txc.0 ≤ max_tx)
    (hc : own.cc.0 < length tab) (hw : get_or tab own.cc.0 0 + 1 ≡ own.txc.0) where
  abbrev present : List ℕ
  present = set tab own.cc.0 own.txc.0

  -- ---- n + 1 sectors from a on, all in page a / 4096

  module _ (a n v : ℕ) (img : List ℕ) (P : Paired g own img) (fits : a % 4096 + suc n ≤ 4096) (small : a / 4096 < g_p g) where
    abbrev p : ℕ
    p = a / 4096

    abbrev ix : List ℕ
    ix = index_in g (sec img)

    abbrev x : List ℕ
    x = group_of ix p

    abbrev next : Index
    next = changed_index (standing present own (index_of x).stamp) own (index_of x)

    abbrev after : List ℕ
    after = change_run g present own a (suc n) v img

    wide : length ix ≡ 512
    unfolding index_in
    wide = sec-in img g.s (g.t + 1) P.sized (omega (arith, L.past, L.dir, L.s_low))

    was : page_before (standing present own (index_of x).stamp) next ≡ shown_page present x
    was = before-shown g p small tab own hc hw x (P.stamps p small) (P.pair p small)

    page : length (sec img (page_before (standing present own (index_of x).stamp) next)) ≡ 512
    unfolding page_at
    page = rw was (paired-wide g L own img present P p small)

    span : (pair_low g p ≤ next.a.0) × (next.a.0 ≤ pair_high g p)
    span = between g p small tab own hc hw x (P.stamps p small) (P.pair p small)

    off : next.a.0 ≢ g.t + 1
    off e = omega (arith, span.0)

    room : 512 * (g.t + 1) + 512 ≤ length img
    room = omega (arith, P.sized, L.past, L.dir, L.s_low)

    run_length : length after ≡ length img
    run_length = bits-length g present own a n v img ix refl wide page

    run-other : (i : ℕ) → i ≢ g.t + 1 → i ≢ next.a.0 → sec after i ≡ sec img i
    run-other = bits-other g present own a n v img ix refl wide page

    -- a page of the index that is not A after the change
    page-other : (i : ℕ) → first_page g ≤ i → i ≢ next.a.0 → sec after i ≡ sec img i
    page-other i l o = run-other i (λ e. omega (arith, e)) o

    here : group_of (index_in g (sec after)) p ≡ group_bytes next
    unfolding index_in
    here = group-here g present own a n v img ix refl wide page off room (omega (arith, L.few))

    there : (q : ℕ) → q ≢ p → group_of (index_in g (sec after)) q ≡ group_of ix q
    unfolding index_in
    there q o = group-there g present own a n v img ix refl wide page off room q o

    same_at : (q : ℕ) → q < g_p g → Dec (q ≡ p) → IdxSame g q tab own (group_of ix q) (group_of (index_in g (sec after)) q)
    same_at q l (yes e) =
        rw (e, here) (index-step g p small tab own hc hw x (P.stamps p small) (P.pair p small) L c_n t_m)
    same_at q l (no o) = rw (there q o) (idx-refl g q tab own (group_of ix q))

    index_is : index_in g (sec after) ≡ set_part 16 ix p (group_bytes next)
    unfolding index_in
    index_is = index-now g present own a n v img ix refl wide page off room

    rest : every is_zero (drop (16 * g_p g) (index_in g (sec after))) ≡ every is_zero (drop (16 * g_p g) ix)
    unfolding set_part
    rest =
        ap (λ (y : List ℕ). every is_zero (drop (16 * g_p g) y)) index_is
        ∙ ap (λ (y : List ℕ). every is_zero y) (drop-after ix (16 * p) (group_bytes next) (16 * g_p g) (omega (arith, group-length next)))

    index : IndexSame g tab own ix (index_in g (sec after))
    index = record { groups = λ q l. same_at q l (ℕ_discrete q p); zeros = rest }

    pages-apart : (q : ℕ) (t : List ℕ) → q < g_p g → q ≢ p → shown_page t (group_of ix q) ≢ next.a.0
    pages-apart q t l o e = let r = shown-range g q t (group_of ix q) (P.pair q l) in omega (arith, r.0, r.1, span.0, span.1)

    cut_at : (q : ℕ) → q < g_p g → Dec (q ≡ p) → shown_page tab (group_of ix q) ≢ next.a.0
    cut_at q l (yes e) = rw e (λ z. hidden g p small tab own hc hw x (P.stamps p small) (P.pair p small) (sym z))
    cut_at q l (no o) = pages-apart q tab l o

    low : (q : ℕ) (t : List ℕ) → q < g_p g → first_page g ≤ shown_page t (group_of ix q)
    low q t l = let r = shown-range g q t (group_of ix q) (P.pair q l) in omega (arith, r.0)

    page-there : (q : ℕ) → q < g_p g → q ≢ p → page_at g present (sec after) q ≡ page_at g present (sec img) q
    unfolding page_at
    page-there q l o = rw (there q o) (page-other (shown_page present (group_of ix q)) (low q present l) (pages-apart q present l o))

    page-here : page_at g present (sec after) p ≡ set_run (page_at g present (sec img) p) (a % 4096) (suc n) v
    unfolding page_at
    page-here =
        rw (here, now-page g p small tab own hc hw x (P.stamps p small) (P.pair p small) L c_n t_m)
        (bits-page g present own a n v img ix refl wide page (omega (arith, span.1, P.sized, L.dir_is, L.dir, L.s_low)) ∙ ap (λ (i : ℕ). set_run (sec img i) (a % 4096) (suc n) v) was)

    run-some : Remapped g tab own (λ m. set_run m a (suc n) v) (λ q. (0 < suc n) × (q ≡ a / 4096)) img after
    run-some =
        record {
          paired = record {
            sized = run_length ∙ P.sized;
            pair = λ q l. (index.groups q l).pair ∙ P.pair q l;
            stamps = λ q l. ⊎_elim (λ u. rw u (P.stamps q l)) (λ u. rw u (λ e. omega arith)) (index.groups q l).stamp;
          };
          index = index;
          stamped = λ q l w. rw (w.1, here) (back-stamp g p small tab own hc hw x (P.stamps p small) (P.pair p small) L c_n t_m);
          cut = λ q l. page-other (shown_page tab (group_of ix q)) (low q tab l) (cut_at q l (ℕ_discrete q p));
          other = λ i o z. run-other i o (λ e. z (omega (arith, span.0), omega (arith, span.1, L.dir_is)));
          pairs = λ q l o.
              let z : q ≢ p = (λ e. o (omega arith, e)) in
              record {
                group = there q z;
                first = page-other (pair_low g q) (omega arith) (λ e. omega (arith, span.0, span.1));
                second = page-other (pair_high g q) (omega arith) (λ e. omega (arith, span.0, span.1));
              };
          map =
              let e : 4096 * p + a % 4096 ≡ a = omega arith in
              rw e at (map-set g present (sec img) (sec after) p (a % 4096) (suc n) v fits (paired-wide g L own img present P) small page-there page-here);
        }

  -- ---- any run of one page; none changes nothing

  pub run-changed : (a n v : ℕ) (img : List ℕ) → Paired g own img → a % 4096 + n ≤ 4096 → (0 < n → a < 4096 * g_p g) → Remapped g tab own (λ m. set_run m a n v) (λ q. (0 < n) × (q ≡ a / 4096)) img (change_run g present own a n v img)
  unfolding change_run set_run
  run-changed a zero v img P fits small =
      record { paired = P; index = index-refl g tab own _; stamped = λ q l w. absurd (omega (arith, w.0)); cut = λ q l. refl; other = λ i o z. refl; pairs = λ q l o. record { group = refl; first = refl; second = refl }; map = refl }
  run-changed a (suc n) v img P fits small = unfold change_run set_run in run-some a n v img P fits (let s : a < 4096 * g_p g = small (omega arith) in omega arith)

  -- "Changing the bitmap": the sectors of a new run set, then those of an old one cleared
  pub bits-changed : (new old : Run) (img : List ℕ) → Paired g own img → InOnePage g new → InOnePage g old
      → Remapped g tab own (λ p. set_run (set_run p new.start.0 new.sectors 1) old.start.0 old.sectors 0) (λ q. OfRun new q ⊎ OfRun old q) img (change_bits g present own new old img)
  unfolding change_bits
  bits-changed new old img P n o =
      let A = run-changed new.start.0 new.sectors 1 img P n.0 n.1 in
      remapped-then g tab own A (run-changed old.start.0 old.sectors 0 (change_run g present own new.start.0 new.sectors 1 img) A.paired o.0 o.1)
