-- What a geometry inside the limits says, tables of two cards that agree, and stamps taken apart. Assumes nothing.
use mathlib.Core.Path.{◌≡◌, refl, sym, ap, ◌∙◌}
use mathlib.Core.Bool.{true, ◌||◌}
use mathlib.Core.List.{List}
use mathlib.Core.Logic.{◌⊎◌, inl, inr, ⊎_elim}
use Prim.Native.Nat.{ℕ, zero, suc, ◌+◌, ◌*◌, ◌≤◌, ◌<◌}
use native.Mathlib.Omega.{arith}
use borrow.Author.Tests.{leb-true, ltb-true, le-leb, lt-ltb}
use lib.Dec.{leb, ltb}
use lib.ListN.{drop, get_or, set}
use lib.Seq.{drop-drop, get_or-drop, drop-set-lt}
use Rattle.words.proofs.BoolLaws.{both, join, or-intro, or_cases}
use Rattle.words.specs.Lists.{every, is_zero}
use Rattle.words.proofs.EveryMore.{every_set, every_drop, zero-at}
use Rattle.sectors.specs.Sectors.{Cells}
use Rattle.counts.specs.declared.Geo.{Geo}
use Rattle.counts.specs.declared.Stamp.{Stamp}
use Rattle.counts.proofs.TableLaws.{past-pages, dir-data, pages-few, pages-cover, dir-is}
use Rattle.counts.specs.Geometry.{g_n, g_p, g_dir, g_f, geo_ok, geo_of, count_of, table_from, table_of}
use Rattle.counts.specs.Stamps.{max_tx, word_max, alive, dead_below, stamp_ok, table_ok}

-- "S may reach 65,536"; "T table sectors, 1 to 512"; "D directory sectors, 1 to 64"; "S must be at least F + 1"
pub record Limits (g : Geo) : Type 0 where
  pub past : g.t + 4 ≤ g_dir g
  pub dir : g_dir g + g.d ≡ g_f g
  pub s_low : g_f g < g.s
  pub s_high : g.s ≤ 65536
  pub few : g_p g ≤ 16
  pub covered : g.s ≤ 4096 * g_p g
  pub dir_is : g_dir g ≡ g.t + 2 + 2 * g_p g
  pub t_low : 1 ≤ g.t
  pub t_high : g.t ≤ 512
  pub d_low : 1 ≤ g.d
  pub d_high : g.d ≤ 64

-- N as code counts it
pub counted : (g : Geo) {n : ℕ} → n ≡ g_n g → n ≡ 128 * g.t
unfolding g_n
counted g e = e

pub limits : (g : Geo) → geo_ok g ≡ true → Limits g
unfolding geo_ok
limits g h =
    let (a, f) = both _ (ltb (g_f g) g.s) h in
    let (b, d) = both _ (leb g.d 64) a in
    let (c, d') = both _ (leb 1 g.d) b in
    let (e, t) = both _ (leb g.t 512) c in
    let (s, t') = both (leb g.s 65536) (leb 1 g.t) e in
    record {
      past = past-pages g (let n : g_f g < g.s = ltb-true _ _ f in omega arith);
      dir = dir-data g;
      s_low = ltb-true _ _ f;
      s_high = leb-true _ _ s;
      few = pages-few g (leb-true _ _ s);
      covered = pages-cover g;
      dir_is = dir-is g;
      t_low = leb-true _ _ t';
      t_high = leb-true _ _ t;
      d_low = leb-true _ _ d';
      d_high = leb-true _ _ d;
    }

pub geo-eq : (a b : Geo) → a.s ≡ b.s → a.t ≡ b.t → a.d ≡ b.d → a ≡ b
geo-eq a b p q r = λ i. record { s = p i; t = q i; d = r i }

-- the count and the geometry depend on sector 0 alone
pub head_of : (k k' : Cells) → k' 0 ≡ k 0 → (count_of k' ≡ count_of k) × (geo_of k' ≡ geo_of k)
unfolding count_of geo_of
head_of k k' e = (rw e, rw e)

-- the table depends on the sectors from 1 to T alone
module _ (g : Geo) (k k' : Cells) (same : (i : ℕ) → 1 ≤ i → i ≤ g.t → k' i ≡ k i) where
  from-same : (n i : ℕ) → 1 ≤ i → i + n ≤ g.t + 1 → table_from i n k' ≡ table_from i n k
  unfolding table_from
  from-same zero i l h = refl
  from-same (suc n) i l h = rw (same i l (omega arith), from-same n (suc i) (omega arith) (omega arith))

  pub table_same : table_of g k' ≡ table_of g k
  unfolding table_of
  table_same = from-same g.t 1 (omega arith) (omega arith)

-- ---- stamps

-- a stamp that is the old one or the session's own is in range where the old one was
pub stamp-either : (g : Geo) (s s₀ own : Stamp) → own.cc.0 < g_n g → own.txc.0 ≤ max_tx → (s ≡ s₀) ⊎ (s ≡ own) → stamp_ok g s₀ ≡ true → stamp_ok g s ≡ true
unfolding stamp_ok
stamp-either g s s₀ own hc ht (inl q) h = rw q h
stamp-either g s s₀ own hc ht (inr q) h = rw q (join _ _ (lt-ltb _ _ hc) (le-leb _ _ ht))

pub dead-own : (C : ℕ) (tab : List ℕ) (own : Stamp) → own.cc.0 < C → dead_below C tab own ≡ true
unfolding dead_below
dead-own C tab own h = or-intro (alive tab own) _ (inr (lt-ltb _ _ h))

pub dead-either : (C : ℕ) (tab : List ℕ) (s s₀ own : Stamp) → own.cc.0 < C → (s ≡ s₀) ⊎ (s ≡ own) → dead_below C tab s₀ ≡ true → dead_below C tab s ≡ true
dead-either C tab s s₀ own hc (inl q) h = rw q h
dead-either C tab s s₀ own hc (inr q) h = rw q (dead-own C tab own hc)

pub dead-mono : (C C' : ℕ) (tab : List ℕ) (s : Stamp) → C ≤ C' → dead_below C tab s ≡ true → dead_below C' tab s ≡ true
unfolding dead_below
dead-mono C C' tab s l h =
    or-intro (alive tab s) _
    (⊎_elim (λ q. inl q) (λ q. inr (lt-ltb s.cc.0 C' (omega (arith, ltb-true s.cc.0 C q)))) (or_cases (alive tab s) (ltb s.cc.0 C) h))

-- ---- the table's rule

pub record Table (g : Geo) (C : ℕ) (tab : List ℕ) : Type 0 where
  pub max : every word_max tab ≡ true
  pub past : every is_zero (drop (C + 1) tab) ≡ true
  pub word : C < g_n g → get_or tab C 0 < max_tx

pub table-inv : (g : Geo) (C : ℕ) (tab : List ℕ) → table_ok g C tab ≡ true → Table g C tab
unfolding table_ok
table-inv g C tab h =
    let (r, c) = both _ (leb (g_n g) C || ltb (get_or tab C 0) max_tx) h in
    let (a, b) = both (every word_max tab) _ r in
    record {
      max = a;
      past = b;
      word = λ l. ⊎_elim (λ q. absurd (omega (arith, leb-true (g_n g) C q))) (λ q. ltb-true (get_or tab C 0) max_tx q) (or_cases (leb (g_n g) C) (ltb (get_or tab C 0) max_tx) c);
    }

-- the table at its own count
pub table_here : (g : Geo) (C : ℕ) (tab : List ℕ) → every word_max tab ≡ true → every is_zero (drop (C + 1) tab) ≡ true → get_or tab C 0 < max_tx → table_ok g C tab ≡ true
unfolding table_ok
table_here g C tab m z h = join _ _ (join _ _ m z) (or-intro (leb (g_n g) C) _ (inr (lt-ltb _ _ h)))

-- the table one count further
pub table-next : (g : Geo) (C : ℕ) (tab : List ℕ) → every word_max tab ≡ true → every is_zero (drop (C + 1) tab) ≡ true → table_ok g (C + 1) tab ≡ true
table-next g C tab m z =
    let e : C + 1 + 0 ≡ C + 1 = omega arith in
    let w : get_or tab (C + 1) 0 ≡ 0 = sym (ap (λ (x : ℕ). get_or tab x 0) e) ∙ sym (get_or-drop (C + 1) tab 0 0) ∙ zero-at (drop (C + 1) tab) 0 z in
    table_here g (C + 1) tab m (rw (sym (drop-drop 1 (C + 1) tab)) (every_drop is_zero 1 _ z)) (omega arith)

-- word c made t
pub max-set : (tab : List ℕ) (c t : ℕ) → every word_max tab ≡ true → t ≤ max_tx → every word_max (set tab c t) ≡ true
max-set tab c t h l = every_set word_max tab c t h (le-leb t max_tx l)

pub past-set : (tab : List ℕ) (c t : ℕ) → every is_zero (drop (c + 1) tab) ≡ true → every is_zero (drop (c + 1) (set tab c t)) ≡ true
past-set tab c t h = rw (drop-set-lt (c + 1) tab c t (omega arith)) h
