-- Changing the index: A and B after the change, and which page each view shows. Assumes nothing.
use mathlib.Core.Path.{◌≡◌, refl, sym, ap, ◌∙◌}
use mathlib.Core.Bool.{Bool, true, false, cond}
use mathlib.Core.List.{List}
use mathlib.Core.Logic.{inr, ⊎_elim, ◌≢◌, ◌⊎◌, inl}
use Prim.Native.Nat.{ℕ, ◌+◌, ◌*◌, ◌≤◌, ◌<◌, ◌^◌}
use native.Mathlib.Omega.{arith}
use lib.ListN.{length, drop, get_or, set}
use Rattle.words.specs.Lists.{every, is_zero}
use Rattle.words.specs.Bytes.{word_at}
use Rattle.counts.specs.declared.Geo.{Geo}
use Rattle.counts.specs.declared.Stamp.{Stamp}
use Rattle.counts.specs.declared.Standing.{Standing}
use Rattle.counts.specs.declared.Standing.TheVariants.{Alive, Dead}
use Rattle.counts.specs.Geometry.{g_n, g_p, pair_low, pair_high}
use Rattle.counts.proofs.GeoLaws.{Limits}
use Rattle.counts.specs.Stamps.{max_tx, stamp_of, alive, showing, same_stamp, standing}
use Rattle.counts.proofs.StampLaws.{same_true, own-dead, own-alive, others, now-new, cut-old}
use Rattle.apages.specs.declared.Index.{Index}
use Rattle.apages.specs.Index.{index_of, group_of, group_bytes, pair_ok, shown_page, changed_index, page_before}
use Rattle.apages.proofs.IndexLaws.{index_back, changed-stamp}
use Rattle.apages.proofs.PassLaws.{pair_values, pair-swap}

-- a group of the index that the cut view reads as before
pub record IdxSame (g : Geo) (p : ℕ) (tab : List ℕ) (own : Stamp) (x₀ x : List ℕ) : Type 0 where
  pub page : shown_page tab x ≡ shown_page tab x₀
  pub stamp : (stamp_of x ≡ stamp_of x₀) ⊎ (stamp_of x ≡ own)
  pub pair : pair_ok g p (word_at x 8) (word_at x 12) ≡ pair_ok g p (word_at x₀ 8) (word_at x₀ 12)

pub idx-refl : (g : Geo) (p : ℕ) (tab : List ℕ) (own : Stamp) (x : List ℕ) → IdxSame g p tab own x x
idx-refl g p tab own x = record { page = refl; stamp = inl refl; pair = refl }

pub idx-trans : (g : Geo) (p : ℕ) (tab : List ℕ) (own : Stamp) {x y z : List ℕ} → IdxSame g p tab own x y → IdxSame g p tab own y z → IdxSame g p tab own x z
idx-trans g p tab own a b =
    record {
      page = b.page ∙ a.page;
      stamp = ⊎_elim (λ u. ⊎_elim (λ v. inl (u ∙ v)) (λ v. inr (u ∙ v)) a.stamp) (λ u. inr u) b.stamp;
      pair = b.pair ∙ a.pair;
    }

-- an index sector that the cut view reads as before: each group, and the words behind them
pub record IndexSame (g : Geo) (tab : List ℕ) (own : Stamp) (ix₀ ix : List ℕ) : Type 0 where
  pub groups : (p : ℕ) → p < g_p g → IdxSame g p tab own (group_of ix₀ p) (group_of ix p)
  pub zeros : every is_zero (drop (16 * g_p g) ix) ≡ every is_zero (drop (16 * g_p g) ix₀)

pub index-refl : (g : Geo) (tab : List ℕ) (own : Stamp) (ix : List ℕ) → IndexSame g tab own ix ix
index-refl g tab own ix = record { groups = λ p l. idx-refl g p tab own (group_of ix p); zeros = refl }

pub index-trans : (g : Geo) (tab : List ℕ) (own : Stamp) {x y z : List ℕ} → IndexSame g tab own x y → IndexSame g tab own y z → IndexSame g tab own x z
index-trans g tab own a b = record { groups = λ p l. idx-trans g p tab own (a.groups p l) (b.groups p l); zeros = b.zeros ∙ a.zeros }

module _ (g : Geo) (p : ℕ) (small : p < g_p g) (tab : List ℕ) (own : Stamp) (hc : own.cc.0 < length tab) (hw : get_or tab own.cc.0 0 + 1 ≡ own.txc.0)
    (ix : List ℕ) (stamps : (stamp_of ix).cc.0 ≡ own.cc.0 → (stamp_of ix).txc.0 ≤ own.txc.0) (pair : pair_ok g p (word_at ix 8) (word_at ix 12) ≡ true) where
  abbrev pub present : List ℕ
  present = set tab own.cc.0 own.txc.0

  abbrev pub stands : Standing
  stands = standing present own (index_of ix).stamp

  abbrev pub next : Index
  next = changed_index stands own (index_of ix)

  -- A, B, the page that a cut shows, and the page that the present view showed before
  pub data AB : ℕ → ℕ → ℕ → ℕ → Type 0 where
    mine : AB (word_at ix 8) (word_at ix 12) (word_at ix 12) (word_at ix 8)
    same : AB (word_at ix 8) (word_at ix 12) (word_at ix 12) (word_at ix 12)
    swap : AB (word_at ix 12) (word_at ix 8) (word_at ix 8) (word_at ix 8)

  pub ab : AB next.a.0 next.b.0 (shown_page tab ix) (page_before stands next)
  unfolding standing changed_index page_before shown_page showing index_of
  ab = go (same_stamp (stamp_of ix) own) refl
    where
      go : (b : Bool) → same_stamp (stamp_of ix) own ≡ b → AB next.a.0 next.b.0 (shown_page tab ix) (page_before stands next)
      go true e =
          let q = same_true (stamp_of ix) own e in
          let z : alive tab (stamp_of ix) ≡ false = (unfold alive in rw (q.0, q.1) (unfold alive in own-dead tab own hc hw)) in
          rw (e, z) mine
      go false e = rw (e, others tab own hc hw (stamp_of ix) stamps e) (sides (alive tab (stamp_of ix)))
        where
          sides : (b : Bool) → AB (changed_index (cond b Alive Dead) own (index_of ix)).a.0 (changed_index (cond b Alive Dead) own (index_of ix)).b.0
              (cond b (word_at ix 8) (word_at ix 12)) (page_before (cond b Alive Dead) (changed_index (cond b Alive Dead) own (index_of ix)))
          sides true = unfold changed_index page_before index_of in swap
          sides false = unfold changed_index page_before index_of in same

  -- the page whose bits A starts from is the one that the present view showed
  pub before-shown : page_before stands next ≡ shown_page present ix
  unfolding standing changed_index page_before shown_page showing index_of
  before-shown = go (same_stamp (stamp_of ix) own) refl
    where
      go : (b : Bool) → same_stamp (stamp_of ix) own ≡ b → page_before stands next ≡ shown_page present ix
      go true e =
          let q = same_true (stamp_of ix) own e in
          let z : alive present (stamp_of ix) ≡ true = (unfold alive in rw (q.0, q.1) (unfold alive in own-alive tab own hc hw)) in
          rw (e, z)
      go false e = rw e (sides (alive present (stamp_of ix)))
        where
          sides : (b : Bool) → page_before (cond b Alive Dead) (changed_index (cond b Alive Dead) own (index_of ix)) ≡ cond b (word_at ix 8) (word_at ix 12)
          sides true = unfold changed_index page_before index_of in refl
          sides false = unfold changed_index page_before index_of in refl

  -- A and B are the two pages
  pub hidden : next.a.0 ≢ shown_page tab ix
  hidden = go ab
    where
      go : {A B Q R : ℕ} → AB A B Q R → A ≢ Q
      go mine = ⊎_elim (λ q. omega (arith, q.0, q.1)) (λ q. omega (arith, q.0, q.1)) (pair_values g p _ _ pair)
      go same = ⊎_elim (λ q. omega (arith, q.0, q.1)) (λ q. omega (arith, q.0, q.1)) (pair_values g p _ _ pair)
      go swap = ⊎_elim (λ q. omega (arith, q.0, q.1)) (λ q. omega (arith, q.0, q.1)) (pair_values g p _ _ pair)

  pub pair-ab : pair_ok g p next.a.0 next.b.0 ≡ true
  pair-ab = go ab
    where
      go : {A B Q R : ℕ} → AB A B Q R → pair_ok g p A B ≡ true
      go mine = pair
      go same = pair
      go swap = pair-swap g p (word_at ix 8) (word_at ix 12) pair

  pub between : (pair_low g p ≤ next.a.0) × (next.a.0 ≤ pair_high g p)
  between = ⊎_elim (λ q. (omega (arith, q.0), omega (arith, q.0))) (λ q. (omega (arith, q.0), omega (arith, q.0))) (pair_values g p _ _ pair-ab)

  pub between_b : (pair_low g p ≤ next.b.0) × (next.b.0 ≤ pair_high g p)
  between_b = ⊎_elim (λ q. (omega (arith, q.1), omega (arith, q.1))) (λ q. (omega (arith, q.1), omega (arith, q.1))) (pair_values g p _ _ pair-ab)

  cut-b : next.b.0 ≡ shown_page tab ix
  cut-b = go ab
    where
      go : {A B Q R : ℕ} → AB A B Q R → B ≡ Q
      go mine = refl
      go same = refl
      go swap = refl

  -- ---- the index sector, written and read back

  module _ (L : Limits g) (c_n : own.cc.0 < g_n g) (t_m : own.txc.0 ≤ max_tx) where
    few : p < 17
    unfolding g_p
    few = omega (arith, small, L.s_high)

    pub read_back : index_of (group_bytes next) ≡ next
    unfolding g_n
    read_back =
        let u = between in
        let q = between_b in
        index_back next own-small.0 own-small.1 (omega (arith, u.1, L.t_high, few)) (omega (arith, q.1, L.t_high, few))
      where
        own-small : (next.stamp.cc.0 < 2 ^ 32) × (next.stamp.txc.0 < 2 ^ 32)
        own-small = rw (changed-stamp stands own (index_of ix)) (unfold g_n in (omega (arith, c_n, L.t_high), omega (arith, t_m)))

    pub back-stamp : stamp_of (group_bytes next) ≡ own
    unfolding index_of
    back-stamp = ap (λ (i : Index). i.stamp) read_back ∙ changed-stamp stands own (index_of ix)

    pub back_a : word_at (group_bytes next) 8 ≡ next.a.0
    unfolding index_of
    back_a = ap (λ (i : Index). i.a.0) read_back

    pub back-b : word_at (group_bytes next) 12 ≡ next.b.0
    unfolding index_of
    back-b = ap (λ (i : Index). i.b.0) read_back

    -- the present view shows A, the cut view B, which is what it showed
    pub now-page : shown_page present (group_bytes next) ≡ next.a.0
    unfolding shown_page
    now-page = rw back-stamp (now-new tab own hc hw (word_at (group_bytes next) 8) (word_at (group_bytes next) 12)) ∙ back_a

    pub cut-page : shown_page tab (group_bytes next) ≡ shown_page tab ix
    cut-page = open-page ∙ back-b ∙ cut-b
      where
        open-page : shown_page tab (group_bytes next) ≡ word_at (group_bytes next) 12
        open-page = unfold shown_page in (rw back-stamp (cut-old tab own hc hw (word_at (group_bytes next) 8) (word_at (group_bytes next) 12)))

    pub index-step : IdxSame g p tab own ix (group_bytes next)
    index-step = record { page = cut-page; stamp = inr back-stamp; pair = rw (back_a, back-b) (pair-ab ∙ sym pair) }
