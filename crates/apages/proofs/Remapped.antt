-- What a change of bits leaves: the index, the pages, the map of the present view and that of the cut view; one change after another. Assumes nothing.
use mathlib.Core.Path.{◌≡◌, ap, ◌∙◌}
use mathlib.Core.Bool.{true}
use mathlib.Core.List.{List}
use mathlib.Core.Logic.{◌≢◌, ◌⊎◌, inl, inr, ⊎_elim}
use Prim.Native.Nat.{ℕ, ◌+◌, ◌*◌, ◌≤◌, ◌<◌}
use native.Mathlib.Omega.{arith}
use lib.ListN.{length, set}
use Rattle.words.specs.Bytes.{word_at}
use Rattle.sectors.specs.Sectors.{sec}
use Rattle.sectors.proofs.FlatLaws.{sec-in}
use Rattle.counts.specs.declared.Geo.{Geo}
use Rattle.counts.specs.declared.Stamp.{Stamp}
use Rattle.counts.specs.Geometry.{g_p, g_dir, first_page}
use Rattle.counts.proofs.GeoLaws.{Limits}
use Rattle.counts.specs.Stamps.{stamp_of}
use Rattle.apages.specs.Index.{group_of, index_in, pair_ok, shown_page, page_at, page_in}
use Rattle.apages.proofs.PassLaws.{shown-range}
use Rattle.apages.proofs.MapLaws.{Wide, map_same}
use Rattle.apages.proofs.IndexViews.{IndexSame, index-trans}
use Rattle.apages.specs.Inner.{PairSame}

-- an image that a session can change the bitmap of: its pairs, and no stamp at its count above its own
pub record Paired (g : Geo) (own : Stamp) (img : List ℕ) : Type 0 where
  pub sized : length img ≡ 512 * g.s
  pub pair : (p : ℕ) → p < g_p g → pair_ok g p (word_at (group_of (index_in g (sec img)) p) 8) (word_at (group_of (index_in g (sec img)) p) 12) ≡ true
  pub stamps : (p : ℕ) → p < g_p g → (stamp_of (group_of (index_in g (sec img)) p)).cc.0 ≡ own.cc.0 → (stamp_of (group_of (index_in g (sec img)) p)).txc.0 ≤ own.txc.0

-- what a change of bits leaves: f is what it does to the map of the present view, and `on` says of which pairs bits change; tab is the table of the cut view
pub record Remapped (g : Geo) (tab : List ℕ) (own : Stamp) (f : List ℕ → List ℕ) (on : ℕ → Type 0) (img img' : List ℕ) : Type 0 where
  pub paired : Paired g own img'
  pub index : IndexSame g tab own (index_in g (sec img)) (index_in g (sec img'))
  -- "and the stamp becomes (c, t)": of the pairs in which bits change
  pub stamped : (q : ℕ) → q < g_p g → on q → stamp_of (group_of (index_in g (sec img')) q) ≡ own
  -- the pages that the cut view shows stay
  pub cut : (p : ℕ) → p < g_p g → sec img' (shown_page tab (group_of (index_in g (sec img)) p)) ≡ sec img (shown_page tab (group_of (index_in g (sec img)) p))
  -- and so does every sector but the index and the pages
  pub other : (i : ℕ) → i ≢ g.t + 1 → ¬ ((first_page g ≤ i) × (i < g_dir g)) → sec img' i ≡ sec img i
  -- "only where a bit changes": every other pair stays
  pub pairs : (q : ℕ) → q < g_p g → ¬ on q → PairSame g img img' q
  pub map : page_in g (set tab own.cc.0 own.txc.0) (sec img') ≡ f (page_in g (set tab own.cc.0 own.txc.0) (sec img))

-- one change after the other
pub remapped-then : (g : Geo) (tab : List ℕ) (own : Stamp) {f h : List ℕ → List ℕ} {on on' : ℕ → Type 0} {x y z : List ℕ} → Remapped g tab own f on x y → Remapped g tab own h on' y z
    → Remapped g tab own (λ m. h (f m)) (λ q. on q ⊎ on' q) x z
remapped-then g tab own {f} {h} {on} {on'} {x} {y} {z} A B =
    record {
      paired = B.paired;
      index = index-trans g tab own A.index B.index;
      stamped = λ q l w. ⊎_elim (λ x. ⊎_elim (λ e. e ∙ A.stamped q l x) (λ e. e) (B.index.groups q l).stamp) (B.stamped q l) w;
      cut = λ p l. let e : shown_page tab (group_of (index_in g (sec y)) p) ≡ shown_page tab (group_of (index_in g (sec x)) p) = (A.index.groups p l).page in (rw e at (B.cut p l)) ∙ A.cut p l;
      other = λ i a b. B.other i a b ∙ A.other i a b;
      pairs = λ q l o.
          let a = A.pairs q l (λ w. o (inl w)) in
          let b = B.pairs q l (λ w. o (inr w)) in
          record { group = b.group ∙ a.group; first = b.first ∙ a.first; second = b.second ∙ a.second };
      map = B.map ∙ ap h A.map;
    }

-- the map of the cut view stays
pub cut-map : (g : Geo) (tab : List ℕ) (own : Stamp) {f : List ℕ → List ℕ} {on : ℕ → Type 0} {x y : List ℕ} → Remapped g tab own f on x y → page_in g tab (sec y) ≡ page_in g tab (sec x)
cut-map g tab own {f} {on} {x} {y} A = map_same g tab tab (sec x) (sec y) (λ p l. (unfold page_at in rw (A.index.groups p l).page (A.cut p l)))

-- the sector of a page lies in the image
page-in : (g : Geo) (L : Limits g) (own : Stamp) (img tab : List ℕ) → Paired g own img → (p : ℕ) → p < g_p g → shown_page tab (group_of (index_in g (sec img)) p) < g.s
page-in g L own img tab P p l =
    let r = shown-range g p tab (group_of (index_in g (sec img)) p) (P.pair p l) in
    omega (arith, r.1, L.dir_is, L.dir, L.s_low)

pub paired-wide : (g : Geo) (L : Limits g) (own : Stamp) (img tab : List ℕ) → Paired g own img → Wide g tab (sec img)
unfolding page_at
paired-wide g L own img tab P p l = sec-in img g.s (shown_page tab (group_of (index_in g (sec img)) p)) P.sized (page-in g L own img tab P p l)
