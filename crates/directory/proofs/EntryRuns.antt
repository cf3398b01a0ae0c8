-- What iterates over the entries: that the chunks of the directory's bytes are the entries, and what a call over them answers. Assumes nothing.
use mathlib.Core.Path.{◌≡◌, refl, sym, ap, ◌∙◌}
use mathlib.Core.Bool.{Bool, true, false, not, cond, ◌&&◌}
use mathlib.Core.List.{List, [], ◌∷◌, ◌++◌}
use Prim.Native.Nat.{ℕ, zero, suc, ◌+◌, ◌-◌, ◌*◌, ◌≤◌, ◌<◌}
use native.Mathlib.Nat.{zero-add, add-zero}
use Prim.Native.Nat.compare
use native.Mathlib.Numerals.{one-add}
use native.Mathlib.Omega.{arith}
use denote.Ref.{Bor}
use denote.Param.Members.{Mut}
use borrow.Author.Rules.{rules}
use lib.Dec.{ltb}
use lib.ListN.{drop_of_length-le, length, take, drop, get_or, length-append, length-drop}
use lib.Seq.{take_at, drop_at, drop-drop, take-take, length-take-le}
use Rattle.std.specs.Prelude.{Option, Some, None}
use Rattle.std.specs.Fn.{Called, CalledAt}
use Rattle.std.specs.List.{range_with_len, list_all, position_or_len, count_by}
use Rattle.std.specs.Iterator.{AlwaysYields, Drains, ChecksAll, FindsPosition}
use Rattle.std.specs.Iterator.Adapters.{filter_source, filter_callee, filter_steps}
use Rattle.std.specs.declared.iter.Filter.{Filter}
use Rattle.std.specs.Slice.Iter.{chunks_exact_rest, chunks_exact_size, chunks_exact_steps}
use Rattle.std.specs.declared.slice.ChunksExact.{ChunksExact}
use Rattle.std.proofs.iter.Yields.{nat_range_steps}
use Rattle.std.proofs.lemmas.Iterator.{YieldsList, YieldsList-from_range}
use Rattle.std.specs.declared.ops.Range.{Range}
use Rattle.std.proofs.lemmas.Iterator.Search.{all_from_yields_List, position_from_yields_List}
use Rattle.std.proofs.lemmas.Iterator.Consumers.{YieldsList-at, YieldsList-from_filter, count_from_yields_List}
use Rattle.std.proofs.lemmas.List.{drop-take}
use Rattle.std.proofs.lemmas.List.Sums.{length-filter}
use Rattle.sectors.specs.Sectors.{sec}
use Rattle.counts.specs.declared.Geo.{Geo}
use Rattle.counts.specs.Geometry.{g_dir}
use Rattle.directory.specs.Directory.{entries_of}
use Rattle.directory.proofs.DirectoryLaws.{entries-length, entry_at}
use Rattle.words.specs.Lists.{every, first_at}
use Rattle.words.proofs.EveryLaws.{every-next}
use Rattle.directory.specs.Inner.{Gives}

-- one chunk comes off the front
chunk-first : (s t x : List ℕ) → s ≡ x ++ t → length x ≡ 128 → (x ≡ take 128 s) × (t ≡ drop 128 s)
chunk-first s t x e l = rw e (sym (take_at x t 128 l), sym (drop_at x t 128 l))

next : (k : ℕ) (s t : List ℕ) → t ≡ drop 128 s → drop (128 * suc k) s ≡ drop (128 * k) t
next k s t e = let z : 128 * suc k ≡ 128 + 128 * k = omega arith in rw (e, z) (sym (drop-drop (128 * k) 128 s))

-- the chunks of the bytes that are left are the entries that are left
pub chunks-yield : (it : ChunksExact ℕ) (es : List (List ℕ)) → chunks_exact_size it ≡ 128 → length (chunks_exact_rest it) ≡ 128 * length es
    → ((k : ℕ) → k < length es → get_or es k [] ≡ take 128 (drop (128 * k) (chunks_exact_rest it))) → AlwaysYields chunks_exact_steps (λ p. p.now) it es
chunks-yield it [] w l each = λ x j st. omega (arith, ap length st.1.0, length-append x.now (chunks_exact_rest j), st.1.1)
chunks-yield it (e ∷ es) w l each = (
  (λ j st. omega (arith, st.1.0)),
  λ x j st.
      let (a, b) = chunk-first (chunks_exact_rest it) (chunks_exact_rest j) x.now st.1.0 (st.1.1 ∙ w) in (
        a ∙ sym (each 0 (omega arith)),
        chunks-yield j es (st.0 ∙ w) (ap length b ∙ length-drop 128 (chunks_exact_rest it) ∙ omega arith)
            (λ k h. each (suc k) (omega arith) ∙ ap (take 128) (next k (chunks_exact_rest it) (chunks_exact_rest j) b)),
      ),
)

part-in : (d o k : ℕ) (img : List ℕ) → 128 * k + 128 ≤ 512 * d → take 128 (drop (128 * k) (take (512 * d) (drop o img))) ≡ take 128 (drop (o + 128 * k) img)
part-in d o k img h =
    let z : 512 * d ≡ 128 * k + (512 * d - 128 * k) = omega arith in
    ap (λ (n : ℕ). take 128 (drop (128 * k) (take n (drop o img)))) z ∙ ap (take 128) (drop-take (128 * k) (512 * d - 128 * k) (drop o img))
    ∙ take-take 128 (512 * d - 128 * k) (drop (128 * k) (drop o img)) (omega arith) ∙ ap (take 128) (drop-drop (128 * k) o img)

-- the chunks of the directory's sectors are the entries
pub entries-yield : (g : Geo) (img : List ℕ) (it : ChunksExact ℕ) (a : ℕ) → a ≡ 512 * g_dir g → 512 * g_dir g + 512 * g.d ≤ length img → chunks_exact_size it ≡ 128
    → chunks_exact_rest it ≡ take (a + 512 * g.d - a) (drop a img) → Gives it (entries_of g (sec img))
entries-yield g img it a p room w e =
    let o = 512 * g_dir g in
    let z : a + 512 * g.d - a ≡ 512 * g.d = omega arith in
    let r : chunks_exact_rest it ≡ take (512 * g.d) (drop o img) = rw (z, p) at e in
    let few = entries-length g img in
    record {
      yields =
          chunks-yield it (entries_of g (sec img)) w (ap length r ∙ length-take-le (512 * g.d) (drop o img) (omega (arith, length-drop o img)) ∙ omega arith)
          (λ k h. entry_at g img k (omega arith) ∙ sym (ap (λ (l : List ℕ). take 128 (drop (128 * k) l)) r ∙ part-in g.d o k img (omega arith)));
    }

list_all-every : {A : Type 0} (f : A → Bool) (l : List A) → list_all f l ≡ every f l
unfolding every
list_all-every f [] = refl
list_all-every f (x ∷ l) = ap (λ b. f x && b) (list_all-every f l)

position-first : {A : Type 0} (f : A → Bool) (i : ℕ) (l : List A) → cond (ltb (position_or_len f l) (length l)) (Some (i + position_or_len f l)) None ≡ first_at f i l
unfolding first_at
position-first f i [] = refl
position-first {A = A} f i (x ∷ l) = go (f x) (position-first f (suc i) l)
  where
    go : (b : Bool) → cond (ltb (position_or_len f l) (length l)) (Some (suc i + position_or_len f l)) None ≡ first_at f (suc i) l
        → cond (ltb (cond (not b) (1 + position_or_len f l) 0) (suc (length l))) (Some (i + cond (not b) (1 + position_or_len f l) 0)) None ≡ cond b (Some i) (first_at f (suc i) l)
    go true h = let z : ltb 0 (suc (length l)) ≡ true = search rules in rw (add-zero, z)
    go false h =
        let e : i + (1 + position_or_len f l) ≡ suc i + position_or_len f l = omega arith in
        rw (e, one-add (position_or_len f l), compare.suc-suc) h

range-every : {A : Type 0} (f : A → Bool) (l : List A) (d : A) (n a : ℕ) → a + n ≡ length l → list_all (λ j. f (get_or l j d)) (range_with_len a n) ≡ every f (drop a l)
unfolding every
range-every {A = A} f l d zero a e = let h : length l ≤ a = omega arith in sym (ap (λ (m : List A). every f m) (drop_of_length-le l h))
range-every f l d (suc n) a e = ap (λ b. f (get_or l a d) && b) (range-every f l d n (a + 1) (omega arith)) ∙ sym (every-next f l a d (omega arith))

-- what `all` over the numbers of the entries from a on answers
module _ {F : Type 0} {g : Mut F (ℕ × Unit {0}) Bool} {s u : Range ℕ} {f : F} (test : List ℕ → Bool) (es : List (List ℕ))
    (t : (x : ℕ) (b : Bool) (q : F) → Called g f (x, tt) b q → (q ≡ f) × (b ≡ test (get_or es x []))) where
  pub rest-of : {r : Bool} → ChecksAll nat_range_steps g s f r u → s.start ≤ s.end → s.end ≡ length es → r ≡ every test (drop s.start es)
  rest-of {r} ran h e =
      all_from_yields_List {steps = nat_range_steps} {s = s} (λ j. test (get_or es j [])) u f r ran (YieldsList-from_range s.start s.end (s.end - s.start) refl refl) t
      ∙ range-every test es [] (s.end - s.start) s.start (omega arith)

-- what `all`, `position` and `filter` with `count` over such an iterator answer
module _ {F : Type 0} {g : Mut F (Bor (List ℕ) × Unit {0}) Bool} {s u : ChunksExact ℕ} {f : F} {es : List (List ℕ)} (test : List ℕ → Bool)
    (y : Gives s es) (t : (x : Bor (List ℕ)) (b : Bool) (q : F) → Called g f (x, tt) b q → (q ≡ f) × (b ≡ test x.now)) where
  pub every-of : {r : Bool} → ChecksAll chunks_exact_steps g s f r u → r ≡ every test es
  every-of {r} ran = all_from_yields_List {steps = chunks_exact_steps} {s = s} test u f r ran record { runs = y.yields } t ∙ list_all-every test es

  pub first-of : {r : Option ℕ} → FindsPosition chunks_exact_steps g s f r u → r ≡ first_at test 0 es
  first-of {r} ran = position_from_yields_List {steps = chunks_exact_steps} {s = s} test u f r ran record { runs = y.yields } t ∙ rw zero-add at (position-first test 0 es)

module _ {F : Type 0} {g : Mut F (Bor (Bor (List ℕ)) × Unit {0}) Bool} {s : ChunksExact ℕ} {f : F} {es : List (List ℕ)} (test : List ℕ → Bool)
    (y : Gives s es) (t : (x : Bor (List ℕ)) (b : Bool) (q : F) → CalledAt g f x b q → (q ≡ f) × (b ≡ test x.now)) where
  pub count-of : {w : Filter (ChunksExact ℕ) F} {r : ℕ} → filter_source w ≡ s → filter_callee w ≡ f
      → (xs : List (Bor (List ℕ))) × Drains (filter_steps chunks_exact_steps g) w xs × (r ≡ length xs) → r ≡ count_by test es
  count-of {w} {r} from call ran =
      let e : YieldsList chunks_exact_steps (λ p. p.now) (filter_source w) es = YieldsList-at from record { runs = y.yields } in
      count_from_yields_List w r ran (YieldsList-from_filter g test e call t) ∙ length-filter test es
