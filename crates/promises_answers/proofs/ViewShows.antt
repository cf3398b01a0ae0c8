-- One view that passes, as a plain list: names, get and list. Assumes nothing.
use Rattle.std.specs.Prelude.{Option, Some, None}
use mathlib.Core.Path.{◌≡◌, refl, ap, ◌∙◌}
use mathlib.Core.Bool.{Bool, true, false, not}
use mathlib.Core.List.{List, [], ◌∷◌, ◌++◌, Memᴰ}
use mathlib.Core.Option.{none, some}
use mathlib.Core.Logic.{⊎_elim, ◌≢◌}
use Prim.Native.Nat.{ℕ, suc, ◌*◌, ◌≤◌}
use native.Mathlib.Omega.{arith}
use borrow.Author.Tests.{eq-eqb, le-leb}
use lib.Dec.{leb}
use lib.ListN.{length, drop, get_or}
use Rattle.words.specs.Lists.{every, pairwise, first_at, eq_list, splice}
use Rattle.words.proofs.BoolLaws.{both, falsum}
use Rattle.words.proofs.EveryMore.{eq_list-refl}
use Rattle.words.proofs.EveryLaws.{every-all}
use Rattle.words.proofs.FirstLaws.{found_at}
use Rattle.sectors.specs.declared.Sector.{Sector}
use Rattle.sectors.specs.Sectors.{sec}
use Rattle.counts.specs.declared.Geo.{Geo}
use Rattle.counts.specs.Geometry.{geo_ok}
use Rattle.entries.specs.declared.Version.{Version}
use Rattle.entries.specs.declared.Version.TheVariants.{Absent, Present}
use Rattle.entries.specs.Entries.{shown, good_name}
use Rattle.entries.proofs.PassLaws.{Passes, shown-run}
use Rattle.directory.specs.Directory.{entries_of, apart, named}
use Rattle.directory.proofs.SpotLaws.{entry-wide}
use Rattle.directory.proofs.NameLaws.{named-true}
use Rattle.card.specs.declared.Line.{Line}
use Rattle.card.specs.Plan.{Plan, guard, need, ended, do_at, refused, done, Got}
use Rattle.card.specs.Files.{files_of, content_of, run_of, run_at, get_plan, get_end, list_plan, list_end}
use Rattle.card.proofs.SoundLaws.{View, entry-passes}
use Rattle.card.specs.Means.{GoodName}
use Rattle.card.proofs.MeansParts.{name-means}
use Rattle.promises_answers.specs.PlainList.{Item, lookup}
use Rattle.promises_answers.specs.PlainCalls.{NoTwoAlike, Names, plain_get, Lines, none_left, one_more}
use Rattle.promises_answers.proofs.ListLaws.{is_wide, content-length, differ, list_of, list-good, list-told, list-alone, look_none, look-some}

pub lines-length : {xs : List Item} {ls : List Line} → Lines xs ls → length xs ≡ length ls
lines-length none_left = refl
lines-length (one_more t r) = ap suc (lines-length r)

pub all-wide : (g : Geo) (img : List ℕ) → geo_ok g ≡ true → length img ≡ 512 * g.s → every is_wide (entries_of g (sec img)) ≡ true
all-wide g img ok l = every-all is_wide (entries_of g (sec img)) [] (λ j h. eq-eqb _ _ (entry-wide g img ok l j h))

-- ---- names, by the tests

all-good : (l : List Item) → every (λ x. good_name x.name) l ≡ true → (x : Item) → Memᴰ x l → GoodName x.name
unfolding every
all-good [] h x m = elim m [ ]
all-good (y ∷ l) h x (Memᴰ.head e) = rw e ((name-means y.name).0 (both (good_name y.name) (every (λ x. good_name x.name) l) h).0)
all-good (y ∷ l) h x (Memᴰ.tail m) = all-good l (both (good_name y.name) (every (λ x. good_name x.name) l) h).1 x m

differs : (y : Item) (l : List Item) → every (differ y) l ≡ true → (x : Item) → Memᴰ x l → y.name ≢ x.name
unfolding every
differs y [] h x m q = elim m [ ]
differs y (z ∷ l) h x (Memᴰ.head e) q =
    let d : not (eq_list y.name z.name) ≡ true = (both (differ y z) (every (differ y) l) h).0 in
    let s : y.name ≡ z.name = q ∙ ap (λ (i : Item). i.name) e in
    let t : eq_list y.name z.name ≡ true = rw s (eq_list-refl z.name) in
    let u : ◌≡◌ {A = Bool} false true = rw t at d in
    falsum u
differs y (z ∷ l) h x (Memᴰ.tail m) q = differs y l (both (differ y z) (every (differ y) l) h).1 x m q

all-differ : (l : List Item) → pairwise differ l ≡ true → NoTwoAlike l
unfolding pairwise
all-differ [] h = tt
all-differ (y ∷ l) h = let (a, b) = both (every (differ y) l) (pairwise differ l) h in (differs y l a, all-differ l b)

-- ---- one view that passes

module _ (g : Geo) (bound : ℕ) (tab tc img : List ℕ) (ok : geo_ok g ≡ true) (sized : length img ≡ 512 * g.s) (U : View g bound tab (sec img))
    (alone : pairwise (apart tab tc) (entries_of g (sec img)) ≡ true) where
  abbrev ps : List (List ℕ)
  ps = entries_of g (sec img)

  pub view-names : Names (list_of tab img ps)
  view-names = record { good = all-good _ (list-good tab img g bound ps U.entries (all-wide g img ok sized)); alone = all-differ _ (list-alone tab img tc ps alone) }

  pub view-told : Lines (list_of tab img ps) (files_of tab ps)
  view-told = list-told tab img g bound ps U.entries (all-wide g img ok sized) sized

  -- the content that place j has is as long as its run says
  found-length : (n : List ℕ) (j : ℕ) → first_at (named tab tab n) 0 ps ≡ Some j → length (content_of img (run_at g tab img j)) ≡ (run_at g tab img j).bytes
  unfolding run_at
  found-length n j e =
      let (l, t) = found_at (named tab tab n) [] ps j e in
      let here = ⊎_elim (λ q. q) (λ q. q) (named-true tab tab n (get_or ps j []) t).0 in
      go (shown tab (get_or ps j [])) refl here (entry-passes g bound tab (sec img) j [] U l)
    where
      go : (v : Version) → shown tab (get_or ps j []) ≡ v → (shown tab (get_or ps j []) ≡ Absent → ⊥) → Passes g bound tab (get_or ps j [])
          → length (content_of img (run_of (shown tab (get_or ps j [])))) ≡ (run_of (shown tab (get_or ps j []))).bytes
      go Absent q o P = absurd (o q)
      go (Present r) q o P = rw q (unfold run_of in content-length g img r sized (shown-run g tab (get_or ps j []) P.wf q))

  abbrev kept : List ℕ → ℕ → Got
  kept out k = record { answer = refused k; out = out }

  abbrev filled : List ℕ → ℕ → Sector → Got
  filled out j a = record { answer = done (run_at g tab img j).bytes; out = splice out 0 (content_of img (run_at g tab img j)) }

  fill-or-10 : (out : List ℕ) (j : ℕ) → length (content_of img (run_at g tab img j)) ≡ (run_at g tab img j).bytes → (t : Bool) → leb (run_at g tab img j).bytes (length out) ≡ t
      → ended (guard 5 true (need 6 (Some j) (λ i. guard 10 (leb (run_at g tab img i).bytes (length out)) (do_at i)))) (kept out) (filled out)
      ≡ plain_get (some (content_of img (run_at g tab img j))) out
  unfolding ended guard need plain_get
  fill-or-10 out j b true h = rw (b, h)
  fill-or-10 out j b false h = rw (b, h)

  none-6 : (out : List ℕ) (f : ℕ → Plan) → ended (guard 5 true (need 6 None f)) (kept out) (filled out) ≡ plain_get none out
  unfolding ended guard need plain_get
  none-6 out f = refl

  look_at : (n : List ℕ) (j : ℕ) → first_at (named tab tab n) 0 ps ≡ Some j → lookup n (list_of tab img ps) ≡ some (content_of img (run_at g tab img j))
  unfolding run_at
  look_at n j e =
      let (i, z, q) = look-some tab img n 0 j ps e in
      let y : i ≡ j = omega arith in
      q ∙ rw y

  pub view-get : (n out : List ℕ) → good_name n ≡ true → get_end g tab img out (get_plan g tab img n out) ≡ plain_get (lookup n (list_of tab img ps)) out
  unfolding get_end get_plan
  view-get n out good = rw good (go (first_at (named tab tab n) 0 ps) refl)
    where
      go : (o : Option ℕ) → first_at (named tab tab n) 0 ps ≡ o
          → ended (guard 5 true (need 6 (first_at (named tab tab n) 0 ps) (λ j. guard 10 (leb (run_at g tab img j).bytes (length out)) (do_at j)))) (kept out) (filled out)
          ≡ plain_get (lookup n (list_of tab img ps)) out
      go None e = rw (e, look_none tab img n 0 ps e) (none-6 out (λ j. guard 10 (leb (run_at g tab img j).bytes (length out)) (do_at j)))
      go (Some j) e =
          rw (e, look_at n j e) (fill-or-10 out j (found-length n j e) (leb (run_at g tab img j).bytes (length out)) refl)

  pub view-list : (lines : List Line) → length (list_of tab img ps) ≤ length lines
      → list_end (files_of tab ps) lines (list_plan (files_of tab ps) (length lines))
      ≡ record { answer = done (length (list_of tab img ps)); lines = files_of tab ps ++ drop (length (list_of tab img ps)) lines }
  unfolding list_end list_plan guard ended
  view-list lines h =
      let e : length (list_of tab img ps) ≡ length (files_of tab ps) = lines-length view-told in
      let t : leb (length (files_of tab ps)) (length lines) ≡ true = le-leb (length (files_of tab ps)) (length lines) (omega arith) in
      rw (t, e)
