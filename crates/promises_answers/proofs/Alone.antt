-- Besides the entry that a call works on, none shows its name; and the plain list with that name left out. Assumes nothing.
use Rattle.std.specs.Prelude.{Option, Some, None}
use mathlib.Core.Path.{◌≡◌, refl, sym, ap, ◌∙◌}
use mathlib.Core.Bool.{Bool, true, false, not, cond}
use mathlib.Core.List.{List, [], ◌∷◌, ◌++◌}
use mathlib.Core.Logic.{◌⊎◌, inl, ⊎_elim, ◌≢◌}
use Prim.Native.Nat.{ℕ, suc, ◌+◌, ◌<◌}
use native.Mathlib.Omega.{arith}
use borrow.Author.Tests.{not-true}
use lib.ListN.{length, take, drop, get_or, length-take, length-drop}
use lib.Seq.{get_or-take, get_or-drop}
use Rattle.words.specs.Lists.{every, pairwise, first_at, eq_list, or_else}
use Rattle.words.proofs.BoolLaws.{both, never, falsum}
use Rattle.words.proofs.EveryLaws.{every-all}
use Rattle.words.proofs.EveryMore.{eq_list-refl}
use Rattle.words.proofs.FirstLaws.{found_at, found_none}
use Rattle.entries.specs.declared.Run.{Run}
use Rattle.entries.specs.declared.Version.{Version}
use Rattle.entries.specs.declared.Version.TheVariants.{Absent, Present}
use Rattle.entries.specs.Entries.{shown, name_of}
use Rattle.directory.specs.Directory.{gone, apart, named}
use Rattle.directory.proofs.NameLaws.{named-true, here-gone, one_entry}
use Rattle.card.specs.declared.Line.{Line}
use Rattle.card.specs.Files.{files_of}
use Rattle.card.proofs.FileLaws.{files-append}
use Rattle.store.specs.Edit.{put_place}
use Rattle.promises_answers.specs.PlainList.{Item, items, without}
use Rattle.promises_answers.proofs.ListLaws.{list_of, list-absent, list-present}

not-false-is : (b : Bool) → b ≡ false → not b ≡ true
not-false-is true h = falsum (sym h)
not-false-is false h = refl

-- ---- nobody but entry j

abbrev pub Alone : List ℕ → List ℕ → List ℕ → List (List ℕ) → ℕ → Type 0
Alone tp tc n ps j = (i : ℕ) → i < length ps → i ≢ j → named tp tc n (get_or ps i []) ≡ false

module _ (tp tc n : List ℕ) (ps : List (List ℕ)) (j : ℕ) (one : pairwise (apart tp tc) ps ≡ true) where
  only : j < length ps → (shown tp (get_or ps j []) ≢ Absent) ⊎ (shown tc (get_or ps j []) ≢ Absent) → name_of (get_or ps j []) ≡ n → Alone tp tc n ps j
  only l h e i k o = go (named tp tc n (get_or ps i [])) refl
    where
      go : (b : Bool) → named tp tc n (get_or ps i []) ≡ b → b ≡ false
      go true q =
          let (u, v) = named-true tp tc n (get_or ps i []) q in
          absurd (o (one_entry tp tc ps i j one k l (here-gone tp tc (get_or ps i []) u) (here-gone tp tc (get_or ps j []) h) (v ∙ sym e)))
      go false q = refl

  pub place-alone : put_place tp tc n ps ≡ Some j → Alone tp tc n ps j
  unfolding put_place
  place-alone h = go (first_at (named tp tc n) 0 ps) refl h
    where
      go : (o : Option ℕ) → first_at (named tp tc n) 0 ps ≡ o → or_else o (first_at (gone tp tc) 0 ps) ≡ Some j → Alone tp tc n ps j
      go (Some i) e q =
          let (l, t) = found_at (named tp tc n) [] ps j (e ∙ (unfold or_else in q)) in
          let (u, v) = named-true tp tc n (get_or ps j []) t in only l u v
      go None e q = λ i k o. found_none (named tp tc n) [] 0 ps e i k

  -- a name found in the present view
  pub found-alone : first_at (named tp tp n) 0 ps ≡ Some j → Alone tp tc n ps j
  found-alone h =
      let (l, t) = found_at (named tp tp n) [] ps j h in
      let (u, v) = named-true tp tp n (get_or ps j []) t in only l (inl (⊎_elim (λ q. q) (λ q. q) u)) v

-- ---- entries that do not show the name

abbrev pub quiet : List ℕ → List ℕ → List ℕ → List ℕ → Bool
quiet tp tc n p = not (named tp tc n p)

module _ (tp tc n : List ℕ) where
  pub quiet-before : (ps : List (List ℕ)) (j : ℕ) → j < length ps → Alone tp tc n ps j → every (quiet tp tc n) (take j ps) ≡ true
  quiet-before ps j l h =
      every-all (quiet tp tc n) (take j ps) []
      (λ i k. let q : i < j = omega (arith, simp length-take at k) in
      rw (get_or-take j ps i [] q) (not-false-is _ (h i (omega arith) (omega arith))))

  pub quiet-after : (ps : List (List ℕ)) (j : ℕ) → j < length ps → Alone tp tc n ps j → every (quiet tp tc n) (drop (suc j) ps) ≡ true
  quiet-after ps j l h =
      every-all (quiet tp tc n) (drop (suc j) ps) []
      (λ i k. let q : suc j + i < length ps = omega (arith, simp length-drop at k) in
      rw (get_or-drop (suc j) ps i []) (not-false-is _ (h (suc j + i) q (omega arith))))

  -- ---- the plain list without a name

  quiet-name : (p : List ℕ) {r : Run} → shown tp p ≡ Present r → quiet tp tc n p ≡ true → eq_list n (name_of p) ≡ false
  unfolding named gone
  quiet-name p e h = let q : not (eq_list n (name_of p)) ≡ true = rw e at h in not-true _ q

  pub without-quiet : (img : List ℕ) (ps : List (List ℕ)) → every (quiet tp tc n) ps ≡ true → without n (list_of tp img ps) ≡ list_of tp img ps
  unfolding every without
  without-quiet img [] h = unfold files_of items in refl
  without-quiet img (p ∷ ps) h =
      let (a, b) = both (quiet tp tc n p) _ h in
      go (shown tp p) refl a (without-quiet img ps b)
    where
      go : (v : Version) → shown tp p ≡ v → quiet tp tc n p ≡ true → without n (list_of tp img ps) ≡ list_of tp img ps → without n (list_of tp img (p ∷ ps)) ≡ list_of tp img (p ∷ ps)
      go Absent e a ih = rw (list-absent tp img p ps e) ih
      go (Present r) e a ih = rw (list-present tp img p ps e, quiet-name p e a, ih)

-- the entry that shows the name falls out
pub without-one : (tp tc n img p : List ℕ) (ps : List (List ℕ)) → (shown tp p ≢ Absent → name_of p ≡ n) → every (quiet tp tc n) ps ≡ true → without n (list_of tp img (p ∷ ps)) ≡ list_of tp img ps
unfolding without
without-one tp tc n img p ps h q = go (shown tp p) refl
  where
    go : (v : Version) → shown tp p ≡ v → without n (list_of tp img (p ∷ ps)) ≡ list_of tp img ps
    go Absent e = rw (list-absent tp img p ps e) (without-quiet tp tc n img ps q)
    go (Present r) e =
        let z : shown tp p ≢ Absent = λ u. never (cc) in
        let y : eq_list n (name_of p) ≡ true = rw (h z) (eq_list-refl n) in
        rw (list-present tp img p ps e, y) (without-quiet tp tc n img ps q)

pub items-append : (img : List ℕ) (a b : List Line) → items img (a ++ b) ≡ items img a ++ items img b
unfolding items
items-append img [] b = refl
items-append img (f ∷ a) b = rw (items-append img a b)

pub list-append : (tab img : List ℕ) (a b : List (List ℕ)) → list_of tab img (a ++ b) ≡ list_of tab img a ++ list_of tab img b
list-append tab img a b = ap (items img) (files-append tab a b) ∙ items-append img (files_of tab a) (files_of tab b)

pub without-append : (n : List ℕ) (a b : List Item) → without n (a ++ b) ≡ without n a ++ without n b
unfolding without
without-append n [] b = refl
without-append n (x ∷ a) b = rw (without-append n a b) (go (eq_list n x.name))
  where
    go : (t : Bool) → cond t (without n a ++ without n b) (x ∷ (without n a ++ without n b)) ≡ cond t (without n a) (x ∷ without n a) ++ without n b
    go true = refl
    go false = refl
