-- What follows for a reader of names: a put name has its content, a removed one none, every other what it had. Assumes nothing.
use mathlib.Core.Path.{◌≡◌, refl, sym, ap, ◌∙◌}
use mathlib.Core.Bool.{Bool, true, false, cond}
use mathlib.Core.List.{List, [], ◌∷◌, ◌++◌}
use mathlib.Core.Option.{Option, none, some}
use Prim.Native.Nat.{ℕ}
use Rattle.words.specs.Lists.{eq_list}
use Rattle.words.proofs.BoolLaws.{never}
use Rattle.words.proofs.EveryMore.{eq_list-refl, eq_list-eq}
use Rattle.promises_answers.specs.PlainList.{Item, without, lookup, With}

or_in : Option (List ℕ) → Option (List ℕ) → Option (List ℕ)
or_in none r = r
or_in (some x) r = some x

look-append : (n : List ℕ) (a b : List Item) → lookup n (a ++ b) ≡ or_in (lookup n a) (lookup n b)
unfolding lookup or_in
look-append n [] b = refl
look-append n (f ∷ a) b = rw (look-append n a b) (go (eq_list n f.name))
  where
    go : (t : Bool) → cond t (some f.content) (or_in (lookup n a) (lookup n b)) ≡ or_in (cond t (some f.content) (lookup n a)) (lookup n b)
    go true = refl
    go false = refl

-- a name that was taken out is not there
pub without-none : (n : List ℕ) (l : List Item) → lookup n (without n l) ≡ none
unfolding lookup without
without-none n [] = refl
without-none n (f ∷ l) = go (eq_list n f.name) refl (without-none n l)
  where
    go : (b : Bool) → eq_list n f.name ≡ b → lookup n (without n l) ≡ none → lookup n (cond (eq_list n f.name) (without n l) (f ∷ without n l)) ≡ none
    go true e h = rw e h
    go false e h = rw (e, e) h

-- and every other name is as it was
pub without-others : (n m : List ℕ) (l : List Item) → eq_list m n ≡ false → lookup m (without n l) ≡ lookup m l
unfolding lookup without
without-others n m [] h = refl
without-others n m (f ∷ l) h = go (eq_list n f.name) refl (without-others n m l h)
  where
    go : (b : Bool) → eq_list n f.name ≡ b → lookup m (without n l) ≡ lookup m l
        → lookup m (cond (eq_list n f.name) (without n l) (f ∷ without n l)) ≡ cond (eq_list m f.name) (some f.content) (lookup m l)
    go true e r =
        let q : n ≡ f.name = eq_list-eq n f.name e in
        let z : eq_list m f.name ≡ false = rw (← q) h in
        rw (e, z) r
    go false e r = rw (e, r)

module _ (n d : List ℕ) (l m : List Item) (w : With n d l m) where
  pub with-look : lookup n m ≡ some d
  unfolding lookup or_in
  with-look =
      let a : or_in (lookup n w.before) (lookup n w.after) ≡ none = sym (look-append n w.before w.after) ∙ ap (lookup n) (sym w.others) ∙ without-none n l in
      rw (w.becomes, look-append n w.before (record { name = n; content = d } ∷ w.after), eq_list-refl n) (first (lookup n w.before) (lookup n w.after) a)
    where
      first : (x y : Option (List ℕ)) → or_in x y ≡ none → or_in x (some d) ≡ some d
      first none y h = refl
      first (some u) y h = never (cc)

  pub with-others : (x : List ℕ) → eq_list x n ≡ false → lookup x m ≡ lookup x l
  unfolding lookup
  with-others x h =
      rw (w.becomes, look-append x w.before (record { name = n; content = d } ∷ w.after), h)
      (sym (look-append x w.before w.after) ∙ ap (lookup x) (sym w.others) ∙ without-others n x l h)
