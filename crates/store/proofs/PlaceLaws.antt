-- What put's search for an entry says: the entry found carries the name, where a view shows one. Assumes nothing.
use Rattle.std.specs.Prelude.{Option, Some, None}
use mathlib.Core.Path.{◌≡◌, refl, sym, ◌∙◌}
use mathlib.Core.Bool.{true, false}
use mathlib.Core.List.{List, []}
use Prim.Native.Nat.{ℕ, ◌<◌}
use lib.ListN.{length, get_or}
use Rattle.words.specs.Lists.{first_at, or_else}
use Rattle.words.proofs.BoolLaws.{both, falsum}
use Rattle.words.proofs.FirstLaws.{found_at}
use Rattle.entries.specs.Entries.{shown, is_absent, name_of}
use Rattle.directory.specs.Directory.{gone, named}
use Rattle.directory.proofs.NameLaws.{named-true}
use Rattle.store.specs.Edit.{put_place}

pub record Named (tp tc n : List ℕ) (ps : List (List ℕ)) (m : ℕ) : Type 0 where
  pub below : m < length ps
  pub name : is_absent (shown tp (get_or ps m [])) ≡ false → n ≡ name_of (get_or ps m [])
  pub name' : is_absent (shown tc (get_or ps m [])) ≡ false → n ≡ name_of (get_or ps m [])

module _ (tp tc n : List ℕ) (ps : List (List ℕ)) (j : ℕ) where
  pub name-found : (tc' : List ℕ) → first_at (named tp tc n) 0 ps ≡ Some j → Named tp tc' n ps j
  name-found tc' h =
      let (b, q) = found_at (named tp tc n) [] ps j h in
      record { below = b; name = λ e. same q; name' = λ e. same q }
    where
      same : named tp tc n (get_or ps j []) ≡ true → n ≡ name_of (get_or ps j [])
      same q = sym (named-true tp tc n (get_or ps j []) q).1

  free-found : first_at (gone tp tc) 0 ps ≡ Some j → Named tp tc n ps j
  free-found h =
      let (b, q) = found_at (gone tp tc) [] ps j h in
      record { below = b; name = λ e. falsum (sym e ∙ (absent q).0); name' = λ e. falsum (sym e ∙ (absent q).1) }
    where
      absent : gone tp tc (get_or ps j []) ≡ true → (is_absent (shown tp (get_or ps j [])) ≡ true) × (is_absent (shown tc (get_or ps j [])) ≡ true)
      absent q = unfold gone in both (is_absent (shown tp (get_or ps j []))) (is_absent (shown tc (get_or ps j []))) q

  pub place-named : put_place tp tc n ps ≡ Some j → Named tp tc n ps j
  unfolding put_place
  place-named h = go (first_at (named tp tc n) 0 ps) refl h
    where
      go : (o : Option ℕ) → first_at (named tp tc n) 0 ps ≡ o → or_else o (first_at (gone tp tc) 0 ps) ≡ Some j → Named tp tc n ps j
      go (Some i) e h = name-found tc (e ∙ (unfold or_else in h))
      go None e h = free-found (unfold or_else in h)
