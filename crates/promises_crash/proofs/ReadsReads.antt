-- A card that reads as a list of files: read gives 0 and their count, and get gives each file's content by its name. Assumes nothing.
use mathlib.Core.Path.{◌≡◌, refl, sym, ap, ◌∙◌}
use mathlib.Core.Bool.{Bool, true, false, cond}
use mathlib.Core.List.{List, [], ◌∷◌, Memᴰ}
use mathlib.Core.Option.{Option, some}
use Prim.Native.Nat.{ℕ, ◌≤◌}
use borrow.Author.Tests.{le-leb}
use lib.ListN.{length}
use Rattle.words.specs.Lists.{eq_list, splice}
use Rattle.words.proofs.EveryMore.{eq_list-refl, eq_list-eq}
use Rattle.card.specs.Plan.{done}
use Rattle.card.specs.Reading.{read, read_get}
use Rattle.promises_answers.specs.PlainList.{Item, lookup, shown_by}
use Rattle.promises_answers.specs.PlainCalls.{NoTwoAlike, plain_get}
use Rattle.promises_answers.proofs.ShownProved.{card-shows}
use Rattle.promises_crash.specs.History.{Reads}
use Rattle.promises_crash.proofs.ReadsBy.{reads-shape, reads-sound}

-- a member is found under its name
pub look-member : (x : Item) (l : List Item) → Memᴰ x l → NoTwoAlike l → lookup x.name l ≡ some x.content
unfolding lookup
look-member x [] m h = elim m [ ]
look-member x (y ∷ l) (Memᴰ.head e) h = rw (sym e, eq_list-refl x.name)
look-member x (y ∷ l) (Memᴰ.tail m) h = go (eq_list x.name y.name) refl (look-member x l m h.1)
  where
    go : (b : Bool) → eq_list x.name y.name ≡ b → lookup x.name l ≡ some x.content
        → cond (eq_list x.name y.name) (some y.content) (lookup x.name l) ≡ some x.content
    go true e r = absurd (h.0 x m (sym (eq_list-eq x.name y.name e)))
    go false e r = rw e r

-- ---- the reading calls

pub record Given (card : List ℕ) (m : List Item) : Type 0 where
  pub number : (read card).number ≡ 0
  pub files : (read card).files ≡ length m
  pub gets : (x : Item) (out : List ℕ) → Memᴰ x m → length x.content ≤ length out
      → read_get card x.name out ≡ record { answer = done (length x.content); out = splice out 0 x.content }

-- reading shows exactly the files: 0, their count, and each by its name into any output that is long enough
pub reads-reads : (card : List ℕ) (m : List Item) → Reads card m → Given card m
reads-reads card m R =
    let S = card-shows card (reads-shape R) (reads-sound R) in
    let e = R.shows in
    record {
      number = S.counts.0;
      files = S.counts.3 ∙ ap length e;
      gets = λ x out h l.
          S.gets x.name out (S.names.good x (rw (sym e) at h))
          ∙ ap (λ (o : Option (List ℕ)). plain_get o out) (look-member x (shown_by card) (rw (sym e) at h) S.names.alone)
          ∙ long x out l;
    }
  where
    long : (x : Item) (out : List ℕ) → length x.content ≤ length out
        → plain_get (some x.content) out ≡ record { answer = done (length x.content); out = splice out 0 x.content }
    long x out l = unfold plain_get in (rw (le-leb (length x.content) (length out) l))
