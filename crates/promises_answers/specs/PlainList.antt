-- A plain list of names with contents: what a card or a session shows, and what the calls mean on it. Assumes nothing.
use Rattle.std.specs.Prelude.{◌≡◌, cond, List, [], ◌∷◌, ◌++◌, ℕ, take}
use Rattle.std.proofs.Math.Option.{Option, none, some}
use Rattle.words.specs.Lists.{eq_list}
use Rattle.card.specs.declared.Line.{Line}
use Rattle.card.specs.Files.{content_of}
use Rattle.card.specs.Reading.{files_shown}
use Rattle.session.specs.Session.{Session}
use Rattle.session.specs.Views.{session_files}

pub record Item : Type 0 where
  pub name : List ℕ
  pub content : List ℕ

-- the name that a line has, without the zeros behind it
unfoldable pub line_name : Line → List ℕ
line_name l = take l.size l.name

-- the files of an image, each with its content
unfoldable pub items : List ℕ → List Line → List Item
items img [] = []
items img (l ∷ ls) = record { name = line_name l; content = content_of img l.run } ∷ items img ls

-- what reading a card shows
unfoldable pub shown_by : List ℕ → List Item
shown_by card = items card (files_shown card)

-- what a session shows
unfoldable pub shown_in : Session → List ℕ → List Item
shown_in s work = items work (session_files s work)

-- ---- the calls on a plain list

-- the list without a name
unfoldable pub without : List ℕ → List Item → List Item
without n [] = []
without n (x ∷ xs) = cond (eq_list n x.name) (without n xs) (x ∷ without n xs)

-- the content of a name
unfoldable pub lookup : List ℕ → List Item → Option (List ℕ)
lookup n [] = none
lookup n (x ∷ xs) = cond (eq_list n x.name) (some x.content) (lookup n xs)

-- m is l with the name's content replaced or added, and all others in their order
pub record With (n d : List ℕ) (l m : List Item) : Type 0 where
  pub before : List Item
  pub after : List Item
  pub others : without n l ≡ before ++ after
  pub becomes : m ≡ before ++ (record { name = n; content = d } ∷ after)
