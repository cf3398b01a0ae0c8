-- What a test that code made showed, what a call leaves, and the file that put and remove look for. Assumes nothing.
use Rattle.std.specs.Prelude.{Option, Some}
use mathlib.Core.Path.{◌≡◌, refl, sym, ◌∙◌}
use mathlib.Core.Bool.{Bool, true, false, not}
use mathlib.Core.List.{List}
use Prim.Native.Nat.{ℕ}
use borrow.Author.Tests.{not-true, not-false}
use Rattle.words.specs.Lists.{first_at}
use Rattle.sectors.specs.Sectors.{sec}
use Rattle.directory.specs.Directory.{entries_of, named}
use Rattle.card.specs.declared.Answer.{Answer}
use Rattle.card.specs.Plan.{guard, ended, refused, Changed}
use Rattle.session.specs.declared.Opened.{Opened}
use Rattle.session.specs.Session.{Session}
use Rattle.session.specs.Views.{present_table}
use Rattle.session.specs.Fits.{fits}
use Rattle.store.specs.Edit.{put_plan, put_at}

-- a test that code made, as the definition has it
pub failed : {t b : Bool} → b ≡ t → not b ≡ true → t ≡ false
failed {t} {b} e h = sym e ∙ not-true b h

pub passed : {t b : Bool} → b ≡ t → not b ≡ false → t ≡ true
passed {t} {b} e h = sym e ∙ not-false b h

-- what a call leaves: its answer, and the image that it may change
abbrev pub Leaves : Changed → Answer → List ℕ → Type 0
Leaves e r x = (r ≡ e.answer) × (x ≡ e.image)

pub leaves : (e : Changed) {f : Changed} {r : Answer} {x : List ℕ} → e ≡ f → r ≡ f.answer → x ≡ f.image → Leaves e r x
leaves e h p q = rw h (p, q)

-- ---- put with a goal

module _ (s : Opened) (work n d : List ℕ) (goal : ℕ) {o : Session} (eo : o ≡ Some s) where
  pub put_2 : {r : Answer} → fits s work ≡ false → r ≡ refused 2 → Leaves (put_at o work n d goal) r work
  unfolding put_at put_plan guard ended
  put_2 z f = rw (eo, z) (f, refl)

-- ---- remove

-- the entry that shows a file of this name
abbrev pub file_in : Opened → List ℕ → List ℕ → Option ℕ
file_in s work n = first_at (named (present_table s (sec work)) (present_table s (sec work)) n) 0 (entries_of s.geo (sec work))
