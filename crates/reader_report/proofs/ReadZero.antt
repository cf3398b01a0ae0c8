-- A card that is read with number 0 has the right shape and is sound. Assumes nothing.
use Rattle.std.proofs.Common.{◌≡◌, Bool, true, false, List, ℕ, ◌<◌, ◌≤◌, length, arith, refl, ap, ◌∙◌}
use Rattle.std.specs.Prelude.{Option, Some, None, Ok, IsSome}
use Rattle.std.proofs.lemmas.Bool.{lt-ltb}
use Rattle.card.specs.declared.Contents.{Contents}
use Rattle.card.specs.declared.Line.{Line}
use Rattle.card.specs.Answers.{reported_of, lined_of}
use Rattle.card.specs.Files.{line_end}
use Rattle.card.specs.Plan.{Report, Lined, guard, ended, done}
use Rattle.card.specs.Sound.{shape_ok, sound}
use Rattle.card.specs.Reading.{read_plan, read, read_line, files_shown}

pub read-zero : (img : List ℕ) {r : Report} → r ≡ read img → r.number ≡ 0 → (shape_ok img ≡ true) × (sound img ≡ true)
unfolding read read_plan guard ended
read-zero img {r} e z = go (shape_ok img) (sound img) refl refl
  where
    go : (a b : Bool) → shape_ok img ≡ a → sound img ≡ b → (shape_ok img ≡ true) × (sound img ≡ true)
    go true true p q = (p, q)
    go true false p q =
        let n : r.number ≡ 2 = ap (λ (x : Report). x.number) e ∙ rw (p, q) in
        absurd (omega arith)
    go false b p q =
        let n : r.number ≡ 1 = ap (λ (x : Report). x.number) e ∙ rw p in
        absurd (omega arith)

told : (img : List ℕ) → shape_ok img ≡ true → sound img ≡ true → (read img).files ≡ length (files_shown img)
unfolding read read_plan guard ended
told img p q = rw (p, q) refl

-- what is read of a card that is not refused: it is sound, and as many files are told as it shows
pub read-given : (img : List ℕ) {x : Contents} → reported_of (Ok x) ≡ read img → (shape_ok img ≡ true) × ((sound img ≡ true) × (x.files ≤ length (files_shown img)))
read-given img {x} e = let (p, q) = read-zero img e refl in (p, (q, omega (arith, ap (λ (r : Report). r.files) e ∙ told img p q)))

lined : (img : List ℕ) (i : ℕ) → shape_ok img ≡ true → sound img ≡ true → i < length (files_shown img) → (read_line img i).answer.count ≡ 1
unfolding read_line read_plan guard ended line_end done
lined img i p q h = rw (p, q, lt-ltb i (length (files_shown img)) h) refl

-- a sound card has a line at a place before its files end
pub line-there : (img : List ℕ) (i : ℕ) (o : Option Line) → shape_ok img ≡ true → sound img ≡ true → i < length (files_shown img) → lined_of (Ok o) ≡ read_line img i
    → IsSome o
unfolding done
line-there img i (Some l) p q h e = refl
line-there img i None p q h e = absurd (omega (arith, ap (λ (x : Lined). x.answer.count) e ∙ lined img i p q h))
