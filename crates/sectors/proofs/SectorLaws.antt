-- Laws of sectors and of steps on a card. Assumes nothing.
use mathlib.Core.Path.{◌≡◌, refl, sym, ap, ◌∙◌}
use mathlib.Core.Logic.{◌≢◌}
use mathlib.Core.List.{List, [], ◌∷◌}
use Prim.Native.Nat.{ℕ, zero, suc, ◌+◌, ◌-◌, ◌*◌, ◌≤◌, ◌<◌}
use native.Mathlib.Nat.{zero-add, add-zero, add-suc, suc-add}
use native.Mathlib.Numerals.{add-one}
use native.Mathlib.Omega.{arith}
use lib.ListN.{length, take, drop}
use Rattle.words.specs.Lists.{part, set_part}
use Rattle.words.proofs.SpliceLaws.{splice-own}
use Rattle.words.proofs.PartLaws.{part_length, set_part-length, part_same, part-other}
use Rattle.sectors.specs.Sectors.{sec, set_sec, Step, write, settle, apply_steps, apply_step, copy_steps}

-- ---- a sector

pub sec-length : (img : List ℕ) (i : ℕ) → 512 * i + 512 ≤ length img → length (sec img i) ≡ 512
unfolding sec
sec-length img i h = part_length 512 img i h

pub set_sec-length : (img : List ℕ) (i : ℕ) (s : List ℕ) → length (set_sec img i s) ≡ length img
unfolding set_sec
set_sec-length img i s = set_part-length 512 img i s

-- the sector that was written, and another one
pub sec-same : (img : List ℕ) (i : ℕ) (s : List ℕ) → length s ≡ 512 → 512 * i + 512 ≤ length img → sec (set_sec img i s) i ≡ s
unfolding sec set_sec
sec-same img i s l h = part_same 512 img i s l h

pub sec-other : (img : List ℕ) (i : ℕ) (s : List ℕ) → length s ≡ 512 → (j : ℕ) → j ≢ i → sec (set_sec img i s) j ≡ sec img j
unfolding sec set_sec
sec-other img i s l j d = part-other 512 img i s l j d

-- a sector written as it is
pub set_sec-own : (img : List ℕ) (i : ℕ) → set_sec img i (sec img i) ≡ img
unfolding set_sec set_part sec part
set_sec-own img i = splice-own img (512 * i) 512

-- a part `&img[512 * i..512 * i + 512]` is sector i
pub sec-part : (img : List ℕ) (i : ℕ) → take (512 * i + 512 - 512 * i) (drop (512 * i) img) ≡ sec img i
unfolding sec part
sec-part img i = let e : 512 * i + 512 - 512 * i ≡ 512 = omega arith in rw e

-- ---- steps

pub apply_steps-length : (a : List Step) (card : List ℕ) → length (apply_steps a card) ≡ length card
unfolding apply_steps
apply_steps-length [] card = refl
apply_steps-length (write i s ∷ a) card = apply_steps-length a (set_sec card i s) ∙ set_sec-length card i s
apply_steps-length (settle ∷ a) card = apply_steps-length a card

steps-suc : (l : List Step) (k : ℕ) (card : List ℕ) → apply_steps (take (suc k) l) card ≡ apply_step k l (apply_steps (take k l) card)
unfolding apply_steps apply_step
steps-suc [] zero card = refl
steps-suc [] (suc k) card = refl
steps-suc (write i s ∷ l) zero card = refl
steps-suc (write i s ∷ l) (suc k) card = steps-suc l k (set_sec card i s)
steps-suc (settle ∷ l) zero card = refl
steps-suc (settle ∷ l) (suc k) card = steps-suc l k card

-- the first k + 1 steps are the first k and then step number k
pub steps_next : (l : List Step) (k : ℕ) (card : List ℕ) → apply_steps (take (k + 1) l) card ≡ apply_step k l (apply_steps (take k l) card)
steps_next l k card = rw add-one (steps-suc l k card)

-- a turn of a loop over a list of steps: the first k are done, and step number k is done next
pub steps-turn : (l : List Step) (card₀ card next : List ℕ) (k : ℕ) → card ≡ apply_steps (take k l) card₀ → next ≡ apply_step k l card → next ≡ apply_steps (take (k + 1) l) card₀
steps-turn l card₀ card next k e f = f ∙ ap (λ (c : List ℕ). apply_step k l c) e ∙ sym (steps_next l k card₀)

-- past the end
pub step-none : (l : List Step) (k : ℕ) (card : List ℕ) → length l ≤ k → apply_step k l card ≡ card
unfolding apply_step
step-none [] k card h = refl
step-none (x ∷ l) zero card h = absurd (omega arith)
step-none (x ∷ l) (suc k) card h = step-none l k card (omega arith)

-- ---- the steps of a copy, with steps r behind them

pub copy-length : (img : List ℕ) (i n : ℕ) (r : List Step) → length (copy_steps img i n r) ≡ n + length r
unfolding copy_steps
copy-length img i zero r = sym (zero-add (length r))
copy-length img i (suc n) r = ap suc (copy-length img (suc i) n r) ∙ sym (suc-add n (length r))

pub copy_step : (img : List ℕ) (i n k : ℕ) (r : List Step) (card : List ℕ) → k < n → apply_step k (copy_steps img i n r) card ≡ set_sec card (i + k) (sec img (i + k))
unfolding copy_steps apply_step apply_steps
copy_step img i zero k r card h = absurd (omega arith)
copy_step img i (suc n) zero r card h = rw add-zero
copy_step img i (suc n) (suc k) r card h = copy_step img (suc i) n k r card (omega arith) ∙ rw (suc-add, add-suc)

pub copy-behind : (img : List ℕ) (i n k : ℕ) (r : List Step) (card : List ℕ) → apply_step (n + k) (copy_steps img i n r) card ≡ apply_step k r card
unfolding copy_steps apply_step
copy-behind img i zero k r card = rw zero-add
copy-behind img i (suc n) k r card = rw suc-add (copy-behind img (suc i) n k r card)
