-- Steps of which those are left out that would change nothing: the card is the same, the count, and the list of what differs. Assumes nothing.
use mathlib.Core.Path.{◌≡◌, refl, sym, ap, ◌∙◌}
use mathlib.Core.Bool.{Bool, true, false}
use mathlib.Core.Logic.{◌≢◌}
use mathlib.Core.List.{List, [], ◌∷◌, ◌++◌}
use Prim.Native.Nat.{ℕ, zero, suc, ◌+◌, ◌*◌, ◌≤◌, ◌<◌}
use native.Mathlib.Nat.{zero-add, add-zero, add-suc, suc-add}
use native.Mathlib.Numerals.{add-one}
use native.Mathlib.Omega.{arith}
use lib.ListN.{length, take, length-take}
use Rattle.words.specs.Lists.{part, eq_list, set_part}
use Rattle.words.proofs.EveryMore.{eq_list-eq}
use Rattle.sectors.specs.Sectors.{sec, set_sec, Step, write, settle, apply_steps, copy_steps, unless, diff_steps, writes_in, unlike, differs, lean, lean_writes}
use Rattle.sectors.proofs.SectorLaws.{set_sec-own}
use Rattle.sectors.proofs.FlatLaws.{inside-other}

-- ---- the card is the same

-- a write that changes nothing
pub write-own : (card : List ℕ) (i : ℕ) (x : List ℕ) → eq_list (sec card i) x ≡ true → set_sec card i x ≡ card
write-own card i x e = rw (← eq_list-eq (sec card i) x e) (set_sec-own card i)

pub lean-apply : (n : ℕ) (l : List Step) (card : List ℕ) → apply_steps (lean n card l) card ≡ apply_steps l card
unfolding lean apply_steps
lean-apply zero l card = refl
lean-apply (suc n) [] card = refl
lean-apply (suc n) (settle ∷ l) card = lean-apply n l card
lean-apply (suc n) (write i x ∷ l) card = by (eq_list (sec card i) x) refl (lean-apply n l (set_sec card i x))
  where
    by : (b : Bool) → eq_list (sec card i) x ≡ b → apply_steps (lean n (set_sec card i x) l) (set_sec card i x) ≡ apply_steps l (set_sec card i x)
        → apply_steps (unless b (write i x) (lean n (set_sec card i x) l)) card ≡ apply_steps l (set_sec card i x)
    by true e h = unfold unless in (ap (λ (c : List ℕ). apply_steps (lean n (set_sec card i x) l) c) (sym (write-own card i x e)) ∙ h)
    by false e h = unfold unless apply_steps in h

-- ---- the steps that are done are the first of those that are left

pub lean-nil : (n : ℕ) (card : List ℕ) → lean n card [] ≡ []
unfolding lean
lean-nil zero card = refl
lean-nil (suc n) card = refl

pub lean-first : (n k : ℕ) (l : List Step) (card : List ℕ) → lean n card (take k l) ≡ take (length (lean n card (take k l))) (lean n card l)
unfolding lean
lean-first zero zero l card = refl
lean-first zero (suc k) [] card = refl
lean-first zero (suc k) (x ∷ l) card = ap (λ (r : List Step). x ∷ r) (lean-first zero k l card)
lean-first (suc n) zero l card = refl
lean-first (suc n) (suc k) [] card = refl
lean-first (suc n) (suc k) (settle ∷ l) card = ap (λ (r : List Step). settle ∷ r) (lean-first n k l card)
lean-first (suc n) (suc k) (write i x ∷ l) card = by (eq_list (sec card i) x) (lean n (set_sec card i x) (take k l)) (lean n (set_sec card i x) l) (lean-first n k l (set_sec card i x))
  where
    by : (b : Bool) (a z : List Step) → a ≡ take (length a) z → unless b (write i x) a ≡ take (length (unless b (write i x) a)) (unless b (write i x) z)
    by true a z h = unfold unless in h
    by false a z h = unfold unless in (ap (λ (r : List Step). write i x ∷ r) h)

-- and every first part of them is done after some of the steps
pub lean-reach : (n : ℕ) (l : List Step) (card : List ℕ) (j : ℕ) → j ≤ length (lean n card l) → (k : ℕ) × (lean n card (take k l) ≡ take j (lean n card l))
unfolding lean
lean-reach zero l card j h = (j, refl)
lean-reach (suc n) [] card zero h = (0, refl)
lean-reach (suc n) [] card (suc j) h = (0, refl)
lean-reach (suc n) (settle ∷ l) card zero h = (0, refl)
lean-reach (suc n) (settle ∷ l) card (suc j) h = let (k, e) = lean-reach n l card j (omega arith) in (suc k, ap (λ (r : List Step). settle ∷ r) e)
lean-reach (suc n) (write i x ∷ l) card zero h = (0, refl)
lean-reach (suc n) (write i x ∷ l) card (suc j) h =
    let (k, e) = by (eq_list (sec card i) x) h (λ m q. lean-reach n l (set_sec card i x) m q) in (suc k, e)
  where
    by : (b : Bool) → suc j ≤ length (unless b (write i x) (lean n (set_sec card i x) l))
        → ((m : ℕ) → m ≤ length (lean n (set_sec card i x) l) → (k : ℕ) × (lean n (set_sec card i x) (take k l) ≡ take m (lean n (set_sec card i x) l)))
        → (k : ℕ) × (unless b (write i x) (lean n (set_sec card i x) (take k l)) ≡ take (suc j) (unless b (write i x) (lean n (set_sec card i x) l)))
    by true q f = unfold unless in f (suc j) q
    by false q f = unfold unless in (let (k, g) = f j (omega arith) in (k, ap (λ (r : List Step). write i x ∷ r) g))

-- ---- the count, step by step

count-suc : (n k : ℕ) (l : List Step) (card : List ℕ)
    → writes_in (lean n card (take (suc k) l)) ≡ writes_in (lean n card (take k l)) + lean_writes n k l (apply_steps (take k l) card)
unfolding lean lean_writes apply_steps writes_in
count-suc zero zero [] card = refl
count-suc zero (suc k) [] card = refl
count-suc (suc n) zero [] card = refl
count-suc (suc n) (suc k) [] card = refl
count-suc zero zero (write i x ∷ l) card = refl
count-suc zero zero (settle ∷ l) card = refl
count-suc zero (suc k) (write i x ∷ l) card = ap suc (count-suc zero k l (set_sec card i x)) ∙ sym (suc-add _ _)
count-suc zero (suc k) (settle ∷ l) card = count-suc zero k l card
count-suc (suc n) zero (write i x ∷ l) card = rw (lean-nil n (set_sec card i x)) (sym (zero-add _))
count-suc (suc n) zero (settle ∷ l) card = rw (lean-nil n card)
count-suc (suc n) (suc k) (settle ∷ l) card = count-suc n k l card
count-suc (suc n) (suc k) (write i x ∷ l) card = by (eq_list (sec card i) x) (count-suc n k l (set_sec card i x))
  where
    by : (b : Bool)
        → writes_in (lean n (set_sec card i x) (take (suc k) l)) ≡ writes_in (lean n (set_sec card i x) (take k l)) + lean_writes n k l (apply_steps (take k l) (set_sec card i x))
        → writes_in (unless b (write i x) (lean n (set_sec card i x) (take (suc k) l)))
        ≡ writes_in (unless b (write i x) (lean n (set_sec card i x) (take k l))) + lean_writes n k l (apply_steps (take k l) (set_sec card i x))
    by true h = unfold unless in h
    by false h = unfold unless writes_in in (ap suc h ∙ sym (suc-add _ _))

-- a turn of a loop over a list of steps that counts its writes: w of them among the first k steps, r at step number k
pub count_turn : (n k : ℕ) (l : List Step) (card₀ card : List ℕ) (w r : ℕ) → card ≡ apply_steps (take k l) card₀ → w ≡ writes_in (lean n card₀ (take k l)) → r ≡ lean_writes n k l card
    → w + r ≡ writes_in (lean n card₀ (take (k + 1) l))
count_turn n k l card₀ card w r e f g = rw (f, g, e, add-one) (sym (count-suc n k l card₀))

-- ---- the steps of a copy, with steps r behind them

pub count-copy : (img : List ℕ) (i c n k : ℕ) (r : List Step) (card : List ℕ) → k < c → c ≤ n → lean_writes n k (copy_steps img i c r) card ≡ differs card img (i + k)
unfolding copy_steps lean_writes lean differs
count-copy img i zero n k r card h l = absurd (omega arith)
count-copy img i (suc c) zero k r card h l = absurd (omega arith)
count-copy img i (suc c) (suc n) zero r card h l = rw add-zero (one (eq_list (sec card i) (sec img i)))
  where
    one : (b : Bool) → writes_in (unless b (write i (sec img i)) []) ≡ unlike b
    one true = unfold unless writes_in in refl
    one false = unfold unless writes_in in refl
count-copy img i (suc c) (suc n) (suc k) r card h l = count-copy img (suc i) c n k r card (omega arith) (omega arith) ∙ rw (suc-add, add-suc)

pub count-behind : (img : List ℕ) (i c n k : ℕ) (r : List Step) (card : List ℕ) → lean_writes (c + n) (c + k) (copy_steps img i c r) card ≡ lean_writes n k r card
unfolding copy_steps lean_writes
count-behind img i zero n k r card = rw (zero-add n, zero-add k)
count-behind img i (suc c) n k r card = rw (suc-add c n, suc-add c k) (count-behind img (suc i) c n k r card)

pub copy-append : (img : List ℕ) (i n : ℕ) (a r : List Step) → copy_steps img i n (a ++ r) ≡ copy_steps img i n a ++ r
unfolding copy_steps
copy-append img i zero a r = refl
copy-append img i (suc n) a r = ap (λ (l : List Step). write i (sec img i) ∷ l) (copy-append img (suc i) n a r)

-- ---- what is left of a copy are the writes of the sectors that differ from the card's

sec-short : (img : List ℕ) (i : ℕ) → length (sec img i) ≤ 512
unfolding sec part
sec-short img i = simp length-take (omega arith)

set-away : (card : List ℕ) (i : ℕ) (x : List ℕ) (j : ℕ) → length x ≤ 512 → j ≢ i → sec (set_sec card i x) j ≡ sec card j
unfolding set_sec set_part
set-away card i x j m o = let e : 512 * i ≡ 512 * i + 0 = omega arith in rw e (inside-other card i 0 x (omega arith) j o)

diff-same : (n i j : ℕ) (card img x : List ℕ) (r : List Step) → length x ≤ 512 → j < i → diff_steps (set_sec card j x) img i n r ≡ diff_steps card img i n r
unfolding diff_steps
diff-same zero i j card img x r m h = refl
diff-same (suc n) i j card img x r m h =
    rw (set-away card j x i m (λ e. omega arith))
    (ap (λ (l : List Step). unless (eq_list (sec card i) (sec img i)) (write i (sec img i)) l) (diff-same n (suc i) j card img x r m (omega arith)))

-- a sector behind others that were copied
pub diff-behind : (c n i j : ℕ) (card img : List ℕ) (r : List Step) → i + c ≤ j → diff_steps (apply_steps (copy_steps img i c []) card) img j n r ≡ diff_steps card img j n r
unfolding copy_steps apply_steps
diff-behind zero n i j card img r h = refl
diff-behind (suc c) n i j card img r h =
    diff-behind c n (suc i) j (set_sec card i (sec img i)) img r (omega arith) ∙ diff-same n j i card img (sec img i) r (sec-short img i) (omega arith)

pub lean-copy : (n i m : ℕ) (card img : List ℕ) (r : List Step)
    → lean (n + m) card (copy_steps img i n r) ≡ diff_steps card img i n (lean m (apply_steps (copy_steps img i n []) card) r)
unfolding copy_steps diff_steps lean apply_steps
lean-copy zero i m card img r = rw (zero-add m)
lean-copy (suc n) i m card img r =
    rw (suc-add n m)
    (ap (λ (l : List Step). unless (eq_list (sec card i) (sec img i)) (write i (sec img i)) l)
    (lean-copy n (suc i) m (set_sec card i (sec img i)) img r ∙ diff-same n (suc i) i card img (sec img i) _ (sec-short img i) (omega arith)))

unless-append : (b : Bool) (x : Step) (a r : List Step) → unless b x (a ++ r) ≡ unless b x a ++ r
unfolding unless
unless-append true x a r = refl
unless-append false x a r = refl

pub diff-append : (card img : List ℕ) (i n : ℕ) (a r : List Step) → diff_steps card img i n (a ++ r) ≡ diff_steps card img i n a ++ r
unfolding diff_steps
diff-append card img i zero a r = refl
diff-append card img i (suc n) a r =
    ap (λ (l : List Step). unless (eq_list (sec card i) (sec img i)) (write i (sec img i)) l) (diff-append card img (suc i) n a r)
    ∙ unless-append (eq_list (sec card i) (sec img i)) (write i (sec img i)) (diff_steps card img (suc i) n a) r
