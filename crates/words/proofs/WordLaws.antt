-- Laws of words: bytes of a word, words of a list, words after a write. Assumes nothing.
use mathlib.Core.Path.{◌≡◌, refl, sym, ap, ◌∙◌}
use mathlib.Core.List.{List, [], ◌∷◌, ◌++◌}
use Prim.Native.Nat.{ℕ, zero, suc, ◌+◌, ◌-◌, ◌*◌, ◌/◌, ◌%◌, ◌^◌, ◌≤◌, ◌<◌}
use native.Mathlib.Nat.{add-zero, div-div-eq-div-mul, mod-eq_of_lt, mod-add-div}
use native.Mathlib.Omega.{arith}
use lib.ListN.{length, take, drop, get_or, length-drop}
use lib.Seq.{length-take-le, get_or-drop, get_or-take}
use Rattle.words.specs.Lists.{splice}
use Rattle.words.specs.Bytes.{join, word_of, word_at, words, word_bytes}
use Rattle.words.proofs.SpliceLaws.{splice-before, splice-after, splice-in, Put, put_then}

digits4 : (w a b c p q r : ℕ) → p + 256 * a ≡ w → q + 256 * b ≡ a → r + 256 * c ≡ b → join p q r c ≡ w
digits4 w a b c p q r h₀ h₁ h₂ = omega arith

-- a word is its four bytes
pub join-bytes : (w : ℕ) → w < 2 ^ 32 → join (w % 256) (w / 256 % 256) (w / 65536 % 256) (w / 16777216 % 256) ≡ w
join-bytes w f =
    let e₂ : w / 256 / 256 ≡ w / 65536 = div-div-eq-div-mul w 256 256 in
    let e₃ : w / 65536 / 256 ≡ w / 16777216 = div-div-eq-div-mul w 65536 256 in
    let e₄ : w / 16777216 % 256 ≡ w / 16777216 = mod-eq_of_lt (omega arith) in
    rw e₄
    (digits4 w (w / 256) (w / 65536) (w / 16777216) _ _ _ (mod-add-div w 256) (rw e₂ at (mod-add-div (w / 256) 256)) (rw e₃ at (mod-add-div (w / 65536) 256)))

word_of-get_or : (l : List ℕ) → word_of l ≡ join (get_or l 0 0) (get_or l 1 0) (get_or l 2 0) (get_or l 3 0)
word_of-get_or [] = refl
word_of-get_or (a ∷ []) = refl
word_of-get_or (a ∷ b ∷ []) = refl
word_of-get_or (a ∷ b ∷ c ∷ []) = refl
word_of-get_or (a ∷ b ∷ c ∷ d ∷ r) = refl

-- a word, byte by byte: what code that reads it says
pub word_at-get_or : (s : List ℕ) (at : ℕ) → word_at s at ≡ join (get_or s at 0) (get_or s (at + 1) 0) (get_or s (at + 2) 0) (get_or s (at + 3) 0)
unfolding word_at
word_at-get_or s at =
    word_of-get_or (drop at s) ∙ rw (get_or-drop at s 0 0, get_or-drop at s 1 0, get_or-drop at s 2 0, get_or-drop at s 3 0, add-zero)

pub word_bytes-length : (w : ℕ) → length (word_bytes w) ≡ 4
unfolding word_bytes
word_bytes-length w = refl

-- the word that was put is read back
pub word_same : (s : List ℕ) (at w : ℕ) → at + 4 ≤ length s → w < 2 ^ 32 → word_at (splice s at (word_bytes w)) at ≡ w
unfolding word_bytes
word_same s at w h f =
    let vs : List ℕ = w % 256 ∷ w / 256 % 256 ∷ w / 65536 % 256 ∷ w / 16777216 % 256 ∷ [] in
    let e₀ : get_or (splice s at vs) at 0 ≡ w % 256 = ap (λ (k : ℕ). get_or (splice s at vs) k 0) (sym (add-zero at)) ∙ splice-in s at vs 0 0 (omega arith) (omega arith) in
    let e₁ : get_or (splice s at vs) (at + 1) 0 ≡ w / 256 % 256 = splice-in s at vs 1 0 (omega arith) (omega arith) in
    let e₂ : get_or (splice s at vs) (at + 2) 0 ≡ w / 65536 % 256 = splice-in s at vs 2 0 (omega arith) (omega arith) in
    let e₃ : get_or (splice s at vs) (at + 3) 0 ≡ w / 16777216 % 256 = splice-in s at vs 3 0 (omega arith) (omega arith) in
    word_at-get_or _ at ∙ rw (e₀, e₁, e₂, e₃) (join-bytes w f)

-- a word that lies before or past what was written is as it was
pub word-before : (s : List ℕ) (at : ℕ) (vs : List ℕ) (i : ℕ) → i + 4 ≤ at → word_at (splice s at vs) i ≡ word_at s i
word-before s at vs i h =
    rw (word_at-get_or (splice s at vs) i, word_at-get_or s i, splice-before s at vs i 0 (omega arith), splice-before s at vs (i + 1) 0 (omega arith), splice-before s at vs (i + 2) 0 (omega arith), splice-before s at vs (i + 3) 0 (omega arith))

pub word_after : (s : List ℕ) (at : ℕ) (vs : List ℕ) (i : ℕ) → at + length vs ≤ i → word_at (splice s at vs) i ≡ word_at s i
word_after s at vs i h =
    rw (word_at-get_or (splice s at vs) i, word_at-get_or s i, splice-after s at vs i 0 h, splice-after s at vs (i + 1) 0 (omega arith), splice-after s at vs (i + 2) 0 (omega arith), splice-after s at vs (i + 3) 0 (omega arith))

-- four words put one after the other
pub four-words : (s : List ℕ) {t u v x : List ℕ} (at a b c d : ℕ)
    → t ≡ splice s at (word_bytes a) → u ≡ splice t (at + 4) (word_bytes b) → v ≡ splice u (at + 8) (word_bytes c) → x ≡ splice v (at + 12) (word_bytes d)
    → x ≡ splice s at (word_bytes a ++ word_bytes b ++ word_bytes c ++ word_bytes d)
four-words s {t} {u} {v} {x} at a b c d e₁ e₂ e₃ e₄ =
    let p₁ : Put s at 4 t (word_bytes a) = record { done = e₁; size = word_bytes-length a } in
    let p₂ : Put s at 8 u (word_bytes a ++ word_bytes b) = put_then u (word_bytes b) 4 p₁ e₂ (word_bytes-length b) in
    let p₃ : Put s at 12 v (word_bytes a ++ word_bytes b ++ word_bytes c) = put_then v (word_bytes c) 4 p₂ e₃ (word_bytes-length c) in
    (put_then x (word_bytes d) 4 p₃ e₄ (word_bytes-length d)).done

-- word i of a list's words
pub words-at : (s : List ℕ) (i : ℕ) → 4 * i + 4 ≤ length s → get_or (words s) i 0 ≡ word_at s (4 * i)
unfolding words word_at
words-at [] i h = absurd (omega arith)
words-at (a ∷ []) i h = absurd (omega arith)
words-at (a ∷ b ∷ []) i h = absurd (omega arith)
words-at (a ∷ b ∷ c ∷ []) i h = absurd (omega arith)
words-at (a ∷ b ∷ c ∷ d ∷ r) zero h = refl
words-at (a ∷ b ∷ c ∷ d ∷ r) (suc i) h =
    let e : 4 * suc i ≡ suc (suc (suc (suc (4 * i)))) = omega arith in rw e (words-at r i (omega arith))

pub words-length : (s : List ℕ) (n : ℕ) → length s ≡ 4 * n → length (words s) ≡ n
unfolding words
words-length [] n h = omega arith
words-length (a ∷ []) n h = absurd (omega arith)
words-length (a ∷ b ∷ []) n h = absurd (omega arith)
words-length (a ∷ b ∷ c ∷ []) n h = absurd (omega arith)
words-length (a ∷ b ∷ c ∷ d ∷ r) n h =
    let e : length r ≡ 4 * (n - 1) = omega arith in
    let i = words-length r (n - 1) e in omega arith

pub words_append : (a b : List ℕ) (n : ℕ) → length a ≡ 4 * n → words (a ++ b) ≡ words a ++ words b
unfolding words
words_append [] b n h = refl
words_append (x ∷ []) b n h = absurd (omega arith)
words_append (x ∷ y ∷ []) b n h = absurd (omega arith)
words_append (x ∷ y ∷ z ∷ []) b n h = absurd (omega arith)
words_append (x ∷ y ∷ z ∷ u ∷ r) b n h =
    let e : length r ≡ 4 * (n - 1) = omega arith in ap (λ (l : List ℕ). join x y z u ∷ l) (words_append r b (n - 1) e)

-- a word of a part
pub word-part : (s : List ℕ) (n at i : ℕ) → i + 4 ≤ n → at + n ≤ length s → word_at (take n (drop at s)) i ≡ word_at s (at + i)
word-part s n at i h k =
    let l : length (take n (drop at s)) ≡ n = length-take-le n (drop at s) (simp length-drop (omega arith)) in
    let g : (j : ℕ) → j < n → get_or (take n (drop at s)) j 0 ≡ get_or s (at + j) 0 = λ j q. get_or-take n (drop at s) j 0 q ∙ get_or-drop at s j 0 in
    let e₁ : at + (i + 1) ≡ at + i + 1 = omega arith in
    let e₂ : at + (i + 2) ≡ at + i + 2 = omega arith in
    let e₃ : at + (i + 3) ≡ at + i + 3 = omega arith in
    word_at-get_or _ i ∙ rw (g i (omega arith), g (i + 1) (omega arith), g (i + 2) (omega arith), g (i + 3) (omega arith), e₁, e₂, e₃) (sym (word_at-get_or s (at + i)))
