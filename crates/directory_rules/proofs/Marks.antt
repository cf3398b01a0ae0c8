-- Marks of names: a name that is not marked is none of those that were marked. Assumes nothing.
use mathlib.Core.Path.{◌≡◌, refl, sym, ◌∙◌}
use mathlib.Core.Bool.{Bool, true, false, ◌||◌}
use mathlib.Core.List.{List, []}
use Prim.Native.Nat.{ℕ, ◌+◌, ◌*◌, ◌/◌, ◌%◌, ◌≤◌, ◌<◌}
use native.Mathlib.Decide.{ℕ_discrete}
use native.Mathlib.Omega.{arith}
use borrow.Author.Tests.{eqb-true}
use lib.Dec.{eqb}
use lib.ListN.{length, drop, get_or, length-drop}
use lib.Seq.{get_or-drop}
use Rattle.words.specs.Lists.{every, pairwise, eq_list}
use Rattle.words.proofs.BoolLaws.{both, falsum}
use Rattle.words.proofs.EveryLaws.{every-all, pair-next, pair-rest}
use Rattle.words.proofs.EveryMore.{eq_list-eq}
use Rattle.entries.specs.Entries.{name_of}
use Rattle.entries_names.specs.Inner.{hash_of}
use Rattle.directory.specs.Directory.{gone, apart}
use Rattle.directory.proofs.ApartLaws.{apart-unlike}
use Rattle.apages.specs.Bits.{bit_at, put_bit}
use Rattle.apages.proofs.BitLaws.{bit-same, bit-other, put_bit-length}
use Rattle.directory_rules.specs.Inner.{Marked, Marking, Known}

-- ---- one mark

stays : (m : List ℕ) (n k : ℕ) → n < 8 * length m → bit_at m k ≡ 1 → bit_at (put_bit m n 1) k ≡ 1
stays m n k h e = go (ℕ_discrete n k)
  where
    go : Dec (n ≡ k) → bit_at (put_bit m n 1) k ≡ 1
    go (yes q) = rw (← q) (bit-same m n 1 (omega arith) h)
    go (no q) = bit-other m n 1 (omega arith) h k q ∙ e

-- two marks, as code sets them
pub marking : (m : List ℕ) {m₁ m₂ : List ℕ} (n : List ℕ) {a b : ℕ} {x y : Bool} → length m ≡ 128 → a ≡ hash_of n % 1024 → b ≡ hash_of n / 1024 % 1024
    → x ≡ eqb (bit_at m a) 0 → m₁ ≡ put_bit m a 1 → y ≡ eqb (bit_at m₁ b) 0 → m₂ ≡ put_bit m₁ b 1 → Marking m m₂ n (x || y)
marking m {m₁} {m₂} n {a} {b} {x} {y} l ea eb ex e₁ ey e₂ = record {
  new = λ t w. none x y t (λ q. clear m a (sym ex ∙ q) (rw (← ea) at w.low)) (λ q. clear m₁ b (sym ey ∙ q) (first b (rw (← eb) at w.high)));
  here = record { low = rw (← ea) (second a (rw e₁ (bit-same m a 1 (omega arith) la))); high = rw (← eb) (rw e₂ (bit-same m₁ b 1 (omega arith) lb)) };
  kept = λ z w. record { low = second _ (first _ w.low); high = second _ (first _ w.high) };
}
  where
    la : a < 8 * length m
    la = omega arith

    l₁ : length m₁ ≡ 128
    l₁ = rw e₁ (put_bit-length m a 1 ∙ l)

    lb : b < 8 * length m₁
    lb = omega (arith, l₁)

    first : (k : ℕ) → bit_at m k ≡ 1 → bit_at m₁ k ≡ 1
    first k h = rw e₁ (stays m a k la h)

    second : (k : ℕ) → bit_at m₁ k ≡ 1 → bit_at m₂ k ≡ 1
    second k h = rw e₂ (stays m₁ b k lb h)

    clear : (s : List ℕ) (k : ℕ) → eqb (bit_at s k) 0 ≡ true → bit_at s k ≡ 1 → ⊥
    clear s k t h = omega (arith, eqb-true (bit_at s k) 0 t)

    none : (x y : Bool) → (x || y) ≡ true → (x ≡ true → ⊥) → (y ≡ true → ⊥) → ⊥
    none true y t f g = f refl
    none false y t f g = g t

-- ---- the entries

pub marking-of : {m m' x y : List ℕ} {r : Bool} → Marking m m' (name_of x) r → x ≡ y → Marking m m' (name_of y) r
marking-of w e = rw e at w

module _ (tp tc : List ℕ) (es : List (List ℕ)) where
  abbrev at : ℕ → List ℕ
  at j = get_or es j []

  pub known-end : (i : ℕ) (m : List ℕ) → length es ≤ i → Known tp tc es i m
  known-end i m h j a b = absurd (omega arith)

  pub known_at : (i k : ℕ) (m : List ℕ) → i ≡ k → Known tp tc es i m → Known tp tc es k m
  known_at i k m e h j a b g = h j (omega arith) b g

  -- one entry more, which shows no file
  pub known-gone : (i : ℕ) (m : List ℕ) {r : Bool} → r ≡ gone tp tc (at i) → r ≡ true → Known tp tc es (i + 1) m → Known tp tc es i m
  known-gone i m e h k j a b g = go (ℕ_discrete i j)
    where
      go : Dec (i ≡ j) → Marked m (name_of (at j))
      go (yes q) = falsum (sym (sym h ∙ e ∙ rw q g))
      go (no q) = k j (omega arith) b g

  -- one entry more, whose name is marked
  pub known_next : (i : ℕ) (m m' : List ℕ) {r : Bool} → Marking m m' (name_of (at i)) r → Known tp tc es (i + 1) m → Known tp tc es i m'
  known_next i m m' w k j a b g = go (ℕ_discrete i j)
    where
      go : Dec (i ≡ j) → Marked m' (name_of (at j))
      go (yes q) = rw q at w.here
      go (no q) = w.kept _ (k j (omega arith) b g)

  -- an entry whose name was not marked stands apart from each later one
  pub new_apart : (i : ℕ) (m m' : List ℕ) {r : Bool} → Marking m m' (name_of (at i)) r → r ≡ true → Known tp tc es (i + 1) m → true ≡ every (apart tp tc (at i)) (drop (i + 1) es)
  new_apart i m m' w t k = sym (every-all (apart tp tc (at i)) (drop (i + 1) es) [] (λ j l. rw (get_or-drop (i + 1) es j []) (one (i + 1 + j) (omega arith) (omega (arith, length-drop (i + 1) es)) (gone tp tc (at (i + 1 + j))) refl)))
    where
      unlike : (j : ℕ) → Marked m (name_of (at j)) → (b : Bool) → eq_list (name_of (at i)) (name_of (at j)) ≡ b → apart tp tc (at i) (at j) ≡ true
      unlike j h true e = absurd (w.new t (rw (← eq_list-eq (name_of (at i)) (name_of (at j)) e) at h))
      unlike j h false e = sym (apart-unlike tp tc (at i) (at j) false (sym e) refl)

      other : (a b c : Bool) → b ≡ true → (a || b || c) ≡ true
      other true b c e = refl
      other false true c e = refl
      other false false c e = falsum e

      one : (j : ℕ) → i + 1 ≤ j → j < length es → (b : Bool) → gone tp tc (at j) ≡ b → apart tp tc (at i) (at j) ≡ true
      one j a l true g = unfold apart in other (gone tp tc (at i)) (gone tp tc (at j)) _ g
      one j a l false g = unlike j (k j a l g) (eq_list (name_of (at i)) (name_of (at j))) refl

-- ---- from the last entry down

module _ {A : Type 0} (f : A → A → Bool) (l : List A) (d : A) (i k : ℕ) (next : k ≡ i + 1) (h : i < length l) {r : Bool} (e : r ≡ every (f (get_or l i d)) (drop (i + 1) l)) where
  pub down-go : r ≡ true → pairwise f (drop k l) ≡ true → pairwise f (drop i l) ≡ true
  down-go n p = pair-next f l i d h ∙ rw (← e, n, ← next) p

  pub down-stop : r ≡ false → false ≡ pairwise f l
  down-stop n = go (pairwise f l) refl
    where
      go : (c : Bool) → pairwise f l ≡ c → false ≡ c
      go false q = refl
      go true q = sym n ∙ e ∙ (both _ _ (sym (pair-next f l i d h) ∙ pair-rest f i l q)).0
