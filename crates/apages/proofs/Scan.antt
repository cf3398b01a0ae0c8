-- What one pass over two pages, from a sector on, has seen of the lowest run free in both. Assumes nothing.
use Rattle.std.specs.Prelude.{Option, Some, None}
use mathlib.Core.Path.{◌≡◌, refl, sym, ap, ◌∙◌}
use mathlib.Core.Bool.{Bool, true, false, not}
use Prim.Native.Nat.{ℕ, zero, suc, ◌+◌, ◌-◌, ◌%◌, ◌≤◌, ◌<◌}
use native.Mathlib.Decide.{dec_lt}
use native.Mathlib.Omega.{arith}
use borrow.Author.Rules.{rules}
use borrow.Author.Tests.{eqb-true, eq-eqb}
use Rattle.words.specs.Lists.{is_zero}
use Rattle.words.proofs.BoolLaws.{falsum}
use Rattle.apages.specs.Inner.{run_up_to}

-- k neighbouring sectors from s on are free
abbrev pub Good : (ℕ → ℕ) → ℕ → ℕ → Type 0
Good f k s = (n : ℕ) → s ≤ n → n < s + k → f n ≡ 0

-- and no run crosses out of a page
abbrev pub GoodIn : (ℕ → ℕ) → ℕ → ℕ → Type 0
GoodIn f k s = (s % 4096 + k ≤ 4096) × Good f k s

-- r is the lowest start of lo to hi - k that q holds of
abbrev pub LowestOf : (ℕ → Type 0) → ℕ → ℕ → ℕ → Option ℕ → Type 0
LowestOf q k lo hi (Some s) = (lo ≤ s) × (s + k ≤ hi) × q s × ((t : ℕ) → lo ≤ t → t < s → q t → ⊥)
LowestOf q k lo hi None = (t : ℕ) → lo ≤ t → t + k ≤ hi → q t → ⊥

-- r is the lowest start of k free sectors of lo to hi - 1
abbrev pub Lowest : (ℕ → ℕ) → ℕ → ℕ → ℕ → Option ℕ → Type 0
Lowest f k lo hi (Some s) = (lo ≤ s) × (s + k ≤ hi) × Good f k s × ((t : ℕ) → lo ≤ t → t < s → Good f k t → ⊥)
Lowest f k lo hi None = (t : ℕ) → lo ≤ t → t + k ≤ hi → Good f k t → ⊥

-- in one page no run can cross out of it
pub page-lowest : (f : ℕ → ℕ) (k lo hi : ℕ) (r : Option ℕ) → hi ≤ 4096 → Lowest f k lo hi r → LowestOf (GoodIn f k) k lo hi r
page-lowest f k lo hi (Some s) h low = (low.0, low.1, (omega (arith, low.1), low.2), λ t a b g. low.3 t a b g.1)
page-lowest f k lo hi None h low = λ t a b g. low t a b g.1

pub run_up_to-le : (b have n : ℕ) → run_up_to b have n ≤ have + n
run_up_to-le zero have n = omega arith
run_up_to-le (suc b) have n = omega arith

pub run_up_to-busy : (b have n : ℕ) {r : Bool} → r ≡ not (is_zero b) → r ≡ true → 0 ≡ run_up_to b have n
run_up_to-busy zero have n e h = falsum (sym e ∙ h)
run_up_to-busy (suc b) have n e h = refl

pub run_up_to-free : (b have n : ℕ) {r : Bool} → r ≡ not (is_zero b) → r ≡ false → have + n ≡ run_up_to b have n
run_up_to-free zero have n e h = refl
run_up_to-free (suc b) have n e h = let z : is_zero (suc b) ≡ false = search rules in falsum (sym h ∙ rw z at e)

-- the pass began at sector lo and stands before sector `at`; the last `have` sectors are free, and no run of k starts before them
pub record Seen (f : ℕ → ℕ) (k lo have at : ℕ) : Type 0 where
  pub short : have < k
  pub room : lo + have ≤ at
  pub free : (n : ℕ) → at ≤ n + have → n < at → f n ≡ 0
  pub none : (s : ℕ) → lo ≤ s → s + have < at → Good f k s → ⊥

pub seen_start : (f : ℕ → ℕ) (k lo : ℕ) → 0 < k → Seen f k lo 0 lo
seen_start f k lo h = record {
  short = h;
  room = omega arith;
  free = λ n a b. omega arith;
  none = λ s a b g. omega arith;
}

module _ {f : ℕ → ℕ} {k lo have at : ℕ} (s : Seen f k lo have at) where
  -- the next m sectors are alike
  module _ (m : ℕ) (alike : (n : ℕ) → at ≤ n → n < at + m → is_zero (f n) ≡ is_zero (f at)) where
    more-free : f at ≡ 0 → (n : ℕ) → at ≤ n + have → n < at + m → f n ≡ 0
    more-free z n a b = go (dec_lt n at)
      where
        go : Dec (n < at) → f n ≡ 0
        go (yes l) = s.free n a l
        go (no l) = eqb-true (f n) 0 (alike n (omega arith) b ∙ eq-eqb (f at) 0 z)

    -- no run starts before busy sectors or among them
    past-busy : (b : ℕ) → f at ≡ suc b → (t : ℕ) → lo ≤ t → t < at + m → Good f k t → ⊥
    past-busy b z t w c good = go (dec_lt (t + have) at) (dec_lt at t)
      where
        go : Dec (t + have < at) → Dec (at < t) → ⊥
        go (yes l) d = s.none t w l good
        go (no l) (yes d) = let e : f at ≡ 0 = eqb-true (f at) 0 (sym (alike t (omega arith) c) ∙ eq-eqb (f t) 0 (good t (omega arith) (omega (arith, s.short)))) in omega arith
        go (no l) (no d) = omega (arith, good at (omega arith) (omega (arith, s.short)))

    pub seen_more : (g : ℕ) → g ≡ run_up_to (f at) have m → g < k → Seen f k lo g (at + m)
    seen_more g e h = go (f at) refl e
      where
        go : (b : ℕ) → f at ≡ b → g ≡ run_up_to b have m → Seen f k lo g (at + m)
        go zero z e' = record {
          short = h;
          room = omega (arith, s.room);
          free = λ n a b. more-free z n (omega arith) b;
          none = λ t w b. s.none t w (omega arith);
        }
        go (suc b) z e' = record {
          short = h;
          room = omega (arith, s.room);
          free = λ n a c. omega arith;
          none = λ t w c. past-busy b z t w (omega arith);
        }

    pub seen-found : (g hi : ℕ) → g ≡ run_up_to (f at) have m → k ≤ g → at + m ≤ hi → Lowest f k lo hi (Some (at + m - g))
    seen-found g hi e q l = go (f at) refl e
      where
        go : (b : ℕ) → f at ≡ b → g ≡ run_up_to b have m → Lowest f k lo hi (Some (at + m - g))
        go zero z e' =
            (omega (arith, s.room), omega (arith, s.room), (λ n a b. more-free z n (omega (arith, s.room)) (omega (arith, s.room))), λ t a b. s.none t a (omega arith))
        go (suc b) z e' = absurd (omega (arith, s.short))

  pub seen_end : (hi : ℕ) → hi ≤ at → Lowest f k lo hi None
  seen_end hi h t a b = s.none t a (omega (arith, s.short))

-- two answers that are the lowest are one
pub lowest-one : (q : ℕ → Type 0) (k lo hi : ℕ) (r r' : Option ℕ) → LowestOf q k lo hi r → LowestOf q k lo hi r' → r ≡ r'
lowest-one q k lo hi (Some s) (Some t) a b = go (dec_lt s t) (dec_lt t s)
  where
    go : Dec (s < t) → Dec (t < s) → Some s ≡ Some t
    go (yes l) d = absurd (b.3 s a.0 l a.2)
    go (no l) (yes m) = absurd (a.3 t b.0 m b.2)
    go (no l) (no m) = ap Some (omega arith)
lowest-one q k lo hi (Some s) None a b = absurd (b s a.0 a.1 a.2)
lowest-one q k lo hi None (Some t) a b = absurd (a t b.0 b.1 b.2)
lowest-one q k lo hi None None a b = refl
