-- The bitmap's rule: a page whose bits are as wanted passes. Assumes nothing.
use mathlib.Core.Path.{◌≡◌, sym, ◌∙◌}
use mathlib.Core.Bool.{true}
use mathlib.Core.List.{List}
use Prim.Native.Nat.{ℕ, ◌+◌, ◌*◌, ◌/◌, ◌%◌, ◌≤◌, ◌<◌}
use native.Mathlib.Omega.{arith}
use borrow.Author.Tests.{eq-eqb}
use lib.ListN.{length, drop, get_or, length-drop}
use lib.Seq.{get_or-drop}
use Rattle.words.specs.Lists.{every}
use Rattle.words.proofs.EveryLaws.{every-all}
use Rattle.counts.specs.declared.Geo.{Geo}
use Rattle.apages.specs.Bits.{digit, bit_at}
use Rattle.apages.proofs.BitLaws.{digits-ext, digit-full}
use Rattle.apages.specs.Runs.{wanted, is_full, bytes_to_s, page_ok}
use Rattle.card.proofs.BitmapLaws.{wanted-out, page-ok}

byte-bit : (p : List ℕ) (j c : ℕ) → c < 8 → digit (get_or p j 0) c ≡ bit_at p (8 * j + c)
unfolding bit_at
byte-bit p j c h =
    let e : (8 * j + c) / 8 ≡ j = omega arith in
    let f : (8 * j + c) % 8 ≡ c = omega arith in rw (e, f)

-- a page with the bits wanted passes, if it is made of bytes past S
pub bits-page : (g : Geo) (f : ℕ → ℕ) (p : List ℕ) → g.s ≤ 8 * length p → ((j : ℕ) → g.s ≤ 8 * j → get_or p j 0 < 256) → ((n : ℕ) → n < 8 * length p → bit_at p n ≡ wanted g f n) → page_ok g f p ≡ true
unfolding bytes_to_s
bits-page g f p small bytes h = page-ok g f p (omega arith) (λ n l. h n (omega arith)) high
  where
    k : ℕ
    k = (g.s + 7) / 8

    byte : (j : ℕ) → k ≤ j → j < length p → get_or p j 0 ≡ 255
    byte j a b =
        digits-ext 8 (get_or p j 0) 255 (bytes j (omega arith)) (omega arith)
        (λ c l. byte-bit p j c l ∙ h (8 * j + c) (omega arith) ∙ wanted-out g f (8 * j + c) (λ q. omega (arith, q.1)) ∙ sym (digit-full c l))

    high : every is_full (drop k p) ≡ true
    high =
        every-all is_full (drop k p) 0
        (λ i l. let q : k + i < length p = omega (arith, simp length-drop at l) in
        eq-eqb _ 255 (get_or-drop k p i 0 ∙ byte (k + i) (omega arith) q))
