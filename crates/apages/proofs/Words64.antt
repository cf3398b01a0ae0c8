-- A page as words of eight bytes, and the ones of all of them. Assumes nothing.
use mathlib.Core.Path.{◌≡◌, refl, sym, ap, ◌∙◌}
use mathlib.Core.Bool.{true}
use mathlib.Core.List.{List, [], ◌∷◌, map}
use Prim.Native.Nat.{ℕ, zero, suc, ◌+◌, ◌*◌, ◌/◌, ◌%◌, ◌≤◌, ◌<◌}
use native.Mathlib.Omega.{arith}
use lib.Bits.{bit_or}
use lib.Count.{ones}
use lib.ListN.{length, take, drop, get_or}
use lib.Seq.{get_or-take, drop-drop}
use Rattle.std.specs.Simd.{first_chunks}
use Rattle.std.specs.Int.{w64, from_le_bytes}
use Rattle.std.specs.List.{sum, zip}
use Rattle.std.proofs.lemmas.List.{length-map, get_or-map}
use Rattle.std.proofs.lemmas.Slice.Zip.{length-zip, get_or-zip}
use Rattle.std.proofs.lemmas.List.Sums.{sum_by-cons}
use Rattle.words_sums.specs.Sums.{total}
use Rattle.words_sums.proofs.SumLaws.{total-none}
use Rattle.words.specs.Bytes.{word_at}
use Rattle.words.proofs.WordLaws.{word_at-get_or}
use Rattle.apages.specs.Bits.{bit_at}
use Rattle.apages.specs.Inner.{either_of, either}
use Rattle.apages.specs.Ones.{word64_at, ones_of, set_bits, all_set}
use Rattle.apages.proofs.OnesLaws.{ones-word, ones-more, word_lt, word_set, set-clear}
use Rattle.apages.proofs.Either.{either-length, either-bytes, either-word}

pub chunks-length : {A : Type 0} (n k : ℕ) (s : List A) → length (first_chunks n k s) ≡ k
chunks-length n zero s = refl
chunks-length n (suc k) s = ap suc (chunks-length n k (drop n s))

-- a word of eight bytes, as code makes it
pub word64-bytes : (w : List ℕ) → from_le_bytes w64 w ≡ word64_at w 0
unfolding word64_at
word64-bytes w = omega (arith, word_at-get_or w 0, word_at-get_or w 4)

take-word : (s : List ℕ) → word64_at (take 8 s) 0 ≡ word64_at s 0
unfolding word64_at
take-word s =
    let same : (i : ℕ) → i < 8 → get_or (take 8 s) i 0 ≡ get_or s i 0 = λ i h. get_or-take 8 s i 0 h in
    omega (
      arith,
      word_at-get_or (take 8 s) 0,
      word_at-get_or (take 8 s) 4,
      word_at-get_or s 0,
      word_at-get_or s 4,
      same 0 (omega arith),
      same 1 (omega arith),
      same 2 (omega arith),
      same 3 (omega arith),
      same 4 (omega arith),
      same 5 (omega arith),
      same 6 (omega arith),
      same 7 (omega arith),
    )

drop-word : (m : List ℕ) (at : ℕ) → word64_at (drop at m) 0 ≡ word64_at m at
unfolding word64_at word_at
drop-word m at = rw (drop-drop 4 at m)

chunk-at : (k i : ℕ) (m : List ℕ) → i < k → get_or (first_chunks 8 k m) i [] ≡ take 8 (drop (8 * i) m)
chunk-at zero i m h = absurd (omega arith)
chunk-at (suc k) zero m h = refl
chunk-at (suc k) (suc i) m h = let e : 8 * suc i ≡ 8 + 8 * i = omega arith in chunk-at k i (drop 8 m) (omega arith) ∙ rw (drop-drop (8 * i) 8 m, e)

-- word i of the page
pub word-in : (k i : ℕ) (m : List ℕ) → i < k → word64_at (get_or (first_chunks 8 k m) i []) 0 ≡ word64_at m (8 * i)
word-in k i m h = ap (λ (w : List ℕ). word64_at w 0) (chunk-at k i m h) ∙ take-word (drop (8 * i) m) ∙ drop-word m (8 * i)

module _ (m : List ℕ) (bytes : (j : ℕ) → get_or m j 0 < 256) where
  -- the ones of words one after the other
  ones-from : (rs : List ℕ) (at : ℕ) → ((i : ℕ) → i < length rs → get_or rs i 0 ≡ ones_of (word64_at m (8 * (at + i)))) → total (bit_at m) (64 * at) + sum rs ≡ total (bit_at m) (64 * (at + length rs))
  ones-from [] at h = let e : 64 * (at + 0) ≡ 64 * at = omega arith in rw e (omega arith)
  ones-from (r ∷ rs) at h =
      let z : 8 * (at + 0) ≡ 8 * at = omega arith in
      let e : 8 * (8 * at) ≡ 64 * at = omega arith in
      let f : 8 * (8 * at + 8) ≡ 64 * (at + 1) = omega arith in
      let g : 64 * (at + 1 + length rs) ≡ 64 * (at + length (r ∷ rs)) = omega arith in
      let one : total (bit_at m) (64 * at) + r ≡ total (bit_at m) (64 * (at + 1)) = rw f at (ones-more m bytes (8 * at) (total (bit_at m) (64 * at)) (rw e) (rw z at (h 0 (omega arith)))) in
      let rest = ones-from rs (at + 1) (λ i l. let q : at + 1 + i ≡ at + suc i = omega arith in rw q (h (suc i) (omega arith))) in
      omega (arith, sum_by-cons (λ (x : ℕ). x) r rs, one, rw g at rest)

  -- all words of the page
  module _ (rs : List ℕ) (l : 8 * length rs ≡ length m) (each : (i : ℕ) → i < length rs → get_or rs i 0 ≡ ones_of (word64_at m (8 * i))) where
    pub ones-all : sum rs ≡ set_bits m
    unfolding set_bits
    ones-all =
        let e : 64 * (0 + length rs) ≡ 8 * length m = omega arith in
        omega (arith, total-none (bit_at m), rw e at (ones-from rs 0 (λ i h. let q : 0 + i ≡ i = omega arith in rw q (each i h))))

    pub ones-few : sum rs ≤ 8 * length m
    ones-few = omega (arith, ones-all, set-clear m)

-- the word of 64 sectors that are in one
pub word-inside : (m : List ℕ) (n : ℕ) → n + 64 ≤ 8 * length m → n / 64 < length (first_chunks 8 (length m / 8) m)
word-inside m n h = omega (arith, chunks-length 8 (length m / 8) m)

pub word-full : (m : List ℕ) → ((j : ℕ) → get_or m j 0 < 256) → (n : ℕ) {x : ℕ} → n % 64 ≡ 0 → n + 64 ≤ 8 * length m
    → x ≡ word64_at (get_or (first_chunks 8 (length m / 8) m) (n / 64) []) 0 → x ≡ 18446744073709551615 → all_set m n 64 ≡ true
word-full m bytes n z h e f =
    let q : 8 * (n / 64) ≡ n / 8 = omega arith in
    word_set m bytes n z (sym (rw q at (word-in (length m / 8) (n / 64) m (omega arith))) ∙ sym e ∙ f)

-- ---- what code adds up

-- the ones of each word of a page
abbrev pub page_ones : List (List ℕ) → List ℕ
page_ones ws = map (λ w. ones (word64_at w 0)) ws

module _ (m : List ℕ) (bytes : (j : ℕ) → get_or m j 0 < 256) (k : ℕ) (whole : 8 * k ≡ length m) where
  page-each : (i : ℕ) → i < length (page_ones (first_chunks 8 k m)) → get_or (page_ones (first_chunks 8 k m)) i 0 ≡ ones_of (word64_at m (8 * i))
  page-each i h =
      let l : i < k = omega (arith, length-map (first_chunks 8 k m) (λ w. ones (word64_at w 0)), chunks-length 8 k m) in
      get_or-map (λ w. ones (word64_at w 0)) (first_chunks 8 k m) i [] 0 (omega (arith, chunks-length 8 k m)) ∙ ap ones (word-in k i m l) ∙ ones-word (word64_at m (8 * i)) (word_lt m bytes (8 * i))

  page-long : 8 * length (page_ones (first_chunks 8 k m)) ≡ length m
  page-long = omega (arith, length-map (first_chunks 8 k m) (λ w. ones (word64_at w 0)), chunks-length 8 k m)

  pub page-sum : sum (page_ones (first_chunks 8 k m)) ≡ set_bits m
  page-sum = ones-all m bytes _ page-long page-each

  pub page-few : sum (page_ones (first_chunks 8 k m)) ≤ 8 * length m
  page-few = ones-few m bytes _ page-long page-each

-- the ones of each two words of two pages
abbrev pub both_ones : List (List ℕ × List ℕ) → List ℕ
both_ones ws = map (λ w. ones (bit_or (word64_at w.0 0) (word64_at w.1 0))) ws

module _ (p q : List ℕ) (alike : length p ≡ length q) (ps : (j : ℕ) → get_or p j 0 < 256) (qs : (j : ℕ) → get_or q j 0 < 256) (k : ℕ) (whole : 8 * k ≡ length p) where
  abbrev pairs : List (List ℕ × List ℕ)
  pairs = zip (first_chunks 8 k p) (first_chunks 8 k q)

  pairs-length : length pairs ≡ k
  pairs-length = omega (arith, length-zip (first_chunks 8 k p) (first_chunks 8 k q), chunks-length 8 k p, chunks-length 8 k q)

  both-each : (i : ℕ) → i < length (both_ones pairs) → get_or (both_ones pairs) i 0 ≡ ones_of (word64_at (either p q) (8 * i))
  unfolding either_of
  both-each i h =
      let f : List ℕ × List ℕ → ℕ = λ w. ones (bit_or (word64_at w.0 0) (word64_at w.1 0)) in
      let l : i < k = omega (arith, length-map pairs f, pairs-length) in
      let z = get_or-zip (first_chunks 8 k p) (first_chunks 8 k q) i ([], []) (omega (arith, chunks-length 8 k p)) (omega (arith, chunks-length 8 k q)) in
      get_or-map f pairs i ([], []) 0 (omega (arith, pairs-length)) ∙ ap f z ∙ ap ones (rw (word-in k i p l, word-in k i q l) (sym (either-word p q alike ps qs (8 * i))))
      ∙ ones-word (word64_at (either p q) (8 * i)) (word_lt (either p q) (either-bytes p q alike ps qs) (8 * i))

  both-long : 8 * length (both_ones pairs) ≡ length (either p q)
  both-long = omega (arith, length-map pairs (λ w. ones (bit_or (word64_at w.0 0) (word64_at w.1 0))), pairs-length, either-length p q alike)

  pub both-sum : sum (both_ones pairs) ≡ set_bits (either p q)
  both-sum = ones-all (either p q) (either-bytes p q alike ps qs) _ both-long both-each

  pub both-few : sum (both_ones pairs) ≤ 8 * length p
  both-few = omega (arith, ones-few (either p q) (either-bytes p q alike ps qs) _ both-long both-each, either-length p q alike)
