-- A run that is whole bytes of bits, and runs set one after the other. Assumes nothing.
use mathlib.Core.Path.{◌≡◌, sym, ap, ◌∙◌}
use mathlib.Core.Bool.{Bool}
use mathlib.Core.List.{List, ◌++◌}
use Prim.Native.Nat.{ℕ, zero, suc, ◌+◌, ◌-◌, ◌*◌, ◌/◌, ◌%◌, ◌≤◌, ◌<◌}
use native.Mathlib.Decide.{ℕ_discrete}
use native.Mathlib.Omega.{arith}
use lib.ListN.{length, take, drop, get_or, set, replicate, length-replicate, length-drop}
use lib.Seq.{get_or-set_same, set-get_or, set-set, length-take-le}
use Rattle.words_sums.specs.Sums.{bit}
use Rattle.apages.proofs.BitLaws.{bit-two}
use Rattle.words.specs.Lists.{splice}
use Rattle.words.proofs.SpliceLaws.{splice-length, splice-nil, splice-after, part-back}
use Rattle.words.proofs.SameLaws.{same_more}
use Rattle.apages.specs.Bits.{digit, put_digit, put_bit, set_run}
use Rattle.apages.proofs.BitLaws.{digit-zero, digit-full, digit-same, digit-other, digits-ext, put_digit-lt}
use Rattle.apages.proofs.RunLaws.{run_none}

-- x with its lowest k bits made v, one after the other
unfoldable put_digits : ℕ → ℕ → ℕ → ℕ
put_digits x zero v = x
put_digits x (suc k) v = put_digit (put_digits x k v) k v

digits_in : (x k b v : ℕ) → v < 2 → b < k → digit (put_digits x k v) b ≡ v
unfolding put_digits
digits_in x zero b v two h = absurd (omega arith)
digits_in x (suc k) b v two h = go (λ l. digits_in x k b v two l) (ℕ_discrete k b)
  where
    go : (b < k → digit (put_digits x k v) b ≡ v) → Dec (k ≡ b) → digit (put_digit (put_digits x k v) k v) b ≡ v
    go ih (yes e) = rw (← e) (digit-same (put_digits x k v) k v two)
    go ih (no ne) = digit-other (put_digits x k v) k b v two ne ∙ ih (omega arith)

digits_lt : (x k v : ℕ) → v < 2 → k ≤ 8 → x < 256 → put_digits x k v < 256
unfolding put_digits
digits_lt x zero v two l h = h
digits_lt x (suc k) v two l h = put_digit-lt 8 (put_digits x k v) k v two (omega arith) (digits_lt x k v two (omega arith) h)

all_same : (v b : ℕ) → v < 2 → b < 8 → digit (255 * v) b ≡ v
all_same zero b two h = digit-zero b
all_same (suc zero) b two h = digit-full b h
all_same (suc (suc v)) b two h = absurd (omega arith)

-- a byte with all of its bits made v
whole-byte : (x v : ℕ) → v < 2 → x < 256 → 255 * v ≡ put_digits x 8 v
whole-byte x v two h =
    digits-ext 8 (255 * v) (put_digits x 8 v) (omega arith) (digits_lt x 8 v two (omega arith) h) (λ b l. all_same v b two l ∙ sym (digits_in x 8 b v two l))

-- the first k bits of byte j
byte-bits : (p : List ℕ) (j k v : ℕ) → j < length p → k ≤ 8 → set_run p (8 * j) k v ≡ set p j (put_digits (get_or p j 0) k v)
unfolding set_run put_digits put_bit
byte-bits p j zero v h l = sym (set-get_or p j 0)
byte-bits p j (suc k) v h l =
    let e : (8 * j + k) / 8 ≡ j = omega arith in
    let f : (8 * j + k) % 8 ≡ k = omega arith in
    rw (byte-bits p j k v h (omega arith), e, f, get_or-set_same) (set-set p j _ _)

-- a run set after another that ends where it starts
join_runs : (p : List ℕ) (a i r v : ℕ) → set_run (set_run p a i v) (a + i) r v ≡ set_run p a (i + r) v
unfolding set_run
join_runs p a i zero v = let e : i ≡ i + 0 = omega arith in ap (λ (k : ℕ). set_run p a k v) e
join_runs p a i (suc r) v =
    let e : i + suc r ≡ suc (i + r) = omega arith in
    let f : a + i + r ≡ a + (i + r) = omega arith in
    rw (e, f, join_runs p a i r v)

-- a turn of a loop that sets a run: the bits below sector n are set, and then r more
pub run-next : (p : List ℕ) {d e : List ℕ} (a n r v : ℕ) → a ≤ n → d ≡ set_run p a (n - a) v → e ≡ set_run d n r v → e ≡ set_run p a (n + r - a) v
run-next p a n r v h x y =
    let f : a + (n - a) ≡ n = omega arith in
    let g : n - a + r ≡ n + r - a = omega arith in
    y ∙ ap (λ l. set_run l n r v) x ∙ rw (f, g) at (join_runs p a (n - a) r v)

-- one bit is a run of one
pub run-one : (p : List ℕ) {q : List ℕ} (n v : ℕ) → q ≡ put_bit p n v → q ≡ set_run p n 1 v
unfolding set_run
run-one p n v e = let f : n ≡ n + 0 = omega arith in e ∙ ap (λ (k : ℕ). put_bit p k v) f

-- the bits of m bytes from byte j on: the bytes are all alike
pub bytes_same : (p : List ℕ) → ((i : ℕ) → get_or p i 0 < 256) → (j m v : ℕ) → v < 2 → j + m ≤ length p → splice p j (replicate m (255 * v)) ≡ set_run p (8 * j) (8 * m) v
bytes_same p small j zero v two h = splice-nil p j ∙ sym (run_none p (8 * j) v)
bytes_same p small j (suc m) v two h =
    let q = splice p j (replicate m (255 * v)) in
    let l : length (replicate m (255 * v)) ≡ m = length-replicate m (255 * v) in
    let old : get_or q (j + m) 0 ≡ get_or p (j + m) 0 = splice-after p j (replicate m (255 * v)) (j + m) 0 (omega arith) in
    let e : 255 * v ≡ put_digits (get_or q (j + m) 0) 8 v = whole-byte (get_or q (j + m) 0) v two (omega (arith, small (j + m))) in
    let f : 8 * m + 8 ≡ 8 * suc m = omega arith in
    let g : 8 * (j + m) ≡ 8 * j + 8 * m = omega arith in
    sym (same_more p j m (255 * v)) ∙ ap (λ (x : ℕ). set q (j + m) x) e ∙ sym (byte-bits q (j + m) 8 v (omega (arith, splice-length p j (replicate m (255 * v)))) (omega arith))
    ∙ ap (λ (a : ℕ). set_run q a 8 v) g ∙ ap (λ (d : List ℕ). set_run d (8 * j + 8 * m) 8 v) (bytes_same p small j m v two (omega arith)) ∙ join_runs p (8 * j) (8 * m) 8 v
    ∙ ap (λ (k : ℕ). set_run p (8 * j) k v) f

-- a byte's run starts at its first sector
pub run-at : (p : List ℕ) {q : List ℕ} (n k v : ℕ) → n % 8 ≡ 0 → q ≡ set_run p (8 * (n / 8)) k v → q ≡ set_run p n k v
run-at p n k v z e = let f : 8 * (n / 8) ≡ n = omega arith in e ∙ ap (λ (a : ℕ). set_run p a k v) f

-- part of a page, lent and filled with a byte of eight bits that are alike
pub bytes_put : (p : List ℕ) {d : List ℕ} → ((i : ℕ) → get_or p i 0 < 256) → (j m : ℕ) (v : Bool) {x : ℕ} → x ≡ 255 * bit v → d ≡ replicate (length (take (j + m - j) (drop j p))) x → j + m ≤ length p
    → take j p ++ (d ++ drop (j + m - j) (drop j p)) ≡ set_run p (8 * j) (8 * m) (bit v)
bytes_put p small j m v e f h =
    let n : j + m - j ≡ m = omega arith in
    let l : length (take (j + m - j) (drop j p)) ≡ m = rw n (length-take-le m (drop j p) (omega (arith, length-drop j p))) in
    rw (f, l, e) (part-back p (replicate m (255 * bit v)) j (j + m) (omega arith) h (length-replicate m (255 * bit v) ∙ omega arith)) ∙ bytes_same p small j m (bit v) (bit-two v) h
