-- Words as bytes, one after another. Assumes nothing.
use Rattle.std.specs.List.{flat_map}
use Rattle.std.proofs.Common.{◌++◌, length-take}
use Rattle.std.proofs.lemmas.List.{take_more, append-nil, length-replicate}
use Rattle.std.proofs.lemmas.List.Concat.{flat_map-append}
use mathlib.Core.Path.{◌≡◌, refl, ap, ◌∙◌}
use mathlib.Core.List.{List, [], ◌∷◌}
use Prim.Native.Nat.{ℕ, ◌+◌, ◌*◌, ◌<◌}
use native.Mathlib.Omega.{arith}
use lib.ListN.{length, take, get_or, replicate}
use Rattle.words.specs.Lists.{splice}
use Rattle.words.specs.Bytes.{word_bytes}
use Rattle.words.proofs.SpliceLaws.{splice-then, splice-whole}

row-length : (ws : List ℕ) → length (flat_map word_bytes ws) ≡ 4 * length ws
unfolding word_bytes
row-length [] = refl
row-length (w ∷ ws) = let e = row-length ws in omega arith

-- one more word
pub row-more : (z ws : List ℕ) (i : ℕ) → i < length ws
    → splice (splice z 0 (flat_map word_bytes (take i ws))) (4 * i) (word_bytes (get_or ws i 0)) ≡ splice z 0 (flat_map word_bytes (take (i + 1) ws))
row-more z ws i h =
    let a = flat_map word_bytes (take i ws) in
    let w = get_or ws i 0 in
    let n : 4 * i ≡ 0 + length a = simp (row-length, length-take) (omega arith) in
    let e : flat_map word_bytes (take (i + 1) ws) ≡ a ++ word_bytes w = rw (take_more ws i 0 h) (flat_map-append word_bytes (take i ws) (w ∷ []) ∙ ap (λ (x : List ℕ). a ++ x) (append-nil (word_bytes w))) in
    rw (n, e) (splice-then z 0 a (word_bytes w))

-- all of them
pub row-whole : (ws : List ℕ) (n : ℕ) → n ≡ 4 * length ws → splice (replicate n 0) 0 (flat_map word_bytes ws) ≡ flat_map word_bytes ws
row-whole ws n h = splice-whole (replicate n 0) (flat_map word_bytes ws) (simp (row-length, length-replicate) (omega arith))
