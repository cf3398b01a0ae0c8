-- What an entry shows, its name, its name's test and its change, as code reads them. Assumes nothing.
use mathlib.Core.Path.{◌≡◌, refl, ap, ◌∙◌}
use mathlib.Core.Bool.{Bool, true, false, cond}
use mathlib.Core.List.{List}
use Prim.Native.Nat.{ℕ, ◌+◌, ◌-◌, ◌≤◌, ◌<◌, min}
use native.Mathlib.Decide.{dec_lt}
use native.Mathlib.Omega.{arith}
use lib.ListN.{length, take, drop, length-take, length-drop}
use lib.Seq.{take-take, take_all}
use Rattle.words.specs.Lists.{eq_list}
use Rattle.words.specs.Bytes.{word_at}
use Rattle.counts.specs.declared.Stamp.{Stamp}
use Rattle.counts.specs.declared.Standing.{Standing}
use Rattle.counts.specs.Stamps.{stamp_of, alive, showing, standing}
use Rattle.entries.specs.declared.Version.{Version}
use Rattle.entries.specs.declared.Entry.{Entry}
use Rattle.entries.specs.Entries.{new_of, old_of, shown_bytes, name_bytes, name_of, changed}
use Rattle.entries.specs.Inner.{changed_as}

pub changed-as : (tab : List ℕ) (own : Stamp) (e : Entry) (name : List ℕ) (v : Version) {st : Standing} {r : Entry}
    → st ≡ standing tab own e.stamp → r ≡ changed_as st own e name v → r ≡ changed tab own e name v
unfolding changed_as changed
changed-as tab own e name v s h = h ∙ rw s

-- the part from `at` to the end
pub rest_part : (s : List ℕ) (at : ℕ) → take (length s - at) (drop at s) ≡ drop at s
rest_part s at = take_all (length s - at) (drop at s) (simp length-drop (omega arith))

-- the version that an entry shows, from where it stands
pub shown-here : (tab p : List ℕ) {s : Stamp} {live : Bool} {at : ℕ} → s ≡ stamp_of p → live ≡ alive tab s → at ≡ cond live 44 60
    → take (at + 16 - at) (drop at p) ≡ shown_bytes tab p
unfolding shown_bytes showing new_of old_of
shown-here tab p {s} {live} {at} e₀ e₁ e₂ =
    let f : live ≡ alive tab (stamp_of p) = e₁ ∙ ap (alive tab) e₀ in
    let n : at + 16 - at ≡ 16 = omega arith in
    rw (n, e₂, f) (go (alive tab (stamp_of p)))
  where
    go : (b : Bool) → take 16 (drop (cond b 44 60) p) ≡ cond b (take 16 (drop 44 p)) (take 16 (drop 60 p))
    go true = refl
    go false = refl

-- ---- names

-- the part of an entry that its name is
pub name-part : (p : List ℕ) {a : ℕ} → length p ≡ 128 → a ≡ 12 + min (word_at p 8) 32 → take (a - 12) (drop 12 p) ≡ name_of p
unfolding name_of name_bytes
name-part p {a} h e = go (dec_lt (word_at p 8) 32)
  where
    go : Dec (word_at p 8 < 32) → take (a - 12) (drop 12 p) ≡ take (word_at p 8) (take 32 (drop 12 p))
    go (yes q) =
        let n : a - 12 ≡ word_at p 8 = omega arith in
        rw (n, take-take (word_at p 8) 32 (drop 12 p) (omega arith))
    go (no q) =
        let n : a - 12 ≡ 32 = omega arith in
        let l : length (take 32 (drop 12 p)) ≤ word_at p 8 = simp length-take (omega arith) in
        rw (n, take_all (word_at p 8) (take 32 (drop 12 p)) l)

pub same_here : (p q : List ℕ) {a b : ℕ} {r : Bool} → length p ≡ 128 → length q ≡ 128 → a ≡ 12 + min (word_at p 8) 32 → b ≡ 12 + min (word_at q 8) 32
    → r ≡ eq_list (take (a - 12) (drop 12 p)) (take (b - 12) (drop 12 q)) → r ≡ eq_list (name_of p) (name_of q)
same_here p q l m e f h = h ∙ rw (name-part p l e, name-part q m f)
