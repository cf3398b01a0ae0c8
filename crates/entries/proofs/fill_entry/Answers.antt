-- Its parts are put one after the other. Assumes nothing.
use mathlib.Core.Path.{◌≡◌, ◌∙◌}
use Prim.Native.Nat.{ℕ, ◌-◌}
use native.Mathlib.Omega.{arith}
use lib.ListN.{length, take, drop, replicate, length-take, length-drop, length-replicate}
use Rattle.entries.proofs.CodecLaws.{version_bytes-length}
use Rattle.entries.specs.Entries.{entry_bytes}
use Rattle.words.specs.Bytes.{word_bytes}
use Rattle.words.proofs.SpliceLaws.{Put, put_then, put_whole, part-back}
use Rattle.words.proofs.WordLaws.{word_bytes-length}
use Rattle.entries.proofs.fill_entry.Goals as goal

pub returns : goal.returns
unfolding entry_bytes
returns c =
    let l : length c.args.e.name ≡ 32 = omega arith in
    let p₁ : Put c.args.p.now 0 4 c.put_word.new.s (word_bytes c.args.e.stamp.cc.0) = record { done = c.put_word.ensures; size = word_bytes-length _ } in
    let p₂ = put_then _ _ 4 p₁ c.put_word-2.ensures (word_bytes-length _) in
    let p₃ = put_then _ _ 4 p₂ c.put_word-3.ensures (word_bytes-length _) in
    let p₄ = put_then _ _ 32 p₃ c.put_bytes.ensures l in
    let p₅ = put_then _ _ 16 p₄ c.put_version.ensures (version_bytes-length _) in
    let p₆ = put_then _ _ 16 p₅ c.put_version-2.ensures (version_bytes-length _) in
    let n : length (take (length c.put_version-2.new.s - 76) (drop 76 c.put_version-2.new.s)) ≡ 52 = simp (length-take, length-drop) (omega arith) in
    let z : c.fill.new.self ≡ replicate 52 0 = c.fill.ensures.after (λ y h. h) ∙ rw n in
    let p₇ = put_then _ _ 52 p₆ (rw z (part-back _ _ 76 _ (omega arith) (omega arith) (omega arith))) (length-replicate {A = ℕ} 52 0) in
    put_whole p₇ c.requires
