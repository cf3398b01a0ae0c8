-- Laws of the index sector's bytes: what is written is read back. Assumes nothing.
use mathlib.Core.Path.{◌≡◌, refl, sym, ap, ◌∙◌}
use mathlib.Core.List.{List, [], ◌++◌, append-nil}
use Prim.Native.Nat.{ℕ, ◌^◌, ◌<◌}
use lib.ListN.{length, length-append}
use Rattle.words.specs.Bytes.{word_at, word_bytes}
use Rattle.words.proofs.WordLaws.{word_bytes-length}
use Rattle.words.proofs.FourWords.{four-first, four-second, four-third, four-fourth}
use Rattle.counts.specs.declared.Stamp.{Stamp}
use Rattle.counts.specs.declared.Standing.{Standing}
use Rattle.counts.specs.declared.Standing.TheVariants.{Own, Alive, Dead}
use Rattle.counts.specs.Stamps.{stamp_of, becomes_old}
use Rattle.apages.specs.declared.Index.{Index}
use Rattle.apages.specs.Index.{index_of, group_bytes, changed_index}

-- four words, and zeros behind them
head : ℕ → ℕ → ℕ → ℕ → List ℕ
head a b c d = word_bytes a ++ word_bytes b ++ word_bytes c ++ word_bytes d

head-length : (a b c d : ℕ) → length (head a b c d) ≡ 16
unfolding head
head-length a b c d = simp (length-append, word_bytes-length)

pub group-length : (x : Index) → length (group_bytes x) ≡ 16
unfolding group_bytes
group-length x = simp (length-append, word_bytes-length)

-- an index by its four words
pub index-words : (s : List ℕ) (x : Index) → word_at s 0 ≡ x.stamp.cc.0 → word_at s 4 ≡ x.stamp.txc.0 → word_at s 8 ≡ x.a.0 → word_at s 12 ≡ x.b.0 → index_of s ≡ x
unfolding index_of stamp_of
index-words s x e₁ e₂ e₃ e₄ = rw (e₁, e₂, e₃, e₄)

-- a group's bytes are four words, and nothing behind them
plain : (x : Index) (n : ℕ) → word_at (group_bytes x) n ≡ word_at (word_bytes x.stamp.cc.0 ++ word_bytes x.stamp.txc.0 ++ word_bytes x.a.0 ++ word_bytes x.b.0 ++ []) n
unfolding word_bytes group_bytes
plain x n = ap (λ (l : List ℕ). word_at (word_bytes x.stamp.cc.0 ++ word_bytes x.stamp.txc.0 ++ word_bytes x.a.0 ++ l) n) (sym (append-nil (word_bytes x.b.0)))

-- A and B are read back, whatever the stamp is
pub group-a : (x : Index) → x.a.0 < 2 ^ 32 → word_at (group_bytes x) 8 ≡ x.a.0
group-a x h = plain x 8 ∙ four-third x.stamp.cc.0 x.stamp.txc.0 x.a.0 x.b.0 [] h

pub group-b : (x : Index) → x.b.0 < 2 ^ 32 → word_at (group_bytes x) 12 ≡ x.b.0
group-b x h = plain x 12 ∙ four-fourth x.stamp.cc.0 x.stamp.txc.0 x.a.0 x.b.0 [] h

-- what was written is read back
pub index_back : (x : Index) → x.stamp.cc.0 < 2 ^ 32 → x.stamp.txc.0 < 2 ^ 32 → x.a.0 < 2 ^ 32 → x.b.0 < 2 ^ 32 → index_of (group_bytes x) ≡ x
index_back x h₁ h₂ h₃ h₄ =
    index-words (group_bytes x) x (plain x 0 ∙ four-first x.stamp.cc.0 x.stamp.txc.0 x.a.0 x.b.0 [] h₁)
    (plain x 4 ∙ four-second x.stamp.cc.0 x.stamp.txc.0 x.a.0 x.b.0 [] h₂) (group-a x h₃) (group-b x h₄)

-- ---- a changed group: A and B each by the rule for what becomes old, under the session's own stamp

pub changed-text : (st : Standing) (own : Stamp) (x : Index) → changed_index st own x
    ≡ record { stamp = own; a = becomes_old st x.b x.a; b = becomes_old st x.a x.b }
unfolding changed_index becomes_old
changed-text Own own x = refl
changed-text Alive own x = refl
changed-text Dead own x = refl

pub changed-stamp : (st : Standing) (own : Stamp) (x : Index) → (changed_index st own x).stamp ≡ own
changed-stamp st own x = ap (λ (i : Index). i.stamp) (changed-text st own x)
