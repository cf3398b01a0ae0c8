-- What a read gives stands behind what was read before. Assumes nothing.
use Rattle.std.proofs.Common.{◌≡◌, ℕ, ◌+◌, ◌≤◌, List, ◌++◌, Option, rules, arith, length, take, drop, sym, ap, ◌∙◌, subst, le_refl, drop_at, length-take-le}
use Rattle.std.proofs.lemmas.Slice.{take-put_mid_below}
use Rattle.std.proofs.KnownBytes.{Consumes-trans}
use Rattle.std.specs.Io.KnownBytes.{Consumes}
use borrow.Rule.Slice.PartMut.{put_mid, post_of}
use lib.Seq.{take-add, take-append-le}
use Rattle.reader_report.proofs.read_full.Goals as goal

-- k more bytes, behind the first `at`, make m
read-more : (old mid new : Option (List ℕ)) (at room k m : ℕ) (card part : List ℕ) → m ≡ at + k → at ≤ length card → k ≤ length part
    → Consumes old mid (take at card) → Consumes mid new (take k part) → Consumes old new (take m (put_mid at room card part))
read-more old mid new at room k m card part sum within fits before read =
    let front : take at (put_mid at room card part) ≡ take at card = take-put_mid_below _ _ _ _ _ (le_refl _) within in
    let behind : take k (drop at (put_mid at room card part)) ≡ take k part =
    ap (take k) (drop_at (take at card) (part ++ post_of at room card) at (length-take-le at card within)) ∙ take-append-le k part (post_of at room card) fits in
    let joined : take m (put_mid at room card part) ≡ take at card ++ take k part = rw sum (take-add at k _ ∙ rw (front, behind)) in
    subst (Consumes old new) (sym joined) (Consumes-trans old mid new _ _ before read)

pub loop-n-preserved : goal.loop-n-preserved
loop-n-preserved g c = record {
  within = search rules;
  bytes = read-more _ _ _ _ _ _ _ _ _ (search rules) c.loop-n.invariant.within c.in_ok-k.ensures.bound.0 c.loop-n.invariant.bytes c.in_ok-k.ensures.bytes.0;
}

pub returns-then-k-eq0-clause-bytes : goal.returns-then-k-eq0-clause-bytes
returns-then-k-eq0-clause-bytes g c =
    read-more _ _ _ _ _ _ _ _ _ (omega arith) c.loop-n.invariant.within c.in_ok-k.ensures.bound.0 c.loop-n.invariant.bytes c.in_ok-k.ensures.bytes.0
