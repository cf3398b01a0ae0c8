-- One word more each time round, and at the end all of them. Assumes nothing.
use Rattle.std.proofs.Common.{◌≡◌, take, ◌∙◌, sym}
use Rattle.std.proofs.lemmas.List.{take_all}
use Rattle.words.proofs.SpliceLaws.{splice-nil}
use Rattle.host_crossing.proofs.WordRows.{row-more, row-whole}
use Rattle.host_crossing.proofs.bytes_of.Goals as goal

pub loop-i-init : goal.loop-i-init
loop-i-init g c = sym (splice-nil _ 0)

pub loop-i-preserved : goal.loop-i-preserved
loop-i-preserved g c = c.put_word.ensures ∙ rw c.loop-i.invariant (row-more _ _ _ c.loop-i-test.true)

pub returns : goal.returns
returns g c = let e : take c.loop-i.i c.args.words.now ≡ c.args.words.now = take_all _ _ c.loop-i-test.false in rw (c.loop-i.invariant, e) (row-whole _ _ c.requires)
