-- Set, then clear: the first leaves every pair one, and the table as it is. Assumes nothing.
use Rattle.apages.proofs.AgainLaws.{pairs-again, bits-again}
use borrow.Author.Rules.{rules}
use Rattle.apages_bitmap.proofs.change_bits.Goals as goal

pub change_run-requires-2 : goal.change_run-requires-2
change_run-requires-2 c =
    (search rules, (pairs-again c.args.g c.args.own c.args.v c.args.img.now c.requires.0 c.requires.1.0 c.args.new c.requires.1.1.0.1 c.change_run.ensures, c.requires.1.1.1))

pub returns : goal.returns
returns c =
    bits-again c.args.g c.args.own c.args.v c.args.img.now c.requires.0 c.requires.1.0 c.args.new c.requires.1.1.0.1 c.change_run.ensures c.args.old c.change_run-2.ensures
