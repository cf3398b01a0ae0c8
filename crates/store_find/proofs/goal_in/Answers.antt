-- At or after the goal, else the lowest. Assumes nothing.
use Rattle.std.proofs.Common.{sym, ap, ◌∙◌, arith, rules}
use Rattle.counts.proofs.TableLaws.{pages-cover}
use Rattle.store_find.specs.Inner.{found_of}
use Rattle.store_find.proofs.goal_in.Goals as goal

pub pages_at-x-requires : goal.pages_at-x-requires
pages_at-x-requires c = (c.requires.0, omega (arith, c.requires.1.1.0, pages-cover c.args.g))

pub or_else-requires : goal.or_else-requires
or_else-requires c = λ e. let none = sym c.after_in.ensures ∙ ap found_of e in search rules
