-- The fold is the hash. Assumes nothing.
use mathlib.Core.Path.{◌≡◌, ◌∙◌}
use borrow.Author.Rules.{rules}
use Rattle.std.specs.Prelude.{fold}
use Rattle.entries_names.specs.Inner.{hash_step, hash_of}
use Rattle.entries_names.proofs.NameHash.{hash_fold}
use Rattle.entries_names.proofs.hash.Goals as goal

pub returns : goal.returns
unfolding hash_of
returns c = let e : c.fold.result ≡ fold hash_step 2166136261 c.args.n.now = search rules in e ∙ hash_fold _ c.args.n.now
