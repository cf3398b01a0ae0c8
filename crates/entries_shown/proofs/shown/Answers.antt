-- `entries_shown::shown` meets its contract: the version's part of the entry. Assumes nothing.
use mathlib.Core.Path.{ap, ◌∙◌}
use Rattle.entries.specs.Entries.{version_of, shown}
use Rattle.entries.proofs.EntryLaws.{shown-here}
use Rattle.entries_shown.proofs.shown.Goals as goal

pub returns : goal.returns
unfolding shown
returns c = c.version_of.ensures ∙ ap version_of (shown-here _ _ c.stamp_of.ensures c.alive-live.ensures c.new_or_old-at.ensures.0)
