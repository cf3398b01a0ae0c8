-- Four words put one after the other. Assumes nothing.
use mathlib.Core.Path.{◌∙◌}
use Rattle.entries.specs.Entries.{version_bytes}
use Rattle.words.proofs.WordLaws.{four-words}
use Rattle.entries.proofs.put_version.Goals as goal
use Rattle.entries.proofs.put_version.Goals.{in-Absent, in-Present}

pub returns : goal.returns
unfolding version_bytes
returns c =
    let f = four-words _ _ _ _ _ _ c.put_word.ensures c.put_word-2.ensures c.put_word-3.ensures c.put_word-4.ensures in
    elim c.match-v.branch [ in-Absent w ↦ f ∙ rw (w.in-Absent.is, w.state-is) | in-Present w ↦ f ∙ rw (w.in-Present.is, w.state-is) ]
