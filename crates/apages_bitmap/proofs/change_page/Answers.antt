-- The part that was lent came back changed, and the rest is untouched. Assumes nothing.
use mathlib.Core.Path.{◌∙◌}
use native.Mathlib.Omega.{arith}
use Rattle.words_sums.specs.Sums.{bit}
use Rattle.words.specs.Lists.{set_part}
use Rattle.words.proofs.SpliceLaws.{part-back}
use Rattle.sectors.specs.Sectors.{sec, set_sec}
use Rattle.sectors.proofs.SectorLaws.{sec-part, sec-length}
use Rattle.apages.proofs.RunLaws.{set_run-length}
use Rattle.apages_bitmap.proofs.change_page.Goals as goal

pub returns : goal.returns
unfolding set_sec set_part
returns c =
    let s = c.args in
    let p = sec s.img.now s.i.0 in
    rw (c.set_run.ensures, c.offset-at.ensures, sec-part s.img.now s.i.0)
    (part-back _ _ _ _ (omega arith) (omega arith) (set_run-length p s.a s.n (bit s.v) ∙ sec-length s.img.now s.i.0 (omega arith) ∙ omega arith))
