-- Index, entries, page: the first test that fails decides. Assumes nothing.
use Rattle.std.proofs.Common.{◌≡◌, true, not, ap, arith}
use Rattle.std.proofs.lemmas.Grind.{common_steps}
use Rattle.sectors.proofs.SectorLaws.{sec-part}
use Rattle.card.specs.Sound.{view_ok}
use Rattle.card.proofs.ViewLaws.{index-here, view-pair, view-runs}
use Rattle.card_sound.proofs.view_ok.Goals as goal
use Rattle.card_sound.proofs.view_ok.Goals.{then-index_ok, else-index_ok}

pub pages_ok-requires : goal.pages_ok-requires
pages_ok-requires c =
    let e = rw (c.sector_at-index.ensures.value, ← sec-part) at c.index_ok.ensures in
    elim c.if-index_ok.branch [
      | then-index_ok w ↦
          let passed : w.entries_ok.result ≡ true = cc in
          (c.args.card.laid, (view-pair _ _ _ _ e (ap not w.if-index_ok.true), view-runs _ _ _ _ w.entries_ok.ensures (ap not passed)))
      | else-index_ok w ↦ absurd (cc)
    ]

pub returns-then-entries_ok : goal.returns-then-entries_ok
unfolding view_ok
returns-then-entries_ok c =
    let e = index-here _ _ _ _ (rw (c.sector_at-index.ensures.value, ← sec-part) at c.index_ok.ensures) in
    grind (arith, common_steps)

pub returns-else-entries_ok : goal.returns-else-entries_ok
unfolding view_ok
returns-else-entries_ok c =
    let e = index-here _ _ _ _ (rw (c.sector_at-index.ensures.value, ← sec-part) at c.index_ok.ensures) in
    grind (arith, common_steps)
