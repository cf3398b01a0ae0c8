-- The bytes lent are group p of the index. Assumes nothing.
use native.Mathlib.Omega.{arith}
use Rattle.counts.proofs.TableLaws.{pages-few}
use Rattle.card.proofs.ViewLaws.{page-here}
use Rattle.card_files.proofs.page_at.Goals as goal

pub slice_bounds-shown_page-end : goal.slice_bounds-shown_page-end
slice_bounds-shown_page-end c = omega (arith, pages-few c.args.card.geo c.args.card.laid.s, c.args.card.laid.room, c.group_at-at.ensures)

pub returns : goal.returns
returns c = page-here _ _ _ _ c.args.card.laid c.requires (rw c.group_at-at.ensures at c.shown_page.ensures)
