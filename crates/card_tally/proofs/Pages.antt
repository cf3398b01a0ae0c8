-- A page that is kept from run to run: it lies in the image, and its bits are those of the map. Assumes nothing.
use mathlib.Core.Path.{◌≡◌, sym, ap, ◌∙◌}
use mathlib.Core.Bool.{Bool}
use mathlib.Core.List.{List}
use Prim.Native.Nat.{ℕ, zero, suc, ◌+◌, ◌*◌, ◌/◌, ◌%◌, ◌≤◌, ◌<◌}
use native.Mathlib.Omega.{arith}
use lib.ListN.{length}
use Rattle.sectors.specs.Sectors.{sec}
use Rattle.sectors.proofs.SectorLaws.{sec-part}
use Rattle.counts.specs.declared.Geo.{Geo}
use Rattle.counts.specs.Inner.{LaidOut}
use Rattle.apages.specs.Index.{page_in}
use Rattle.apages.specs.Inner.{PairIn}
use Rattle.apages.specs.Ones.{all_set}
use Rattle.card.proofs.ViewLaws.{page-room}
use Rattle.card.proofs.TallyPages.{held_none, held-lent}
use Rattle.card_tally.specs.declared.Page.{Page}
use Rattle.card_tally.specs.Inner.{IsShown}

module _ (g : Geo) (tab img : List ℕ) (laid : LaidOut g img) (paired : PairIn g img) (q : Page) (is : IsShown g tab (sec img) q) where
  pub kept-room : 512 * q.at.0 + 512 ≤ length img
  kept-room = page-room g tab img q.pair laid is.below paired is.shown

  pub kept-held : (a k : ℕ) {b : Bool} → (0 < k → q.pair ≡ a / 4096) → a % 4096 + k ≤ 4096 → b ≡ all_set (sec img q.at.0) (a % 4096) k → b ≡ all_set (page_in g tab (sec img)) a k
  kept-held a zero own few e = e ∙ sym (held_none (sec img q.at.0) (a % 4096) (omega arith)) ∙ held_none (page_in g tab (sec img)) a (omega arith)
  kept-held a (suc k) own few e =
      let p : q.pair ≡ a / 4096 = own (omega arith) in
      held-lent g tab img laid paired a (suc k) (rw p at is.below) few (rw p at is.shown) (e ∙ ap (λ (s : List ℕ). all_set s (a % 4096) (suc k)) (sym (sec-part img q.at.0)))
