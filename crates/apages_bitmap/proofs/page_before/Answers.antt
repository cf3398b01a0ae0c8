-- The three cases of the definition. Assumes nothing.
use Rattle.apages.specs.Index.{page_before}
use Rattle.apages_bitmap.proofs.page_before.Goals as goal

pub returns-in-Own : goal.returns-in-Own
unfolding page_before
returns-in-Own c = rw c.in-Own.is

pub returns-in-Alive : goal.returns-in-Alive
unfolding page_before
returns-in-Alive c = rw c.in-Alive.is

pub returns-in-Dead : goal.returns-in-Dead
unfolding page_before
returns-in-Dead c = rw c.in-Dead.is
