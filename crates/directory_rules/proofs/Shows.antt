-- What an entry shows, from its state word alone. Assumes nothing.
use mathlib.Core.Path.{◌≡◌, ◌∙◌}
use mathlib.Core.Bool.{Bool, true, false, cond}
use mathlib.Core.List.{List}
use Prim.Native.Nat.{ℕ}
use native.Mathlib.Omega.{arith}
use lib.ListN.{length}
use Rattle.words.specs.Lists.{is_zero}
use Rattle.words.specs.Bytes.{word_at}
use Rattle.words.proofs.WordLaws.{word-part}
use Rattle.counts.specs.declared.Stamp.{Stamp}
use Rattle.counts.specs.Stamps.{stamp_of, alive, showing}
use Rattle.entries.specs.Entries.{version_of, new_of, old_of, shown_bytes, shown, is_absent}
use Rattle.entries_rules.proofs.PassHere.{absent-state}

-- the state word where the version stands
pub none_here : (p : List ℕ) (live : Bool) {at n : ℕ} → length p ≡ 128 → at ≡ cond live 44 60 → n ≡ word_at p at → is_zero n ≡ is_absent (version_of (cond live (new_of p) (old_of p)))
unfolding new_of old_of
none_here p true l e f = rw (f, e, absent-state (new_of p), word-part p 16 44 0 (omega arith) (omega arith))
none_here p false l e f = rw (f, e, absent-state (old_of p), word-part p 16 60 0 (omega arith) (omega arith))

-- by whether the entry is alive in a view
pub none_in : (tab p : List ℕ) {s : Stamp} {live r : Bool} → s ≡ stamp_of p → live ≡ alive tab s → r ≡ is_absent (version_of (cond live (new_of p) (old_of p))) → r ≡ is_absent (shown tab p)
unfolding shown shown_bytes showing
none_in tab p e f h = h ∙ rw (f, e)
