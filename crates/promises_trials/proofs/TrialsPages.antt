-- Pairs of apages at their edges, computed: how many there are, where they lie, and that no run crosses out of a page. Assumes nothing.
use Rattle.std.specs.Prelude.{Some, None}
use mathlib.Core.Path.{◌≡◌, refl}
use mathlib.Core.Bool.{true, false}
use mathlib.Core.List.{[], ◌∷◌}
use Prim.Native.Nat.{ℕ}
use Rattle.words.specs.Lists.{every}
use Rattle.counts.specs.declared.Geo.{Geo}
use Rattle.counts.specs.Geometry.{g_p, g_dir, g_f, geo_ok}
use Rattle.entries.specs.declared.Run.{Run}
use Rattle.entries.specs.Entries.{sectors_for, pieces_of, piece_ok, run_ok}
use Rattle.apages.specs.Runs.{all_clear, find_run}
use Rattle.apages.specs.Index.{pair_ok}

-- a card of S sectors, the largest table and directory
card : ℕ → Geo
card n = record { s = n; t = 512; d = 64 }

-- "P = S/4,096 rounded up"
one : g_p (card 4096) ≡ 1
unfolding g_p card
one = refl

two : g_p (card 4097) ≡ 2
unfolding g_p card
two = refl

still-two : g_p (card 8192) ≡ 2
unfolding g_p card
still-two = refl

most : g_p (card 65536) ≡ 16
unfolding g_p card
most = refl

-- "S may reach 65,536"; F = 512 + 2 + 32 + 64
largest : geo_ok (card 65536) ≡ true
unfolding geo_ok g_f g_dir g_p card
largest = refl

too_large : geo_ok (card 65537) ≡ false
unfolding geo_ok g_f g_dir g_p card
too_large = refl

data-start : g_f (card 65536) ≡ 610
unfolding g_f g_dir g_p card
data-start = refl

-- "Pair p is T + 2 + 2p and T + 3 + 2p", and no other pair's
own_pair : pair_ok (card 8192) 1 517 516 ≡ true
unfolding pair_ok card
own_pair = refl

other-pair : pair_ok (card 8192) 1 514 515 ≡ false
unfolding pair_ok card
other-pair = refl

-- "no run crosses out of one": two sectors at a page's end, and at the next one's start
run : ℕ → Run
run a = record { start = record { 0 = a }; sectors = 2; bytes = 1024 }

across : run_ok (card 8192) (run 4095) ≡ false
unfolding run_ok every pieces_of piece_ok sectors_for g_f g_dir g_p card run
across = refl

inside : run_ok (card 8192) (run 4096) ≡ true
unfolding run_ok every pieces_of piece_ok sectors_for g_f g_dir g_p card run
inside = refl

-- the search passes over a page's end
found : find_run 2 4095 (0 ∷ 0 ∷ 0 ∷ []) ≡ Some 4096
unfolding find_run all_clear
found = refl

nowhere : find_run 2 4095 (0 ∷ 0 ∷ []) ≡ None
unfolding find_run all_clear
nowhere = refl
