-- An entry's test, from the answers to its parts: what it shows, its name, its stamp, and its zero words. Assumes nothing.
use mathlib.Core.Path.{◌≡◌, refl, sym, ap}
use mathlib.Core.Bool.{Bool, true, false, cond, ◌&&◌, ◌||◌}
use mathlib.Core.List.{List}
use Prim.Native.Nat.{ℕ, ◌+◌, ◌-◌}
use lib.Dec.{ltb}
use lib.ListN.{length, take, drop}
use Rattle.words.specs.Lists.{every, is_zero}
use Rattle.words.specs.Bytes.{word_at}
use Rattle.counts.specs.declared.Geo.{Geo}
use Rattle.counts.specs.declared.Stamp.{Stamp}
use Rattle.counts.specs.Stamps.{stamp_of, alive, stamp_ok, dead_below}
use Rattle.entries.specs.declared.Run.{Run}
use Rattle.entries.specs.declared.Version.TheVariants.{Absent, Present}
use Rattle.entries.specs.Entries.{version_of, shown_bytes, shown, is_absent, name_bytes, name_ok, entry_rest, version_ok, entry_ok}
use Rattle.entries.proofs.EntryLaws.{shown-here, rest_part}

-- a version is absent where its state is 0
pub absent-state : (v : List ℕ) → is_absent (version_of v) ≡ is_zero (word_at v 0)
unfolding version_of
absent-state v = go (is_zero (word_at v 0)) _
  where
    go : (b : Bool) (r : Run) → is_absent (cond b Absent (Present r)) ≡ b
    go true r = refl
    go false r = refl

-- what is asked of an entry, by the place of the version that it shows
pub entry_here : (g : Geo) (bound : ℕ) (tab p : List ℕ) {s : Stamp} {at : ℕ} {live : Bool} → s ≡ stamp_of p → live ≡ alive tab s → at ≡ cond live 44 60
    → entry_ok g bound tab p
    ≡ (stamp_ok g s && ((live || ltb s.cc.0 bound) && every is_zero (take (length p - 76) (drop 76 p))
    && (version_ok g (take (at + 16 - at) (drop at p)) && (is_absent (version_of (take (at + 16 - at) (drop at p))) || name_ok (word_at p 8) (name_bytes p)))))
unfolding entry_ok entry_rest dead_below shown
entry_here g bound tab p {s} {at} {live} e₀ e₁ e₂ =
    let v : take (at + 16 - at) (drop at p) ≡ shown_bytes tab p = shown-here tab p e₀ e₁ e₂ in
    rw (e₁, e₀, v, rest_part p 76) (ap (λ (b : Bool). stamp_ok g (stamp_of p) && b) (sym (four (dead_below bound tab (stamp_of p)) (every is_zero (drop 76 p)) (version_ok g (shown_bytes tab p)) (is_absent (shown tab p) || name_ok (word_at p 8) (name_bytes p)))))
  where
    four : (a b c d : Bool) → (a && b && (c && d)) ≡ (a && b && c && d)
    four true true true d = refl
    four true true false d = refl
    four true false c d = refl
    four false b c d = refl
