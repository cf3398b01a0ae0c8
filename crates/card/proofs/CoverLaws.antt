-- The sectors of the files that a view shows, entry by entry. Assumes nothing.
use mathlib.Core.Path.{◌≡◌, refl}
use mathlib.Core.Bool.{true}
use mathlib.Core.List.{List, [], ◌∷◌}
use Prim.Native.Nat.{ℕ, suc, ◌+◌}
use native.Mathlib.Omega.{arith}
use lib.ListN.{get_or}
use Rattle.words_sums.specs.Sums.{in_run}
use Rattle.words.specs.Lists.{every}
use Rattle.words.proofs.EveryLaws.{every-at}
use Rattle.counts.specs.declared.Geo.{Geo}
use Rattle.entries.specs.declared.Run.{Run}
use Rattle.entries.specs.declared.Version.{Version}
use Rattle.entries.specs.declared.Version.TheVariants.{Absent, Present}
use Rattle.entries.specs.Entries.{version_of, shown, shown_bytes, sectors_for, run_ok, entry_ok}
use Rattle.entries.proofs.PassLaws.{passes, run-text, run_is, version-run}
use Rattle.card.specs.Files.{files_of, cover, run_of}
use Rattle.card.proofs.PieceLaws.{count-run}
use Rattle.card.proofs.FileLaws.{Within, none, within-cons}
use Rattle.card.proofs.RuleLaws.{cover-version}
use Rattle.card.specs.Inner.{RunsOk}

-- ---- a run that is well formed

none-run : (g : Geo) → run_ok g (run_of Absent) ≡ true
unfolding run_of sectors_for
none-run g = run-text g (run_of Absent)

-- what an entry that passes shows: a run that is well formed, an empty one where it shows absent
shown-run : (g : Geo) (bound : ℕ) (tab p : List ℕ) → entry_ok g bound tab p ≡ true → run_ok g (run_of (shown tab p)) ≡ true
unfolding shown
shown-run g bound tab p h = go (version_of (shown_bytes tab p)) refl
  where
    go : (v : Version) → version_of (shown_bytes tab p) ≡ v → run_ok g (run_of v) ≡ true
    go Absent e = none-run g
    go (Present r) e = unfold run_of in version-run g (shown_bytes tab p) (passes g bound tab p h).wf e

pub entries-runs : (g : Geo) (bound : ℕ) (tab : List ℕ) (es : List (List ℕ)) → every (entry_ok g bound tab) es ≡ true → RunsOk g tab es
entries-runs g bound tab es h j l = shown-run g bound tab (get_or es j []) (every-at (entry_ok g bound tab) es j [] l h)

-- the files of such entries lie inside the data
pub runs-within : (g : Geo) (tab : List ℕ) (es : List (List ℕ)) → RunsOk g tab es → Within g (files_of tab es)
unfolding files_of run_of
runs-within g tab [] runs = none
runs-within g tab (p ∷ es) runs =
    within-cons g p (shown tab p) (files_of tab es) (λ r e. run_is g r (go (shown tab p) e (runs 0 (omega arith)))) (runs-within g tab es (λ j l. runs (suc j) (omega arith)))
  where
    go : (v : Version) {r : Run} → v ≡ Present r → run_ok g (run_of v) ≡ true → run_ok g r ≡ true
    go v {r} e h = rw e at h

-- ---- the first entry's share, and what is left

pub cover-none : (tab : List ℕ) (n : ℕ) → cover (files_of tab []) n ≡ 0
unfolding files_of cover
cover-none tab n = refl

pub cover-entry : (tab p : List ℕ) (es : List (List ℕ)) (n : ℕ)
    → cover (files_of tab (p ∷ es)) n ≡ in_run (run_of (shown tab p)).start.0 (run_of (shown tab p)).sectors n + cover (files_of tab es) n
unfolding files_of
cover-entry tab p es n = omega (arith, cover-version p (shown tab p) (files_of tab es) n, count-run (run_of (shown tab p)) n)
