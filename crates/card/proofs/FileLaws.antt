-- Laws of the files that a view shows: they lie inside the data, and what they hold. Assumes nothing.
use mathlib.Core.Path.{◌≡◌, refl}
use mathlib.Core.Bool.{true}
use mathlib.Core.List.{List, [], ◌∷◌, ◌++◌, Memᴰ}
use Prim.Native.Nat.{ℕ, suc, ◌+◌, ◌≤◌, ◌<◌}
use native.Mathlib.Omega.{arith}
use lib.ListN.{length, take, drop, set}
use lib.Seq.{set_split}
use Rattle.words_sums.specs.Sums.{in_run}
use Rattle.words.specs.Lists.{every}
use Rattle.words.proofs.BoolLaws.{both}
use Rattle.counts.specs.declared.Geo.{Geo}
use Rattle.counts.specs.Geometry.{g_f}
use Rattle.entries.specs.declared.Run.{Run}
use Rattle.entries.specs.declared.Version.{Version}
use Rattle.entries.specs.declared.Version.TheVariants.{Absent, Present}
use Rattle.entries.specs.Entries.{shown, entry_ok}
use Rattle.entries.proofs.PassLaws.{passes, RunIs, shown-run}
use Rattle.card.specs.declared.Line.{Line}
use Rattle.card.specs.Files.{FileHolds, cons_file, files_of, cover}
use Rattle.card.proofs.PieceLaws.{holds-count, holds-run, count-run, out-run}

-- ---- files of a list of entries

pub cons-append : (p : List ℕ) (v : Version) (a b : List Line) → cons_file p v (a ++ b) ≡ cons_file p v a ++ b
unfolding cons_file
cons-append p Absent a b = refl
cons-append p (Present r) a b = refl

pub files-append : (tab : List ℕ) (a b : List (List ℕ)) → files_of tab (a ++ b) ≡ files_of tab a ++ files_of tab b
unfolding files_of
files-append tab [] b = refl
files-append tab (p ∷ a) b = rw (files-append tab a b) (cons-append p (shown tab p) (files_of tab a) (files_of tab b))

pub files-set : (tab : List ℕ) (ps : List (List ℕ)) (j : ℕ) (x : List ℕ) → j < length ps
    → files_of tab (set ps j x) ≡ files_of tab (take j ps) ++ cons_file x (shown tab x) (files_of tab (drop (suc j) ps))
unfolding files_of
files-set tab ps j x h = rw (set_split ps j x h, files-append)

-- ---- shown files lie inside the data

pub data Within (g : Geo) : List Line → Type 0 where
  none : Within g []
  more : {f : Line} {fs : List Line} → RunIs g f.run → Within g fs → Within g (f ∷ fs)

pub within-cons : (g : Geo) (p : List ℕ) (v : Version) (fs : List Line) → ((r : Run) → v ≡ Present r → RunIs g r) → Within g fs → Within g (cons_file p v fs)
unfolding cons_file
within-cons g p Absent fs h w = w
within-cons g p (Present r) fs h w = more (h r refl) w

pub files-within : (g : Geo) (bound : ℕ) (tab : List ℕ) (ps : List (List ℕ)) → every (entry_ok g bound tab) ps ≡ true → Within g (files_of tab ps)
unfolding files_of every
files-within g bound tab [] h = none
files-within g bound tab (p ∷ ps) h =
    let (x, y) = both (entry_ok g bound tab p) (every (entry_ok g bound tab) ps) h in
    within-cons g p (shown tab p) (files_of tab ps) (λ r e. shown-run g tab p (passes g bound tab p x).wf e) (files-within g bound tab ps y)

-- a sector that a file of the list holds
pub record Holds (fs : List Line) (i : ℕ) : Type 0 where
  pub file : Line
  pub there : Memᴰ file fs
  pub held : FileHolds file.run i

pub held-data : {g : Geo} {fs : List Line} → Within g fs → (i : ℕ) → Holds fs i → (g_f g ≤ i) × (i < g.s)
held-data {g} w i h = go w h.there
  where
    go : {fs : List Line} → Within g fs → Memᴰ h.file fs → (g_f g ≤ i) × (i < g.s)
    go none m = elim m [ ]
    go (more {f = f} s w) (Memᴰ.head e) =
        let r : RunIs g h.file.run = rw e s in
        let (lo, hi) = (holds-run h.file.run i).0 h.held in
        let q = r.span (omega arith) in
        (omega (arith, q.0), omega (arith, q.1))
    go (more s w) (Memᴰ.tail m) = go w m

-- ---- the sectors of files, counted

pub cover-append : (xs ys : List Line) (i : ℕ) → cover (xs ++ ys) i ≡ cover xs i + cover ys i
unfolding cover
cover-append [] ys i = omega arith
cover-append (f ∷ xs) ys i = omega (arith, cover-append xs ys i)

member-cover : (f : Line) (i : ℕ) (fs : List Line) → Memᴰ f fs → FileHolds f.run i → 1 ≤ cover fs i
unfolding cover
member-cover f i [] m h = elim m [ ]
member-cover f i (x ∷ fs) (Memᴰ.head e) h = rw (← e) (omega (arith, (holds-count f.run i).0 h))
member-cover f i (x ∷ fs) (Memᴰ.tail m) h = omega (arith, member-cover f i fs m h)

pub held-cover : (fs : List Line) (i : ℕ) → Holds fs i → 1 ≤ cover fs i
held-cover fs i h = member-cover h.file i fs h.there h.held

pub cover-out : {g : Geo} {fs : List Line} → Within g fs → (i : ℕ) → ¬ ((g_f g ≤ i) × (i < g.s)) → cover fs i ≡ 0
unfolding cover
cover-out none i o = refl
cover-out {g} (more {f = f} {fs = fs} s w) i o =
    let a : in_run f.run.start.0 f.run.sectors i ≡ 0 = out-run _ _ i (λ q. let r = s.span (omega (arith, q.0, q.1)) in o (omega (arith, q.0, r.0), omega (arith, q.1, r.1))) in
    omega (arith, count-run f.run i, cover-out w i o)
