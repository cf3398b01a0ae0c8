-- Zeros, read as table words and as entries: they pass, and show no file. Assumes nothing.
use mathlib.Core.Path.{◌≡◌, refl, sym, ap, ◌∙◌}
use mathlib.Core.Bool.{true, ◌||◌}
use mathlib.Core.List.{List, [], ◌∷◌}
use mathlib.Core.Logic.{inl}
use Prim.Native.Nat.{ℕ, zero, suc, ◌+◌, ◌-◌, ◌*◌, ◌≤◌, ◌<◌}
use native.Mathlib.Omega.{arith}
use borrow.Author.Tests.{eqb-true, lt-ltb, le-leb}
use lib.Dec.{eqb}
use lib.ListN.{take, drop, get_or, replicate, length-replicate, replicate-append-replicate}
use lib.Seq.{take_at, drop_at}
use Rattle.words.specs.Lists.{every, is_zero, part}
use Rattle.words.specs.Bytes.{word_at, words}
use Rattle.words.proofs.BoolLaws.{both, join, or-intro}
use Rattle.sectors.specs.Sectors.{sec}
use Rattle.counts.specs.declared.Geo.{Geo}
use Rattle.counts.specs.declared.Stamp.{Stamp}
use Rattle.counts.specs.Geometry.{g_n, geo_ok}
use Rattle.counts.specs.Stamps.{max_tx, word_max, stamp_of, alive, showing, stamp_ok, dead_below}
use Rattle.entries.specs.declared.Version.TheVariants.{Absent}
use Rattle.entries.specs.Entries.{version_of, new_of, old_of, entry_rest, shown_bytes, shown, is_absent, version_ok, entry_ok, name_bytes, name_ok}
use Rattle.directory.specs.Directory.{sector_entries, gone, apart}
use Rattle.counts.proofs.GeoLaws.{limits}
use Rattle.card.specs.Files.{cons_file, files_of}

-- ---- zeros

abbrev pub blank : List ℕ
blank = replicate 512 0

pub take_same : (n m a : ℕ) → n ≤ m → take n (replicate m a) ≡ replicate n a
take_same n m a h =
    let e : n + (m - n) ≡ m = omega arith in
    ap (λ (x : List ℕ). take n x) (sym (replicate-append-replicate n (m - n) a ∙ ap (λ (x : ℕ). replicate x a) e)) ∙ take_at (replicate n a) _ n (length-replicate n a)

pub drop-same : (n m a : ℕ) → n ≤ m → drop n (replicate m a) ≡ replicate (m - n) a
drop-same n m a h =
    let e : n + (m - n) ≡ m = omega arith in
    ap (λ (x : List ℕ). drop n x) (sym (replicate-append-replicate n (m - n) a ∙ ap (λ (x : ℕ). replicate x a) e)) ∙ drop_at (replicate n a) _ n (length-replicate n a)

pub zero-sector : (S i : ℕ) → i < S → sec (replicate (512 * S) 0) i ≡ blank
unfolding sec part
zero-sector S i h =
    ap (λ (x : List ℕ). take 512 x) (drop-same (512 * i) (512 * S) 0 (omega arith)) ∙ take_same 512 (512 * S - 512 * i) 0 (omega arith)

pub zero-max : (l : List ℕ) → every is_zero l ≡ true → every word_max l ≡ true
unfolding every
zero-max [] h = refl
zero-max (x ∷ xs) h =
    let (u, v) = both (eqb x 0) (every is_zero xs) h in
    let e = eqb-true x 0 u in
    join _ _ (le-leb x max_tx (omega arith)) (zero-max xs v)

pub zero-words : every is_zero (words blank) ≡ true
unfolding words every
zero-words = refl

-- ---- a blank entry

abbrev pub e₀ : List ℕ
e₀ = replicate 128 0

abbrev pub no_stamp : Stamp
no_stamp = record { cc = record { 0 = 0 }; txc = record { 0 = 0 } }

pub four-blank : sector_entries blank ≡ e₀ ∷ e₀ ∷ e₀ ∷ e₀ ∷ []
unfolding sector_entries part
four-blank = refl

stamp-zero : stamp_of e₀ ≡ no_stamp
unfolding stamp_of word_at
stamp-zero = refl

pub alive-blank : (tab : List ℕ) → alive tab no_stamp ≡ true
unfolding alive
alive-blank tab = le-leb 0 (get_or tab 0 0) (omega arith)

pub stamp-blank : (g : Geo) → geo_ok g ≡ true → stamp_ok g no_stamp ≡ true
unfolding stamp_ok g_n
stamp-blank g ok = join _ _ (lt-ltb 0 (128 * g.t) (omega (arith, (limits g ok).t_low))) (le-leb 0 max_tx (omega arith))

pub dead-blank : (bound : ℕ) (tab : List ℕ) → dead_below bound tab no_stamp ≡ true
unfolding dead_below
dead-blank bound tab = or-intro _ _ (inl (alive-blank tab))

shown-zero : (tab : List ℕ) → shown_bytes tab e₀ ≡ replicate 16 0
unfolding shown_bytes showing new_of old_of
shown-zero tab = rw (stamp-zero, alive-blank tab)

pub absent-blank : (tab : List ℕ) → shown tab e₀ ≡ Absent
unfolding shown
absent-blank tab = rw shown-zero zero-absent
  where
    zero-absent : version_of (replicate 16 0) ≡ Absent
    zero-absent = unfold version_of word_at in refl

pub entry-blank : (g : Geo) (bound : ℕ) (tab : List ℕ) → geo_ok g ≡ true → entry_ok g bound tab e₀ ≡ true
unfolding entry_ok
entry-blank g bound tab ok = join _ _ a (join _ _ (join _ _ (join _ _ b zeros) c) d)
  where
    a : stamp_ok g (stamp_of e₀) ≡ true
    a = rw stamp-zero (stamp-blank g ok)

    b : dead_below bound tab (stamp_of e₀) ≡ true
    b = rw stamp-zero (dead-blank bound tab)

    zeros : every is_zero (entry_rest e₀) ≡ true
    zeros = unfold entry_rest every in refl

    fine : version_ok g (replicate 16 0) ≡ true
    fine = unfold version_ok word_at in refl

    c : version_ok g (shown_bytes tab e₀) ≡ true
    c = rw shown-zero fine

    d : (is_absent (shown tab e₀) || name_ok (word_at e₀ 8) (name_bytes e₀)) ≡ true
    d = rw absent-blank

pub apart-blank : (tp tc : List ℕ) → apart tp tc e₀ e₀ ≡ true
unfolding apart gone
apart-blank tp tc = rw (absent-blank tp, absent-blank tc)

pub no-files : (tab : List ℕ) (n : ℕ) → files_of tab (replicate n e₀) ≡ []
unfolding files_of cons_file
no-files tab zero = refl
no-files tab (suc n) = rw absent-blank (no-files tab n)
