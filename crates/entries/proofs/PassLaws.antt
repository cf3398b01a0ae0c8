-- What an entry that passes says, by name, and what a version that passes says of its run. Assumes nothing.
use mathlib.Core.Path.{◌≡◌, refl, sym, ap, ◌∙◌}
use mathlib.Core.Bool.{Bool, true, false, cond, ◌&&◌, ◌||◌}
use mathlib.Core.List.{List, ◌++◌}
use Prim.Native.Nat.{ℕ, zero, suc, ◌+◌, ◌-◌, ◌*◌, ◌/◌, ◌%◌, ◌≤◌, ◌<◌, ◌^◌}
use native.Mathlib.Omega.{arith}
use borrow.Author.Tests.{eqb-true, leb-true, eq-eqb}
use lib.Dec.{leb, eqb}
use lib.ListN.{length, take, drop, replicate, length-drop, take-append-drop}
use lib.Seq.{length-take-le}
use Rattle.words.specs.Lists.{every, is_zero, pad}
use Rattle.words.specs.Bytes.{word_at}
use Rattle.words.proofs.BoolLaws.{both, join, falsum, never}
use Rattle.words.proofs.EveryMore.{zeros-are}
use Rattle.counts.specs.declared.Geo.{Geo}
use Rattle.counts.specs.Geometry.{g_f, in_page}
use Rattle.counts.proofs.GeoLaws.{Limits}
use Rattle.counts.specs.Stamps.{stamp_of, stamp_ok, dead_below}
use Rattle.entries.specs.declared.Run.{Run}
use Rattle.entries.specs.declared.Version.TheVariants.{Absent, Present}
use Rattle.entries.specs.Entries.{version_of, entry_rest, pieces_of, piece_ok, name_bytes, shown_bytes, shown, is_absent, good_byte, name_of, name_ok, sectors_for, run_ok, version_ok, entry_ok, good_name}

pub record Passes (g : Geo) (bound : ℕ) (tab p : List ℕ) : Type 0 where
  pub stamp : stamp_ok g (stamp_of p) ≡ true
  pub dead : dead_below bound tab (stamp_of p) ≡ true
  pub zeros : every is_zero (entry_rest p) ≡ true
  pub wf : version_ok g (shown_bytes tab p) ≡ true
  pub name : (is_absent (shown tab p) || name_ok (word_at p 8) (name_bytes p)) ≡ true

pub passes : (g : Geo) (bound : ℕ) (tab p : List ℕ) → entry_ok g bound tab p ≡ true → Passes g bound tab p
unfolding entry_ok
passes g bound tab p h =
    let (a, r) = both (stamp_ok g (stamp_of p)) _ h in
    let (r₁, e) = both _ (is_absent (shown tab p) || name_ok (word_at p 8) (name_bytes p)) r in
    let (r₂, d) = both _ (version_ok g (shown_bytes tab p)) r₁ in
    let (b, c) = both (dead_below bound tab (stamp_of p)) _ r₂ in
    record { stamp = a; dead = b; zeros = c; wf = d; name = e }

pub passes-intro : (g : Geo) (bound : ℕ) (tab p : List ℕ) → Passes g bound tab p → entry_ok g bound tab p ≡ true
unfolding entry_ok
passes-intro g bound tab p P = join _ _ P.stamp (join _ _ (join _ _ (join _ _ P.dead P.zeros) P.wf) P.name)

-- the name of a shown present file
pub good-name : (g : Geo) (bound : ℕ) (tab p : List ℕ) → Passes g bound tab p → is_absent (shown tab p) ≡ false → name_ok (word_at p 8) (name_bytes p) ≡ true
good-name g bound tab p P e = pick (is_absent (shown tab p)) e P.name
  where
    pick : (b : Bool) {x : Bool} → b ≡ false → (b || x) ≡ true → x ≡ true
    pick true e h = falsum (sym e)
    pick false e h = h

-- a good name and the zeros behind it
pub name-padded : (p n : List ℕ) → name_ok (word_at p 8) (name_bytes p) ≡ true → length (name_bytes p) ≡ 32 → n ≡ name_of p
    → (word_at p 8 ≡ length n) × (name_bytes p ≡ pad 32 n)
unfolding name_ok name_of pad
name-padded p n h l q =
    let (r₁, d) = both _ (every is_zero (drop (word_at p 8) (name_bytes p))) h in
    let (r₂, c) = both _ (every good_byte (take (word_at p 8) (name_bytes p))) r₁ in
    let (a, b) = both (leb 1 (word_at p 8)) (leb (word_at p 8) 32) r₂ in
    let m : length (take (word_at p 8) (name_bytes p)) ≡ word_at p 8 = length-take-le _ _ (omega (arith, leb-true (word_at p 8) 32 b)) in
    let z : drop (word_at p 8) (name_bytes p) ≡ replicate (length (drop (word_at p 8) (name_bytes p))) 0 = zeros-are _ d in
    let y : length (drop (word_at p 8) (name_bytes p)) ≡ 32 - word_at p 8 = simp length-drop (omega arith) in (
      sym m ∙ ap length (sym q),
      sym (take-append-drop (word_at p 8) (name_bytes p))
          ∙ (rw (q, m) (ap (λ (x : List ℕ). take (word_at p 8) (name_bytes p) ++ x) (z ∙ ap (λ (x : ℕ). replicate x 0) y))),
    )

-- ---- a run

and-true : (b : Bool) → (b && true) ≡ b
and-true true = refl
and-true false = refl

-- a file in one run: what is asked of its pieces, and the whole rule, by its start and sectors
pub pieces-text : (g : Geo) (r : Run) → every (piece_ok g) (pieces_of r) ≡ (leb (g_f g) r.start.0 && leb (r.start.0 + r.sectors) g.s && in_page r.start.0 r.sectors)
unfolding every pieces_of piece_ok
pieces-text g r = and-true (leb (g_f g) r.start.0 && leb (r.start.0 + r.sectors) g.s && in_page r.start.0 r.sectors)

pub run-text : (g : Geo) (r : Run)
    → run_ok g r ≡ (eqb r.sectors (sectors_for r.bytes) && cond (is_zero r.sectors) (is_zero r.start.0) (leb (g_f g) r.start.0 && leb (r.start.0 + r.sectors) g.s && in_page r.start.0 r.sectors))
unfolding run_ok
run-text g r = rw (pieces-text g r)

pub record RunIs (g : Geo) (r : Run) : Type 0 where
  pub size : r.sectors ≡ sectors_for r.bytes
  pub span : 1 ≤ r.sectors → (g_f g ≤ r.start.0) × (r.start.0 + r.sectors ≤ g.s)
  pub empty : r.sectors ≡ 0 → r.start.0 ≡ 0
  pub page : r.start.0 % 4096 + r.sectors ≤ 4096

pub run_is : (g : Geo) (r : Run) → run_ok g r ≡ true → RunIs g r
run_is g r h =
    let (a, b) = both (eqb r.sectors (sectors_for r.bytes)) _ (sym (run-text g r) ∙ h) in
    go (eqb-true _ _ a) (eqb r.sectors 0) refl b
  where
    go : r.sectors ≡ sectors_for r.bytes → (z : Bool) → eqb r.sectors 0 ≡ z
        → cond (eqb r.sectors 0) (eqb r.start.0 0) (leb (g_f g) r.start.0 && leb (r.start.0 + r.sectors) g.s && in_page r.start.0 r.sectors) ≡ true → RunIs g r
    go a true e b =
        let x : r.start.0 ≡ 0 = eqb-true _ _ (rw e at b) in
        let y : r.sectors ≡ 0 = eqb-true _ _ e in
        record { size = a; span = λ l. absurd (omega arith); empty = λ q. x; page = omega arith }
    go a false e b =
        let (w, i) = both _ (in_page r.start.0 r.sectors) (rw e at b) in
        let (u, v) = both (leb (g_f g) r.start.0) _ w in
        record { size = a; span = λ l. (leb-true _ _ u, leb-true _ _ v); empty = λ q. falsum (sym e ∙ eq-eqb _ _ q); page = leb-true _ _ i }

pub run_holds : (g : Geo) (r : Run) → RunIs g r → r.bytes ≤ 512 * r.sectors
unfolding sectors_for
run_holds g r R = let e : r.sectors ≡ (r.bytes + 511) / 512 = R.size in omega arith

pub run_room : (g : Geo) (r : Run) → RunIs g r → r.start.0 + r.sectors ≤ g.s
run_room g r R = go r.sectors refl
  where
    go : (n : ℕ) → r.sectors ≡ n → r.start.0 + r.sectors ≤ g.s
    go zero e = omega (arith, R.empty e)
    go (suc n) e = (R.span (omega arith)).1

pub run_small : (g : Geo) (r : Run) → Limits g → RunIs g r → (r.start.0 < 2 ^ 32) × (r.sectors < 2 ^ 32) × (r.bytes < 2 ^ 32)
run_small g r L R =
    let a = run_room g r R in
    let b = run_holds g r R in
    let c = L.s_high in
    (omega arith, omega arith, omega arith)

-- ---- a version

pub version-run : (g : Geo) (v : List ℕ) {r : Run} → version_ok g v ≡ true → version_of v ≡ Present r → run_ok g r ≡ true
unfolding version_ok version_of
version-run g v {r} h e = go (eqb (word_at v 0) 0) refl
  where
    go : (z : Bool) → eqb (word_at v 0) 0 ≡ z → run_ok g r ≡ true
    go true q = let w : Absent ≡ Present r = rw q at e in never (cc)
    go false q =
        let w : Present (record { start = record { 0 = word_at v 4 }; sectors = word_at v 8; bytes = word_at v 12 }) ≡ Present r = rw q at e in
        let x : record { start = record { 0 = word_at v 4 }; sectors = word_at v 8; bytes = word_at v 12 } ≡ r = cc in
        rw x at (both (eqb (word_at v 0) 1) _ (rw q at h)).1

-- the run of a shown version that passes
pub shown-run : (g : Geo) (tab p : List ℕ) {r : Run} → version_ok g (shown_bytes tab p) ≡ true → shown tab p ≡ Present r → RunIs g r
unfolding shown
shown-run g tab p {r} h e = run_is g r (version-run g (shown_bytes tab p) h e)

pub short-name : (n : List ℕ) → good_name n ≡ true → length n ≤ 32
unfolding good_name
short-name n h = leb-true (length n) 32 (both (leb 1 (length n)) (leb (length n) 32) (both _ (every good_byte n) h).0).1
