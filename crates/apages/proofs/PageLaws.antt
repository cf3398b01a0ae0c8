-- Laws of A and B, and of pages written in an image. Assumes nothing.
use mathlib.Core.Path.{◌≡◌, refl, ap}
use mathlib.Core.Logic.{⊎_elim}
use mathlib.Core.Bool.{true, ◌&&◌}
use mathlib.Core.List.{List, [], ◌∷◌}
use Prim.Native.Nat.{ℕ, zero, suc, ◌*◌}
use native.Mathlib.Omega.{arith}
use borrow.Author.Tests.{eqb-true}
use lib.Dec.{eqb}
use lib.ListN.{length}
use Rattle.words.specs.Lists.{over, splice, set_part}
use Rattle.words.proofs.BoolLaws.{both, or_cases}
use Rattle.sectors.specs.Sectors.{set_sec}
use Rattle.counts.specs.declared.Geo.{Geo}
use Rattle.counts.specs.declared.Stamp.{Stamp}
use Rattle.counts.specs.declared.Standing.{Standing}
use Rattle.counts.specs.declared.Standing.TheVariants.{Own, Alive, Dead}
use Rattle.counts.specs.Geometry.{pair_low, pair_high}
use Rattle.apages.specs.declared.Index.{Index}
use Rattle.apages.specs.Index.{pair_ok, changed_index, page_before}
use Rattle.apages.specs.Inner.{IsPage}

pub pair-pages : (g : Geo) (p a b : ℕ) → pair_ok g p a b ≡ true → IsPage g p a × IsPage g p b
unfolding pair_ok
pair-pages g p a b h =
    ⊎_elim
    (λ u. let w = both (eqb a (pair_low g p)) (eqb b (pair_high g p)) u in
    let x : a ≡ pair_low g p = eqb-true _ _ w.0 in
    let y : b ≡ pair_high g p = eqb-true _ _ w.1 in
    ((omega arith, omega arith), (omega arith, omega arith)))
    (λ u. let w = both (eqb a (pair_high g p)) (eqb b (pair_low g p)) u in
    let x : a ≡ pair_high g p = eqb-true _ _ w.0 in
    let y : b ≡ pair_low g p = eqb-true _ _ w.1 in
    ((omega arith, omega arith), (omega arith, omega arith)))
    (or_cases (eqb a (pair_low g p) && eqb b (pair_high g p)) (eqb a (pair_high g p) && eqb b (pair_low g p)) h)

-- the changed index names two pages where the index did
pub changed-pages : (g : Geo) (p : ℕ) (st : Standing) (own : Stamp) (x : Index) → IsPage g p x.a.0 × IsPage g p x.b.0
    → IsPage g p (changed_index st own x).a.0 × IsPage g p (changed_index st own x).b.0
unfolding changed_index
changed-pages g p Own own x h = h
changed-pages g p Alive own x h = (h.1, h.0)
changed-pages g p Dead own x h = h

pub before-page : (g : Geo) (p : ℕ) (st : Standing) (x : Index) → IsPage g p x.a.0 × IsPage g p x.b.0 → IsPage g p (page_before st x)
unfolding page_before
before-page g p Own x h = h.0
before-page g p Alive x h = h.1
before-page g p Dead x h = h.1

-- ---- one sector written twice

over-twice : (s u v : List ℕ) → length u ≡ length v → over (over s u) v ≡ over s v
unfolding over
over-twice s [] [] h = refl
over-twice s [] (y ∷ v) h = absurd (omega arith)
over-twice s (x ∷ u) [] h = absurd (omega arith)
over-twice [] (x ∷ u) (y ∷ v) h = refl
over-twice (z ∷ s) (x ∷ u) (y ∷ v) h = ap (λ (r : List ℕ). y ∷ r) (over-twice s u v (omega arith))

splice-twice : (s : List ℕ) (at : ℕ) (u v : List ℕ) → length u ≡ length v → splice (splice s at u) at v ≡ splice s at v
unfolding splice
splice-twice s zero u v h = over-twice s u v h
splice-twice [] (suc n) u v h = refl
splice-twice (x ∷ s) (suc n) u v h = ap (λ (r : List ℕ). x ∷ r) (splice-twice s n u v h)

pub set_sec-twice : (img : List ℕ) (i : ℕ) (u v : List ℕ) → length u ≡ length v → set_sec (set_sec img i u) i v ≡ set_sec img i v
unfolding set_sec set_part
set_sec-twice img i u v h = splice-twice img (512 * i) u v h
