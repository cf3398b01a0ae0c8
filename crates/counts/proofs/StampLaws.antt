-- A stamped thing in two versions, under the present and the cut view of a session. Assumes nothing.
use mathlib.Core.Path.{◌≡◌, refl, sym, ◌∙◌}
use mathlib.Core.Bool.{Bool, true, false, cond}
use mathlib.Core.List.{List}
use Prim.Native.Nat.{ℕ, ◌+◌, ◌≤◌, ◌<◌}
use native.Mathlib.Omega.{arith}
use native.Mathlib.Decide.{ℕ_discrete}
use borrow.Author.Tests.{eqb-true, eq-eqb, le-leb, lt-leb}
use lib.Dec.{leb, eqb}
use lib.ListN.{length, get_or, set}
use lib.Seq.{get_or-set_same, get_or-set_other}
use Rattle.words.proofs.BoolLaws.{both}
use Rattle.counts.specs.declared.Stamp.{Stamp}
use Rattle.counts.specs.declared.Standing.TheVariants.{Own, Alive, Dead}
use Rattle.counts.specs.Stamps.{alive, showing, same_stamp, standing, becomes_old}

pub same_true : (s own : Stamp) → same_stamp s own ≡ true → (s.cc.0 ≡ own.cc.0) × (s.txc.0 ≡ own.txc.0)
unfolding same_stamp
same_true s own h =
    let (a, b) = both (eqb s.cc.0 own.cc.0) (eqb s.txc.0 own.txc.0) h in (eqb-true _ _ a, eqb-true _ _ b)

pub same_false : (s own : Stamp) → same_stamp s own ≡ false → s.cc.0 ≡ own.cc.0 → s.txc.0 ≡ own.txc.0 → ⊥
unfolding same_stamp
same_false s own h p q =
    let a : eqb s.cc.0 own.cc.0 ≡ true = eq-eqb _ _ p in
    let b : eqb s.txc.0 own.txc.0 ≡ true = eq-eqb _ _ q in
    let u : ◌≡◌ {A = Bool} true false = sym (rw (a, b) refl) ∙ h in
    let v : ◌≡◌ {A = ℕ} 0 1 = cc in omega arith

-- the table as the cut view has it; the present view takes word c as t
module _ (tab : List ℕ) (own : Stamp) (hc : own.cc.0 < length tab) (hw : get_or tab own.cc.0 0 + 1 ≡ own.txc.0) where
  abbrev present : List ℕ
  present = set tab own.cc.0 own.txc.0

  -- the session's own stamp is dead in the cut view and alive in the present one
  pub own-dead : alive tab own ≡ false
  unfolding alive
  own-dead = lt-leb own.txc.0 (get_or tab own.cc.0 0) (omega arith)

  pub own-alive : alive present own ≡ true
  unfolding alive
  own-alive = rw (get_or-set_same tab own.cc.0 own.txc.0 0 hc) (le-leb own.txc.0 own.txc.0 (omega arith))

  -- the two views agree on every other stamp
  pub others : (s : Stamp) → (s.cc.0 ≡ own.cc.0 → s.txc.0 ≤ own.txc.0) → same_stamp s own ≡ false → alive present s ≡ alive tab s
  unfolding alive
  others s ht hn = go (ℕ_discrete s.cc.0 own.cc.0)
    where
      less : s.cc.0 ≡ own.cc.0 → s.txc.0 ≤ get_or tab own.cc.0 0
      less e = let a : s.txc.0 ≤ own.txc.0 = ht e in let b : ¬ (s.txc.0 ≡ own.txc.0) = same_false s own hn e in omega arith

      go : Dec (s.cc.0 ≡ own.cc.0) → leb s.txc.0 (get_or present s.cc.0 0) ≡ leb s.txc.0 (get_or tab s.cc.0 0)
      go (yes e) =
          rw (e, get_or-set_same tab own.cc.0 own.txc.0 0 hc)
          (le-leb s.txc.0 own.txc.0 (ht e) ∙ sym (le-leb s.txc.0 (get_or tab own.cc.0 0) (less e)))
      go (no d) = rw (get_or-set_other tab own.cc.0 s.cc.0 own.txc.0 0 d)

  module _ {A : Type 0} where
    -- a thing under the session's stamp shows its new version in the present view and its old one in the cut view
    pub now-new : (new old : A) → showing present own new old ≡ new
    unfolding showing
    now-new new old = rw own-alive

    pub cut-old : (new old : A) → showing tab own new old ≡ old
    unfolding showing
    cut-old new old = rw own-dead

    -- what becomes old is what the cut view showed
    pub old-cut : (s : Stamp) (new old : A) → (s.cc.0 ≡ own.cc.0 → s.txc.0 ≤ own.txc.0) → becomes_old (standing present own s) new old ≡ showing tab s new old
    unfolding showing standing becomes_old
    old-cut s new old hs = go (same_stamp s own) refl
      where
        pick : (b : Bool) → becomes_old (cond b Alive Dead) new old ≡ cond b new old
        pick true = refl
        pick false = refl

        go : (b : Bool) → same_stamp s own ≡ b → becomes_old (cond (same_stamp s own) Own (cond (alive present s) Alive Dead)) new old ≡ cond (alive tab s) new old
        go true e =
            let q = same_true s own e in
            let z : alive tab s ≡ false = (unfold alive in rw (q.0, q.1) (unfold alive in own-dead)) in
            rw (e, z)
        go false e = rw (e, others s hs e) (pick (alive tab s))
