-- The bounds on the writes of sync and unmount, proved of every history: the closer one, and from it that of document 02. Assumes nothing.
use Rattle.std.specs.Prelude.{Some, None}
use mathlib.Core.Path.{◌≡◌, refl}
use mathlib.Core.Bool.{Bool, true, false}
use mathlib.Core.List.{List}
use Prim.Native.Nat.{ℕ, zero, suc, ◌+◌, ◌≤◌}
use native.Mathlib.Omega.{arith}
use native.Mathlib.Decide.{ℕ_discrete}
use Rattle.words_sums.specs.Sums.{bit}
use Rattle.words_sums.proofs.SumLaws.{total-zero, total-one, total-le}
use Rattle.counts.specs.Geometry.{g_p}
use Rattle.card.specs.Plan.{refused}
use Rattle.session.specs.Session.{Session}
use Rattle.store.specs.Sync.{sync, unmount}
use Rattle.promises_answers.specs.PlainList.{Item}
use Rattle.promises_crash.specs.History.{Pending}
use Rattle.promises_answers.proofs.RefusalsProved.{refusals}
use Rattle.promises_crash.proofs.Inv.{InvOf, mk}
use Rattle.promises_crash.proofs.Run.Steps.{to-live}
use Rattle.promises_crash.proofs.Demand.{inv}
use Rattle.promises_crash.specs.Fewer.{changes, pairs_of, Bounds, Marks, no_marks, marks, counted, some_of, closer_of, Closer}
use Rattle.promises_crash.proofs.FewerProved.{counts, sync-not-worn}
use Rattle.promises_crash.proofs.Touched.{Touched}
use Rattle.promises_crash.proofs.TouchedAll.{touched}
use Rattle.promises_crash.proofs.MarksFew.{Few, few-marks}
use Rattle.promises_crash.proofs.FewDiffer.{few-differ}

-- ---- sync

sync-closer : (o : Session) (card work : List ℕ) (p : Pending) (m : List Item) (M : Marks) → InvOf o (mk card work o p m) → Touched o p M
    → (sync o card work).answer.count ≤ closer_of M o
sync-closer None card work p m M h T = unfold sync refused in omega arith
sync-closer (Some s) card work p m M h T = go (ℕ_discrete (sync (Some s) card work).answer.number 0)
  where
    go : Dec ((sync (Some s) card work).answer.number ≡ 0) → (sync (Some s) card work).answer.count ≤ closer_of M (Some s)
    go (no o) = omega (arith, (refusals.of_sync (Some s) card work o).3)
    go (yes z) =
        let V₀ = to-live s (mk card work (Some s) p m) (sync-not-worn s card work z) h in
        unfold closer_of in omega (arith, counts.of_sync s card work z, few-differ s card work p m V₀ M T)

-- ---- unmount

unmount-closer : (o : Session) (card work : List ℕ) (p : Pending) (m : List Item) (M : Marks) → InvOf o (mk card work o p m) → Touched o p M
    → (unmount o card work).answer.count ≤ closer_of M o
unmount-closer None card work p m M h T = unfold unmount refused in omega arith
unmount-closer (Some s) card work p m M h T = go (ℕ_discrete (unmount (Some s) card work).answer.number 0) s.worn refl
  where
    go : Dec ((unmount (Some s) card work).answer.number ≡ 0) → (b : Bool) → s.worn ≡ b → (unmount (Some s) card work).answer.count ≤ closer_of M (Some s)
    go (no o) b w = omega (arith, (refusals.of_unmount (Some s) card work o).3)
    go (yes z) true w = omega (arith, counts.of_worn s card work w)
    go (yes z) false w =
        let V₀ = to-live s (mk card work (Some s) p m) w h in
        unfold closer_of in omega (arith, counts.of_unmount s card work w z, few-differ s card work p m V₀ M T)

-- ---- it is closer

counted-all : (f : ℕ → Bool) (n : ℕ) → counted f n ≤ n
unfolding counted
counted-all f n = omega (arith, total-le (λ i. bit (f i)) (λ i. 1) n (λ i l. one (f i)), total-one n)
  where
    one : (b : Bool) → bit b ≤ 1
    one true = omega arith
    one false = omega arith

closer-within : (o : Session) (M : Marks) (c : ℕ) → Few M c → closer_of M o ≤ c + pairs_of o + 2
unfolding closer_of pairs_of
closer-within None M c F = omega arith
closer-within (Some s) M c F = omega (arith, F.few s.geo.s, counted-all M.pages (g_p s.geo), one (some_of M.pages (g_p s.geo)))
  where
    one : (b : Bool) → bit b ≤ 1
    one true = omega arith
    one false = omega arith

none-some : (n : ℕ) → some_of (λ q. false) n ≡ false
unfolding some_of
none-some zero = refl
none-some (suc n) = rw (none-some n)

closer-none : (o : Session) → closer_of no_marks o ≤ 1
unfolding closer_of counted
closer-none None = omega arith
closer-none (Some s) = rw (none-some (g_p s.geo)) (omega (arith, total-zero s.geo.s, total-zero (g_p s.geo)))

-- ---- every history

pub closer : Closer
closer =
    record {
      of_sync = λ {w} r. sync-closer w.session w.card w.work w.pending w.last (marks r) (inv r) (touched r);
      of_unmount = λ {w} r. unmount-closer w.session w.card w.work w.pending w.last (marks r) (inv r) (touched r);
      within = λ {w} r. closer-within w.session (marks r) (changes r) (few-marks r);
    }

-- a sync that gives 0 writes the table sector
sync-some : (o : Session) (card work : List ℕ) → (sync o card work).answer.number ≡ 0 → 1 ≤ (sync o card work).answer.count
sync-some None card work z = absurd (unfold sync refused in omega (arith, z))
sync-some (Some s) card work z = omega (arith, counts.of_sync s card work z)

pub bounds : Bounds
bounds =
    record {
      of_sync = λ r. omega (arith, closer.of_sync r, closer.within r);
      of_unmount = λ r. omega (arith, closer.of_unmount r, closer.within r);
      no_change = λ {w} r e z.
          let n : closer_of (marks r) w.session ≤ 1 = rw ((few-marks r).none e) (closer-none w.session) in
          omega (arith, closer.of_sync r, sync-some w.session w.card w.work z);
    }
