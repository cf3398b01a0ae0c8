-- Sync and unmount leave what document 01's leave, and count the sectors that differ and the table sector. Assumes nothing.
use Rattle.std.specs.Prelude.{Some, None}
use mathlib.Core.Path.{◌≡◌, refl, sym, ap, ◌∙◌}
use mathlib.Core.Bool.{Bool, true, false}
use mathlib.Core.List.{List, []}
use Prim.Native.Nat.{ℕ, zero, suc, ◌+◌, ◌-◌, ◌≤◌, ◌<◌}
use native.Mathlib.Nat.{zero-add}
use native.Mathlib.Omega.{arith}
use borrow.Author.Tests.{le-leb, lt-leb}
use Rattle.words.specs.Lists.{eq_list}
use Rattle.words_sums.specs.Sums.{total}
use Rattle.words_sums.proofs.SumLaws.{total-same, total-zero, total-split, total-front, total-none}
use Rattle.sectors.specs.declared.Sector.{Sector}
use Rattle.sectors.specs.Sectors.{sec, Step, write, unless, diff_steps, writes_in, differs, unlike}
use Rattle.counts.specs.declared.Geo.{Geo}
use Rattle.counts.proofs.GeoLaws.{limits}
use Rattle.card.specs.Plan.{Plan, refuse, do_it, go_ahead, ended, refused, done}
use Rattle.card.proofs.PlanLaws.{Num, ahead!, guard-num, passing}
use Rattle.session.specs.declared.Opened.{Opened}
use Rattle.session.specs.Session.{Session}
use Rattle.session.proofs.FitLaws.{Fit, fit-inv}
use Rattle.store.specs.Steps.{past_table, table_steps, sync_steps, counted_by, unmount_count}
use Rattle.store.specs.Mount.{Ended}
use Rattle.store.specs.Sync.{both_plan, sync_done, sync, unmount_done, unmount}
use Rattle.store.proofs.SyncFewer.{sync-same-card, down-same-card}
use Rattle.store.proofs.Plans.{both-inv, both-num, sync-live}
use Rattle.promises_crash.specs.Fewer.{full_sync, full_unmount, Alike, AsBefore, differs_at, differing, Counts}

-- ---- the same card

-- by the plan, which is the same
alike-plan : (p : Plan) (stop : ℕ → Ended) (a b : ℕ → Sector → Ended) → ((j : ℕ) (i : Sector) → Alike (a j i) (b j i)) → Alike (ended p stop a) (ended p stop b)
unfolding ended
alike-plan (refuse k) stop a b h = record { number = refl; session = refl; card = refl; work = refl }
alike-plan (do_it j i) stop a b h = h j i

sync-alike : (o : Session) (card work : List ℕ) → Alike (sync o card work) (full_sync o card work)
unfolding sync full_sync
sync-alike None card work = record { number = refl; session = refl; card = refl; work = refl }
sync-alike (Some s) card work =
    alike-plan _ _ _ _ (λ j i. (unfold sync_done done in record { number = refl; session = refl; card = sync-same-card s card work []; work = refl }))

unmount-alike : (o : Session) (card work : List ℕ) → Alike (unmount o card work) (full_unmount o card work)
unfolding unmount full_unmount
unmount-alike None card work = record { number = refl; session = refl; card = refl; work = refl }
unmount-alike (Some s) card work =
    alike-plan _ _ _ _ (λ j i. (unfold unmount_done done in record { number = refl; session = refl; card = down-same-card s card work; work = refl }))

pub as_before : AsBefore
as_before o card work = (sync-alike o card work, unmount-alike o card work)

-- ---- the count

-- a write, unless it would change nothing
unless-count : (b : Bool) (i : ℕ) (s : List ℕ) (r : List Step) → writes_in (unless b (write i s) r) ≡ unlike b + writes_in r
unfolding unless writes_in
unless-count true i s r = omega arith
unless-count false i s r = omega arith

-- the writes of what differs among n sectors from i up
diff-count : (card img : List ℕ) (n i : ℕ) (r : List Step) → writes_in (diff_steps card img i n r) ≡ total (λ j. differs card img (i + j)) n + writes_in r
unfolding diff_steps
diff-count card img zero i r = rw (total-none (λ j. differs card img (i + j))) (sym (zero-add (writes_in r)))
diff-count card img (suc n) i r =
    let z : i + 0 ≡ i = omega arith in
    let u : writes_in (unless (eq_list (sec card i) (sec img i)) (write i (sec img i)) (diff_steps card img (suc i) n r)) ≡ differs card img i + writes_in (diff_steps card img (suc i) n r) =
    (unfold differs in unless-count (eq_list (sec card i) (sec img i)) i (sec img i) (diff_steps card img (suc i) n r)) in
    let h = diff-count card img n (suc i) r in
    let f : total (λ j. differs card img (i + j)) (suc n) ≡ differs card img (i + 0) + total (λ j. differs card img (i + suc j)) n = total-front (λ j. differs card img (i + j)) n in
    let b = total-same (λ j. differs card img (i + suc j)) (λ j. differs card img (suc i + j)) n
    (λ j l. let q : i + suc j ≡ suc i + j = omega arith in ap (λ (k : ℕ). differs card img k) q) in
    rw (f, z, b) (omega arith)

module _ (g : Geo) (card work : List ℕ) where
  at_first : differs_at g card work 0 ≡ differs card work 0
  unfolding differs_at
  at_first = refl

  at_table : (i : ℕ) → 1 ≤ i → i ≤ g.t → differs_at g card work i ≡ 0
  unfolding differs_at
  at_table i lo hi = rw (le-leb 1 i lo, le-leb i g.t hi)

  -- sector 0 and the table, where sector 0 does not differ
  pub at_low : (i : ℕ) → i ≤ g.t → differs card work 0 ≡ 0 → differs_at g card work i ≡ 0
  at_low zero h z = at_first ∙ z
  at_low (suc i) h z = at_table (suc i) (omega arith) h

  pub at-past : (i : ℕ) → g.t < i → differs_at g card work i ≡ differs card work i
  unfolding differs_at
  at-past i h = let one : 1 ≤ i = omega arith in rw (le-leb 1 i one, lt-leb i g.t h)

  -- sector 0, and those past the table
  differing-is : g.t < g.s → differing g card work ≡ differs card work 0 + total (λ j. differs card work (g.t + 1 + j)) (g.s - g.t - 1)
  unfolding differing total
  differing-is h =
      let e : g.s ≡ 1 + g.t + (g.s - g.t - 1) = omega arith in
      let none = total-same (λ j. differs_at g card work (1 + j)) (λ j. 0) g.t (λ j l. at_table (1 + j) (omega arith) (omega arith)) ∙ total-zero g.t in
      let rest = total-same (λ j. differs_at g card work (1 + g.t + j)) (λ j. differs card work (g.t + 1 + j)) (g.s - g.t - 1)
      (λ j l. let q : 1 + g.t + j ≡ g.t + 1 + j = omega arith in at-past (1 + g.t + j) (omega arith) ∙ ap (λ (k : ℕ). differs card work k) q) in
      let first = total-split (differs_at g card work) 1 g.t in
      ap (λ (m : ℕ). total (differs_at g card work) m) e ∙ total-split (differs_at g card work) (1 + g.t) (g.s - g.t - 1) ∙ omega (arith, at_first)

pub sync-count : (s : Opened) (card work : List ℕ) → s.geo.t < s.geo.s → writes_in (sync_steps s card work []) ≡ differing s.geo card work + 1
unfolding sync_steps
sync-count s card work h =
    let a = diff-count card work 1 0 (diff_steps card work (s.geo.t + 1) (past_table s) (table_steps s work [])) in
    let b = diff-count card work (past_table s) (s.geo.t + 1) (table_steps s work []) in
    let c : writes_in (table_steps s work []) ≡ 1 = (unfold writes_in in refl) in
    let d : total (λ j. differs card work (0 + j)) 1 ≡ differs card work (0 + 0) = zeroth in
    omega (arith, differing-is s.geo card work h)
  where
    zeroth : total (λ j. differs card work (0 + j)) 1 ≡ differs card work (0 + 0)
    zeroth = omega (arith, total-front (λ j. differs card work (0 + j)) 0, total-none (λ j. differs card work (0 + suc j)))

in-limits : (s : Opened) (work : List ℕ) → Fit s work → s.geo.t < s.geo.s
in-limits s work F = let L = limits s.geo F.shape in omega (arith, L.past, L.dir, L.s_low)

-- ---- proved

-- a count that holds where a plan goes through holds where the call gives 0
counts-plan : {p : Plan} (stop : ℕ → Ended) (on : ℕ → Sector → Ended) (n : ℕ) → Num p → ((k : ℕ) → (stop k).answer.number ≡ k) → ((j : ℕ) (a : Sector) → p ≡ do_it j a → (on j a).answer.count ≡ n)
    → (ended p stop on).answer.number ≡ 0 → (ended p stop on).answer.count ≡ n
counts-plan stop on n q e f = passing (λ r. r.answer.number ≡ 0 → r.answer.count ≡ n) stop on q (λ k h. absurd (omega (arith, e (suc k)))) (λ j a x h. f j a x)

of-sync : (s : Opened) (card work : List ℕ) → (sync (Some s) card work).answer.number ≡ 0 → (sync (Some s) card work).answer.count ≡ differing s.geo card work + 1
unfolding sync sync_done refused done
of-sync s card work =
    counts-plan _ _ _ (both-num s card work (guard-num 8 _ ahead!)) (λ k. refl)
    (λ j a e. sync-count s card work (in-limits s work (sync-live s card work e).0))

-- a sync that gives 0 is not of a worn session
pub sync-not-worn : (s : Opened) (card work : List ℕ) → (sync (Some s) card work).answer.number ≡ 0 → s.worn ≡ false
unfolding sync refused
sync-not-worn s card work =
    passing (λ (r : Ended). r.answer.number ≡ 0 → s.worn ≡ false) _ _ (both-num s card work (guard-num 8 _ ahead!)) (λ k h. absurd (omega (arith, h)))
    (λ j a e h. (sync-live s card work e).1)

of-unmount : (s : Opened) (card work : List ℕ) → s.worn ≡ false → (unmount (Some s) card work).answer.number ≡ 0 → (unmount (Some s) card work).answer.count ≡ differing s.geo card work + 1
unfolding unmount unmount_done unmount_count counted_by refused done
of-unmount s card work live =
    counts-plan _ _ _ (both-num s card work ahead!) (λ k. refl)
    (λ j a e. ap (λ (b : Bool). counted_by b s card work) live ∙ sync-count s card work (in-limits s work (fit-inv s work (both-inv s card work _ e).0)))

of-worn : (s : Opened) (card work : List ℕ) → s.worn ≡ true → (unmount (Some s) card work).answer.count ≡ 0
unfolding unmount refused
of-worn s card work w = go (both_plan s card work go_ahead)
  where
    zero-count : (unmount_done s card work).answer.count ≡ 0
    zero-count = unfold unmount_done done unmount_count in (ap (λ (b : Bool). counted_by b s card work) w ∙ (unfold counted_by in refl))

    go : (p : Plan) → (ended {A = Ended} p (λ k. record { answer = refused k; session = Some s; card = card; work = work }) (λ j a. unmount_done s card work)).answer.count ≡ 0
    go (refuse k) = unfold ended refused in refl
    go (do_it j a) = unfold ended in zero-count

pub counts : Counts
counts = record { of_sync = of-sync; of_unmount = of-unmount; of_worn = of-worn }
