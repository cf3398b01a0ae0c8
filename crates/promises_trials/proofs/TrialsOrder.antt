-- The trial store "whose sync writes the table sector first", and the order of sync's writes that shuts it out. Assumes nothing.
use mathlib.Core.Path.{◌≡◌, refl, sym, ap, ◌∙◌}
use mathlib.Core.Bool.{Bool, true, false, cond}
use mathlib.Core.List.{List, [], ◌∷◌, ◌++◌}
use mathlib.Core.Logic.{◌⊎◌, inl, inr, ⊎_elim, ◌≢◌}
use Prim.Native.Nat.{ℕ, zero, suc, ◌+◌, ◌*◌, ◌≤◌, ◌<◌}
use native.Mathlib.Omega.{arith}
use lib.ListN.{length, take}
use Rattle.words.specs.Lists.{eq_list}
use Rattle.sectors.specs.Sectors.{sec, Step, write, settle, apply_steps, unless, diff_steps}
use Rattle.sectors.proofs.FlatLaws.{sec-in, set_here, set_there}
use Rattle.counts.proofs.GeoLaws.{limits}
use Rattle.session.specs.declared.Opened.{Opened}
use Rattle.session.specs.Fits.{fits}
use Rattle.session.proofs.FitLaws.{fit-inv}
use Rattle.store.specs.Steps.{set_word, table_sector, past_table, table_steps, sync_steps}
use Rattle.promises_answers.proofs.Synced.{sync-length, room, inside}

-- ---- sync's writes in their order

-- the sectors that steps write, in their order
unfoldable pub sectors_written : List Step → List ℕ
sectors_written [] = []
sectors_written (write i x ∷ r) = i ∷ sectors_written r
sectors_written (settle ∷ r) = sectors_written r

-- n sectors from i up
unfoldable pub rising : ℕ → ℕ → List ℕ
rising i zero = []
rising i (suc n) = i ∷ rising (suc i) n

-- those of a list of sectors in which two images differ
unfoldable pub unequal : List ℕ → List ℕ → List ℕ → List ℕ
unequal card work [] = []
unequal card work (i ∷ is) = cond (eq_list (sec card i) (sec work i)) (unequal card work is) (i ∷ unequal card work is)

-- the writes of what differs: these sectors of n from i up
diffs-rising : (card img : List ℕ) (i n : ℕ) (r : List Step) → sectors_written (diff_steps card img i n r) ≡ unequal card img (rising i n) ++ sectors_written r
unfolding sectors_written rising diff_steps unequal
diffs-rising card img i zero r = refl
diffs-rising card img i (suc n) r = by (eq_list (sec card i) (sec img i)) (diffs-rising card img (suc i) n r)
  where
    by : (b : Bool) → sectors_written (diff_steps card img (suc i) n r) ≡ unequal card img (rising (suc i) n) ++ sectors_written r
        → sectors_written (unless b (write i (sec img i)) (diff_steps card img (suc i) n r))
        ≡ cond b (unequal card img (rising (suc i) n)) (i ∷ unequal card img (rising (suc i) n)) ++ sectors_written r
    by true h = unfold unless in h
    by false h = unfold unless sectors_written in (ap (i ∷◌) h)

-- the sectors outside the table
unfoldable pub outside_table : Opened → List ℕ
outside_table s = 0 ∷ rising (s.geo.t + 1) (past_table s)

-- sync's writes: those sectors outside the table that differ, in rising order, and the table sector last
pub sync-order : (s : Opened) (card work : List ℕ) → sectors_written (sync_steps s card work []) ≡ unequal card work (outside_table s) ++ (table_sector s.c.0 ∷ [])
unfolding sync_steps outside_table unequal sectors_written diff_steps unless
sync-order s card work = zeroth (eq_list (sec card 0) (sec work 0)) (diffs-rising card work (s.geo.t + 1) (past_table s) _)
  where
    zeroth : (b : Bool)
        → sectors_written (diff_steps card work (s.geo.t + 1) (past_table s) (table_steps s work [])) ≡ unequal card work (rising (s.geo.t + 1) (past_table s)) ++ (table_sector s.c.0 ∷ [])
        → sectors_written (unless b (write 0 (sec work 0)) (diff_steps card work (s.geo.t + 1) (past_table s) (table_steps s work [])))
        ≡ cond b (unequal card work (rising (s.geo.t + 1) (past_table s))) (0 ∷ unequal card work (rising (s.geo.t + 1) (past_table s))) ++ (table_sector s.c.0 ∷ [])
    zeroth true h = h
    zeroth false h = ap (0 ∷◌) h

-- ---- "one whose sync writes the table sector first"

-- that sync: the table sector, and then the others
unfoldable pub table_first : Opened → List ℕ → List ℕ → List Step
table_first s card work =
    write (table_sector s.c.0) (sec (set_word s.c.0 s.t.0 work) (table_sector s.c.0)) ∷ settle
    ∷ diff_steps card work 0 1 (diff_steps card work (s.geo.t + 1) (past_table s) (settle ∷ []))

-- the sector that steps begin with, 0 where they begin with a barrier
first : List Step → ℕ
first [] = 0
first (write i x ∷ r) = i
first (settle ∷ r) = 0

-- the writes of what differs from sector i up begin with one of these, or with what stands behind them
first-diff : (card img : List ℕ) (i n : ℕ) (r : List Step) → (first (diff_steps card img i n r) ≡ first r) ⊎ ((i ≤ first (diff_steps card img i n r)) × (first (diff_steps card img i n r) < i + n))
unfolding diff_steps first
first-diff card img i zero r = inl refl
first-diff card img i (suc n) r = by (eq_list (sec card i) (sec img i)) (first-diff card img (suc i) n r)
  where
    by : (b : Bool) → (first (diff_steps card img (suc i) n r) ≡ first r) ⊎ ((suc i ≤ first (diff_steps card img (suc i) n r)) × (first (diff_steps card img (suc i) n r) < suc i + n))
        → (first (unless b (write i (sec img i)) (diff_steps card img (suc i) n r)) ≡ first r)
        ⊎ ((i ≤ first (unless b (write i (sec img i)) (diff_steps card img (suc i) n r))) × (first (unless b (write i (sec img i)) (diff_steps card img (suc i) n r)) < i + suc n))
    by true h = unfold unless in (⊎_elim inl (λ q. inr (omega (arith, q.0), omega (arith, q.1))) h)
    by false h = unfold unless first in (inr (omega arith, omega arith))

sync-first : (s : Opened) (card work : List ℕ) → (first (sync_steps s card work []) ≡ 0) ⊎ (s.geo.t < first (sync_steps s card work []))
unfolding sync_steps first
sync-first s card work =
    ⊎_elim
    (λ e. ⊎_elim (λ z. inl (e ∙ z)) (λ q. inr (rw e (omega (arith, q.0)))) (first-diff card work (s.geo.t + 1) (past_table s) (table_steps s work [])))
    (λ q. inl (omega (arith, q.0, q.1)))
    (first-diff card work 0 1 _)

-- steps that begin with a sector of the table are not sync's, in any session, from any card
pub not-sync : (s : Opened) (card work : List ℕ) (i : ℕ) (x : List ℕ) (r : List Step) → 1 ≤ i → i ≤ s.geo.t → write i x ∷ r ≢ sync_steps s card work []
unfolding first
not-sync s card work i x r lo hi e = let q : i ≡ first (sync_steps s card work []) = ap first e in ⊎_elim (λ z. absurd (omega arith)) (λ z. absurd (omega arith)) (sync-first s card work)

-- so the steps that begin with the table sector are not
pub table-first : (s : Opened) (card work : List ℕ) → fits s work ≡ true → s.worn ≡ false → table_first s card work ≢ sync_steps s card work []
unfolding table_first
table-first s card work f live =
    let r = room s work (fit-inv s work f) live in
    not-sync s card work (table_sector s.c.0) _ _ r.0 (omega (arith, r.1))

-- the first step of what differs leaves a sector that is not one of these
keep-first : (S : ℕ) (card img : List ℕ) (k : ℕ) → length card ≡ 512 * S → length img ≡ 512 * S → (n i : ℕ) (r : List Step) → i + n ≤ S → ¬ ((i ≤ k) × (k < i + n))
    → sec (apply_steps (take 1 r) card) k ≡ sec card k → sec (apply_steps (take 1 (diff_steps card img i n r)) card) k ≡ sec card k
unfolding diff_steps
keep-first S card img k l m zero i r h o e = e
keep-first S card img k l m (suc n) i r h o e =
    by (eq_list (sec card i) (sec img i)) (keep-first S card img k l m n (suc i) r (omega arith) (λ q. o (omega (arith, q.0), omega (arith, q.1))) e)
  where
    by : (b : Bool) → sec (apply_steps (take 1 (diff_steps card img (suc i) n r)) card) k ≡ sec card k
        → sec (apply_steps (take 1 (unless b (write i (sec img i)) (diff_steps card img (suc i) n r))) card) k ≡ sec card k
    by true u = unfold unless in u
    by false u = unfold unless apply_steps in (set_there S card (sec img i) i l (omega arith) (sec-in img S i m (omega arith)) k (λ q. o (omega (arith, q), omega (arith, q))))

-- and the card shows it after one step, where the card does not have the table sector that sync writes
pub table-first-step : (s : Opened) (card work : List ℕ) → fits s work ≡ true → s.worn ≡ false → length card ≡ 512 * s.geo.s
    → sec (set_word s.c.0 s.t.0 work) (table_sector s.c.0) ≢ sec card (table_sector s.c.0)
    → apply_steps (take 1 (table_first s card work)) card ≢ apply_steps (take 1 (sync_steps s card work [])) card
unfolding table_first sync_steps apply_steps
table-first-step s card work f live l o e =
    let F = fit-inv s work f in
    let i = table_sector s.c.0 in
    let S = s.geo.s in
    let r = room s work F live in
    let L = limits s.geo F.shape in
    let x = sec-in (set_word s.c.0 s.t.0 work) S i (sync-length s work F live) (inside s work F live) in
    let p = set_here S card (sec (set_word s.c.0 s.t.0 work) i) i l (inside s work F live) x in
    let q = keep-first S card work i l F.sized 1 0 _ (omega (arith, L.s_low, L.past, L.dir)) (λ z. omega (arith, r.0, z.1))
    (keep-first S card work i l F.sized (past_table s) (s.geo.t + 1) (table_steps s work []) (omega (arith, L.s_low, L.past, L.dir)) (λ z. omega (arith, r.1, z.0)) refl) in
    o (sym p ∙ ap (λ k. sec k i) e ∙ q)
