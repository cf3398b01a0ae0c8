-- The runs that the entries show, tested one by one: each lies below S, all their sectors, and no two meet. Assumes nothing.
use mathlib.Core.Path.{◌≡◌, refl, sym, ◌∙◌}
use mathlib.Core.Bool.{Bool, true, false, not, ◌||◌}
use mathlib.Core.List.{List, []}
use mathlib.Core.Logic.{◌⊎◌, inl, inr, ⊎_elim}
use Prim.Native.Nat.{ℕ, suc, ◌+◌, ◌-◌, ◌%◌, ◌≤◌, ◌<◌}
use native.Mathlib.Decide.{ℕ_discrete, dec_le}
use native.Mathlib.Numerals.{add-one}
use native.Mathlib.Omega.{arith}
use borrow.Author.Tests.{le-leb, not-true, not-false}
use lib.Dec.{leb}
use lib.ListN.{length, drop, get_or, drop_of_length-le}
use lib.Seq.{drop-cons}
use Rattle.words.specs.Lists.{every, pairwise}
use Rattle.words.proofs.BoolLaws.{both, or-intro}
use Rattle.words.proofs.EveryLaws.{every-all, every-from, pair-next, pair-rest}
use Rattle.counts.specs.declared.Geo.{Geo}
use Rattle.entries.specs.declared.Run.{Run}
use Rattle.entries.specs.declared.Version.{Version}
use Rattle.entries.specs.declared.Version.TheVariants.{Absent, Present}
use Rattle.entries.specs.Entries.{shown}
use Rattle.entries.proofs.PassLaws.{RunIs, run_is, run_room}
use Rattle.apages.specs.Ones.{all_set}
use Rattle.card.specs.declared.Line.{Line}
use Rattle.card.specs.Files.{cons_file, files_of, sectors_of, run_of}
use Rattle.card.specs.Inner.{RunsOk}
use Rattle.card.specs.Tally.{is_held, parted, held_by, parted_from, parted_in}

-- ---- the sectors of all files, entry by entry

sectors-cons : (p : List ℕ) (v : Version) (r : List Line) → sectors_of (cons_file p v r) ≡ (run_of v).sectors + sectors_of r
unfolding sectors_of cons_file run_of
sectors-cons p Absent r = omega arith
sectors-cons p (Present x) r = refl

pub sectors-next : (tab : List ℕ) (es : List (List ℕ)) (j : ℕ) {r : Run} → j < length es → r ≡ run_of (shown tab (get_or es j []))
    → sectors_of (files_of tab (drop j es)) ≡ r.sectors + sectors_of (files_of tab (drop (j + 1) es))
unfolding files_of
sectors-next tab es j h e = rw (add-one, drop-cons es j [] h, e) (sectors-cons (get_or es j []) (shown tab (get_or es j [])) (files_of tab (drop (suc j) es)))

pub sectors-end : (tab : List ℕ) (es : List (List ℕ)) (j : ℕ) → length es ≤ j → sectors_of (files_of tab (drop j es)) ≡ 0
unfolding sectors_of files_of
sectors-end tab es j h = rw (drop_of_length-le es h)

-- ---- the runs

-- a run that does not reach past another's start, and one that holds nothing
before : (r q : Run) → r.start.0 + r.sectors ≤ q.start.0 → parted r q ≡ true
unfolding parted
before r q h = or-intro (leb (r.start.0 + r.sectors) q.start.0) _ (inl (le-leb _ _ h))

behind : (r q : Run) → q.start.0 + q.sectors ≤ r.start.0 → parted r q ≡ true
unfolding parted
behind r q h = or-intro (leb (r.start.0 + r.sectors) q.start.0) _ (inr (le-leb _ _ h))

-- the tests of one run, as code makes them
pub held-here : (tab m p : List ℕ) {r : Run} {b : Bool} → r ≡ run_of (shown tab p) → b ≡ all_set m r.start.0 r.sectors → b ≡ held_by tab m p
unfolding is_held
held-here tab m p e h = h ∙ rw e

pub parted-here : (tab : List ℕ) (r : Run) (p : List ℕ) {q : Run} {end : ℕ} {b : Bool} → end ≡ r.start.0 + r.sectors → q ≡ run_of (shown tab p)
    → b ≡ (leb end q.start.0 || leb (q.start.0 + q.sectors) r.start.0) → b ≡ parted_from tab r p
unfolding parted
parted-here tab r p e f h = h ∙ rw (e, f)

-- the files of the entries from i to e start at `low` or past it
abbrev pub Rising : List ℕ → List (List ℕ) → ℕ → ℕ → ℕ → Type 0
Rising tab es i e low = (j : ℕ) → i ≤ j → j < e → 1 ≤ (run_of (shown tab (get_or es j []))).sectors → low ≤ (run_of (shown tab (get_or es j []))).start.0

module _ (g : Geo) (tab : List ℕ) (es : List (List ℕ)) (runs : RunsOk g tab es) where
  abbrev run : ℕ → Run
  run j = run_of (shown tab (get_or es j []))

  well : (j : ℕ) → j < length es → RunIs g (run j)
  well j l = run_is g (run j) (runs j l)

  -- the run that entry j shows ends at S or before
  pub run-below : (j : ℕ) {r : Run} → j < length es → r ≡ run j → r.start.0 + r.sectors ≤ g.s
  run-below j l e = rw e (run_room g (run j) (well j l))

  -- and lies in one page
  pub run-paged : (j : ℕ) {r : Run} → j < length es → r ≡ run j → r.start.0 % 4096 + r.sectors ≤ 4096
  run-paged j l e = rw e (well j l).page

  -- an entry whose run meets no later one
  join-row : (i : ℕ) → i < length es → every (parted_from tab (run i)) (drop (i + 1) es) ≡ true → pairwise (parted_in tab) (drop (i + 1) es) ≡ true → pairwise (parted_in tab) (drop i es) ≡ true
  join-row i l a b = pair-next (parted_in tab) es i [] l ∙ rw (a, b)

  -- a run that ends at `low` or before meets none of theirs
  low-row : (i e low : ℕ) (r : Run) → i ≤ e → Rising tab es i e low → r.start.0 + r.sectors ≤ low → every (parted_from tab r) (drop i es) ≡ every (parted_from tab r) (drop e es)
  low-row i e low r h up k =
      let q : i + (e - i) ≡ e = omega arith in
      rw q at (every-from (parted_from tab r) es [] (e - i) i (λ j a b c. one j c (up j a (omega arith)) (dec_le 1 (run j).sectors)))
    where
      one : (j : ℕ) → j < length es → (1 ≤ (run j).sectors → low ≤ (run j).start.0) → Dec (1 ≤ (run j).sectors) → parted r (run j) ≡ true
      one j c u (yes d) = before r (run j) (omega (arith, u d))
      one j c u (no d) = behind r (run j) (omega (arith, (well j c).empty (omega arith)))

  -- one turn of the loop: entry i, and k is the next
  module _ (i k : ℕ) (next : k ≡ i + 1) (l : i < length es) (r : Run) (here : r ≡ run i) (done : pairwise (parted_in tab) (drop k es) ≡ true) where
    -- an entry without sectors
    pub empty-row : r.sectors ≡ 0 → pairwise (parted_in tab) (drop i es) ≡ true
    empty-row z =
        let e : (run i).sectors ≡ 0 = rw (← here) z in
        join-row i l (every-all (parted_from tab (run i)) (drop (i + 1) es) [] (λ j m. before (run i) _ (omega (arith, (well i l).empty e)))) (rw (← next) done)

    pub empty-rising : (e low : ℕ) → r.sectors ≡ 0 → Rising tab es k e low → Rising tab es i e low
    empty-rising e low z up j a b c = go (ℕ_discrete i j)
      where
        go : Dec (i ≡ j) → low ≤ (run j).start.0
        go (yes q) = let x : (run j).sectors ≡ 0 = rw (← q, ← here) z in absurd (omega arith)
        go (no q) = up j (omega arith) b c

    -- where the comparing starts: behind the entries whose files all lie past this run, or with the next entry
    module _ (e e' low : ℕ) (le : k ≤ e) (up : Rising tab es k e low)
        (way : ((low < r.start.0 + r.sectors) × (e' ≡ i + 1)) ⊎ ((r.start.0 + r.sectors ≤ low) × (e' ≡ e))) where
      row : every (parted_from tab r) (drop (i + 1) es) ≡ every (parted_from tab r) (drop e' es)
      row =
          ⊎_elim (λ w. rw w.1)
          (λ w. rw (w.1, ← next) (low-row k e low r le up w.0)) way

      pub row-stop : {b : Bool} → b ≡ every (parted_from tab r) (drop e' es) → not b ≡ true → false ≡ pairwise (parted_in tab) es
      row-stop {b} f n = go (pairwise (parted_in tab) es) refl
        where
          no_row : every (parted_from tab (run i)) (drop (i + 1) es) ≡ false
          no_row = rw (← here) (row ∙ sym f ∙ not-true b n)

          go : (c : Bool) → pairwise (parted_in tab) es ≡ c → false ≡ c
          go false q = refl
          go true q = sym no_row ∙ (both _ _ (sym (pair-next (parted_in tab) es i [] l) ∙ pair-rest (parted_in tab) i es q)).0

      pub row-go : {b : Bool} → b ≡ every (parted_from tab r) (drop e' es) → not b ≡ false → pairwise (parted_in tab) (drop i es) ≡ true
      row-go {b} f n = join-row i l (rw (← here) (row ∙ sym f ∙ not-false b n)) (rw (← next) done)

      pub row-rising : Rising tab es i e' r.start.0
      row-rising j a b c = go (ℕ_discrete i j)
        where
          go : Dec (i ≡ j) → r.start.0 ≤ (run j).start.0
          go (yes q) = rw (here, q) (omega arith)
          go (no q) = ⊎_elim (λ w. absurd (omega (arith, w.1))) (λ w. omega (arith, w.0, up j (omega arith) (omega (arith, w.1)) c)) way
