-- A map passes by its ones and the files' own runs exactly when its bits are as wanted. Assumes nothing.
use mathlib.Core.Path.{◌≡◌, refl, sym, ◌∙◌}
use mathlib.Core.Bool.{Bool, true, false, ◌&&◌}
use mathlib.Core.List.{List, [], ◌∷◌}
use mathlib.Core.Logic.{◌⊎◌, inl, inr, ⊎_elim}
use Prim.Native.Nat.{ℕ, suc, ◌+◌, ◌-◌, ◌*◌, ◌≤◌, ◌<◌}
use native.Mathlib.Decide.{dec_lt, dec_le}
use native.Mathlib.Omega.{arith}
use borrow.Author.Tests.{eqb-true, eq-eqb, leb-true, le-leb}
use lib.Dec.{leb, eqb}
use lib.ListN.{length, get_or}
use Rattle.words_sums.specs.Sums.{total, in_run}
use Rattle.words_sums.proofs.SumLaws.{place, total-add, total-same, total-run, total-one, total-tight}
use Rattle.words.specs.Lists.{every, pairwise}
use Rattle.words.proofs.BoolLaws.{both, join, or-intro, or_cases}
use Rattle.counts.specs.declared.Geo.{Geo}
use Rattle.counts.specs.Geometry.{g_f}
use Rattle.entries.specs.declared.Run.{Run}
use Rattle.entries.specs.Entries.{shown}
use Rattle.entries.proofs.PassLaws.{RunIs, run_is}
use Rattle.apages.specs.Bits.{bit_at}
use Rattle.apages.proofs.BitLaws.{bit-lt}
use Rattle.apages.specs.Ones.{set_bits, all_set}
use Rattle.apages.proofs.OnesLaws.{all-at, all_set_lem}
use Rattle.apages.specs.Runs.{wanted, page_ok}
use Rattle.card.specs.Files.{files_of, cover, sectors_of, run_of}
use Rattle.card.proofs.BitmapLaws.{InData, in-data, wanted-in, wanted-out, page-bits}
use Rattle.card.proofs.FileLaws.{Within, cover-out}
use Rattle.card.proofs.PieceLaws.{in-run, out-run}
use Rattle.card.specs.Inner.{RunsOk}
use Rattle.card.proofs.CoverLaws.{cover-none, cover-entry, runs-within}
use Rattle.card.proofs.PageIs.{bits-page}
use Rattle.card.proofs.SpaceLaws.{cover-total}
use Rattle.card.specs.Tally.{is_held, parted, held_by, parted_from, parted_in, fixed_bits, tally_ok}

-- ---- two runs

-- no sector lies in two runs that do not meet
parted-out : (r q : Run) (n : ℕ) → parted r q ≡ true → r.start.0 ≤ n → n < r.start.0 + r.sectors → in_run q.start.0 q.sectors n ≡ 0
unfolding parted
parted-out r q n h lo hi =
    ⊎_elim (λ u. let x : r.start.0 + r.sectors ≤ q.start.0 = leb-true _ _ u in out-run _ _ n (λ w. omega (arith, w.0)))
    (λ u. let x : q.start.0 + q.sectors ≤ r.start.0 = leb-true _ _ u in out-run _ _ n (λ w. omega (arith, w.1)))
    (or_cases (leb (r.start.0 + r.sectors) q.start.0) (leb (q.start.0 + q.sectors) r.start.0) h)

-- runs that are well formed and share no sector do not meet
parted-in : (g : Geo) (r q : Run) → RunIs g r → RunIs g q → ((n : ℕ) → in_run r.start.0 r.sectors n + in_run q.start.0 q.sectors n ≤ 1) → parted r q ≡ true
unfolding parted
parted-in g r q R Q h = or-intro _ _ (go (dec_le (r.start.0 + r.sectors) q.start.0) (dec_le (q.start.0 + q.sectors) r.start.0))
  where
    twice : (n : ℕ) → r.start.0 ≤ n → n < r.start.0 + r.sectors → q.start.0 ≤ n → n < q.start.0 + q.sectors → ⊥
    twice n a b c d = omega (arith, h n, in-run r.start.0 r.sectors n a b, in-run q.start.0 q.sectors n c d)

    meet : ¬ (r.start.0 + r.sectors ≤ q.start.0) → ¬ (q.start.0 + q.sectors ≤ r.start.0) → Dec (r.start.0 ≤ q.start.0) → Dec (r.sectors ≤ 0) → Dec (q.sectors ≤ 0) → ⊥
    meet x y d (yes e) f = let z : r.sectors ≡ 0 = omega arith in omega (arith, R.empty z)
    meet x y d (no e) (yes f) = let z : q.sectors ≡ 0 = omega arith in omega (arith, Q.empty z)
    meet x y (yes d) (no e) (no f) = twice q.start.0 d (omega arith) (omega arith) (omega arith)
    meet x y (no d) (no e) (no f) = twice r.start.0 (omega arith) (omega arith) (omega arith) (omega arith)

    go : Dec (r.start.0 + r.sectors ≤ q.start.0) → Dec (q.start.0 + q.sectors ≤ r.start.0)
        → (leb (r.start.0 + r.sectors) q.start.0 ≡ true) ⊎ (leb (q.start.0 + q.sectors) r.start.0 ≡ true)
    go (yes a) b = inl (le-leb _ _ a)
    go (no a) (yes b) = inr (le-leb _ _ b)
    go (no a) (no b) = absurd (meet a b (dec_le r.start.0 q.start.0) (dec_le r.sectors 0) (dec_le q.sectors 0))

-- ---- the runs of all entries

module _ (tab : List ℕ) where
  abbrev S : List (List ℕ) → ℕ → ℕ
  S es n = cover (files_of tab es) n

  abbrev run : List ℕ → Run
  run p = run_of (shown tab p)

  abbrev R : List ℕ → ℕ → ℕ
  R p n = in_run (run p).start.0 (run p).sectors n

  -- every run's bits are set exactly when the bit of each sector is that a file holds
  held-bit : (m : List ℕ) (es : List (List ℕ)) (n : ℕ) → every (held_by tab m) es ≡ true → 1 ≤ S es n → bit_at m n ≡ 1
  unfolding every is_held
  held-bit m [] n h l = absurd (omega (arith, cover-none tab n))
  held-bit m (p ∷ es) n h l =
      let (a, b) = both (is_held m (run p)) _ h in
      let rest : R p n ≡ 0 → bit_at m n ≡ 1 = λ z. held-bit m es n b (omega (arith, cover-entry tab p es n)) in
      ⊎_elim (λ w. rest w.1) (⊎_elim (λ w. all-at m (run p).sectors (run p).start.0 n a w.0 w.1) (λ w. rest w.2)) (place (run p).start.0 (run p).sectors n)

  bits-held : (m : List ℕ) (es : List (List ℕ)) → ((n : ℕ) → 1 ≤ S es n → bit_at m n ≡ 1) → every (held_by tab m) es ≡ true
  unfolding every is_held
  bits-held m [] h = refl
  bits-held m (p ∷ es) h =
      join _ _
      (all_set_lem m (run p).sectors (run p).start.0 (λ n x y. h n (omega (arith, cover-entry tab p es n, in-run (run p).start.0 (run p).sectors n x y))))
      (bits-held m es (λ n l. h n (omega (arith, cover-entry tab p es n))))

  -- no two runs meet exactly when no sector lies in two files
  parted-none : (r : Run) (es : List (List ℕ)) (n : ℕ) → every (parted_from tab r) es ≡ true → r.start.0 ≤ n → n < r.start.0 + r.sectors → S es n ≡ 0
  unfolding every
  parted-none r [] n h lo hi = cover-none tab n
  parted-none r (p ∷ es) n h lo hi =
      let (a, b) = both (parted r (run p)) _ h in
      omega (arith, cover-entry tab p es n, parted-out r (run p) n a lo hi, parted-none r es n b lo hi)

  parted-one : (es : List (List ℕ)) (n : ℕ) → pairwise (parted_in tab) es ≡ true → S es n ≤ 1
  unfolding pairwise
  parted-one [] n h = omega (arith, cover-none tab n)
  parted-one (p ∷ es) n h =
      let (a, b) = both (every (parted_from tab (run p)) es) _ h in
      let ih = parted-one es n b in
      ⊎_elim (λ w. omega (arith, cover-entry tab p es n))
      (⊎_elim (λ w. omega (arith, cover-entry tab p es n, parted-none (run p) es n a w.0 w.1)) (λ w. omega (arith, cover-entry tab p es n)))
      (place (run p).start.0 (run p).sectors n)

  module _ (g : Geo) where
    row-parted : (r : Run) (es : List (List ℕ)) → RunIs g r → RunsOk g tab es → ((n : ℕ) → in_run r.start.0 r.sectors n + S es n ≤ 1) → every (parted_from tab r) es ≡ true
    unfolding every
    row-parted r [] I runs h = refl
    row-parted r (p ∷ es) I runs h =
        join _ _ (parted-in g r (run p) I (run_is g (run p) (runs 0 (omega arith))) (λ n. omega (arith, h n, cover-entry tab p es n)))
        (row-parted r es I (λ j l. runs (suc j) (omega arith)) (λ n. omega (arith, h n, cover-entry tab p es n)))

    pub one-parted : (es : List (List ℕ)) → RunsOk g tab es → ((n : ℕ) → S es n ≤ 1) → pairwise (parted_in tab) es ≡ true
    unfolding pairwise
    one-parted [] runs h = refl
    one-parted (p ∷ es) runs h =
        join _ _ (row-parted (run p) es (run_is g (run p) (runs 0 (omega arith))) (λ j l. runs (suc j) (omega arith)) (λ n. omega (arith, h n, cover-entry tab p es n)))
        (one-parted es (λ j l. runs (suc j) (omega arith)) (λ n. omega (arith, h n, cover-entry tab p es n)))

-- ---- the whole

module _ (g : Geo) (tab : List ℕ) (es : List (List ℕ)) (m : List ℕ) (first : g_f g ≤ 8 * length m) (top : g.s ≤ 8 * length m) (runs : RunsOk g tab es) where
  abbrev held : ℕ → ℕ
  held = cover (files_of tab es)

  within : Within g (files_of tab es)
  within = runs-within g tab es runs

  -- a bit is wanted outside the data, and where a file lies
  each : (n : ℕ) → wanted g held n + in_run (g_f g) (g.s - g_f g) n ≡ held n + 1
  each n = go (in-data g n)
    where
      go : Dec (InData g n) → wanted g held n + in_run (g_f g) (g.s - g_f g) n ≡ held n + 1
      go (yes h) = omega (arith, wanted-in g held n h, in-run (g_f g) (g.s - g_f g) n h.0 (omega (arith, h.0, h.1)))
      go (no o) = omega (arith, wanted-out g held n o, cover-out within n o, out-run (g_f g) (g.s - g_f g) n (λ q. o (q.0, omega (arith, q.0, q.1))))

  -- how many bits are wanted
  all_wanted : total (wanted g held) (8 * length m) ≡ fixed_bits g (8 * length m) + sectors_of (files_of tab es)
  unfolding fixed_bits
  all_wanted =
      omega
      (arith, total-add (wanted g held) (in_run (g_f g) (g.s - g_f g)) (λ n. held n + 1) (8 * length m) (λ n l. each n), total-add held (λ n. 1) (λ n. held n + 1) (8 * length m) (λ n l. refl), total-one (8 * length m), cover-total within (8 * length m) top, total-run (g_f g) (g.s - g_f g) (8 * length m))

  -- the tests, one by one
  record Tallied : Type 0 where
    low : all_set m 0 (g_f g) ≡ true
    high : all_set m g.s (8 * length m - g.s) ≡ true
    set : every (held_by tab m) es ≡ true
    apart : pairwise (parted_in tab) es ≡ true
    count : set_bits m ≡ fixed_bits g (8 * length m) + sectors_of (files_of tab es)

  tallied : tally_ok g tab es m ≡ true → Tallied
  unfolding tally_ok
  tallied h =
      let (h₁, e) = both _ (eqb (set_bits m) (fixed_bits g (8 * length m) + sectors_of (files_of tab es))) h in
      let (h₂, d) = both _ (pairwise (parted_in tab) es) h₁ in
      let (h₃, c) = both _ (every (held_by tab m) es) h₂ in
      let (a, b) = both (all_set m 0 (g_f g)) (all_set m g.s (8 * length m - g.s)) h₃ in
      record { low = a; high = b; set = c; apart = d; count = eqb-true _ _ e }

  tally-all : Tallied → tally_ok g tab es m ≡ true
  unfolding tally_ok
  tally-all t = join _ _ (join _ _ (join _ _ (join _ _ t.low t.high) t.set) t.apart) (eq-eqb _ _ t.count)

  -- by the tests every wanted bit is set, and there are no more ones: the bits are those wanted
  tally-bits : Tallied → (n : ℕ) → n < 8 * length m → bit_at m n ≡ wanted g held n
  unfolding set_bits
  tally-bits t n l = sym (total-tight (wanted g held) (bit_at m) (8 * length m) (λ i k. go i k (in-data g i)) (all_wanted ∙ sym t.count) n l)
    where
      out : (i : ℕ) → i < 8 * length m → ¬ InData g i → Dec (i < g_f g) → Dec (i < g.s) → bit_at m i ≡ 1
      out i k o (yes a) d = all-at m (g_f g) 0 i t.low (omega arith) (omega arith)
      out i k o (no a) (yes b) = absurd (o (omega arith, b))
      out i k o (no a) (no b) = all-at m (8 * length m - g.s) g.s i t.high (omega arith) (omega arith)

      inside : (i : ℕ) → Dec (1 ≤ held i) → held i ≤ bit_at m i
      inside i (yes a) = omega (arith, held-bit tab m es i t.set a, parted-one tab es i t.apart)
      inside i (no a) = omega arith

      go : (i : ℕ) → i < 8 * length m → Dec (InData g i) → wanted g held i ≤ bit_at m i
      go i k (yes h) = omega (arith, wanted-in g held i h, inside i (dec_le 1 (held i)))
      go i k (no o) = omega (arith, wanted-out g held i o, out i k o (dec_lt i (g_f g)) (dec_lt i g.s))

  -- a map with the bits wanted passes the tests
  bits-tally : ((n : ℕ) → n < 8 * length m → bit_at m n ≡ wanted g held n) → Tallied
  unfolding set_bits
  bits-tally h = record {
    low = all_set_lem m (g_f g) 0 (λ n x y. out n (omega arith) (λ q. omega (arith, q.0)));
    high = all_set_lem m (8 * length m - g.s) g.s (λ n x y. out n (omega arith) (λ q. omega (arith, q.1)));
    set = bits-held tab m es (λ n k. omega (arith, few n (in-data g n), bit-lt m n));
    apart = one-parted tab g es runs (λ n. omega (arith, few n (in-data g n), bit-lt m n));
    count = total-same (bit_at m) (wanted g held) (8 * length m) h ∙ all_wanted;
  }
    where
      out : (n : ℕ) → n < 8 * length m → ¬ InData g n → bit_at m n ≡ 1
      out n l o = h n l ∙ wanted-out g held n o

      few : (n : ℕ) → Dec (InData g n) → held n ≤ bit_at m n
      few n (yes d) = omega (arith, h n (omega (arith, d.1)), wanted-in g held n d)
      few n (no o) = omega (arith, cover-out within n o)

-- "with no map": the tests say what the rule says
pub tally-page : (g : Geo) (tab : List ℕ) (es : List (List ℕ)) (m : List ℕ) → g_f g ≤ 8 * length m → g.s ≤ 8 * length m → ((j : ℕ) → get_or m j 0 < 256) → RunsOk g tab es
    → tally_ok g tab es m ≡ page_ok g (cover (files_of tab es)) m
tally-page g tab es m first top bytes runs = go (tally_ok g tab es m) (page_ok g (cover (files_of tab es)) m) refl refl
  where
    go : (a b : Bool) → tally_ok g tab es m ≡ a → page_ok g (cover (files_of tab es)) m ≡ b → a ≡ b
    go true true e d = refl
    go false false e d = refl
    go true false e d = sym (bits-page g _ m top (λ j l. bytes j) (tally-bits g tab es m first top runs (tallied g tab es m first top runs e))) ∙ d
    go false true e d = sym e ∙ tally-all g tab es m first top runs (bits-tally g tab es m first top runs (page-bits g _ m top d))

-- the tests as code makes them
pub tally-here : (g : Geo) (tab : List ℕ) (es : List (List ℕ)) (m : List ℕ) → g_f g ≤ 8 * length m → g.s ≤ 8 * length m → ((j : ℕ) → get_or m j 0 < 256) → RunsOk g tab es
    → {a b c d : Bool} {n k s : ℕ} → a ≡ all_set m 0 (g_f g) → b ≡ all_set m g.s (8 * length m - g.s) → c ≡ every (held_by tab m) es → d ≡ pairwise (parted_in tab) es
    → n ≡ set_bits m → k ≡ fixed_bits g (8 * length m) → s ≡ sectors_of (files_of tab es) → (a && b && c && d && eqb n (k + s)) ≡ page_ok g (cover (files_of tab es)) m
unfolding tally_ok
tally-here g tab es m first top bytes runs e₁ e₂ e₃ e₄ e₅ e₆ e₇ = rw (e₁, e₂, e₃, e₄, e₅, e₆, e₇) (tally-page g tab es m first top bytes runs)
