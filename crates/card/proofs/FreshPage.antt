-- The bits of a fresh page, and how code builds it. Assumes nothing.
use mathlib.Core.Path.{◌≡◌, sym, ap, ◌∙◌}
use mathlib.Core.Logic.{⊎_elim}
use mathlib.Core.Bool.{cond}
use mathlib.Core.List.{List}
use Prim.Native.Nat.{ℕ, ◌+◌, ◌-◌, ◌*◌, ◌≤◌, ◌<◌}
use native.Mathlib.Decide.{dec_lt}
use native.Mathlib.Omega.{arith}
use lib.Dec.{lit<}
use lib.ListN.{length, get_or, replicate}
use Rattle.counts.specs.declared.Geo.{Geo}
use Rattle.counts.specs.Geometry.{g_p, g_dir, g_f}
use Rattle.counts.specs.Inner.{InLimits}
use Rattle.apages.specs.Bits.{bit_at, set_run}
use Rattle.apages.proofs.BitLaws.{pages-ext}
use Rattle.apages.proofs.RunLaws.{set_run-length, run_in, run_out}
use Rattle.apages.specs.Runs.{outside, data_from, data_to, fresh_page}
use Rattle.card.proofs.BuiltLaws.{set_run-bytes, copies_at, clear-bit, full, full-bit, side}

pub page-length : (g : Geo) (p : ℕ) → length (fresh_page g p) ≡ 512
unfolding fresh_page
page-length g p = set_run-length (replicate 512 255) (data_from g p) (data_to g p - data_from g p) 0

pub fresh-bytes : (g : Geo) (p j : ℕ) → get_or (fresh_page g p) j 0 < 256
unfolding fresh_page
fresh-bytes g p = set_run-bytes (replicate 512 255) (data_from g p) (data_to g p - data_from g p) 0 (lit< tt) (copies_at 512 255 (lit< tt))

module _ (g : Geo) (lim : InLimits g) (p : ℕ) where
  first : g_f g ≤ 610
  unfolding g_f g_dir g_p
  first = omega (arith, lim.t, lim.d, lim.s)

  abbrev lo : ℕ
  lo = data_from g p

  abbrev hi : ℕ
  hi = data_to g p

  from_low : lo ≤ 610
  unfolding data_from
  from_low = omega (arith, first)

  to_low : hi ≤ 4096
  unfolding data_to
  to_low = omega arith

  -- where a sector of the page lies: before the data, past it, in it
  before-data : (n : ℕ) → 4096 * p + n < g_f g → n < lo
  unfolding data_from
  before-data n h = omega arith

  past-data : (n : ℕ) → g.s ≤ 4096 * p + n → hi ≤ n
  unfolding data_to
  past-data n h = omega arith

  in-the-data : (n : ℕ) → n < 4096 → g_f g ≤ 4096 * p + n → 4096 * p + n < g.s → (lo ≤ n) × (n < hi)
  unfolding data_from data_to
  in-the-data n l a b = (omega arith, omega arith)

  -- the bits of a fresh page
  pub fresh-bit : (n : ℕ) → n < 4096 → bit_at (fresh_page g p) n ≡ cond (outside g (4096 * p + n)) 1 0
  unfolding fresh_page
  fresh-bit n h =
      ⊎_elim (λ w. rw w.1 (out (λ x y. omega (arith, before-data n w.0))))
      (⊎_elim (λ w. rw w.2 (out (λ x y. omega (arith, past-data n w.1))))
      (λ w. let q = in-the-data n h w.0 w.1 in rw w.2 (run_in (full 512) lo 0 (lit< tt) (hi - lo) n r q.0 (omega (arith, q.0, q.1))))) (side g (4096 * p + n))
    where
      r : lo + (hi - lo) ≤ 8 * length (full 512)
      r = omega (arith, from_low, to_low)

      out : (lo ≤ n → n < lo + (hi - lo) → ⊥) → bit_at (set_run (full 512) lo (hi - lo) 0) n ≡ 1
      out o = run_out (full 512) lo 0 (lit< tt) (hi - lo) n r o ∙ full-bit 512 n h

  -- a page of zeros with the bits before the data, then those past it, set
  pub fresh-built : {t u : List ℕ} → t ≡ set_run (replicate 512 0) 0 (data_from g p) 1 → u ≡ set_run t (data_to g p) (4096 - data_to g p) 1 → u ≡ fresh_page g p
  fresh-built {t} {u} e f = f ∙ ap (λ (x : List ℕ). set_run x hi (4096 - hi) 1) e ∙ page
    where
      z : List ℕ
      z = replicate 512 0

      low : List ℕ
      low = set_run z 0 lo 1

      built : List ℕ
      built = set_run low hi (4096 - hi) 1

      low-length : length low ≡ 512
      low-length = set_run-length z 0 lo 1

      r : hi + (4096 - hi) ≤ 8 * length low
      r = omega (arith, to_low, low-length)

      r' : 0 + lo ≤ 8 * length z
      r' = omega (arith, from_low)

      below : (n : ℕ) → n < hi → bit_at built n ≡ bit_at low n
      below n o = run_out low hi 1 (lit< tt) (4096 - hi) n r (λ x y. omega arith)

      above : (n : ℕ) → n < 4096 → hi ≤ n → bit_at built n ≡ 1
      above n h o = run_in low hi 1 (lit< tt) (4096 - hi) n r o (omega arith)

      dark : (n : ℕ) → n < 4096 → n < lo → Dec (n < hi) → bit_at built n ≡ 1
      dark n h l (yes o) = below n o ∙ run_in z 0 1 (lit< tt) lo n r' (omega arith) (omega arith)
      dark n h l (no o) = above n h (omega arith)

      bit : (n : ℕ) → n < 4096 → bit_at built n ≡ cond (outside g (4096 * p + n)) 1 0
      bit n h =
          ⊎_elim (λ w. rw w.1 (dark n h (before-data n w.0) (dec_lt n hi)))
          (⊎_elim (λ w. rw w.2 (above n h (past-data n w.1)))
          (λ w. let q = in-the-data n h w.0 w.1 in rw w.2 (below n q.1 ∙ run_out z 0 1 (lit< tt) lo n r' (λ x y. omega (arith, q.0)) ∙ clear-bit 512 n))) (side g (4096 * p + n))

      page : built ≡ fresh_page g p
      page =
          pages-ext built (fresh_page g p) (set_run-length low hi (4096 - hi) 1 ∙ low-length ∙ sym (page-length g p)) (set_run-bytes low hi (4096 - hi) 1 (lit< tt) (set_run-bytes z 0 lo 1 (lit< tt) (copies_at 512 0 (lit< tt)))) (fresh-bytes g p)
          (λ n h. let k : n < 4096 = omega (arith, set_run-length low hi (4096 - hi) 1, low-length) in bit n k ∙ sym (fresh-bit n k))
