-- The bitmap's rule after one change: a run set, then a run cleared. Assumes nothing.
use mathlib.Core.Path.{◌≡◌, refl, ◌∙◌}
use mathlib.Core.Bool.{true}
use mathlib.Core.List.{List}
use Prim.Native.Nat.{ℕ, ◌+◌, ◌*◌, ◌≤◌, ◌<◌}
use native.Mathlib.Omega.{arith}
use lib.ListN.{length, take, drop}
use Rattle.words_sums.specs.Sums.{in_run}
use Rattle.words.specs.Lists.{every}
use Rattle.words.proofs.BoolLaws.{both}
use Rattle.counts.specs.declared.Geo.{Geo}
use Rattle.counts.specs.Geometry.{g_p, geo_ok}
use Rattle.counts.proofs.GeoLaws.{Limits, limits}
use Rattle.entries.specs.declared.Version.{Version}
use Rattle.entries.specs.declared.Version.TheVariants.{Absent, Present}
use Rattle.apages.specs.Bits.{bit_at, bits_of, set_run}
use Rattle.apages.proofs.BitLaws.{bit-lt}
use Rattle.apages.proofs.RunLaws.{set_run-length, set-run, clear-run}
use Rattle.apages.specs.Runs.{wanted, bits_ok, is_full, bytes_to_s, page_ok}
use Rattle.card.specs.declared.Line.{Line}
use Rattle.card.proofs.BitmapLaws.{InData, in-data, wanted-in, wanted-out, page-bits, page-ok, run-rest, bytes_past}
use Rattle.card.proofs.PieceLaws.{in-run, out-run, count-run}
use Rattle.card.specs.Files.{cons_file, holds_at, cover, run_of}

-- the sectors that a version holds, and those of the files behind it
pub cover-version : (p : List ℕ) (v : Version) (fs : List Line) (i : ℕ) → cover (cons_file p v fs) i ≡ holds_at (run_of v) i + cover fs i
unfolding cons_file cover run_of
cover-version p Absent fs i = omega (arith, count-run (run_of Absent) i, out-run 0 0 i (λ q. omega (arith, q.1)))
cover-version p (Present r) fs i = refl

module _ (g : Geo) (ok : geo_ok g ≡ true) (count count' : ℕ → ℕ) (p : List ℕ) (wide : length p ≡ 512 * g_p g) (was : page_ok g count p ≡ true) (a k b m : ℕ)
    (sum : (n : ℕ) → count' n + in_run b m n ≡ count n + in_run a k n)
    (fits : a + k ≤ g.s) (roomy : b + m ≤ g.s)
    (new_in : (n : ℕ) → a ≤ n → n < a + k → InData g n) (old_in : (n : ℕ) → b ≤ n → n < b + m → InData g n)
    (held : (n : ℕ) → in_run b m n ≤ count n)
    (free : (n : ℕ) → a ≤ n → n < a + k → bit_at p n ≡ 0) where
  L : Limits g
  L = limits g ok

  one : List ℕ
  one = set_run p a k 1

  one-length : length one ≡ 512 * g_p g
  unfolding one
  one-length = set_run-length p a k 1 ∙ wide

  added : (n : ℕ) → bit_at one n ≡ bit_at p n + in_run a k n
  unfolding one
  added = set-run p a k (omega (arith, wide, L.covered)) free

  before : (n : ℕ) → n < 4096 * g_p g → bit_at p n ≡ wanted g count n
  before n l = page-bits g count p (omega (arith, wide, L.covered)) was n (omega (arith, wide))

  set_there : (n : ℕ) → b ≤ n → n < b + m → bit_at one n ≡ 1
  set_there n lo hi =
      let q = old_in n lo hi in
      omega
      (arith, before n (omega (arith, q.1, L.covered)), wanted-in g count n q, held n, in-run b m n lo hi, added n, bit-lt one n)

  taken : (n : ℕ) → bit_at (set_run one b m 0) n + in_run b m n ≡ bit_at one n
  taken = clear-run one b m (omega (arith, one-length, roomy, L.covered)) set_there

  as_wanted : (n : ℕ) → n < 4096 * g_p g → bit_at (set_run one b m 0) n ≡ wanted g count' n
  as_wanted n l = go (in-data g n)
    where
      go : Dec (InData g n) → bit_at (set_run one b m 0) n ≡ wanted g count' n
      go (yes q) = omega (arith, taken n, added n, before n l, wanted-in g count n q, wanted-in g count' n q, sum n)
      go (no o) =
          omega
          (arith, taken n, added n, before n l, wanted-out g count n o, wanted-out g count' n o, out-run a k n (λ z. o (new_in n z.0 z.1)), out-run b m n (λ z. o (old_in n z.0 z.1)))

  few : 8 * bytes_to_s g ≤ 4096 * g_p g
  unfolding bytes_to_s
  few = omega (arith, L.covered)

  rest : every is_full (drop (bytes_to_s g) p) ≡ true
  unfolding page_ok
  rest = (both (bits_ok g count 0 (bits_of (take (bytes_to_s g) p))) _ was).1

  pub rule-kept : page_ok g count' (set_run (set_run p a k 1) b m 0) ≡ true
  unfolding one
  rule-kept =
      page-ok g count' (set_run one b m 0) (omega (arith, set_run-length one b m 0, one-length, L.covered)) (λ n l. as_wanted n (omega (arith, few)))
      (rw (run-rest one (bytes_to_s g) b m 0 (omega (arith, roomy, bytes_past g)), run-rest p (bytes_to_s g) a k 1 (omega (arith, fits, bytes_past g))) rest)
