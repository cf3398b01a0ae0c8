-- The two figures of free in a session that fits: what they count, put's 8, and that nothing waits where both views are one. Assumes nothing.
use Rattle.std.specs.Prelude.{Some}
use mathlib.Core.Path.{◌≡◌, refl, sym, ap, ◌∙◌}
use mathlib.Core.Bool.{true, false, not, ◌&&◌}
use mathlib.Core.List.{List}
use mathlib.Core.Logic.{◌≢◌, ◌↔◌, inl, inr}
use Prim.Native.Nat.{ℕ, zero, suc, ◌+◌, ◌-◌, ◌*◌, ◌≤◌, ◌<◌}
use native.Mathlib.Omega.{arith}
use borrow.Author.Tests.{ne_eqb}
use lib.Dec.{eqb}
use lib.ListN.{length}
use Rattle.words.proofs.BoolLaws.{never, falsum}
use Rattle.words_sums.specs.Sums.{bit, total}
use Rattle.words_sums.proofs.SumLaws.{total-same, total-stop}
use Rattle.sectors.specs.Sectors.{sec}
use Rattle.counts.specs.Geometry.{g_p, table_of}
use Rattle.counts.proofs.GeoLaws.{Limits, limits}
use Rattle.entries.specs.Entries.{sectors_for}
use Rattle.apages.specs.Bits.{bit_at}
use Rattle.apages.proofs.BitLaws.{bit-lt}
use Rattle.apages.specs.Index.{page_in}
use Rattle.apages.specs.Free.{free_in, waiting_in}
use Rattle.apages.proofs.FreeLaws.{free_at, waits_at, free-total, waiting-total, none_free, free-none, free-run, waiting-self}
use Rattle.card.specs.Means.{GoodName}
use Rattle.card.proofs.BitmapLaws.{InData}
use Rattle.card.proofs.SoundLaws.{View, view-inv}
use Rattle.card.proofs.SpaceLaws.{clear-bit}
use Rattle.session.specs.declared.Opened.{Opened}
use Rattle.session.specs.Views.{present_table, cut_table, present_page, cut_page}
use Rattle.session.specs.Fits.{fits}
use Rattle.session.proofs.FitLaws.{Fit, fit-inv, fit-table, present-worn}
use Rattle.session.proofs.FitMeansProved.{fits-mean}
use Rattle.store.specs.Edit.{put}
use Rattle.store.proofs.RoomLaws.{present-wide, alike}
use Rattle.promises_answers.specs.Numbers.{Gives, NoEntry, NoRoom, put_rows}
use Rattle.promises_answers.proofs.Numbers.NumbersProved.{numbers}
use Rattle.promises_crash.specs.Free.{clear, how_many}

-- ---- one sector, as the statement tests it

clear_both : (x y : ℕ) → bit (eqb x 0 && eqb y 0) ≡ 1 - (x + y)
clear_both zero zero = refl
clear_both zero (suc y) = rw (ne_eqb (suc y) 0 (λ e. absurd (omega arith))) (omega arith)
clear_both (suc x) y = rw (ne_eqb (suc x) 0 (λ e. absurd (omega arith))) (omega arith)

clear_first : (x y : ℕ) → y < 2 → bit (eqb x 0 && not (eqb y 0)) ≡ (1 - x) * y
clear_first zero zero h = refl
clear_first zero (suc y) h = rw (ne_eqb (suc y) 0 (λ e. absurd (omega arith))) (omega arith)
clear_first (suc x) y h = let z : 1 - suc x ≡ 0 = omega arith in rw (z, ne_eqb (suc x) 0 (λ e. absurd (omega arith))) (omega arith)

-- a set bit of the first map counts in neither figure
set-none : (p q : List ℕ) (n : ℕ) → bit_at p n ≢ 0 → (free_at p q n ≡ 0) × (waits_at p q n ≡ 0)
unfolding free_at waits_at
set-none p q n h = go (bit_at p n) (bit_at q n) h
  where
    go : (x y : ℕ) → x ≢ 0 → (1 - (x + y) ≡ 0) × ((1 - x) * y ≡ 0)
    go zero y o = absurd (o refl)
    go (suc x) y o = let z : 1 - suc x ≡ 0 = omega arith in (omega arith, rw z (omega arith))

module _ (s : Opened) (work : List ℕ) (fit : fits s work ≡ true) where
  F : Fit s work
  F = fit-inv s work fit

  L : Limits s.geo
  L = limits s.geo F.shape

  abbrev p : List ℕ
  p = present_page s (sec work)

  abbrev q : List ℕ
  q = cut_page s (sec work)

  U : View s.geo s.c.0 (present_table s (sec work)) (sec work)
  U = view-inv s.geo s.c.0 (present_table s (sec work)) (sec work) F.pres_view

  -- a sector clear in the present view is one of the data
  in-the-data : (n : ℕ) → n < 4096 * g_p s.geo → bit_at p n ≡ 0 → InData s.geo n
  in-the-data n l z = (clear-bit s.geo s.c.0 (present_table s (sec work)) (sec work) F.shape U (unfold present_page in present-wide s work F) n l (unfold present_page in z)).0

  -- from S up nothing counts
  past-s : (n : ℕ) → s.geo.s ≤ n → n < 4096 * g_p s.geo → bit_at p n ≢ 0
  past-s n lo hi z = omega (arith, (in-the-data n hi z).1)

  -- so a sum over the map is one over S
  to-s : (f : ℕ → ℕ) → ((n : ℕ) → bit_at p n ≢ 0 → f n ≡ 0) → total f (8 * length p) ≡ total f s.geo.s
  to-s f h =
      let e : 8 * length p ≡ s.geo.s + (4096 * g_p s.geo - s.geo.s) = omega (arith, present-wide s work F, L.covered) in
      ap (total f) e ∙ total-stop f s.geo.s (4096 * g_p s.geo - s.geo.s) (λ i lo hi. h i (past-s i lo (omega (arith, L.covered))))

  pub free-count : free_in p q ≡ how_many (λ n. clear p n && clear q n) s.geo.s
  free-count =
      free-total p q (alike s work F) ∙ to-s (free_at p q) (λ n h. (set-none p q n h).0)
      ∙ total-same (free_at p q) (λ n. bit (clear p n && clear q n)) s.geo.s (λ n l. (unfold free_at in sym (clear_both (bit_at p n) (bit_at q n))))

  pub waiting-count : waiting_in p q ≡ how_many (λ n. clear p n && not (clear q n)) s.geo.s
  waiting-count =
      waiting-total p q (alike s work F) ∙ to-s (waits_at p q) (λ n h. (set-none p q n h).1)
      ∙ total-same (waits_at p q) (λ n. bit (clear p n && not (clear q n))) s.geo.s (λ n l. (unfold waits_at in sym (clear_first (bit_at p n) (bit_at q n) (bit-lt q n))))

  -- ---- put's 8

  -- none of put's earlier numbers is due: 8 exactly where no run of the k sectors is found
  module _ (n d : List ℕ) (live : s.worn ≡ false) (good : GoodName n) (entry : ¬ NoEntry s work n) where
    no_run : (put (Some s) work n d).answer.number ≡ 8 → NoRoom s work (sectors_for (length d))
    no_run e = go ((numbers.of_put (Some s) work n d 8).0 e)
      where
        go : Gives (put_rows (Some s) work n d) 8 → NoRoom s work (sectors_for (length d))
        go (inl r) = absurd (omega (arith, r.1))
        go (inr (a, inl r)) = absurd (omega (arith, r.1))
        go (inr (a, inr (b, inl r))) = absurd (omega (arith, r.1))
        go (inr (a, inr (b, inr (c, inl r)))) = absurd (omega (arith, r.1))
        go (inr (a, inr (b, inr (c, inr (e, inl r))))) = absurd (omega (arith, r.1))
        go (inr (a, inr (b, inr (c, inr (e, inr (f, inl r)))))) = r.0
        go (inr (a, inr (b, inr (c, inr (e, inr (f, inr r)))))) = absurd (omega (arith, r.1))

    gives-8 : NoRoom s work (sectors_for (length d)) → (put (Some s) work n d).answer.number ≡ 8
    gives-8 r =
        (numbers.of_put (Some s) work n d 8).1
        (inr (λ e. never (cc), inr (λ u. u ((fits-mean s work).0 fit), inr (λ w. falsum (sym live ∙ w), inr (λ b. b good, inr (entry, inl (r, refl)))))))

    pub full-8 : 1 ≤ length d → length d ≤ 512 → ((put (Some s) work n d).answer.number ≡ 8) ↔ (free_in p q ≡ 0)
    full-8 lo hi = (λ e. none_left (rw one at (no_run e)), λ z. gives-8 (rw one (no-sector z)))
      where
        one : sectors_for (length d) ≡ 1
        one = unfold sectors_for in omega arith

        none_left : NoRoom s work 1 → free_in p q ≡ 0
        none_left r =
            free-none p q (alike s work F)
            (λ i l b. let w = in-the-data i (omega (arith, present-wide s work F)) b.0 in
            r.1 i w.0 (omega (arith, w.1)) (omega arith) (λ j x y. let e : j ≡ i = omega arith in rw e b))

        no-sector : free_in p q ≡ 0 → NoRoom s work 1
        no-sector z = (omega arith, λ a x y page b. none_free p q (alike s work F) z a (omega (arith, present-wide s work F, L.covered)) (b a (omega arith) (omega arith)))

    pub short-8 : free_in p q < sectors_for (length d) → (put (Some s) work n d).answer.number ≡ 8
    short-8 l =
        gives-8
        (omega arith, λ a x y page b. omega (arith, free-run p q (alike s work F) a (sectors_for (length d)) (omega (arith, present-wide s work F, L.covered)) b))

  -- ---- views that are one

  pub worn-none : s.worn ≡ true → waiting_in p q ≡ 0
  unfolding present_page cut_page cut_table
  worn-none w = rw (present-worn s (sec work) w (fit-table s.geo work F.shape F.sized)) (waiting-self (page_in s.geo (table_of s.geo (sec work)) (sec work)))
