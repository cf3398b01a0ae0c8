-- Which sectors and pages the puts and removes since the latest sync or mount marked: what is not marked may hold one value only. Assumes nothing.
use Rattle.std.specs.Prelude.{Some, None}
use mathlib.Core.Path.{◌≡◌, refl, sym, ◌∙◌}
use mathlib.Core.Bool.{Bool, true, false, ◌&&◌, ◌||◌}
use mathlib.Core.List.Memᴰ
use mathlib.Core.List.{List, [], ◌∷◌, Memᴰ}
use mathlib.Core.Logic.{◌⊎◌, inl, inr}
use Prim.Native.Nat.{ℕ, zero, suc, ◌+◌, ◌/◌, ◌≤◌, ◌<◌}
use native.Mathlib.Omega.{arith}
use borrow.Author.Tests.{eqb-false, eq-eqb, le-leb, lt-ltb}
use lib.Dec.{leb, ltb, eqb}
use Rattle.words.proofs.BoolLaws.{falsum, join}
use Rattle.sectors.specs.Sectors.{sec}
use Rattle.counts.specs.declared.Geo.{Geo}
use Rattle.counts.specs.Geometry.{g_p, g_dir, pair_low, pair_high}
use Rattle.counts.proofs.TableLaws.{past_index}
use Rattle.entries.specs.declared.Version.{Version}
use Rattle.directory.specs.Directory.{spot_of}
use Rattle.apages.specs.Index.{index_in}
use Rattle.card.specs.Files.{run_at}
use Rattle.session.specs.declared.Opened.{Opened}
use Rattle.session.specs.Session.{Session}
use Rattle.session.specs.Views.{present_table}
use Rattle.session.proofs.FitLaws.{present-live}
use Rattle.store.specs.Edit.{edit_work}
use Rattle.promises_answers.specs.PlainList.{Item}
use Rattle.promises_crash.specs.History.{Pending, newest, settled, all_written}
use Rattle.promises_answers.proofs.Ready.{old_run, Ready, old-room}
use Rattle.promises_answers.proofs.Change.{left_alone, pair-kept, index_kept}
use Rattle.promises_crash.proofs.Play.{mem-cases, mem-one, top-mem}
use Rattle.promises_crash.proofs.State.{Live}
use Rattle.promises_crash.specs.Fewer.{Marks, hit_by, page_has, bits_in}

-- all that a sector may hold at a cut is one value
abbrev pub OneValue : List (List ℕ) → Type 0
OneValue l = (x y : List ℕ) → Memᴰ x l → Memᴰ y l → x ≡ y

-- what is not marked: a directory or data sector, both pages of a pair, and the index where no pair is
pub record Unmarked (s : Opened) (p : Pending) (m : Marks) : Type 0 where
  pub sector : (i : ℕ) → g_dir s.geo ≤ i → m.sectors i ≡ false → OneValue (p i)
  pub page : (q : ℕ) → q < g_p s.geo → m.pages q ≡ false → OneValue (p (pair_low s.geo q)) × OneValue (p (pair_high s.geo q))
  pub index : ((q : ℕ) → q < g_p s.geo → m.pages q ≡ false) → OneValue (p (s.geo.t + 1))

abbrev pub Touched : Session → Pending → Marks → Type 0
Touched None p m = Unit
Touched (Some s) p m = Unmarked s p m

-- ---- nothing is pending

pub one-settled : (card : List ℕ) (i : ℕ) → OneValue (settled card i)
unfolding settled
one-settled card i x y a b = let e = mem-one a in let f = mem-one b in cc

pub one-newest : (l : List (List ℕ)) → OneValue (newest l)
unfolding newest
one-newest [] x y a b = absurd (Memᴰ.not-nil a)
one-newest (z ∷ l) x y a b = let e = mem-one a in let f = mem-one b in cc

pub touched_none : (o : Session) (p : Pending) (m : Marks) → ((i : ℕ) → OneValue (p i)) → Touched o p m
touched_none None p m h = tt
touched_none (Some s) p m h = record { sector = λ i lo z. h i; page = λ q l z. (h _, h _); index = λ z. h _ }

-- ---- one change marks its directory sector and its run, and the pages of its run and of the earlier one

-- neither of two tests
pub neither : (a b : Bool) → (a || b) ≡ false → (a ≡ false) × (b ≡ false)
neither true b h = falsum (sym h)
neither false b h = (refl, h)

not-both : (a b : Bool) → (a && b) ≡ false → ¬ ((a ≡ true) × (b ≡ true))
not-both a b h (x, y) = falsum (sym h ∙ join a b x y)

module _ (s : Opened) (j a k : ℕ) (v : Version) (card work n d : List ℕ) (p : Pending) (m : List Item) (R : Ready s j a k v work n d (sec work)) (V₀ : Live s card work p m) where
  abbrev g : Geo
  g = s.geo

  abbrev new_work : List ℕ
  new_work = edit_work s j v work n d

  -- a sector that it does not hit
  not-hit : (i : ℕ) → g_dir g ≤ i → hit_by s j (record { 0 = a }) k i ≡ false → sec new_work i ≡ sec work i
  unfolding hit_by
  not-hit i lo z =
      let (x, y) = neither (eqb i (spot_of g j).sector) (leb a i && ltb i (a + k)) z in
      left_alone s j a k v work n d (sec work) R i (eqb-false i (spot_of g j).sector x) (λ e. omega (arith, e, past_index g)) (λ q. omega (arith, q.1))
      (λ q. not-both (leb a i) (ltb i (a + k)) y (le-leb a i q.0, lt-ltb i (a + k) q.1))

  -- a page that has none of a run
  not_in : (b l q : ℕ) → page_has b l q ≡ false → ¬ ((0 < l) × (q ≡ b / 4096))
  unfolding page_has
  not_in b l q z (x, y) = not-both (ltb 0 l) (eqb q (b / 4096)) z (lt-ltb 0 l x, eq-eqb q (b / 4096) y)

  -- the earlier sectors are those of the present view
  earlier : run_at g (present_table s (sec work)) work j ≡ old_run s j work
  unfolding run_at
  earlier = rw (present-live s (sec work) R.live)

  no-bit : (q : ℕ) → bits_in s work j (record { 0 = a }) k q ≡ false → ¬ ((0 < k) × (q ≡ a / 4096)) × ¬ ((0 < (old_run s j work).sectors) × (q ≡ (old_run s j work).start.0 / 4096))
  unfolding bits_in
  no-bit q z = let (x, y) = neither _ _ (rw earlier at z) in (not_in a k q x, not_in (old_run s j work).start.0 (old_run s j work).sectors q y)

  -- a run inside the card has its page
  none_of : (b l : ℕ) → b + l ≤ g.s → ((q : ℕ) → q < g_p g → ¬ ((0 < l) × (q ≡ b / 4096))) → l ≡ 0
  unfolding g_p
  none_of b zero f h = refl
  none_of b (suc l) f h = absurd (h (b / 4096) (omega arith) (omega arith, refl))

  -- and one more value of it, the same
  one_more : (i : ℕ) → sec new_work i ≡ sec work i → OneValue (p i) → OneValue (all_written new_work p i)
  unfolding all_written
  one_more i e o x y u w = go (mem-cases u) (mem-cases w)
    where
      here : Memᴰ (sec new_work i) (p i)
      here = rw e (top-mem (p i) (V₀.top i))

      go : (x ≡ sec new_work i) ⊎ Memᴰ x (p i) → (y ≡ sec new_work i) ⊎ Memᴰ y (p i) → x ≡ y
      go (inl f) (inl g) = cc
      go (inl f) (inr g) = f ∙ o (sec new_work i) y here g
      go (inr f) (inl g) = o x (sec new_work i) f here ∙ sym g
      go (inr f) (inr g) = o x y f g

  pub touched-more : (M : Marks) → Unmarked s p M
      → Unmarked s (all_written new_work p) (record { sectors = λ i. hit_by s j (record { 0 = a }) k i || M.sectors i; pages = λ q. bits_in s work j (record { 0 = a }) k q || M.pages q })
  touched-more M T =
      record {
        sector = λ i lo z. let (x, y) = neither (hit_by s j (record { 0 = a }) k i) (M.sectors i) z in one_more i (not-hit i lo x) (T.sector i lo y);
        page = λ q l z.
            let (x, y) = neither (bits_in s work j (record { 0 = a }) k q) (M.pages q) z in
            let (u, w) = no-bit q x in
            let P = pair-kept s j a k v work n d (sec work) R q l u w in
            let (e, f) = T.page q l y in (one_more _ P.first e, one_more _ P.second f);
        index = λ z. one_more (g.t + 1) (index_stays (λ q l. (neither (bits_in s work j (record { 0 = a }) k q) (M.pages q) (z q l)).0))
            (T.index (λ q l. (neither (bits_in s work j (record { 0 = a }) k q) (M.pages q) (z q l)).1));
      }
    where
      index_stays : ((q : ℕ) → q < g_p g → bits_in s work j (record { 0 = a }) k q ≡ false) → sec new_work (g.t + 1) ≡ sec work (g.t + 1)
      index_stays z =
          unfold index_in in
          index_kept s j a k v work n d (sec work) R (none_of a k R.fits (λ q l. (no-bit q (z q l)).0))
          (none_of _ _ (old-room s j a k v work n d (sec work) R) (λ q l. (no-bit q (z q l)).1))
