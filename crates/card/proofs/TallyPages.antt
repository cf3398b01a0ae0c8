-- The tests of the bitmap's rule page by page, as code makes them on the pages of an image. Assumes nothing.
use mathlib.Core.Path.{◌≡◌, refl, sym, ap, ◌∙◌}
use mathlib.Core.Bool.{Bool, true, ◌&&◌}
use mathlib.Core.List.{List}
use Prim.Native.Nat.{ℕ, zero, suc, ◌+◌, ◌-◌, ◌*◌, ◌/◌, ◌%◌, ◌≤◌, ◌<◌}
use native.Mathlib.Decide.{dec_lt}
use native.Mathlib.Omega.{arith}
use lib.Dec.{eqb}
use lib.ListN.{length, take, drop, get_or, length-take, get_or-eq_default}
use lib.Seq.{get_or-take, get_or-drop}
use Rattle.words.specs.Lists.{part, every, pairwise}
use Rattle.sectors.specs.Sectors.{sec}
use Rattle.counts.specs.declared.Geo.{Geo}
use Rattle.counts.specs.Geometry.{g_p, g_f}
use Rattle.counts.specs.Inner.{LaidOut}
use Rattle.counts.proofs.TableLaws.{pages-cover, dir-is}
use Rattle.apages.specs.Bits.{bit_at, clear_bits}
use Rattle.apages.specs.Ones.{set_bits, all_set}
use Rattle.apages.proofs.OnesLaws.{set-clear}
use Rattle.apages.specs.Index.{group_of, index_in, shown_page, page_at, page_in}
use Rattle.apages.proofs.MapLaws.{Wide, map-length, map-bytes, map-bit}
use Rattle.apages.specs.Inner.{PairIn}
use Rattle.apages.proofs.PageSearch.{pages-wide}
use Rattle.apages.specs.Runs.{page_ok}
use Rattle.card.specs.Files.{files_of, cover, sectors_of}
use Rattle.card.specs.Inner.{RunsOk}
use Rattle.card.proofs.ViewLaws.{lent, page-lent}
use Rattle.card.specs.Tally.{held_by, parted_in, fixed_bits}
use Rattle.card.proofs.TallyLaws.{tally-here}

-- the same bits, at another place
all_same : (m m' : List ℕ) (n a b : ℕ) → ((i : ℕ) → i < n → bit_at m (a + i) ≡ bit_at m' (b + i)) → all_set m a n ≡ all_set m' b n
unfolding all_set
all_same m m' zero a b h = refl
all_same m m' (suc n) a b h =
    let x : bit_at m a ≡ bit_at m' b =
    ap (λ (i : ℕ). bit_at m i) (let e : a ≡ a + 0 = omega arith in e) ∙ h 0 (omega arith) ∙ ap (λ (i : ℕ). bit_at m' i) (let e : b + 0 ≡ b = omega arith in e) in
    rw (x, all_same m m' n (suc a) (suc b) (λ i l. next i (h (suc i) (omega arith))))
  where
    next : (i : ℕ) → bit_at m (a + suc i) ≡ bit_at m' (b + suc i) → bit_at m (suc a + i) ≡ bit_at m' (suc b + i)
    next i q =
        ap (λ (j : ℕ). bit_at m j) (let e : suc a + i ≡ a + suc i = omega arith in e) ∙ q ∙ ap (λ (j : ℕ). bit_at m' j) (let e : b + suc i ≡ suc b + i = omega arith in e)

-- no bits at all
pub held_none : (m : List ℕ) (a : ℕ) {n : ℕ} → n ≡ 0 → true ≡ all_set m a n
unfolding all_set
held_none m a e = rw e

-- a sector of an image of bytes is made of bytes
sec-bytes : (img : List ℕ) → ((i : ℕ) → get_or img i 0 < 256) → (n j : ℕ) → get_or (sec img n) j 0 < 256
unfolding sec part
sec-bytes img h n j = go (dec_lt j 512)
  where
    go : Dec (j < 512) → get_or (take 512 (drop (512 * n) img)) j 0 < 256
    go (yes a) = rw (get_or-take 512 (drop (512 * n) img) j 0 a, get_or-drop (512 * n) img j 0) (h (512 * n + j))
    go (no o) =
        let e : get_or (take 512 (drop (512 * n) img)) j 0 ≡ 0 = get_or-eq_default (take 512 (drop (512 * n) img)) 0 (let k : length (take 512 (drop (512 * n) img)) ≤ 512 = simp length-take (omega arith) in omega arith) in
        omega arith

module _ (g : Geo) (tab img : List ℕ) (laid : LaidOut g img) (paired : PairIn g img) where
  wide : Wide g tab (sec img)
  wide = pages-wide g img laid paired tab

  pub map-long : 8 * length (page_in g tab (sec img)) ≡ 4096 * g_p g
  map-long = omega (arith, map-length g tab (sec img) wide)

  -- the bits of a run are those of its own page
  pub held-lent : (a n : ℕ) {q : ℕ} {b : Bool} → a / 4096 < g_p g → a % 4096 + n ≤ 4096 → q ≡ shown_page tab (group_of (index_in g (sec img)) (a / 4096))
      → b ≡ all_set (lent img q) (a % 4096) n → b ≡ all_set (page_in g tab (sec img)) a n
  held-lent a n l h e f =
      f ∙ ap (λ (p : List ℕ). all_set p (a % 4096) n) (page-lent g tab img (a / 4096) e)
      ∙ sym (all_same (page_in g tab (sec img)) (page_at g tab (sec img) (a / 4096)) n a (a % 4096)
      (λ i k. ap (λ (j : ℕ). bit_at (page_in g tab (sec img)) j) (let z : a + i ≡ 4096 * (a / 4096) + (a % 4096 + i) = omega arith in z)
      ∙ map-bit g tab (sec img) wide (a / 4096) (a % 4096 + i) l (omega arith)))

  pub clear-fits : {c n : ℕ} → c ≡ clear_bits (page_in g tab (sec img)) → n ≡ g_p g → c ≤ 4096 * n
  clear-fits e f = omega (arith, set-clear (page_in g tab (sec img)), map-long)

  -- the tests as code makes them, over all pages; the ones are the bits that are not clear
  pub tally-pages : ((i : ℕ) → get_or img i 0 < 256) → (es : List (List ℕ)) → RunsOk g tab es → {a b c d : Bool} {f n clear k s : ℕ} → f ≡ g_f g → f ≤ 610 → n ≡ g_p g
      → a ≡ all_set (page_in g tab (sec img)) 0 f → b ≡ all_set (page_in g tab (sec img)) g.s (4096 * n - g.s)
      → c ≡ every (held_by tab (page_in g tab (sec img))) es → d ≡ pairwise (parted_in tab) es
      → clear ≡ clear_bits (page_in g tab (sec img)) → k ≡ fixed_bits g (4096 * n) → s ≡ sectors_of (files_of tab es)
      → (a && b && c && d && eqb (4096 * n - clear) (k + s)) ≡ page_ok g (cover (files_of tab es)) (page_in g tab (sec img))
  tally-pages bytes es runs {a} {b} {c} {d} {f} {n} {clear} {k} {s} first small pairs e₁ e₂ e₃ e₄ e₅ e₆ e₇ =
      let m = page_in g tab (sec img) in
      let long : 4096 * n ≡ 8 * length m = omega (arith, map-long) in
      let ones : 4096 * n - clear ≡ set_bits m = omega (arith, set-clear m, map-long) in
      tally-here g tab es m (omega (arith, map-long, dir-is g, laid.past)) (omega (arith, map-long, pages-cover g))
      (map-bytes g tab (sec img) (λ p l. unfold page_at in sec-bytes img bytes (shown_page tab (group_of (index_in g (sec img)) p)))) runs
      (e₁ ∙ ap (λ (x : ℕ). all_set m 0 x) first) (e₂ ∙ ap (λ (x : ℕ). all_set m g.s (x - g.s)) long) e₃ e₄ ones (e₆ ∙ ap (fixed_bits g) long) e₇

-- the bits from S up lie in the last page
pub last-page : (g : Geo) {n : ℕ} → n ≡ g_p g → g.s % 4096 + (4096 * n - g.s) ≤ 4096
unfolding g_p
last-page g e = omega (arith, e)
