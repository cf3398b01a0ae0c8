-- What the bitmap's test means: the shown apages have set exactly the bits of the paper, each sector in one file. Assumes nothing.
use mathlib.Core.Path.{◌≡◌, refl, sym, ap, ◌∙◌}
use mathlib.Core.Bool.{true}
use mathlib.Core.List.{List, [], ◌∷◌}
use mathlib.Core.Logic.{◌⊎◌, inl, inr, ⊎_elim, ◌↔◌}
use Prim.Native.Nat.{ℕ, zero, suc, ◌+◌, ◌-◌, ◌*◌, ◌/◌, ◌%◌, ◌≤◌, ◌<◌}
use native.Mathlib.Omega.{arith}
use native.Mathlib.Decide.{dec_lt}
use borrow.Author.Tests.{eqb-true}
use lib.ListN.{length, take, drop, get_or, length-drop, get_or-eq_default}
use lib.Seq.{get_or-drop}
use Rattle.words_sums.specs.Sums.{in_run}
use Rattle.words_sums.proofs.SumLaws.{Where, place}
use Rattle.words.specs.Lists.{every}
use Rattle.words.proofs.BoolLaws.{both}
use Rattle.words.proofs.EveryLaws.{every-at}
use Rattle.sectors.specs.Sectors.{sec}
use Rattle.counts.specs.declared.Geo.{Geo}
use Rattle.counts.specs.Geometry.{g_p, g_f, geo_ok}
use Rattle.counts.proofs.GeoLaws.{Limits, limits}
use Rattle.entries.specs.Entries.{shown}
use Rattle.directory.specs.Directory.{entries_of}
use Rattle.apages.specs.Bits.{bit_at, bits_of}
use Rattle.apages.proofs.BitLaws.{bit-lt}
use Rattle.apages.specs.Runs.{wanted, bits_ok, is_full, bytes_to_s, page_ok}
use Rattle.apages.specs.Index.{page_at, page_in}
use Rattle.apages.proofs.MapLaws.{Wide, map-length, map-byte, map-bit}
use Rattle.card.specs.Files.{files_of, cover, run_of}
use Rattle.card.proofs.PieceLaws.{holds-run}
use Rattle.card.proofs.CoverLaws.{cover-none, cover-entry}
use Rattle.card.proofs.BitmapLaws.{InData, in-data, wanted-in, wanted-out, page-bits}
use Rattle.card.proofs.PageIs.{bits-page}
use Rattle.card.specs.Means.{Each, Inside, Holds, Held, Taken, Bits, OneFile, Bytes}

-- ---- how often a sector is held

module _ (tab : List ℕ) where
  abbrev Some : List (List ℕ) → ℕ → Type 0
  Some es n = (i : ℕ) × (i < length es) × Holds tab (get_or es i []) n

  abbrev share : List ℕ → ℕ → ℕ
  share p n = in_run (run_of (shown tab p)).start.0 (run_of (shown tab p)).sectors n

  -- a sector of the first entry's file, or not
  share-is : (p : List ℕ) (n : ℕ) → (Holds tab p n × (share p n ≡ 1)) ⊎ ((¬ Holds tab p n) × (share p n ≡ 0))
  share-is p n = go (place (run_of (shown tab p)).start.0 (run_of (shown tab p)).sectors n)
    where
      in-run : Holds tab p n → ((run_of (shown tab p)).start.0 ≤ n) × (n < (run_of (shown tab p)).start.0 + (run_of (shown tab p)).sectors)
      in-run h = (holds-run (run_of (shown tab p)) n).0 h

      go : Where (run_of (shown tab p)).start.0 (run_of (shown tab p)).sectors n → (Holds tab p n × (share p n ≡ 1)) ⊎ ((¬ Holds tab p n) × (share p n ≡ 0))
      go (inl w) = inr (λ h. omega (arith, (in-run h).0, w.0), w.1)
      go (inr (inl w)) = inl ((holds-run (run_of (shown tab p)) n).1 (w.0, w.1), w.2)
      go (inr (inr w)) = inr (λ h. omega (arith, (in-run h).1, w.1), w.2)

  some_next : (p : List ℕ) (es : List (List ℕ)) (n : ℕ) → Some es n → Some (p ∷ es) n
  some_next p es n (i, l, q) = (suc i, omega arith, q)

  pub held-some : (es : List (List ℕ)) (n : ℕ) → 1 ≤ cover (files_of tab es) n → Some es n
  held-some [] n h = absurd (omega (arith, cover-none tab n))
  held-some (p ∷ es) n h =
      ⊎_elim (λ w. (0, omega arith, w.0)) (λ w. some_next p es n (held-some es n (omega (arith, cover-entry tab p es n, w.1)))) (share-is p n)

  pub some-held : (es : List (List ℕ)) (n i : ℕ) → i < length es → Holds tab (get_or es i []) n → 1 ≤ cover (files_of tab es) n
  some-held [] n i l h = absurd (omega arith)
  some-held (p ∷ es) n zero l h = ⊎_elim (λ w. omega (arith, cover-entry tab p es n, w.1)) (λ w. absurd (w.0 h)) (share-is p n)
  some-held (p ∷ es) n (suc i) l h = omega (arith, cover-entry tab p es n, some-held es n i (omega arith) h)

  pub once-one : (es : List (List ℕ)) (n : ℕ) → cover (files_of tab es) n ≤ 1 → (i j : ℕ) → i < length es → j < length es
      → Holds tab (get_or es i []) n → Holds tab (get_or es j []) n → i ≡ j
  once-one [] n h i j li lj x y = absurd (omega arith)
  once-one (p ∷ es) n h zero zero li lj x y = refl
  once-one (p ∷ es) n h zero (suc j) li lj x y =
      ⊎_elim (λ w. absurd (omega (arith, cover-entry tab p es n, w.1, some-held es n j (omega arith) y))) (λ w. absurd (w.0 x)) (share-is p n)
  once-one (p ∷ es) n h (suc i) zero li lj x y =
      ⊎_elim (λ w. absurd (omega (arith, cover-entry tab p es n, w.1, some-held es n i (omega arith) x))) (λ w. absurd (w.0 y)) (share-is p n)
  once-one (p ∷ es) n h (suc i) (suc j) li lj x y = ap suc (once-one es n (omega (arith, cover-entry tab p es n)) i j (omega arith) (omega arith) x y)

  abbrev Once : List (List ℕ) → ℕ → Type 0
  Once es n = (i j : ℕ) → i < length es → j < length es → Holds tab (get_or es i []) n → Holds tab (get_or es j []) n → i ≡ j

  once-next : (p : List ℕ) (es : List (List ℕ)) (n : ℕ) → Once (p ∷ es) n → Once es n
  once-next p es n q i j li lj x y = let e : suc i ≡ suc j = q (suc i) (suc j) (omega arith) (omega arith) x y in omega arith

  pub one-once : (es : List (List ℕ)) (n : ℕ) → Once es n → cover (files_of tab es) n ≤ 1
  one-once [] n q = omega (arith, cover-none tab n)
  one-once (p ∷ es) n q =
      ⊎_elim (λ w. go w (dec_lt 0 (cover (files_of tab es) n))) (λ w. omega (arith, cover-entry tab p es n, w.1, one-once es n (once-next p es n q))) (share-is p n)
    where
      go : Holds tab p n × (share p n ≡ 1) → Dec (0 < cover (files_of tab es) n) → cover (files_of tab (p ∷ es)) n ≤ 1
      go w (yes l) =
          let (i, k, h) = held-some es n (omega arith) in
          let e : 0 ≡ suc i = q 0 (suc i) (omega arith) (omega arith) w.0 h in absurd (omega arith)
      go w (no l) = omega (arith, cover-entry tab p es n, w.1)

-- ---- the bitmap

module _ (g : Geo) (tab img : List ℕ) (ok : geo_ok g ≡ true) (wide : Wide g tab (sec img)) (inside : Each g img (Inside g tab)) where
  abbrev es : List (List ℕ)
  es = entries_of g (sec img)

  abbrev page : List ℕ
  page = page_in g tab (sec img)

  abbrev held : ℕ → ℕ
  held = cover (files_of tab (entries_of g (sec img)))

  L : Limits g
  L = limits g ok

  long : length page ≡ 512 * g_p g
  long = map-length g tab (sec img) wide

  -- a file holds sectors of the data only
  holds-data : (n i : ℕ) → i < length es → Holds tab (get_or es i []) n → InData g n
  holds-data n i l h = inside i l n h

  bit_is : page_ok g held page ≡ true → (n : ℕ) → n < 4096 * g_p g → bit_at page n ≡ wanted g held n
  bit_is h n l = page-bits g held page (omega (arith, long, L.covered)) h n (omega (arith, long))

  -- the rule, sector by sector over the whole map
  abbrev InMap : Type 0
  InMap = (n : ℕ) → n < 4096 * g_p g → (bit_at page n ≡ 1) ↔ Taken g tab img n

  to_map : Bits g tab img → InMap
  to_map b n l =
      let e : 4096 * (n / 4096) + n % 4096 ≡ n = omega arith in
      rw (sym (map-bit g tab (sec img) wide (n / 4096) (n % 4096) (omega arith) (omega arith)), e) at (b (n / 4096) (n % 4096) (omega arith) (omega arith))

  from-map : InMap → Bits g tab img
  from-map b p i l k = rw (map-bit g tab (sec img) wide p i l k) at (b (4096 * p + i) (omega arith))

  pub page-says : page_ok g held page ≡ true → Bits g tab img × OneFile g tab img
  page-says h = (from-map (λ n l. (to n l (in-data g n), from n l (in-data g n))), λ n i j li lj x y. once-one tab es n (few n (holds-data n i li x)) i j li lj x y)
    where
      few : (n : ℕ) → InData g n → held n ≤ 1
      few n d = omega (arith, bit_is h n (omega (arith, d.1, L.covered)), wanted-in g held n d, bit-lt page n)

      to : (n : ℕ) → n < 4096 * g_p g → Dec (InData g n) → bit_at page n ≡ 1 → Taken g tab img n
      to n l (yes d) e = inr (inr (held-some tab es n (omega (arith, bit_is h n l, wanted-in g held n d))))
      to n l (no o) e = out (dec_lt n (g_f g))
        where
          out : Dec (n < g_f g) → Taken g tab img n
          out (yes a) = inl a
          out (no a) = past (dec_lt n g.s)
            where
              past : Dec (n < g.s) → Taken g tab img n
              past (yes b) = absurd (o (omega arith, b))
              past (no b) = inr (inl (omega arith))

      from : (n : ℕ) → n < 4096 * g_p g → Dec (InData g n) → Taken g tab img n → bit_at page n ≡ 1
      from n l (no o) w = bit_is h n l ∙ wanted-out g held n o
      from n l (yes d) (inl a) = absurd (omega (arith, d.0))
      from n l (yes d) (inr (inl a)) = absurd (omega (arith, d.1))
      from n l (yes d) (inr (inr w)) =
          omega (arith, bit_is h n l, wanted-in g held n d, few n d, some-held tab es n w.0 w.1 w.2)

  -- bytes past S are 255
  byte_small : page_ok g held page ≡ true → (j : ℕ) → g.s ≤ 8 * j → get_or page j 0 < 256
  unfolding page_ok bytes_to_s
  byte_small h j l = go (dec_lt j (length page))
    where
      full : every is_full (drop ((g.s + 7) / 8) page) ≡ true
      full = (both (bits_ok g held 0 (bits_of (take ((g.s + 7) / 8) page))) _ h).1

      go : Dec (j < length page) → get_or page j 0 < 256
      go (no o) = let e : get_or page j 0 ≡ 0 = get_or-eq_default page 0 (omega arith) in omega arith
      go (yes a) =
          let m : ℕ = (g.s + 7) / 8 in
          let e : (g.s + 7) / 8 + (j - (g.s + 7) / 8) ≡ j = omega arith in
          let x : get_or (drop ((g.s + 7) / 8) page) (j - (g.s + 7) / 8) 0 ≡ 255 =
          eqb-true _ 255 (every-at is_full (drop ((g.s + 7) / 8) page) (j - (g.s + 7) / 8) 0 (simp length-drop (omega arith)) full) in
          let y : get_or page j 0 ≡ 255 = sym (get_or-drop ((g.s + 7) / 8) page (j - (g.s + 7) / 8) 0 ∙ ap (λ (i : ℕ). get_or page i 0) e) ∙ x in
          omega arith

  pub page-bytes : page_ok g held page ≡ true → Bytes g tab img
  page-bytes h p j l k = go (dec_lt j 512)
    where
      go : Dec (j < 512) → get_or (page_at g tab (sec img) p) j 0 < 256
      go (yes a) = rw (map-byte g tab (sec img) wide p j l a) at (byte_small h (512 * p + j) (omega arith))
      go (no o) = let e : get_or (page_at g tab (sec img) p) j 0 ≡ 0 = get_or-eq_default (page_at g tab (sec img) p) 0 (omega (arith, wide p l)) in omega arith

  bytes-map : Bytes g tab img → (j : ℕ) → g.s ≤ 8 * j → get_or page j 0 < 256
  bytes-map b j l = go (dec_lt j (512 * g_p g))
    where
      go : Dec (j < 512 * g_p g) → get_or page j 0 < 256
      go (yes a) =
          let e : 512 * (j / 512) + j % 512 ≡ j = omega arith in
          rw (sym (map-byte g tab (sec img) wide (j / 512) (j % 512) (omega arith) (omega arith)), e) at (b (j / 512) (j % 512) (omega arith) (omega arith))
      go (no o) = let e : get_or page j 0 ≡ 0 = get_or-eq_default page 0 (omega (arith, long)) in omega arith

  pub says-page : Bits g tab img → OneFile g tab img → Bytes g tab img → page_ok g held page ≡ true
  says-page rule one bytes =
      bits-page g held page (omega (arith, long, L.covered)) (bytes-map bytes) (λ n l. go n (omega (arith, long)) (in-data g n))
    where
      bits : InMap
      bits = to_map rule

      go : (n : ℕ) → n < 4096 * g_p g → Dec (InData g n) → bit_at page n ≡ wanted g held n
      go n l (no o) = (bits n l).1 (out (dec_lt n (g_f g))) ∙ sym (wanted-out g held n o)
        where
          out : Dec (n < g_f g) → Taken g tab img n
          out (yes a) = inl a
          out (no a) = inr (past (dec_lt n g.s))
            where
              past : Dec (n < g.s) → (g.s ≤ n) ⊎ Held g tab img n
              past (yes b) = absurd (o (omega arith, b))
              past (no b) = inl (omega arith)
      go n l (yes d) = is (dec_lt 0 (held n)) ∙ sym (wanted-in g held n d)
        where
          clear : Taken g tab img n → 1 ≤ held n
          clear (inl a) = absurd (omega (arith, d.0))
          clear (inr (inl a)) = absurd (omega (arith, d.1))
          clear (inr (inr w)) = some-held tab es n w.0 w.1 w.2

          is : Dec (0 < held n) → bit_at page n ≡ held n
          is (yes a) =
              let b : bit_at page n ≡ 1 = (bits n l).1 (inr (inr (held-some tab es n (omega arith)))) in
              omega (arith, one-once tab es n (one n))
          is (no a) = zero? (dec_lt 0 (bit_at page n))
            where
              zero? : Dec (0 < bit_at page n) → bit_at page n ≡ held n
              zero? (yes b) = let e : bit_at page n ≡ 1 = omega (arith, bit-lt page n) in absurd (omega (arith, clear ((bits n l).0 e)))
              zero? (no b) = omega arith
