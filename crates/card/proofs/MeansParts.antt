-- What the tests of limits, names, stamps, tables, versions and entries mean: each holds exactly when its clauses do. Assumes nothing.
use mathlib.Core.Path.{◌≡◌, refl, ◌∙◌}
use mathlib.Core.Bool.{Bool, true, false, cond, ◌&&◌, ◌||◌}
use mathlib.Core.List.Memᴰ
use mathlib.Core.List.{List}
use mathlib.Core.Logic.{inl, inr, ⊎_elim, ◌≢◌, ◌↔◌}
use Prim.Native.Nat.{ℕ, ◌+◌, ◌-◌, ◌/◌, ◌%◌, ◌≤◌, ◌<◌}
use native.Mathlib.Omega.{arith}
use native.Mathlib.Decide.{dec_lt}
use borrow.Author.Tests.{leb-true, ltb-true, le-leb, lt-ltb, eqb-true, eq-eqb, eqb-false}
use lib.Dec.{leb, ltb, eqb}
use lib.ListN.{length, take, drop, get_or, get_or-eq_default}
use lib.Seq.{get_or-drop}
use Rattle.words.specs.Lists.{every, is_zero}
use Rattle.words.specs.Bytes.{word_at}
use Rattle.words.proofs.BoolLaws.{both, join, or-intro, or_cases}
use Rattle.words.proofs.EveryLaws.{every-at, every-all}
use Rattle.words.proofs.EveryMore.{zero-at}
use Rattle.counts.specs.declared.Geo.{Geo}
use Rattle.counts.specs.declared.Stamp.{Stamp}
use Rattle.counts.specs.Geometry.{g_n, g_f, geo_ok, in_page}
use Rattle.counts.proofs.GeoLaws.{limits, table-inv}
use Rattle.counts.specs.Stamps.{max_tx, word_max, stamp_of, alive, stamp_ok, dead_below, table_ok}
use Rattle.entries.specs.declared.Run.{Run}
use Rattle.entries.specs.declared.Version.{Version}
use Rattle.entries.specs.declared.Version.TheVariants.{Absent, Present}
use Rattle.entries.specs.Entries.{version_of, entry_rest, pieces_of, shown_bytes, shown, is_absent, good_byte, good_name, name_bytes, name_of, name_ok, sectors_for, run_ok, version_ok, entry_ok}
use Rattle.entries.proofs.PassLaws.{passes, passes-intro, good-name, run-text, run_is, shown-run}
use Rattle.directory.proofs.NameLaws.{is-present, present-is}
use Rattle.card.specs.Files.{FileHolds, run_of}
use Rattle.card.proofs.PieceLaws.{holds-run}
use Rattle.card.specs.Means.{InLimits, GoodBytes, GoodName, ZerosFrom, Ranged, DeadBelow, WellFormed, Named, Holds, Inside, OnePage}

-- ---- the limits

pub limits-mean : (g : Geo) → (geo_ok g ≡ true) ↔ InLimits g
unfolding geo_ok
limits-mean g = (to, from)
  where
    to : geo_ok g ≡ true → InLimits g
    to h =
        let L = limits g h in
        record { s_most = L.s_high; t_least = L.t_low; t_most = L.t_high; d_least = L.d_low; d_most = L.d_high; s_least = omega (arith, L.s_low) }

    from : InLimits g → geo_ok g ≡ true
    from L =
        join _ _
        (join _ _ (join _ _ (join _ _ (join _ _ (le-leb _ _ L.s_most) (le-leb _ _ L.t_least)) (le-leb _ _ L.t_most)) (le-leb _ _ L.d_least)) (le-leb _ _ L.d_most))
        (lt-ltb (g_f g) g.s (omega (arith, L.s_least)))

-- ---- names and zeros

pub bytes-mean : (n : List ℕ) → (every good_byte n ≡ true) ↔ GoodBytes n
bytes-mean n = (
  λ h i l. let (a, b) = both (leb 33 (get_or n i 0)) _ (every-at good_byte n i 0 l h) in (leb-true _ _ a, leb-true _ _ b),
  λ h. every-all good_byte n 0 (λ i l. join _ _ (le-leb _ _ (h i l).0) (le-leb _ _ (h i l).1)),
)

pub name-means : (n : List ℕ) → (good_name n ≡ true) ↔ GoodName n
unfolding good_name
name-means n = (to, from)
  where
    to : good_name n ≡ true → GoodName n
    to h =
        let (r, c) = both _ (every good_byte n) h in
        let (a, b) = both (leb 1 (length n)) _ r in
        record { least = leb-true _ _ a; most = leb-true _ _ b; bytes = (bytes-mean n).0 c }

    from : GoodName n → good_name n ≡ true
    from G = join _ _ (join _ _ (le-leb _ _ G.least) (le-leb _ _ G.most)) ((bytes-mean n).1 G.bytes)

pub zeros-mean : (m : ℕ) (l : List ℕ) → (every is_zero (drop m l) ≡ true) ↔ ZerosFrom m l
zeros-mean m l = (to, from)
  where
    to : every is_zero (drop m l) ≡ true → ZerosFrom m l
    to h i lo = let e : m + (i - m) ≡ i = omega arith in rw (← e, ← get_or-drop m l (i - m) 0) (zero-at (drop m l) (i - m) h)

    from : ZerosFrom m l → every is_zero (drop m l) ≡ true
    from z = every-all is_zero (drop m l) 0 (λ i k. eq-eqb _ 0 (get_or-drop m l i 0 ∙ z (m + i) (omega arith)))

-- ---- stamps and tables

pub stamp-means : (g : Geo) (x : Stamp) → (stamp_ok g x ≡ true) ↔ Ranged g x
unfolding stamp_ok
stamp-means g x = (
  λ h. let (a, b) = both (ltb x.cc.0 (g_n g)) _ h in (ltb-true _ _ a, leb-true _ _ b),
  λ r. join _ _ (lt-ltb _ _ r.0) (le-leb _ _ r.1),
)

pub dead-means : (C : ℕ) (tab : List ℕ) (x : Stamp) → (dead_below C tab x ≡ true) ↔ DeadBelow C tab x
unfolding dead_below alive
dead-means C tab x = (to, from (dec_lt (get_or tab x.cc.0 0) x.txc.0))
  where
    to : dead_below C tab x ≡ true → DeadBelow C tab x
    to h o = ⊎_elim (λ q. absurd (o (leb-true _ _ q))) (λ q. ltb-true _ _ q) (or_cases (leb x.txc.0 (get_or tab x.cc.0 0)) (ltb x.cc.0 C) h)

    from : Dec (get_or tab x.cc.0 0 < x.txc.0) → DeadBelow C tab x → dead_below C tab x ≡ true
    from (yes l) d = or-intro (leb x.txc.0 (get_or tab x.cc.0 0)) _ (inr (lt-ltb _ _ (d (λ a. omega arith))))
    from (no l) d = or-intro (leb x.txc.0 (get_or tab x.cc.0 0)) _ (inl (le-leb x.txc.0 (get_or tab x.cc.0 0) (omega arith)))

-- the words of a table of n words
module _ (n : ℕ) (tab : List ℕ) (wide : length tab ≡ n) where
  pub words-mean : (every word_max tab ≡ true) ↔ ((i : ℕ) → i < n → get_or tab i 0 ≤ max_tx)
  words-mean = (
    λ h i l. leb-true _ _ (every-at word_max tab i 0 (omega (arith, wide)) h),
    λ h. every-all word_max tab 0 (λ i l. le-leb _ _ (h i (omega (arith, wide)))),
  )

  pub past-means : (C : ℕ) → (every is_zero (drop (C + 1) tab) ≡ true) ↔ ((i : ℕ) → C < i → i < n → get_or tab i 0 ≡ 0)
  past-means C = (
    λ h i lo hi. (zeros-mean (C + 1) tab).0 h i (omega arith),
    λ h. (zeros-mean (C + 1) tab).1 (λ i lo. go h i lo (dec_lt i n)),
  )
    where
      go : ((i : ℕ) → C < i → i < n → get_or tab i 0 ≡ 0) → (i : ℕ) → C + 1 ≤ i → Dec (i < n) → get_or tab i 0 ≡ 0
      go h i lo (yes l) = h i (omega arith) l
      go h i lo (no l) = get_or-eq_default tab 0 (omega (arith, wide))

module _ (g : Geo) (C : ℕ) (tab : List ℕ) where
  -- "every table word is at most 2,147,483,647; words past C are 0; word C, if C < N, is at most 2,147,483,646"
  abbrev pub TableSays : Type 0
  TableSays = ((i : ℕ) → i < g_n g → get_or tab i 0 ≤ max_tx) × ((i : ℕ) → C < i → i < g_n g → get_or tab i 0 ≡ 0) × (C < g_n g → get_or tab C 0 ≤ 2147483646)

  pub table-means : length tab ≡ g_n g → (table_ok g C tab ≡ true) ↔ TableSays
  unfolding table_ok
  table-means wide = (to, from)
    where
      to : table_ok g C tab ≡ true → TableSays
      to h =
          let T = table-inv g C tab h in
          ((words-mean (g_n g) tab wide).0 T.max, (past-means (g_n g) tab wide C).0 T.past, λ l. omega (arith, T.word l))

      last : (C < g_n g → get_or tab C 0 ≤ 2147483646) → Dec (C < g_n g) → (leb (g_n g) C || ltb (get_or tab C 0) max_tx) ≡ true
      last h (yes l) = or-intro (leb (g_n g) C) _ (inr (lt-ltb (get_or tab C 0) max_tx (omega (arith, h l))))
      last h (no l) = or-intro (leb (g_n g) C) _ (inl (le-leb (g_n g) C (omega arith)))

      from : TableSays → table_ok g C tab ≡ true
      from S =
          join _ _ (join _ _ ((words-mean (g_n g) tab wide).1 S.0) ((past-means (g_n g) tab wide C).1 S.1)) (last S.2 (dec_lt C (g_n g)))

-- ---- an entry

not-zero : (n : ℕ) → eqb n 0 ≡ false → 1 ≤ n
not-zero n e = let o : ¬ (n ≡ 0) = eqb-false n 0 e in omega arith

-- of a file in one run: that run lies inside the data
inside-text : (g : Geo) (tab p : List ℕ)
    → Inside g tab p ↔ ((r : Run) → shown tab p ≡ Present r → 1 ≤ r.sectors → (g_f g ≤ r.start.0) × (r.start.0 + r.sectors ≤ g.s))
unfolding run_of
inside-text g tab p = (
  λ h r e l.
      let (a, b) = h r.start.0 (there r e r.start.0 (omega arith) (omega arith)) in
      let (c, d) = h (r.start.0 + r.sectors - 1) (there r e (r.start.0 + r.sectors - 1) (omega arith) (omega arith)) in (a, omega arith),
  λ h n q. go (shown tab p) h n ((holds-run (run_of (shown tab p)) n).0 q),
)
  where
    there : (r : Run) → shown tab p ≡ Present r → (n : ℕ) → r.start.0 ≤ n → n < r.start.0 + r.sectors → FileHolds (run_of (shown tab p)) n
    there r e n lo hi = rw e ((holds-run r n).1 (lo, hi))

    go : (v : Version) → ((r : Run) → v ≡ Present r → 1 ≤ r.sectors → (g_f g ≤ r.start.0) × (r.start.0 + r.sectors ≤ g.s)) → (n : ℕ)
        → ((run_of v).start.0 ≤ n) × (n < (run_of v).start.0 + (run_of v).sectors) → (g_f g ≤ n) × (n < g.s)
    go Absent h n (x, y) = absurd (omega arith)
    go (Present r) h n (x, y) = let w = h r refl (omega arith) in (omega (arith, w.0), omega (arith, w.1))

-- all its sectors have one page
page-text : (tab p : List ℕ) → OnePage tab p ↔ ((m n : ℕ) → Holds tab p m → Holds tab p n → m / 4096 ≡ n / 4096)
unfolding pieces_of
page-text tab p = (
  λ h m n a b.
      h (record { at = (run_of (shown tab p)).start.0; count = (run_of (shown tab p)).sectors }) (Memᴰ.head refl) m n ((holds-run (run_of (shown tab p)) m).0 a)
      ((holds-run (run_of (shown tab p)) n).0 b),
  λ h q i m n a b. h m n (q, i, a) (q, i, b),
)

-- the run of a shown file lies in one page
page-one : (g : Geo) (tab p : List ℕ) → version_ok g (shown_bytes tab p) ≡ true → (m n : ℕ) → Holds tab p m → Holds tab p n → m / 4096 ≡ n / 4096
unfolding run_of
page-one g tab p h m n a b = go (shown tab p) refl ((holds-run (run_of (shown tab p)) m).0 a) ((holds-run (run_of (shown tab p)) n).0 b)
  where
    go : (v : Version) → shown tab p ≡ v → ((run_of v).start.0 ≤ m) × (m < (run_of v).start.0 + (run_of v).sectors) → ((run_of v).start.0 ≤ n) × (n < (run_of v).start.0 + (run_of v).sectors)
        → m / 4096 ≡ n / 4096
    go Absent e (x, y) u = absurd (omega arith)
    go (Present r) e (x, y) (z, w) = omega (arith, (shown-run g tab p h e).page)

one-page : (tab p : List ℕ) (r : Run) → shown tab p ≡ Present r → 1 ≤ r.sectors → OnePage tab p → r.start.0 % 4096 + r.sectors ≤ 4096
unfolding run_of
one-page tab p r e l h =
    let q : r.start.0 / 4096 ≡ (r.start.0 + r.sectors - 1) / 4096 =
    (page-text tab p).0 h r.start.0 (r.start.0 + r.sectors - 1) (rw e ((holds-run r r.start.0).1 (omega arith, omega arith)))
    (rw e ((holds-run r (r.start.0 + r.sectors - 1)).1 (omega arith, omega arith))) in
    omega arith

-- the 16 bytes of the version that an entry shows: well formed, inside the data and in one page
module _ (g : Geo) (tab p : List ℕ) where
  abbrev v : List ℕ
  v = shown_bytes tab p

  abbrev run : Run
  run = record { start = record { 0 = word_at v 4 }; sectors = word_at v 8; bytes = word_at v 12 }

  formed : version_ok g v ≡ true → WellFormed v
  unfolding version_ok sectors_for
  formed h = go (eqb (word_at v 0) 0) refl h
    where
      go : (z : Bool) → eqb (word_at v 0) 0 ≡ z → version_ok g v ≡ true → WellFormed v
      go true e h =
          let w : (is_zero (word_at v 4) && is_zero (word_at v 8) && is_zero (word_at v 12)) ≡ true = rw e at h in
          let (r, c) = both _ (is_zero (word_at v 12)) w in
          let (a, b) = both (is_zero (word_at v 4)) _ r in
          inl (eqb-true _ _ e, eqb-true _ _ a, eqb-true _ _ b, eqb-true _ _ c)
      go false e h =
          let w : (eqb (word_at v 0) 1 && run_ok g run) ≡ true = rw e at h in
          let (a, b) = both (eqb (word_at v 0) 1) _ w in
          let R = run_is g run b in
          let s : word_at v 8 ≡ (word_at v 12 + 511) / 512 = R.size in
          inr (record {
            state = eqb-true _ _ a;
            enough = omega arith;
            no_more = omega arith;
            empty = λ z. let y : word_at v 8 ≡ 0 = omega arith in (R.empty y, y);
          })

  version-ok : WellFormed v → Inside g tab p → OnePage tab p → version_ok g v ≡ true
  unfolding version_ok sectors_for shown version_of
  version-ok (inl z) o q = rw (z.0, z.1, z.2, z.3)
  version-ok (inr S) o q = rw S.state (run-text g run ∙ join _ _ (eq-eqb (word_at v 8) ((word_at v 12 + 511) / 512) (omega (arith, S.enough, S.no_more))) (go (eqb (word_at v 8) 0) refl))
    where
      there : version_of v ≡ Present run
      there = rw S.state

      go : (z : Bool) → eqb (word_at v 8) 0 ≡ z → cond (eqb (word_at v 8) 0) (eqb (word_at v 4) 0) (leb (g_f g) (word_at v 4) && leb (word_at v 4 + word_at v 8) g.s && in_page (word_at v 4) (word_at v 8)) ≡ true
      go true e = rw e (eq-eqb _ _ (S.empty (let w : word_at v 8 ≡ 0 = eqb-true (word_at v 8) 0 e in omega (arith, S.enough))).0)
      go false e =
          let (x, y) = (inside-text g tab p).0 o run there (not-zero (word_at v 8) e) in
          rw e (join _ _ (join _ _ (le-leb _ _ x) (le-leb _ _ y)) (le-leb _ _ (one-page tab p run there (not-zero (word_at v 8) e) q)))

  name-ok : (shown tab p ≢ Absent → Named p) → (is_absent (shown tab p) || name_ok (word_at p 8) (name_bytes p)) ≡ true
  unfolding name_ok name_of
  name-ok h = go (is_absent (shown tab p)) refl
    where
      go : (b : Bool) → is_absent (shown tab p) ≡ b → (b || name_ok (word_at p 8) (name_bytes p)) ≡ true
      go true e = refl
      go false e =
          let M = h (present-is (shown tab p) e) in
          join _ _ (join _ _ (join _ _ (le-leb _ _ M.least) (le-leb _ _ M.most)) ((bytes-mean (take (word_at p 8) (name_bytes p))).1 M.bytes))
          ((zeros-mean (word_at p 8) (name_bytes p)).1 M.unused)

  named : name_ok (word_at p 8) (name_bytes p) ≡ true → Named p
  unfolding name_ok name_of
  named h =
      let (r₁, d) = both _ (every is_zero (drop (word_at p 8) (name_bytes p))) h in
      let (r₂, c) = both _ (every good_byte (take (word_at p 8) (name_bytes p))) r₁ in
      let (a, b) = both (leb 1 (word_at p 8)) (leb (word_at p 8) 32) r₂ in
      record {
        least = leb-true _ _ a;
        most = leb-true _ _ b;
        bytes = (bytes-mean (take (word_at p 8) (name_bytes p))).0 c;
        unused = (zeros-mean (word_at p 8) (name_bytes p)).0 d;
      }

  -- the entry rules
  pub record EntrySays (bound : ℕ) : Type 0 where
    pub stamp : Ranged g (stamp_of p)
    pub dead : DeadBelow bound tab (stamp_of p)
    pub formed : WellFormed (shown_bytes tab p)
    pub name : shown tab p ≢ Absent → Named p
    pub inside : Inside g tab p
    pub in_page : OnePage tab p
    pub rest : ZerosFrom 0 (entry_rest p)

  pub entry-means : (bound : ℕ) → (entry_ok g bound tab p ≡ true) ↔ EntrySays bound
  entry-means bound = (to, from)
    where
      to : entry_ok g bound tab p ≡ true → EntrySays bound
      to h =
          let P = passes g bound tab p h in
          record {
            stamp = (stamp-means g (stamp_of p)).0 P.stamp;
            dead = (dead-means bound tab (stamp_of p)).0 P.dead;
            formed = formed P.wf;
            name = λ o. named (good-name g bound tab p P (is-present _ o));
            inside = (inside-text g tab p).1 (λ r e. (shown-run g tab p P.wf e).span);
            in_page = (page-text tab p).1 (page-one g tab p P.wf);
            rest = (zeros-mean 0 (entry_rest p)).0 P.zeros;
          }

      from : EntrySays bound → entry_ok g bound tab p ≡ true
      from S =
          passes-intro g bound tab p
          (record {
            stamp = (stamp-means g (stamp_of p)).1 S.stamp;
            dead = (dead-means bound tab (stamp_of p)).1 S.dead;
            zeros = (zeros-mean 0 (entry_rest p)).1 S.rest;
            wf = version-ok S.formed S.inside S.in_page;
            name = name-ok S.name;
          })
