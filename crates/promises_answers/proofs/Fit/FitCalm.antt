-- An image with no stamp of the running stretch fits, and shows what it is: after a mount, a sync, and when worn. Assumes nothing.
use Rattle.std.specs.Prelude.{Some}
use mathlib.Core.Path.{◌≡◌, refl, sym, ap, ◌∙◌}
use mathlib.Core.Bool.{Bool, true, false}
use mathlib.Core.List.{List, [], ◌∷◌}
use Prim.Native.Nat.{ℕ, ◌+◌, ◌*◌, ◌≤◌, ◌<◌}
use native.Mathlib.Omega.{arith}
use native.Mathlib.Decide.{ℕ_discrete}
use borrow.Author.Tests.{eq-eqb, le-leb}
use lib.Dec.{leb}
use lib.ListN.{length, drop, get_or, set}
use lib.Seq.{get_or-set_same, get_or-set_other}
use Rattle.words.specs.Lists.{every, pairwise, is_zero}
use Rattle.words.proofs.BoolLaws.{both, join}
use Rattle.words.proofs.EveryLaws.{every-at, every-same, pairwise-same}
use Rattle.words.proofs.EveryMore.{every-weaker}
use Rattle.sectors.specs.Sectors.{Cells, sec}
use Rattle.counts.specs.declared.Geo.{Geo}
use Rattle.counts.specs.declared.Stamp.{Stamp}
use Rattle.counts.specs.Geometry.{g_n, g_p, geo_ok, table_of}
use Rattle.counts.specs.Stamps.{max_tx, word_max, stamp_of, alive, showing, dead_below}
use Rattle.entries.specs.Entries.{shown_bytes, shown, entry_ok}
use Rattle.directory.specs.Directory.{entries_of, gone, apart}
use Rattle.apages.specs.Index.{group_of, group_ok, index_in, index_ok, shown_page, page_at, page_in}
use Rattle.apages.proofs.PassLaws.{groups-same}
use Rattle.apages.proofs.MapLaws.{map_same}
use Rattle.card.specs.Files.{files_of}
use Rattle.card.specs.Reading.{files_in}
use Rattle.card.specs.Sound.{view_ok}
use Rattle.card.proofs.AgreeLaws.{view-mono}
use Rattle.session.specs.declared.Opened.{Opened}
use Rattle.session.specs.Views.{present_table, cut_table, present_page, cut_page, present_files, session_files}
use Rattle.session.specs.Fits.{head_ok, word_ok, stamp_at_most, entry_at_most, index_at_most}
use Rattle.session.proofs.FitLaws.{Fit, at_most, at-most-intro, present-live, present-worn, fit-table, index-most, index-most-intro}
use Rattle.store.specs.Sync.{grown}
use Rattle.promises_answers.specs.PlainList.{items, shown_in}

-- ---- two tables that agree on every stamp of the directory

module _ (s : Opened) (T T' : List ℕ) (agree : (x : Stamp) → stamp_at_most s x ≡ true → alive T' x ≡ alive T x) where
  shown-eq : (p : List ℕ) → entry_at_most s p ≡ true → shown_bytes T' p ≡ shown_bytes T p
  unfolding shown_bytes showing entry_at_most
  shown-eq p h = rw (agree (stamp_of p) h)

  ver-eq : (p : List ℕ) → entry_at_most s p ≡ true → shown T' p ≡ shown T p
  unfolding shown
  ver-eq p h = rw (shown-eq p h)

  pub files-eq : (ps : List (List ℕ)) → every (entry_at_most s) ps ≡ true → files_of T' ps ≡ files_of T ps
  unfolding files_of every
  files-eq [] h = refl
  files-eq (p ∷ ps) h = let (a, b) = both (entry_at_most s p) (every (entry_at_most s) ps) h in rw (ver-eq p a, files-eq ps b)

  dead-eq : (C : ℕ) (x : Stamp) → stamp_at_most s x ≡ true → dead_below C T' x ≡ dead_below C T x
  unfolding dead_below
  dead-eq C x h = rw (agree x h)

  entry-eq : (g : Geo) (C : ℕ) (p : List ℕ) → entry_at_most s p ≡ true → entry_ok g C T' p ≡ entry_ok g C T p
  unfolding entry_ok
  entry-eq g C p h = rw (dead-eq C (stamp_of p) (unfold entry_at_most in h), shown-eq p h, ver-eq p h)

  apart-eq : (p q : List ℕ) → entry_at_most s p ≡ true → entry_at_most s q ≡ true → apart T' T p q ≡ apart T T p q
  unfolding apart gone
  apart-eq p q h k = rw (ver-eq p h, ver-eq q k)

  pub alone-eq : (ps : List (List ℕ)) → every (entry_at_most s) ps ≡ true → pairwise (apart T' T) ps ≡ pairwise (apart T T) ps
  alone-eq ps h =
      pairwise-same (apart T' T) (apart T T) ps ps [] [] refl
      (λ i j a b. apart-eq (get_or ps i []) (get_or ps j []) (every-at (entry_at_most s) ps i [] (omega arith) h) (every-at (entry_at_most s) ps j [] b h))

  group-eq : (g : Geo) (C p : ℕ) (x : List ℕ) → stamp_at_most s (stamp_of x) ≡ true → group_ok g C T' p x ≡ group_ok g C T p x
  unfolding group_ok
  group-eq g C p x h = rw (dead-eq C (stamp_of x) h)

  index-eq : (g : Geo) (C : ℕ) (ix : List ℕ) → ((p : ℕ) → p < g_p g → stamp_at_most s (stamp_of (group_of ix p)) ≡ true) → index_ok g C T' ix ≡ index_ok g C T ix
  unfolding index_ok
  index-eq g C ix h = rw (groups-same (group_ok g C T') (group_ok g C T) ix (g_p g) (λ p l. group-eq g C p (group_of ix p) (h p l)))

  map-eq : (g : Geo) (k : Cells) → ((p : ℕ) → p < g_p g → stamp_at_most s (stamp_of (group_of (index_in g k) p)) ≡ true) → page_in g T' k ≡ page_in g T k
  map-eq g k h = map_same g T T' k k (λ p l. (unfold page_at shown_page showing in rw (agree (stamp_of (group_of (index_in g k) p)) (h p l))))

  pub view-eq : (g : Geo) (C : ℕ) (k : Cells) → every (entry_at_most s) (entries_of g k) ≡ true → ((p : ℕ) → p < g_p g → stamp_at_most s (stamp_of (group_of (index_in g k) p)) ≡ true) → view_ok g C T' k ≡ view_ok g C T k
  unfolding view_ok
  view-eq g C k h q =
      rw (
        index-eq g C (index_in g k) q,
        files-eq (entries_of g k) h,
        map-eq g k q,
        every-same (entry_ok g C T') (entry_ok g C T) (entries_of g k) (entries_of g k) [] [] refl
            (λ i l. entry-eq g C (get_or (entries_of g k) i []) (every-at (entry_at_most s) (entries_of g k) i [] l h)),
      )

-- ---- an image at rest: table word c is s's t, and no stamp at c is above it

pub record Rest (s : Opened) (img : List ℕ) : Type 0 where
  pub shape : geo_ok s.geo ≡ true
  pub count : s.c.0 < g_n s.geo
  pub sized : length img ≡ 512 * s.geo.s
  pub head : head_ok s (sec img) ≡ true
  pub word : get_or (table_of s.geo (sec img)) s.c.0 0 ≡ s.t.0
  pub max : every word_max (table_of s.geo (sec img)) ≡ true
  pub past : every is_zero (drop (s.c.0 + 1) (table_of s.geo (sec img))) ≡ true
  pub view : view_ok s.geo s.c.0 (table_of s.geo (sec img)) (sec img) ≡ true
  pub alone : pairwise (apart (table_of s.geo (sec img)) (table_of s.geo (sec img))) (entries_of s.geo (sec img)) ≡ true
  pub stamps : every (entry_at_most s) (entries_of s.geo (sec img)) ≡ true
  pub index : index_at_most s (index_in s.geo (sec img)) ≡ true

more-most : (s : Opened) (b : Bool) (x : Stamp) → stamp_at_most s x ≡ true → stamp_at_most (grown b s) x ≡ true
unfolding grown
more-most s true x h = at-most-intro (grown true s) x (at_most s x h)
more-most s false x h = at-most-intro (grown false s) x (λ e. omega (arith, at_most s x h e))

module _ (s : Opened) (img : List ℕ) (R : Rest s img) where
  abbrev g : Geo
  g = s.geo

  abbrev T : List ℕ
  T = table_of s.geo (sec img)

  abbrev T' : List ℕ
  T' = set (table_of s.geo (sec img)) s.c.0 (s.t.0 + 1)

  long : length T ≡ g_n g
  long = fit-table g img R.shape R.sized

  -- one count more gives life to no stamp
  agree : (x : Stamp) → stamp_at_most s x ≡ true → alive T' x ≡ alive T x
  unfolding alive
  agree x h = go (ℕ_discrete x.cc.0 s.c.0)
    where
      go : Dec (x.cc.0 ≡ s.c.0) → leb x.txc.0 (get_or T' x.cc.0 0) ≡ leb x.txc.0 (get_or T x.cc.0 0)
      go (yes e) =
          let m : x.txc.0 ≤ s.t.0 = at_most s x h e in
          rw (e, get_or-set_same T s.c.0 (s.t.0 + 1) 0 (omega (arith, R.count, long)))
          (le-leb x.txc.0 (s.t.0 + 1) (omega arith) ∙ sym (le-leb x.txc.0 (get_or T s.c.0 0) (omega (arith, R.word))))
      go (no o) = rw (get_or-set_other T s.c.0 x.cc.0 (s.t.0 + 1) 0 o)

  stamps-more : (b : Bool) → every (entry_at_most (grown b s)) (entries_of g (sec img)) ≡ true
  stamps-more b = every-weaker (entry_at_most s) (entry_at_most (grown b s)) (entries_of g (sec img)) (λ p h. (unfold entry_at_most in more-most s b (stamp_of p) h)) R.stamps

  same-geo : (b : Bool) → (grown b s).geo ≡ s.geo
  unfolding grown
  same-geo true = refl
  same-geo false = refl

  index-more : (b : Bool) → index_at_most (grown b s) (index_in g (sec img)) ≡ true
  index-more b = index-most-intro (grown b s) (index_in g (sec img)) (λ p l. more-most s b (stamp_of (group_of (index_in g (sec img)) p)) (index-most s (index_in g (sec img)) R.index p (rw (same-geo b) at l)))

  next-table : present_table (grown false s) (sec img) ≡ T'
  unfolding grown
  next-table = present-live (grown false s) (sec img) refl

  pub rest-fits : s.t.0 + 1 ≤ max_tx → Fit (grown false s) img
  unfolding grown head_ok word_ok
  rest-fits l =
      record {
        shape = R.shape;
        count = R.count;
        low = omega arith;
        tx = l;
        sized = R.sized;
        head = R.head;
        word = eq-eqb _ _ (ap (λ (x : ℕ). x + 1) R.word);
        max = R.max;
        past = R.past;
        pres_view = rw next-table (view-eq s T T' agree g s.c.0 (sec img) R.stamps (index-most s (index_in g (sec img)) R.index) ∙ R.view);
        cut_view = view-mono g s.c.0 (g_n g) T (sec img) (omega (arith, R.count)) R.view;
        alone = rw next-table (alone-eq s T T' agree (entries_of g (sec img)) R.stamps ∙ R.alone);
        stamps = stamps-more false;
        index = index-more false;
      }

  worn-table : present_table (grown true s) (sec img) ≡ T
  unfolding grown
  worn-table = present-worn (grown true s) (sec img) refl long

  pub worn-fits : s.t.0 ≡ max_tx → Fit (grown true s) img
  unfolding grown head_ok word_ok
  worn-fits e =
      record {
        shape = R.shape;
        count = R.count;
        low = omega arith;
        tx = omega arith;
        sized = R.sized;
        head = R.head;
        word = join _ _ (eq-eqb s.t.0 max_tx e) (eq-eqb (get_or T s.c.0 0) max_tx (R.word ∙ e));
        max = R.max;
        past = R.past;
        pres_view = rw worn-table R.view;
        cut_view = view-mono g s.c.0 (g_n g) T (sec img) (omega (arith, R.count)) R.view;
        alone = rw worn-table R.alone;
        stamps = stamps-more true;
        index = index-more true;
      }

  -- its two maps are one, that of the image
  pub rest-map : (b : Bool) → present_page (grown b s) (sec img) ≡ page_in g T (sec img)
  unfolding present_page
  rest-map true = rw worn-table (unfold grown in refl)
  rest-map false = rw next-table (unfold grown in map-eq s T T' agree g (sec img) (index-most s (index_in g (sec img)) R.index))

  pub rest-cut : (b : Bool) → cut_page (grown b s) (sec img) ≡ page_in g T (sec img)
  unfolding cut_page cut_table
  rest-cut b = rw (same-geo b)

  -- what such a session shows is what the image shows
  pub rest-shows : (b : Bool) → shown_in (Some (grown b s)) img ≡ items img (files_in g (sec img))
  unfolding shown_in session_files present_files files_in
  rest-shows true = rw worn-table (unfold grown in refl)
  rest-shows false = rw next-table (unfold grown in rw (files-eq s T T' agree (entries_of g (sec img)) R.stamps))
