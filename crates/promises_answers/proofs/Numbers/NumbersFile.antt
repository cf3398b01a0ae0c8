-- The numbers of put, remove and get, a session's and a card's. Assumes nothing.
use Rattle.std.specs.Prelude.{Option, Some, None}
use mathlib.Core.Path.{◌≡◌, refl, sym, ap, ◌∙◌}
use mathlib.Core.Bool.{true, false}
use mathlib.Core.List.{List, [], ◌∷◌}
use mathlib.Core.Logic.{inl, inr, ⊎_elim}
use Prim.Native.Nat.{ℕ, ◌<◌}
use native.Mathlib.Omega.{arith}
use borrow.Author.Tests.{leb-true, leb-false}
use lib.Dec.{leb}
use lib.ListN.{length, get_or}
use Rattle.words.specs.Lists.{pairwise, first_at, or_else}
use Rattle.words.proofs.FirstLaws.{not_at, found_at, found_none}
use Rattle.sectors.specs.Sectors.{sec}
use Rattle.counts.specs.declared.Geo.{Geo}
use Rattle.counts.specs.Geometry.{geo_of, table_of}
use Rattle.entries.specs.Entries.{shown, good_name}
use Rattle.directory.specs.Directory.{entries_of, gone, apart, named}
use Rattle.directory.proofs.NameLaws.{gone-true, gone-intro, named-true, named-intro, here-gone, one_entry}
use Rattle.card.specs.Plan.{Plan, refuse, do_at, refused, done, Changed, Got}
use Rattle.card.specs.Files.{run_of, run_at, get_plan, get_end}
use Rattle.card.proofs.SoundLaws.{sound-inv}
use Rattle.card.specs.Sound.{sound}
use Rattle.card.specs.Reading.{read_get}
use Rattle.card.proofs.MeansParts.{name-means}
use Rattle.session.specs.declared.Opened.{Opened}
use Rattle.session.specs.Session.{Session}
use Rattle.session.specs.Views.{present_table, cut_table}
use Rattle.session.specs.Fits.{fits}
use Rattle.session.proofs.FitLaws.{fit-inv}
use Rattle.session.proofs.FitMeansProved.{fits-mean}
use Rattle.store.specs.Edit.{put_place, place_in, remove_plan, remove}
use Rattle.store.specs.Look.{get}
use Rattle.promises_answers.specs.Numbers.{row, Exactly, Shows, NoFile, NoEntry, TooLong, bad_name, remove_rows, get_rows, read_get_rows}
use Rattle.promises_answers.proofs.RowLaws.{Follows, exactly, number_of, ended-number, done-row, guard-row, need-row, means-row, not-row, clash, closed-row, open_row}
use Rattle.promises_answers.proofs.Numbers.NumbersWhole.{reading}

-- ---- 6: a name in one view

module _ (g : Geo) (tab img n : List ℕ) where
  abbrev ps : List (List ℕ)
  ps = entries_of g (sec img)

  pub no-file : first_at (named tab tab n) 0 ps ≡ None → NoFile g tab img n
  no-file e i l s = clash (named-intro tab tab n (get_or ps i []) (inl s.0) s.1) (found_none (named tab tab n) [] 0 ps e i l)

  pub found-shows : (j : ℕ) → first_at (named tab tab n) 0 ps ≡ Some j → (j < length ps) × Shows tab n (get_or ps j [])
  found-shows j e =
      let (l, t) = found_at (named tab tab n) [] ps j e in
      let (a, b) = named-true tab tab n (get_or ps j []) t in
      (l, (⊎_elim (λ q. q) (λ q. q) a, b))

  pub a-file : (j : ℕ) → first_at (named tab tab n) 0 ps ≡ Some j → ¬ NoFile g tab img n
  a-file j e none = let (l, s) = found-shows j e in none j l s

  -- ---- 10: no two entries show the name, so one length is meant
  module _ (tc out : List ℕ) (alone : pairwise (apart tab tc) ps ≡ true) where
    too_long : (j : ℕ) → first_at (named tab tab n) 0 ps ≡ Some j → leb (run_at g tab img j).bytes (length out) ≡ false → TooLong g tab img n out
    unfolding run_at
    too_long j e h = let (l, s) = found-shows j e in (j, l, s, leb-false _ _ h)

    fits_out : (j : ℕ) → first_at (named tab tab n) 0 ps ≡ Some j → leb (run_at g tab img j).bytes (length out) ≡ true → ¬ TooLong g tab img n out
    unfolding run_at
    fits_out j e h t =
        let (l, s) = found-shows j e in
        let q : t.0 ≡ j =
        one_entry tab tc ps t.0 j alone t.1 l (here-gone tab tc (get_or ps t.0 []) (inl t.2.0)) (here-gone tab tc (get_or ps j []) (inl s.0))
        (t.2.1 ∙ sym s.1) in
        let b : (run_of (shown tab (get_or ps t.0 []))).bytes ≡ (run_of (shown tab (get_or ps j []))).bytes = ap (λ (i : ℕ). (run_of (shown tab (get_or ps i []))).bytes) q in
        omega (arith, t.3, leb-true _ (length out) h)

    pub get_rows_lem : Follows (bad_name n ∷ row 6 (NoFile g tab img n) ∷ row 10 (TooLong g tab img n out) ∷ []) (get_plan g tab img n out)
    unfolding get_plan
    get_rows_lem =
        means-row 5 (good_name n) _ _ (name-means n)
        (λ e. need-row 6 (first_at (named tab tab n) 0 ps) _ (NoFile g tab img n) _ no-file a-file
        (λ j f. guard-row 10 (leb (run_at g tab img j).bytes (length out)) (do_at j) (TooLong g tab img n out) [] (too_long j f) (fits_out j f) (λ h. done-row)))

  get-number : (out : List ℕ) (p : Plan) → (get_end g tab img out p).answer.number ≡ number_of p
  unfolding get_end refused done
  get-number out p = ended-number (λ (r : Got). r.answer.number) _ _ (λ k. refl) (λ j a. refl) p

pub of-get : (s : Session) (work n out : List ℕ) → Exactly (get s work n out).answer.number (get_rows s work n out)
unfolding get refused number_of
of-get None work n out = exactly {rows = get_rows None work n out} {p = refuse 4} refl closed-row
of-get (Some s) work n out =
    exactly (get-number s.geo (present_table s (sec work)) work n out _)
    (open_row s (means-row 2 (fits s work) _ _ (fits-mean s work)
    (λ f. get_rows_lem s.geo (present_table s (sec work)) work n (table_of s.geo (sec work)) out (fit-inv s work f).alone)))

pub of-read-get : (img n out : List ℕ) → Exactly (read_get img n out).answer.number (read_get_rows img n out)
unfolding read_get
of-read-get img n out =
    let g : Geo = geo_of (sec img) in
    let tab : List ℕ = table_of (geo_of (sec img)) (sec img) in
    exactly (get-number (geo_of (sec img)) (table_of (geo_of (sec img)) (sec img)) img n out _)
    (reading img _ _
    (λ a b. get_rows_lem (geo_of (sec img)) (table_of (geo_of (sec img)) (sec img)) img n (table_of (geo_of (sec img)) (sec img)) out
    (unfold sound in (sound-inv (geo_of (sec img)) (sec img) b).alone)))

-- ---- remove

pub of-remove : (s : Session) (work n : List ℕ) → Exactly (remove s work n).answer.number (remove_rows s work n)
unfolding remove refused done number_of remove_plan
of-remove None work n = exactly {rows = remove_rows None work n} {p = refuse 4} refl closed-row
of-remove (Some s) work n =
    exactly (ended-number (λ (r : Changed). r.answer.number) _ _ (λ k. refl) (λ j a. refl) (remove_plan s work n))
    (open_row s (means-row 2 (fits s work) _ _ (fits-mean s work) (λ f. not-row 9 s.worn _ _ (λ w. means-row 5 (good_name n) _ _ (name-means n)
    (λ e. need-row 6 (first_at (named (present_table s (sec work)) (present_table s (sec work)) n) 0 (entries_of s.geo (sec work))) _ _ _
    (no-file s.geo (present_table s (sec work)) work n) (a-file s.geo (present_table s (sec work)) work n) (λ j h. done-row))))))

-- ---- 7: put's entry

module _ (s : Opened) (work n : List ℕ) where
  abbrev tp : List ℕ
  tp = present_table s (sec work)

  abbrev tc : List ℕ
  tc = cut_table s (sec work)

  abbrev qs : List (List ℕ)
  qs = entries_of s.geo (sec work)

  pub no-entry : place_in s work n ≡ None → NoEntry s work n
  unfolding place_in put_place
  no-entry e = go (first_at (named tp tc n) 0 qs) refl e
    where
      go : (o : Option ℕ) → first_at (named tp tc n) 0 qs ≡ o → or_else o (first_at (gone tp tc) 0 qs) ≡ None → NoEntry s work n
      go (Some j) f h = unfold or_else in not_at h
      go None f h = λ i l.
          let a : named tp tc n (get_or qs i []) ≡ false = found_none (named tp tc n) [] 0 qs f i l in
          let b : gone tp tc (get_or qs i []) ≡ false = found_none (gone tp tc) [] 0 qs (unfold or_else in h) i l in (
            λ q. clash (named-intro tp tc n (get_or qs i []) (inl q.0) q.1) a,
            λ q. clash (named-intro tp tc n (get_or qs i []) (inr q.0) q.1) a,
            λ q. clash (gone-intro tp tc (get_or qs i []) q.0 q.1) b,
          )

  pub an-entry : (j : ℕ) → place_in s work n ≡ Some j → ¬ NoEntry s work n
  unfolding place_in put_place
  an-entry j e none = go (first_at (named tp tc n) 0 qs) refl e
    where
      go : (o : Option ℕ) → first_at (named tp tc n) 0 qs ≡ o → or_else o (first_at (gone tp tc) 0 qs) ≡ Some j → ⊥
      go (Some i) f h =
          let (l, t) = found_at (named tp tc n) [] qs i f in
          let (a, b) = named-true tp tc n (get_or qs i []) t in
          ⊎_elim (λ q. (none i l).0 (q, b)) (λ q. (none i l).1 (q, b)) a
      go None f h =
          let (l, t) = found_at (gone tp tc) [] qs j (unfold or_else in h) in
          (none j l).2 (gone-true tp tc (get_or qs j []) t)
