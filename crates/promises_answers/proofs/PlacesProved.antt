-- What Places states, proved. Assumes nothing.
use Rattle.std.specs.Prelude.{Option, Some, None}
use mathlib.Core.Path.{◌≡◌, refl, sym}
use mathlib.Core.Bool.{Bool, true, false, cond}
use mathlib.Core.List.{List, [], ◌∷◌}
use mathlib.Core.Logic.{inl, inr, ⊎_elim}
use Prim.Native.Nat.{ℕ, zero, suc, ◌+◌, ◌<◌}
use native.Mathlib.Omega.{arith}
use lib.ListN.{length, get_or}
use Rattle.words.specs.Lists.{first_at, or_else}
use Rattle.words.proofs.FirstLaws.{at_one, not_at, found_at, found_none}
use Rattle.sectors.specs.Sectors.{sec}
use Rattle.counts.proofs.GeoLaws.{limits}
use Rattle.entries.specs.Entries.{sectors_for}
use Rattle.directory.specs.Directory.{entries_of, gone, named}
use Rattle.directory.proofs.NameLaws.{gone-true, gone-intro, named-true, named-intro}
use Rattle.apages.proofs.LowestLaws.{Room, GoalRun, run-for}
use Rattle.session.specs.declared.Opened.{Opened}
use Rattle.session.specs.Views.{present_table, cut_table, present_page, cut_page}
use Rattle.session.proofs.FitLaws.{Fit, fit-inv}
use Rattle.store.specs.Edit.{put_place, place_in, run_in}
use Rattle.store.proofs.RoomLaws.{present-wide, alike, room_in}
use Rattle.store.proofs.Plans.{put_inv, remove-inv}
use Rattle.promises_answers.proofs.RowLaws.{clash}
use Rattle.promises_answers.specs.Places.{entry_in, HasName, PlaceIs, FreeFrom, GoesTo, PutPlaces, RemovePlaces}

-- nothing before the first that is found passes
before-first : {A : Type 0} (f : A → Bool) (d : A) (i m : ℕ) (l : List A) → first_at f i l ≡ Some m → (j : ℕ) → i + j < m → f (get_or l j d) ≡ false
unfolding first_at
before-first f d i m [] h j q = not_at (sym h)
before-first f d i m (x ∷ l) h j q = go (f x) refl h j q (before-first f d (suc i) m l)
  where
    go : (b : Bool) → f x ≡ b → cond b (Some i) (first_at f (suc i) l) ≡ Some m → (j : ℕ) → i + j < m
        → (first_at f (suc i) l ≡ Some m → (j : ℕ) → suc i + j < m → f (get_or l j d) ≡ false) → f (get_or (x ∷ l) j d) ≡ false
    go true e h j q ih = absurd (omega (arith, at_one h, q))
    go false e h zero q ih = e
    go false e h (suc j) q ih = ih h j (omega arith)

module _ (s : Opened) (work n : List ℕ) where
  abbrev tp : List ℕ
  tp = present_table s (sec work)

  abbrev tc : List ℕ
  tc = cut_table s (sec work)

  abbrev es : List (List ℕ)
  es = entries_of s.geo (sec work)

  -- the test, and what it says
  named-has : (i : ℕ) → named tp tc n (get_or es i []) ≡ true → HasName s work n i
  named-has i t = let (a, b) = named-true tp tc n (get_or es i []) t in ⊎_elim (λ q. inl (q, b)) (λ q. inr (q, b)) a

  has_named : (i : ℕ) → HasName s work n i → named tp tc n (get_or es i []) ≡ true
  has_named i (inl q) = named-intro tp tc n (get_or es i []) (inl q.0) q.1
  has_named i (inr q) = named-intro tp tc n (get_or es i []) (inr q.0) q.1

  place_is : (j : ℕ) → place_in s work n ≡ Some j → PlaceIs s work n j
  unfolding place_in put_place
  place_is j e = go (first_at (named tp tc n) 0 es) refl e
    where
      go : (o : Option ℕ) → first_at (named tp tc n) 0 es ≡ o → or_else o (first_at (gone tp tc) 0 es) ≡ Some j → PlaceIs s work n j
      go (Some i) f h =
          let y : i ≡ j = (unfold or_else in at_one h) in
          let (l, t) = found_at (named tp tc n) [] es j (rw y at f) in
          let own : HasName s work n j = named-has j t in
          record { inside = l; own = λ i l q. own; vacant = λ o. absurd (o own); lowest = λ o. absurd (o own) }
      go None f h =
          let v : first_at (gone tp tc) 0 es ≡ Some j = unfold or_else in h in
          let (l, t) = found_at (gone tp tc) [] es j v in
          record {
            inside = l;
            own = λ i l q. absurd (clash (has_named i q) (found_none (named tp tc n) [] 0 es f i l));
            vacant = λ o. gone-true tp tc (get_or es j []) t;
            lowest = λ o i q w. clash (gone-intro tp tc (get_or es i []) w.0 w.1) (before-first (gone tp tc) [] 0 j es v i (omega arith));
          }

goes_to : (s : Opened) (work : List ℕ) (k goal a : ℕ) → Fit s work → run_in s work k goal ≡ Some a → 0 < k → GoesTo s work k goal a
goes_to s work k goal a F e some = record {
  fitting = let (lo, hi, page, free) = room_in s work F k goal a some e in (hi, page, free);
  first = λ t l f. R.first t l (room t f);
  lowest = λ l t f. R.lowest l t (room t f);
}
  where
    R : GoalRun k (present_page s (sec work)) (cut_page s (sec work)) some (alike s work F) goal a
    R = run-for k goal a (present_page s (sec work)) (cut_page s (sec work)) some (alike s work F) (unfold run_in in e)

    room : (t : ℕ) → FreeFrom s work k t → Room k (present_page s (sec work)) (cut_page s (sec work)) some (alike s work F) t
    room t f = (omega (arith, f.0, present-wide s work F, (limits s.geo F.shape).covered), f.1, f.2)

pub put-places : PutPlaces
put-places s work n d goal j a h =
    let p = put_inv s work n d goal j a h in
    (place_is s work n j p.entry, λ some. goes_to s work (sectors_for (length d)) goal a.0 (fit-inv s work p.fit) p.run some)

pub remove_places : RemovePlaces
remove_places s work n j a h =
    let (l, t) = found_at (named (present_table s (sec work)) (present_table s (sec work)) n) [] (entries_of s.geo (sec work)) j (remove-inv s work n j a h).entry in
    let (x, y) = named-true (present_table s (sec work)) (present_table s (sec work)) n (entry_in s work j) t in
    (l, (⊎_elim (λ q. q) (λ q. q) x, y))
