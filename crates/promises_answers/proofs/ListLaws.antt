-- The plain list of a view: names, lengths, and what get and list make of it. Assumes nothing.
use Rattle.std.specs.Prelude.{Some, None}
use mathlib.Core.Path.{◌≡◌, refl, sym, ap, ◌∙◌}
use mathlib.Core.Bool.{Bool, true, false, not, cond}
use mathlib.Core.List.{List, [], ◌∷◌}
use mathlib.Core.Option.{none, some}
use Prim.Native.Nat.{ℕ, suc, ◌+◌, ◌*◌}
use native.Mathlib.Omega.{arith}
use borrow.Author.Tests.{eqb-true, leb-true}
use lib.Dec.{leb, eqb}
use lib.ListN.{length, take, drop, get_or, length-drop}
use lib.Seq.{length-take-le}
use Rattle.words.specs.Lists.{every, pairwise, first_at, is_zero, eq_list}
use Rattle.words.specs.Bytes.{word_at}
use Rattle.words.proofs.BoolLaws.{both, join}
use Rattle.words.proofs.FirstLaws.{at_one, not_at}
use Rattle.counts.specs.declared.Geo.{Geo}
use Rattle.entries.specs.declared.Run.{Run}
use Rattle.entries.specs.declared.Version.{Version}
use Rattle.entries.specs.declared.Version.TheVariants.{Absent, Present}
use Rattle.entries.specs.Entries.{name_bytes, shown, good_byte, good_name, name_of, name_ok, entry_ok}
use Rattle.entries.proofs.PassLaws.{Passes, passes, good-name, RunIs, run_holds, run_room, shown-run}
use Rattle.directory.specs.Directory.{gone, apart, named}
use Rattle.card.specs.Files.{cons_file, files_of, content_of, run_of}
use Rattle.card.proofs.PieceLaws.{content-run}
use Rattle.promises_answers.specs.PlainList.{Item, line_name, items, lookup}
use Rattle.promises_answers.specs.PlainCalls.{Told, Lines, none_left, one_more}

abbrev pub is_wide : List ℕ → Bool
is_wide p = eqb (length p) 128

-- a name that passes as an entry's is good
pub name-good : (p : List ℕ) → length p ≡ 128 → name_ok (word_at p 8) (name_bytes p) ≡ true → (good_name (name_of p) ≡ true) × (length (name_of p) ≡ word_at p 8)
unfolding name_ok good_name name_of name_bytes
name-good p l h =
    let (r₁, d) = both _ (every is_zero (drop (word_at p 8) (take 32 (drop 12 p)))) h in
    let (r₂, c) = both _ (every good_byte (take (word_at p 8) (take 32 (drop 12 p)))) r₁ in
    let (a, b) = both (leb 1 (word_at p 8)) (leb (word_at p 8) 32) r₂ in
    let w : length (take 32 (drop 12 p)) ≡ 32 = length-take-le 32 (drop 12 p) (simp length-drop (omega arith)) in
    let m : length (take (word_at p 8) (take 32 (drop 12 p))) ≡ word_at p 8 = length-take-le _ _ (omega (arith, leb-true (word_at p 8) 32 b)) in
    (rw m (join _ _ (join _ _ a b) c), m)

-- the content of a run that lies in the image has the file's bytes
pub content-length : (g : Geo) (img : List ℕ) (r : Run) → length img ≡ 512 * g.s → RunIs g r → length (content_of img r) ≡ r.bytes
content-length g img r l R =
    rw (content-run img r (run_holds g r R))
    (length-take-le r.bytes (drop (512 * r.start.0) img) (simp length-drop (omega (arith, run_holds g r R, run_room g r R))))

-- two items with other names
abbrev pub differ : Item → Item → Bool
differ x y = not (eq_list x.name y.name)

module _ (tab img : List ℕ) where
  abbrev pub list_of : List (List ℕ) → List Item
  list_of ps = items img (files_of tab ps)

  abbrev item : List ℕ → Run → Item
  item p r = record { name = name_of p; content = content_of img r }

  -- the files and the list, entry by entry
  files-absent : (p : List ℕ) (ps : List (List ℕ)) → shown tab p ≡ Absent → files_of tab (p ∷ ps) ≡ files_of tab ps
  unfolding files_of cons_file
  files-absent p ps e = rw e

  files-present : (p : List ℕ) (ps : List (List ℕ)) {r : Run} → shown tab p ≡ Present r → files_of tab (p ∷ ps) ≡ record { size = word_at p 8; name = name_bytes p; run = r } ∷ files_of tab ps
  unfolding files_of cons_file
  files-present p ps e = rw e

  pub list-absent : (p : List ℕ) (ps : List (List ℕ)) → shown tab p ≡ Absent → list_of (p ∷ ps) ≡ list_of ps
  list-absent p ps e = ap (items img) (files-absent p ps e)

  pub list-present : (p : List ℕ) (ps : List (List ℕ)) {r : Run} → shown tab p ≡ Present r → list_of (p ∷ ps) ≡ item p r ∷ list_of ps
  unfolding items line_name name_of
  list-present p ps e = ap (items img) (files-present p ps e)

  -- ---- names

  module _ (g : Geo) (bound : ℕ) where
    pub list-good : (ps : List (List ℕ)) → every (entry_ok g bound tab) ps ≡ true → every is_wide ps ≡ true → every (λ x. good_name x.name) (list_of ps) ≡ true
    unfolding every
    list-good [] h w = unfold files_of items in refl
    list-good (p ∷ ps) h w =
        let (a, b) = both (entry_ok g bound tab p) _ h in
        let (u, v) = both (is_wide p) _ w in
        go (shown tab p) refl (passes g bound tab p a) (eqb-true _ _ u) (list-good ps b v)
      where
        go : (v : Version) → shown tab p ≡ v → Passes g bound tab p → length p ≡ 128 → every (λ x. good_name x.name) (list_of ps) ≡ true
            → every (λ x. good_name x.name) (list_of (p ∷ ps)) ≡ true
        go Absent e P l r = rw (list-absent p ps e) r
        go (Present x) e P l r =
            rw (list-present p ps e) (join _ _ (name-good p l (good-name g bound tab p P (rw e))).0 r)

    -- names and lengths as the lines have them
    pub list-told : (ps : List (List ℕ)) → every (entry_ok g bound tab) ps ≡ true → every is_wide ps ≡ true → length img ≡ 512 * g.s → Lines (list_of ps) (files_of tab ps)
    unfolding every
    list-told [] h w l = unfold files_of items in none_left
    list-told (p ∷ ps) h w l =
        let (a, b) = both (entry_ok g bound tab p) _ h in
        let (u, v) = both (is_wide p) _ w in
        go (shown tab p) refl (passes g bound tab p a) (eqb-true _ _ u) (list-told ps b v l)
      where
        go : (v : Version) → shown tab p ≡ v → Passes g bound tab p → length p ≡ 128 → Lines (list_of ps) (files_of tab ps) → Lines (list_of (p ∷ ps)) (files_of tab (p ∷ ps))
        go Absent e P q r = rw (files-absent p ps e) r
        go (Present x) e P q r =
            let R : RunIs g x = shown-run g tab p P.wf e in
            let m : length (name_of p) ≡ word_at p 8 = (name-good p q (good-name g bound tab p P (rw e))).1 in
            let t : Told (item p x) (record { size = word_at p 8; name = name_bytes p; run = x }) =
            record { name = unfold line_name name_of in refl; size = sym m; bytes = sym (content-length g img x l R) } in
            rw (list-present p ps e, files-present p ps e) (one_more t r)

  -- ---- no two alike

  apart-shown : (tc p q : List ℕ) {r r' : Run} → shown tab p ≡ Present r → shown tab q ≡ Present r' → apart tab tc p q ≡ true → not (eq_list (name_of p) (name_of q)) ≡ true
  unfolding apart gone
  apart-shown tc p q e f h = rw (e, f) at h

  one_apart : (tc p : List ℕ) {r : Run} (c : List ℕ) → shown tab p ≡ Present r → (ps : List (List ℕ)) → every (apart tab tc p) ps ≡ true → every (differ (record { name = name_of p; content = c })) (list_of ps) ≡ true
  unfolding every
  one_apart tc p c e [] h = unfold files_of items in refl
  one_apart tc p {r} c e (q ∷ ps) h =
      let (a, b) = both (apart tab tc p q) _ h in
      go (shown tab q) refl a (one_apart tc p c e ps b)
    where
      go : (v : Version) → shown tab q ≡ v → apart tab tc p q ≡ true → every (differ (record { name = name_of p; content = c })) (list_of ps) ≡ true
          → every (differ (record { name = name_of p; content = c })) (list_of (q ∷ ps)) ≡ true
      go Absent f a ih = rw (list-absent q ps f) ih
      go (Present x) f a ih = rw (list-present q ps f) (join _ _ (apart-shown tc p q e f a) ih)

  pub list-alone : (tc : List ℕ) (ps : List (List ℕ)) → pairwise (apart tab tc) ps ≡ true → pairwise differ (list_of ps) ≡ true
  unfolding pairwise
  list-alone tc [] h = unfold files_of items in refl
  list-alone tc (p ∷ ps) h =
      let (a, b) = both (every (apart tab tc p) ps) _ h in
      go (shown tab p) refl a (list-alone tc ps b)
    where
      go : (v : Version) → shown tab p ≡ v → every (apart tab tc p) ps ≡ true → pairwise differ (list_of ps) ≡ true → pairwise differ (list_of (p ∷ ps)) ≡ true
      go Absent e a ih = rw (list-absent p ps e) ih
      go (Present x) e a ih = rw (list-present p ps e) (join _ _ (one_apart tc p (content_of img x) e ps a) ih)

  -- ---- looking a name up

  module _ (n : List ℕ) where
    pub named-absent : (p : List ℕ) → shown tab p ≡ Absent → named tab tab n p ≡ false
    unfolding named gone
    named-absent p e = rw e

    pub named-present : (p : List ℕ) {r : Run} → shown tab p ≡ Present r → named tab tab n p ≡ eq_list n (name_of p)
    unfolding named gone
    named-present p e = rw e

    pub look_none : (i : ℕ) (ps : List (List ℕ)) → first_at (named tab tab n) i ps ≡ None → lookup n (list_of ps) ≡ none
    unfolding first_at lookup
    look_none i [] h = unfold files_of items in refl
    look_none i (p ∷ ps) h = go (shown tab p) refl (look_none (suc i) ps)
      where
        go : (v : Version) → shown tab p ≡ v → (first_at (named tab tab n) (suc i) ps ≡ None → lookup n (list_of ps) ≡ none) → lookup n (list_of (p ∷ ps)) ≡ none
        go Absent e ih = rw (list-absent p ps e) (ih (rw (named-absent p e) at h))
        go (Present x) e ih = rw (list-present p ps e) (pick (eq_list n (name_of p)) refl)
          where
            pick : (b : Bool) → eq_list n (name_of p) ≡ b → cond (eq_list n (name_of p)) (some (content_of img x)) (lookup n (list_of ps)) ≡ none
            pick true q = not_at (rw (named-present p e, q) at h)
            pick false q = rw q (ih (rw (named-present p e, q) at h))

    -- place m, counted from i, has what the list has under the name
    abbrev pub Seen : ℕ → ℕ → List (List ℕ) → Type 0
    Seen i m ps = (j : ℕ) × (m ≡ i + j) × (lookup n (list_of ps) ≡ some (content_of img (run_of (shown tab (get_or ps j [])))))

    later : (i m : ℕ) (p : List ℕ) (ps : List (List ℕ)) → Seen (suc i) m ps → lookup n (list_of (p ∷ ps)) ≡ lookup n (list_of ps) → Seen i m (p ∷ ps)
    later i m p ps w e = (suc w.0, omega (arith, w.1), e ∙ w.2)

    pub look-some : (i m : ℕ) (ps : List (List ℕ)) → first_at (named tab tab n) i ps ≡ Some m → Seen i m ps
    unfolding first_at lookup
    look-some i m [] h = not_at (sym h)
    look-some i m (p ∷ ps) h = go (shown tab p) refl (look-some (suc i) m ps)
      where
        go : (v : Version) → shown tab p ≡ v → (first_at (named tab tab n) (suc i) ps ≡ Some m → Seen (suc i) m ps) → Seen i m (p ∷ ps)
        go Absent e ih = later i m p ps (ih (rw (named-absent p e) at h)) (ap (lookup n) (list-absent p ps e))
        go (Present x) e ih = pick (eq_list n (name_of p)) refl
          where
            pick : (b : Bool) → eq_list n (name_of p) ≡ b → Seen i m (p ∷ ps)
            pick true q =
                let z : Some i ≡ Some m = rw (named-present p e, q) at h in
                let y : lookup n (list_of (p ∷ ps)) ≡ some (content_of img x) = rw (list-present p ps e, q) in
                let u : run_of (shown tab p) ≡ x = (unfold run_of in rw e) in
                (0, omega (arith, at_one z), y ∙ rw u)
            pick false q =
                let z : first_at (named tab tab n) (suc i) ps ≡ Some m = rw (named-present p e, q) at h in
                let y : lookup n (list_of (p ∷ ps)) ≡ lookup n (list_of ps) = rw (list-present p ps e, q) in
                later i m p ps (ih z) y
