-- The files of a view are the lines of the entries that show one. Assumes nothing.
use mathlib.Core.Path.{◌≡◌, refl, sym, ap, ◌∙◌}
use mathlib.Core.Bool.{Bool, true, false, not, cond}
use mathlib.Core.List.{List, [], ◌∷◌}
use mathlib.Core.Path.{subst}
use mathlib.Core.Logic.{◌⊎◌, inl, inr}
use Prim.Native.Nat.{ℕ, zero, suc, ◌+◌, ◌*◌, ◌≤◌, ◌<◌}
use native.Mathlib.Omega.{arith}
use native.Mathlib.Numerals.{add-one}
use lib.ListN.{length, drop, length-drop, get_or, drop_of_length-le, length-map}
use lib.Seq.{drop-cons, length-take-le}
use denote.Ref.{Bor}
use Rattle.std.specs.Prelude.{map, filter, count_by, slice_get, Option, Some, None}
use Rattle.std.specs.Option.{option_map}
use Rattle.std.specs.List.{All}
use Rattle.std.proofs.lemmas.List.Elements.{All-filter}
use Rattle.std.proofs.lemmas.Option.{slice_get-map, slice_get_cases, none-some, same_Some}
use Rattle.std.proofs.lemmas.List.Sums.{length-filter}
use Rattle.words.specs.Bytes.{word_at}
use Rattle.sectors.specs.Sectors.{sec}
use Rattle.counts.specs.declared.Geo.{Geo}
use Rattle.counts.specs.Inner.{LaidOut}
use Rattle.directory.specs.Directory.{entries_of}
use Rattle.directory.specs.Inner.{place_of}
use Rattle.directory.proofs.DirectoryLaws.{entries-length, entry_at}
use Rattle.entries.specs.declared.Version.{Version}
use Rattle.entries.specs.declared.Version.TheVariants.{Absent, Present}
use Rattle.entries.specs.Entries.{shown, is_absent, name_bytes}
use Rattle.card.specs.declared.Line.{Line}
use Rattle.card.specs.Files.{cons_file, files_of, run_of}
use Rattle.card_files.specs.Inner.{shows, line_shown}

-- the first entry shows a file, or it does not
cons-is : (tab : List ℕ) (p : List ℕ) (ps : List (List ℕ)) → files_of tab (p ∷ ps) ≡ cond (shows tab p) (line_shown tab p ∷ files_of tab ps) (files_of tab ps)
unfolding files_of cons_file run_of
cons-is tab p ps = go (shown tab p)
  where
    go : (v : Version) → cons_file p v (files_of tab ps) ≡ cond (not (is_absent v)) (record { size = word_at p 8; name = name_bytes p; run = run_of v } ∷ files_of tab ps) (files_of tab ps)
    go Absent = refl
    go (Present r) = refl

pub files-are : (tab : List ℕ) (es : List (List ℕ)) → files_of tab es ≡ map (line_shown tab) (filter (shows tab) es)
unfolding files_of
files-are tab [] = refl
files-are tab (p ∷ ps) = cons-is tab p ps ∙ go (shows tab p) (files-are tab ps)
  where
    go : (b : Bool) → files_of tab ps ≡ map (line_shown tab) (filter (shows tab) ps)
        → cond b (line_shown tab p ∷ files_of tab ps) (files_of tab ps) ≡ map (line_shown tab) (cond b (p ∷ filter (shows tab) ps) (filter (shows tab) ps))
    go true e = rw e
    go false e = e

pub count-is : (tab : List ℕ) (es : List (List ℕ)) → count_by (shows tab) es ≡ length (files_of tab es)
count-is tab es = sym (ap length (files-are tab es) ∙ length-map _ (line_shown tab) ∙ length-filter (shows tab) es)

-- what is read off the entry at a position of those that show a file is the line at that position
module _ (tab : List ℕ) (es : List (List ℕ)) (i : ℕ) (o : Option (Bor (List ℕ))) (e : option_map (λ p. p.now) o ≡ slice_get (filter (shows tab) es) i) where
  pub line-none : o ≡ None → None ≡ slice_get (files_of tab es) i
  line-none n = sym (ap (λ fs. slice_get fs i) (files-are tab es) ∙ slice_get-map (line_shown tab) (filter (shows tab) es) i ∙ rw (← e, n) refl)

  pub line-some : {p : Bor (List ℕ)} {l : Line} → o ≡ Some p → l ≡ line_shown tab p.now → Some l ≡ slice_get (files_of tab es) i
  line-some n f = ap Some f ∙ sym (ap (λ fs. slice_get fs i) (files-are tab es) ∙ slice_get-map (line_shown tab) (filter (shows tab) es) i ∙ rw (← e, n) refl)

get_or-any : (es : List (List ℕ)) (k : ℕ) (d e : List ℕ) → k < length es → get_or es k d ≡ get_or es k e
get_or-any [] k d e h = absurd (omega arith)
get_or-any (x ∷ es) zero d e h = refl
get_or-any (x ∷ es) (suc k) d e h = get_or-any es k d e (omega arith)

all-each : (P : List ℕ → Type 0) (es : List (List ℕ)) → ((j : ℕ) → j < length es → P (get_or es j [])) → All P es
all-each P es h = λ k d l. subst P (get_or-any es k [] d l) (h k l)

one-of : (P : List ℕ → Type 0) (xs : List (List ℕ)) (i : ℕ) {x : List ℕ} → All P xs → slice_get xs i ≡ Some x → P x
one-of P xs i {x} a e = go (slice_get_cases xs i).1
  where
    go : ((y : List ℕ) × (i < length xs) × (slice_get xs i ≡ Some y) × (get_or xs i y ≡ y)) ⊎ ((length xs ≤ i) × (slice_get xs i ≡ None)) → P x
    go (inl (y, l, s, g)) = subst P (g ∙ same_Some _ _ (sym s ∙ e)) (a i y l)
    go (inr (l, n)) = absurd (none-some _ (sym n ∙ e))

pub entries-long : (g : Geo) (img : List ℕ) → LaidOut g img → (j : ℕ) → j < length (entries_of g (sec img)) → length (get_or (entries_of g (sec img)) j []) ≡ 128
entries-long g img laid j h =
    let k : j < 4 * g.d = omega (arith, entries-length g img) in
    rw (entry_at g img j k) (length-take-le 128 (drop (place_of g j) img) (omega (arith, length-drop (place_of g j) img, laid.dir, laid.room)))

-- it is one of the entries, and as long as each
pub shown-long : (tab : List ℕ) (es : List (List ℕ)) (i : ℕ) (o : Option (Bor (List ℕ))) {p : Bor (List ℕ)} → ((j : ℕ) → j < length es → length (get_or es j []) ≡ 128)
    → option_map (λ q. q.now) o ≡ slice_get (filter (shows tab) es) i → o ≡ Some p → length p.now ≡ 128
shown-long tab es i o {p} h e n =
    let P : List ℕ → Type 0 = λ l. length l ≡ 128 in
    one-of P (filter (shows tab) es) i (All-filter (shows tab) P es (all-each P es h)) (sym e ∙ ap (option_map (λ q. q.now)) n)

-- entry j and those behind it
module _ (tab : List ℕ) (es : List (List ℕ)) (j : ℕ) (h : j < length es) where
  from-entry : files_of tab (drop j es) ≡ cond (shows tab (get_or es j [])) (line_shown tab (get_or es j []) ∷ files_of tab (drop (j + 1) es)) (files_of tab (drop (j + 1) es))
  from-entry = rw (add-one, drop-cons es j [] h) (cons-is tab (get_or es j []) (drop (suc j) es))

  pub next-one : true ≡ shows tab (get_or es j []) → files_of tab (drop j es) ≡ line_shown tab (get_or es j []) ∷ files_of tab (drop (j + 1) es)
  next-one e = rw (← e) at from-entry

  pub next-none : false ≡ shows tab (get_or es j []) → files_of tab (drop j es) ≡ files_of tab (drop (j + 1) es)
  next-none e = rw (← e) at from-entry

-- no entry is left
pub next-end : (tab : List ℕ) (es : List (List ℕ)) (j : ℕ) → length es ≤ j → files_of tab (drop j es) ≡ []
unfolding files_of
next-end tab es j h = rw (drop_of_length-le es h)
