-- Wrong builds of put: a sector freed since the last sync is used; an entry gets a new name while the cut view shows it. Each gives 0, and with one sector
-- landed a cut reads as no moment did: demand 3 is false of it. Assumes nothing.
use Rattle.std.specs.Prelude.{Option, Some}
use mathlib.Core.Path.{◌≡◌, refl, sym, ap, ◌∙◌}
use mathlib.Core.Bool.{true, false}
use mathlib.Core.List.{List, [], ◌∷◌}
use mathlib.Core.Logic.{◌≢◌}
use mathlib.Core.Option.{none, some}
use Prim.Native.Nat.{ℕ, ◌*◌, ◌<◌}
use native.Mathlib.Omega.{arith}
use lib.ListN.{length}
use Rattle.sectors.specs.declared.Sector.{Sector}
use Rattle.sectors.specs.Sectors.{sec, set_sec}
use Rattle.entries.specs.Entries.{good_name, sectors_for}
use Rattle.card.specs.Plan.{guard, need, ended, do_it, done, Changed}
use Rattle.session.specs.declared.Opened.{Opened}
use Rattle.session.specs.Session.{Session}
use Rattle.session.specs.Fits.{fits}
use Rattle.store.specs.Edit.{place_in, put_work, remove_work}
use Rattle.promises_answers.specs.PlainList.{Item, shown_by, lookup}
use Rattle.promises_crash.specs.History.{World, Reach}
use Rattle.promises_trials.proofs.TrialsCard.{a, b, seven, stretch, card_s, computes}
use Rattle.promises_trials.proofs.TrialsRun.{at-synced, good}
use Rattle.promises_trials.proofs.TrialsSync.{some-none}
use Rattle.promises_trials.proofs.TrialsEdit.{PutsRead, one-shows, plan_by, put_by, lowest_in, run_now, place_now, work_r, removed, reach-removed, removed-fits}

-- a put that finds an entry and a run goes through
by-plan : (place : Opened → List ℕ → List ℕ → Option ℕ) (run : Opened → List ℕ → ℕ → Option ℕ) (s : Opened) (work n d : List ℕ) (j : ℕ) (i : Sector) → fits s work ≡ true
    → s.worn ≡ false → good_name n ≡ true → place s work n ≡ Some j → run s work (sectors_for (length d)) ≡ Some i.0 → plan_by place run s work n d ≡ do_it j i
unfolding plan_by guard need
by-plan place run s work n d j i f w g p r = rw (f, g, p, r, w)

-- what it gives
by-done : (place : Opened → List ℕ → List ℕ → Option ℕ) (run : Opened → List ℕ → ℕ → Option ℕ) (s : Opened) (work n d : List ℕ) (j : ℕ) (i : Sector)
    → plan_by place run s work n d ≡ do_it j i → put_by place run (Some s) work n d ≡ record { answer = done 0; image = put_work s j i work n d }
unfolding put_by ended
by-done place run s work n d j i e = rw e

-- two lists that have different contents under a name
some-other : (l m : List Item) (n d e : List ℕ) → lookup n l ≡ some d → lookup n m ≡ some e → d ≢ e → l ≢ m
some-other l m n d e p q o h = o (let u : some d ≡ some e = sym p ∙ ap (lookup n) h ∙ q in cc)

-- a put that gives 0 and this image is refused, if sector i, landed alone, changes what is read
refuse : (w : World) → Reach w → (p : Session → List ℕ → List ℕ → List ℕ → Changed) → PutsRead p → (n d image : List ℕ) (i : ℕ)
    → p w.session w.work n d ≡ record { answer = done 0; image = image } → length w.card ≡ 512 * 10 → length image ≡ 512 * 10 → i < 10
    → shown_by (set_sec w.card i (sec image i)) ≢ w.last → ⊥
unfolding done
refuse w reach p h n d image i e l m k o = one-shows w reach (record { answer = done 0; image = image }) 10 i refl l m k o (rw e at (h w reach n d))

card-sized : length card_s ≡ 512 * 10
unfolding computes
card-sized = refl

-- ---- a sector freed since the last sync is used

reuse-finds : (place_in (stretch 2) work_r b ≡ Some 1) × (run_now (stretch 2) work_r 1 ≡ Some 6) × (lowest_in (stretch 2) work_r 1 ≡ Some 7)
unfolding computes work_r remove_work run_now lowest_in
reuse-finds = (refl, refl, refl)

unfoldable pub work_reused : List ℕ
work_reused = put_work (stretch 2) 1 (record { 0 = 6 }) work_r b (8 ∷ [])

-- with sector 6 landed alone `a` reads as the content of `b`
pub reuse-shows : (length work_reused ≡ 512 * 10) × (lookup a (shown_by (set_sec card_s 6 (sec work_reused 6))) ≡ some (8 ∷ []))
unfolding computes work_r remove_work work_reused shown_by
reuse-shows = (refl, refl)

not_eight : ◌≢◌ {A = List ℕ} (8 ∷ []) seven
not_eight e = let z : ◌≡◌ {A = ℕ} 8 7 = cc in absurd (omega (arith, z))

-- it is refused
pub cut-view-reused : ¬ PutsRead (put_by place_in run_now)
unfolding removed
cut-view-reused h =
    refuse removed reach-removed _ h b (8 ∷ []) work_reused 6
    (unfold work_reused in by-done place_in run_now (stretch 2) work_r b (8 ∷ []) 1 (record { 0 = 6 })
    (by-plan place_in run_now (stretch 2) work_r b (8 ∷ []) 1 (record { 0 = 6 }) removed-fits refl good.1 reuse-finds.0 (rw good.2 reuse-finds.1)))
    card-sized reuse-shows.0 (omega arith) (some-other _ _ a (8 ∷ []) seven reuse-shows.1 at-synced not_eight)

-- ---- an entry gets a new name while the cut view shows it

over-finds : (place_now (stretch 2) work_r b ≡ Some 0) × (place_in (stretch 2) work_r b ≡ Some 1)
unfolding computes work_r remove_work place_now
over-finds = (refl, refl)

unfoldable pub work_over : List ℕ
work_over = put_work (stretch 2) 0 (record { 0 = 7 }) work_r b seven

-- with the directory landed alone the file `a` is called `b`
pub over-shows : (length work_over ≡ 512 * 10) × (lookup a (shown_by (set_sec card_s 5 (sec work_over 5))) ≡ none)
    × (lookup b (shown_by (set_sec card_s 5 (sec work_over 5))) ≡ some seven)
unfolding computes work_r remove_work work_over shown_by
over-shows = (refl, refl, refl)

-- it is refused
pub new-name-over-cut : ¬ PutsRead (put_by place_now lowest_in)
unfolding removed
new-name-over-cut h =
    refuse removed reach-removed _ h b seven work_over 5
    (unfold work_over in by-done place_now lowest_in (stretch 2) work_r b seven 0 (record { 0 = 7 })
    (by-plan place_now lowest_in (stretch 2) work_r b seven 0 (record { 0 = 7 }) removed-fits refl good.1 over-finds.0 (rw good.2 reuse-finds.2)))
    card-sized over-shows.0 (omega arith) (λ e. some-none _ _ a seven at-synced over-shows.1 (sym e))
