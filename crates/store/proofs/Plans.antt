-- The calls' plans: what one that goes through says of each test, that a refusal's number is not 0, and what a plan's number says of it. Assumes nothing.
use Rattle.std.specs.Prelude.{Some}
use mathlib.Core.Path.{◌≡◌, refl, sym, ap}
use mathlib.Core.Bool.{Bool, true, false, not}
use mathlib.Core.List.{List}
use mathlib.Core.Logic.{◌≢◌}
use Prim.Native.Nat.{ℕ, ◌<◌}
use native.Mathlib.Omega.{arith}
use borrow.Author.Tests.{not-true, eqb-true, ltb-true, lt-ltb}
use lib.ListN.{length}
use lib.Dec.{ltb}
use Rattle.words.specs.Lists.{first_at}
use Rattle.words.proofs.BoolLaws.{both}
use Rattle.sectors.specs.declared.Sector.{Sector}
use Rattle.sectors.specs.Sectors.{sec}
use Rattle.counts.specs.declared.Geo.{Geo}
use Rattle.counts.proofs.GeoLaws.{limits}
use Rattle.counts.specs.Geometry.{geo_ok, g_n, geo_of, count_of}
use Rattle.entries.specs.Entries.{sectors_for, good_name}
use Rattle.directory.specs.Directory.{entries_of, named}
use Rattle.card.specs.Plan.{refuse, do_it, go_ahead, Plan, guard, need, ended}
use Rattle.card.proofs.PlanLaws.{guard-inv, guard-yes, need-inv, Num, no!, go!, ahead!, guard-num, need-num}
use Rattle.card.specs.Make.{make_plan}
use Rattle.card.specs.Sound.{shape_ok, sound}
use Rattle.session.specs.declared.Opened.{Opened}
use Rattle.session.specs.Views.{present_table}
use Rattle.session.specs.Fits.{fits}
use Rattle.session.proofs.FitLaws.{Fit, fit-inv}
use Rattle.store.specs.Edit.{place_in, run_in, put_plan, remove_plan}
use Rattle.store.specs.Mount.{plan_number, mount_plan}
use Rattle.store.specs.Sync.{both_plan}

-- ---- the number of a plan

pub number-stop : (p : Plan) {n : ℕ} → n ≡ plan_number p → n ≢ 0 → p ≡ refuse n
unfolding plan_number ended
number-stop (refuse k) e h = ap refuse (sym e)
number-stop (do_it j a) e h = absurd (h e)

pub number-go : {p : Plan} {n : ℕ} → Num p → n ≡ plan_number p → n ≡ 0 → (j : ℕ) × (a : Sector) × (p ≡ do_it j a)
unfolding plan_number ended
number-go (no! k) e h = absurd (omega arith)
number-go (go! j a) e h = (j, a, refl)

-- ---- put and remove

pub record PutOk (s : Opened) (work n d : List ℕ) (goal j : ℕ) (a : Sector) : Type 0 where
  pub fit : fits s work ≡ true
  pub live : s.worn ≡ false
  pub name : good_name n ≡ true
  pub below : goal < s.geo.s
  pub entry : place_in s work n ≡ Some j
  pub run : run_in s work (sectors_for (length d)) goal ≡ Some a.0

pub put_inv : (s : Opened) (work n d : List ℕ) (goal j : ℕ) (a : Sector) → put_plan s work n d goal ≡ do_it j a → PutOk s work n d goal j a
unfolding put_plan
put_inv s work n d goal j a h =
    let (h₁, r₁) = guard-inv 2 _ _ h in
    let (h₂, r₂) = guard-inv 9 _ _ r₁ in
    let (h₃, r₃) = guard-inv 5 _ _ r₂ in
    let (h₄, r₄) = guard-inv 11 _ _ r₃ in
    let (i, h₅, r₅) = need-inv 7 _ _ r₄ in
    let (b, h₆, r₆) = need-inv 8 _ _ r₅ in
    let ei : i ≡ j = cc in
    let eb : b ≡ a.0 = cc in
    record { fit = h₁; live = not-true s.worn h₂; name = h₃; below = ltb-true _ _ h₄; entry = rw ei at h₅; run = rw eb at h₆ }

pub put-num : (s : Opened) (work n d : List ℕ) (goal : ℕ) → Num (put_plan s work n d goal)
unfolding put_plan
put-num s work n d goal = guard-num 1 _ (guard-num 8 _ (guard-num 4 _ (guard-num 10 _ (need-num 6 _ (λ j. need-num 7 _ (λ a. go! j _))))))

-- goal 0 is below the S of every session that fits: put without a goal is "4, 2, 9, 5, 7, 8"
pub put-plain : (s : Opened) (work n d : List ℕ) → put_plan s work n d 0
    ≡ guard 2 (fits s work) (guard 9 (not s.worn) (guard 5 (good_name n)
    (need 7 (place_in s work n) (λ j. need 8 (run_in s work (sectors_for (length d)) 0) (λ a. do_it j (record { 0 = a }))))))
unfolding put_plan
put-plain s work n d = go (fits s work) refl
  where
    go : (b : Bool) → fits s work ≡ b → guard 2 b (guard 9 (not s.worn) (guard 5 (good_name n) (guard 11 (ltb 0 s.geo.s)
        (need 7 (place_in s work n) (λ j. need 8 (run_in s work (sectors_for (length d)) 0) (λ a. do_it j (record { 0 = a })))))))
        ≡ guard 2 b (guard 9 (not s.worn) (guard 5 (good_name n) (need 7 (place_in s work n) (λ j. need 8 (run_in s work (sectors_for (length d)) 0) (λ a. do_it j (record { 0 = a }))))))
    go true e =
        let l = (limits s.geo (fit-inv s work e).shape).s_low in
        ap (λ (p : Plan). guard 2 true (guard 9 (not s.worn) (guard 5 (good_name n) p))) (guard-yes 11 _ (lt-ltb 0 s.geo.s (omega arith)))
    go false e = unfold guard in refl

pub record RemoveOk (s : Opened) (work n : List ℕ) (j : ℕ) : Type 0 where
  pub fit : fits s work ≡ true
  pub live : s.worn ≡ false
  pub name : good_name n ≡ true
  pub entry : first_at (named (present_table s (sec work)) (present_table s (sec work)) n) 0 (entries_of s.geo (sec work)) ≡ Some j

pub remove-inv : (s : Opened) (work n : List ℕ) (j : ℕ) (a : Sector) → remove_plan s work n ≡ do_it j a → RemoveOk s work n j
unfolding remove_plan
remove-inv s work n j a h =
    let (h₁, r₁) = guard-inv 2 _ _ h in
    let (h₂, r₂) = guard-inv 9 _ _ r₁ in
    let (h₃, r₃) = guard-inv 5 _ _ r₂ in
    let (i, h₄, r₄) = need-inv 6 _ _ r₃ in
    let ei : i ≡ j = cc in
    record { fit = h₁; live = not-true s.worn h₂; name = h₃; entry = rw ei at h₄ }

pub remove-num : (s : Opened) (work n : List ℕ) → Num (remove_plan s work n)
unfolding remove_plan
remove-num s work n = guard-num 1 _ (guard-num 8 _ (guard-num 4 _ (need-num 5 _ (λ j. go! j _))))

-- ---- make and mount

pub make-num : (g : Geo) (card : List ℕ) → Num (make_plan g card)
unfolding make_plan
make-num g card = guard-num 0 _ ahead!

pub make-ok : (g : Geo) (card : List ℕ) {j : ℕ} {a : Sector} → make_plan g card ≡ do_it j a → geo_ok g ≡ true
unfolding make_plan
make-ok g card h = (both (geo_ok g) _ (guard-inv 1 _ _ h).0).0

pub mount-num : (card work : List ℕ) → Num (mount_plan card work)
unfolding mount_plan
mount-num card work = guard-num 0 _ (guard-num 1 _ (guard-num 2 _ ahead!))

pub mount-few : (card work : List ℕ) (j : ℕ) (a : Sector) → mount_plan card work ≡ do_it j a → count_of (sec card) < g_n (geo_of (sec card))
unfolding mount_plan
mount-few card work j a h = ltb-true _ _ (guard-inv 3 _ _ (guard-inv 2 _ _ (guard-inv 1 _ _ h).1).1).0

pub mount-good : (card work : List ℕ) (j : ℕ) (a : Sector) → mount_plan card work ≡ do_it j a → (shape_ok card ≡ true) × (sound card ≡ true)
unfolding mount_plan
mount-good card work j a h =
    let (x, r) = guard-inv 1 _ _ h in
    ((both (shape_ok card) _ x).0, (guard-inv 2 _ _ r).0)

pub mount-same : (card work : List ℕ) (j : ℕ) (a : Sector) → mount_plan card work ≡ do_it j a → length work ≡ length card
unfolding mount_plan
mount-same card work j a h = eqb-true _ _ (both (shape_ok card) _ (guard-inv 1 _ _ h).0).1

-- ---- land, sync and unmount

pub both-inv : (s : Opened) (card work : List ℕ) (pl : Plan) {j : ℕ} {a : Sector} → both_plan s card work pl ≡ do_it j a → (fits s work ≡ true) × (pl ≡ do_it j a)
unfolding both_plan
both-inv s card work pl h = guard-inv 2 _ _ (guard-inv 1 _ _ h).1

pub both-num : (s : Opened) (card work : List ℕ) {pl : Plan} → Num pl → Num (both_plan s card work pl)
unfolding both_plan
both-num s card work h = guard-num 0 _ (guard-num 1 _ h)

pub sync-live : (s : Opened) (card work : List ℕ) {j : ℕ} {a : Sector} → both_plan s card work (guard 9 (not s.worn) go_ahead) ≡ do_it j a → Fit s work × (s.worn ≡ false)
sync-live s card work h = let (f, q) = both-inv s card work _ h in (fit-inv s work f, not-true s.worn (guard-inv 9 _ _ q).0)
