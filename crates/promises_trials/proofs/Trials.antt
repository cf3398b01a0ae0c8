-- "Try these on the contracts: a store that always says 8 or 2, and one that always says 0": the table of numbers shuts them out, whatever the
-- number and for every call. The other trial stores are in TrialsStore (stores nothing; counts made up; the order of sync's writes), TrialsSync
-- (later syncs that only say so) and TrialsTable (the table sector first, at a cut), on the history of TrialsCard and TrialsRun, and in TrialsFree (a
-- figure of free made up). The wrong builds
-- are in TrialsReuse (a sector that the cut view holds; a new name over an entry that it shows), TrialsWrap (counts compared after a wrap), TrialsEarly
-- (table word c written early) and TrialsBuild (a dead stamp at C). Assumes nothing.
use Rattle.std.specs.Prelude.{Some, None}
use mathlib.Core.Path.{◌≡◌, refl, ◌∙◌}
use mathlib.Core.Bool.{true, false}
use mathlib.Core.List.{List, [], ◌∷◌}
use mathlib.Core.Logic.{◌≢◌, inl, inr, ⊎_elim}
use Prim.Native.Nat.{ℕ}
use native.Mathlib.Omega.{arith}
use lib.ListN.{length}
use Rattle.words.specs.Lists.{part}
use Rattle.words.specs.Bytes.{word_at}
use Rattle.words.proofs.BoolLaws.{never}
use Rattle.sectors.specs.Sectors.{sec}
use Rattle.counts.specs.declared.Geo.{Geo}
use Rattle.counts.specs.Geometry.{geo_ok, geo_of}
use Rattle.entries.specs.Entries.{sectors_for}
use Rattle.card.specs.declared.Line.{Line}
use Rattle.card.specs.Make.{fresh_card}
use Rattle.card.proofs.SoundLaws.{shape-inv}
use Rattle.card.specs.Means.{GoodName}
use Rattle.card.proofs.MeansParts.{limits-mean}
use Rattle.card.proofs.FreshLaws.{fresh-shape}
use Rattle.card.proofs.FreshSectors.{fresh-length}
use Rattle.session.specs.declared.Opened.{Opened}
use Rattle.session.specs.Session.{Session}
use Rattle.session.specs.Fits.{sizes_ok, fits}
use Rattle.session.specs.FitMeans.{Fits}
use Rattle.session.proofs.FitMeansProved.{fits-mean}
use Rattle.promises_answers.specs.Numbers.{Row, Gives, Exactly, Misshapen, NoEntry, NoRoom, make_rows, mount_rows, put_rows, remove_rows, get_rows, list_rows, free_rows, land_rows, sync_rows, unmount_rows, read_rows, read_list_rows, read_get_rows}
use Rattle.promises_answers.proofs.RowLaws.{clash}
use Rattle.promises_answers.proofs.Numbers.NumbersWhole.{outside}
use Rattle.promises_answers.proofs.Numbers.NumbersProved.{numbers}
use Rattle.promises_crash.proofs.NoTwoProved.{other, lacks}
use Rattle.promises_trials.proofs.TrialsCard.{ten, ten-ok, a, seven}
use Rattle.promises_trials.proofs.TrialsRun.{mounted, at-mounted}

-- ---- one number for everything is refused

-- the first row is due, and has number m
abbrev pub Leads : ℕ → List Row → Type 0
Leads m [] = ⊥
Leads m (r ∷ rows) = r.due × (r.number ≡ m)

-- the first row is not due, and no other has number m
abbrev pub Passes : ℕ → List Row → Type 0
Passes m [] = ⊥
Passes m (r ∷ rows) = (¬ r.due) × (other m rows ≡ true)

-- there only m is right
leads : (m k : ℕ) (rows : List Row) → Leads m rows → Gives rows k → k ≡ m
leads m k [] l g = absurd l
leads m k (r ∷ rows) l (inl p) = p.1 ∙ l.1
leads m k (r ∷ rows) l (inr p) = absurd (p.0 l.0)

-- there m is wrong
passes : (m : ℕ) (rows : List Row) → Passes m rows → ¬ Gives rows m
passes m [] p g = p
passes m (r ∷ rows) p (inl q) = p.0 q.0
passes m (r ∷ rows) p (inr q) = lacks m rows p.1 q.1

-- a call that is due m at one place and something else at another has no number that is right at both
fixed : {A : Type 0} (m : ℕ) (table : A → List Row) (x y : A) → Leads m (table x) → Passes m (table y)
    → (k : ℕ) → ¬ ((z : A) → Exactly k (table z))
fixed m table x y l p k h =
    let e = leads m k (table x) l ((h x k).0 refl) in
    passes m (table y) p ((h y m).0 e)

-- ---- the session calls: a closed session is due 4, an open one is not

-- an open session; it fits no image
unfoldable blank : Opened
blank = record { geo = record { s = 0; t = 0; d = 0 }; c = record { 0 = 0 }; t = record { 0 = 0 }; worn = false }

-- it is not the closed one
open-not : ¬ (Some blank ≡ None)
open-not e = never cc

-- a put that always says k; so for k = 8, for k = 2 and for k = 0
pub always-put : (k : ℕ) → ¬ ((s : Session) (work n d : List ℕ) → Exactly k (put_rows s work n d))
always-put k h = fixed 4 (λ s. put_rows s [] [] []) None (Some blank) (refl, refl) (open-not, refl) k (λ s. h s [] [] [])

-- the same of every other call of a session
pub always-remove : (k : ℕ) → ¬ ((s : Session) (work n : List ℕ) → Exactly k (remove_rows s work n))
always-remove k h = fixed 4 (λ s. remove_rows s [] []) None (Some blank) (refl, refl) (open-not, refl) k (λ s. h s [] [])

pub always-get : (k : ℕ) → ¬ ((s : Session) (work n out : List ℕ) → Exactly k (get_rows s work n out))
always-get k h = fixed 4 (λ s. get_rows s [] [] []) None (Some blank) (refl, refl) (open-not, refl) k (λ s. h s [] [] [])

pub always-list : (k : ℕ) → ¬ ((s : Session) (work : List ℕ) (lines : List Line) → Exactly k (list_rows s work lines))
always-list k h = fixed 4 (λ s. list_rows s [] []) None (Some blank) (refl, refl) (open-not, refl) k (λ s. h s [] [])

pub always-free : (k : ℕ) → ¬ ((s : Session) (work : List ℕ) → Exactly k (free_rows s work))
always-free k h = fixed 4 (λ s. free_rows s []) None (Some blank) (refl, refl) (open-not, refl) k (λ s. h s [])

pub always-land : (k : ℕ) → ¬ ((s : Session) (card work : List ℕ) (i : ℕ) → Exactly k (land_rows s card work i))
always-land k h = fixed 4 (λ s. land_rows s [] [] 0) None (Some blank) (refl, refl) (open-not, refl) k (λ s. h s [] [] 0)

pub always-sync : (k : ℕ) → ¬ ((s : Session) (card work : List ℕ) → Exactly k (sync_rows s card work))
always-sync k h = fixed 4 (λ s. sync_rows s [] []) None (Some blank) (refl, refl) (open-not, refl) k (λ s. h s [] [])

pub always-unmount : (k : ℕ) → ¬ ((s : Session) (card work : List ℕ) → Exactly k (unmount_rows s card work))
always-unmount k h = fixed 4 (λ s. unmount_rows s [] []) None (Some blank) (refl, refl) (open-not, refl) k (λ s. h s [] [])

-- ---- the calls on a card: an image of no bytes is due 1, a fresh card is not

-- no bytes: too short to store S
nothing : Misshapen []
unfolding geo_ok geo_of sec part word_at
nothing = inl (outside (geo_of (sec [])) refl)

-- a fresh card has the right shape
fresh-not : ¬ Misshapen (fresh_card ten)
fresh-not m = let (a, b) = shape-inv (fresh_card ten) (fresh-shape ten ten-ok) in ⊎_elim (λ e. e ((limits-mean (geo_of (sec (fresh_card ten)))).0 a)) (λ o. o b) m

-- a make that always says k
pub always-make : (k : ℕ) → ¬ ((g : Geo) (card : List ℕ) → Exactly k (make_rows g card))
always-make k h =
    fixed 1 (make_rows ten) [] (fresh_card ten) (inr (λ e. absurd (omega arith)), refl)
    (λ m. ⊎_elim (λ e. e ((limits-mean ten).0 ten-ok)) (λ o. o (fresh-length ten ten-ok)) m, refl) k (h ten)

-- a mount that always says k
pub always-mount : (k : ℕ) → ¬ ((card work : List ℕ) → Exactly k (mount_rows card work))
always-mount k h =
    fixed 1 (λ x. mount_rows x x) [] (fresh_card ten) (inl nothing, refl) (λ m. ⊎_elim fresh-not (λ o. o refl) m, refl) k (λ x. h x x)

-- reading that always says k, and its own list and get
pub always-read : (k : ℕ) → ¬ ((img : List ℕ) → Exactly k (read_rows img))
always-read k h = fixed 1 read_rows [] (fresh_card ten) (nothing, refl) (fresh-not, refl) k h

pub always-read-list : (k : ℕ) → ¬ ((img : List ℕ) (lines : List Line) → Exactly k (read_list_rows img lines))
always-read-list k h = fixed 1 (λ x. read_list_rows x []) [] (fresh_card ten) (nothing, refl) (fresh-not, refl) k (λ x. h x [])

pub always-read-get : (k : ℕ) → ¬ ((img n out : List ℕ) → Exactly k (read_get_rows img n out))
always-read-get k h = fixed 1 (λ x. read_get_rows x [] []) [] (fresh_card ten) (nothing, refl) (fresh-not, refl) k (λ x. h x [] [])

-- ---- a store that refuses where it could: only 0 is right there

-- put in a session that fits and is not worn, of a good name, where there is an entry and room: not 8, not 2, nothing but 0
pub put-where-room : (o : Opened) (work n d : List ℕ) → Fits o work → o.worn ≡ false → GoodName n
    → ¬ NoEntry o work n → ¬ NoRoom o work (sectors_for (length d)) → (k : ℕ) → Exactly k (put_rows (Some o) work n d) → k ≡ 0
put-where-room o work n d f w g e r k h =
    (h 0).1 (inr (λ c. never cc, inr (λ x. x f, inr (λ x. clash x w, inr (λ x. x g, inr (e, inr (r, refl)))))))

-- a put whose every answer is a refusal, 8 or 2 or any other, by turns or always: `a` with one byte, on a fresh card, is due 0
pub never_done : (f : Session → List ℕ → List ℕ → List ℕ → ℕ) → ((s : Session) (work n d : List ℕ) → f s work n d ≢ 0)
    → ¬ ((s : Session) (work n d : List ℕ) → Exactly (f s work n d) (put_rows s work n d))
never_done f o h =
    let s = mounted.session in
    let work = mounted.work in
    let due = (numbers.of_put s work a seven 0).0 at-mounted.0 in
    o s work a seven ((h s work a seven 0).1 due)

-- it does not fit
blank-unfit : fits blank [] ≡ false
unfolding blank fits sizes_ok geo_ok
blank-unfit = refl

-- a put that says 0 in every open session, whatever it says in a closed one: a session that does not fit is due 2
pub always-done : (f : Session → List ℕ → List ℕ → List ℕ → ℕ) → ((o : Opened) (work n d : List ℕ) → f (Some o) work n d ≡ 0)
    → ¬ ((s : Session) (work n d : List ℕ) → Exactly (f s work n d) (put_rows s work n d))
always-done f z h =
    let two = (h (Some blank) [] [] [] 2).1 (inr (open-not, inl (λ F. clash ((fits-mean blank []).1 F) blank-unfit, refl))) in
    absurd (omega (arith, two, z blank [] [] []))
