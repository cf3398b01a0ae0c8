-- Demand 2 as one simulation, stated: a plain list of names with contents goes along with every history of calls and cuts, and every answer of get, list, free
-- and reading is the list's. A reader needs document 01, PlainList, Whole (what the calls that look answer from a list) and History. Assumes nothing.
use Rattle.std.specs.Prelude.{◌≡◌, true, List, [], ℕ, zero, suc, length, Some, None}
use Rattle.std.proofs.Math.Option.{Option, none, some}
use Rattle.counts.specs.declared.Geo.{Geo}
use Rattle.card.specs.declared.Line.{Line}
use Rattle.card.specs.Means.{InLimits}
use Rattle.card.specs.Make.{fresh_card, make}
use Rattle.session.specs.Session.{Session}
use Rattle.store.specs.Mount.{mount}
use Rattle.store.specs.Edit.{put_at, remove}
use Rattle.store.specs.Look.{get, list, free}
use Rattle.store.specs.Sync.{land, sync, unmount}
use Rattle.promises_answers.specs.PlainList.{Item, without, With}
use Rattle.promises_crash.specs.History.{Left, World, Call, make_c, mount_c, sync_c, unmount_c, put_c, remove_c, land_c, get_c, list_c, free_c, after_cut, after, pending_in, is_sync, Reach, fresh, call, cut, cut_in}
use Rattle.promises_crash.specs.Whole.{ReadsAs, LooksAs}

-- ---- the plain store

-- the files that a cut would leave, and those of the session, if one is open
pub record Plain : Type 0 where
  pub kept : List Item
  pub present : Option (List Item)

-- no session is open
abbrev pub at_rest : List Item → Plain
at_rest l = record { kept = l; present = none }

-- a session is open that shows m
abbrev pub in_session : List Item → List Item → Plain
in_session l m = record { kept = l; present = some m }

-- what a call that gives 0 does to it, from p to q
pub data Does : Call → Plain → Plain → Type 0 where
  -- a card just made has no file
  makes : (g : Geo) (p : Plain) → Does (make_c g) p (at_rest [])
  -- the session shows what is kept
  mounts : (p : Plain) → Does mount_c p (in_session p.kept p.kept)
  -- the name's content is replaced or added, all others stay in their order
  puts : (n d : List ℕ) (goal : ℕ) {k l m : List Item} → With n d l m → Does (put_c n d goal) (in_session k l) (in_session k m)
  -- the name is gone, all others stay in their order
  removes : (n : List ℕ) (k l : List Item) → Does (remove_c n) (in_session k l) (in_session k (without n l))
  -- what the session shows is kept
  syncs : (k l : List Item) → Does sync_c (in_session k l) (in_session l l)
  unmounts : (k l : List Item) → Does unmount_c (in_session k l) (at_rest l)
  -- the others change nothing
  lands : (i : ℕ) (p : Plain) → Does (land_c i) p p
  gets : (n out : List ℕ) (p : Plain) → Does (get_c n out) p p
  lists : (lines : List Line) (p : Plain) → Does (list_c lines) p p
  frees : (p : Plain) → Does free_c p p

-- a refusal changes nothing; a mount ends a session that is still open
unfoldable pub refused_by : Call → Plain → Plain
refused_by (make_c g) p = p
refused_by mount_c p = at_rest p.kept
refused_by sync_c p = p
refused_by unmount_c p = p
refused_by (put_c n d goal) p = p
refused_by (remove_c n) p = p
refused_by (land_c i) p = p
refused_by (get_c n out) p = p
refused_by (list_c lines) p = p
refused_by free_c p = p

-- by the number that a call gave
abbrev pub Moves : Call → ℕ → Plain → Plain → Type 0
Moves c zero p q = Does c p q
Moves c (suc k) p q = q ≡ refused_by c p

-- the number that a call gives at a world
unfoldable pub gives_at : Call → World → ℕ
gives_at (make_c g) w = (make g w.card).answer.number
gives_at mount_c w = (mount w.card w.work).answer.number
gives_at sync_c w = (sync w.session w.card w.work).answer.number
gives_at unmount_c w = (unmount w.session w.card w.work).answer.number
gives_at (put_c n d goal) w = (put_at w.session w.work n d goal).answer.number
gives_at (remove_c n) w = (remove w.session w.work n).answer.number
gives_at (land_c i) w = (land w.session w.card w.work i).answer.number
gives_at (get_c n out) w = (get w.session w.work n out).answer.number
gives_at (list_c lines) w = (list w.session w.work lines).answer.number
gives_at free_c w = (free w.session w.work).number

-- ---- a history, and the plain store that goes along with it

pub data Along : (w : World) → Reach w → Plain → Type 0 where
  starts : (g : Geo) (work : List ℕ) (ok : InLimits g) → Along (after_cut (fresh_card g) work) (fresh g work ok) (at_rest [])
  calls : {w : World} {r : Reach w} {p q : Plain} → Along w r p → (c : Call) → Moves c (gives_at c w) p q → Along (after c w) (call r c) q
  -- a cut leaves what is kept
  cuts : {w : World} {r : Reach w} {p : Plain} → Along w r p → (card work : List ℕ) (x : Left w.pending (length w.card) card)
      → Along (after_cut card work) (cut r card work x) (at_rest p.kept)
  cuts_in : {w : World} {r : Reach w} {p : Plain} → Along w r p → (c : Call) (n : ℕ) (card work : List ℕ) (x : Left (pending_in c n w) (length w.card) card)
      → ReadsAs card p.kept → Along (after_cut card work) (cut_in r c n card work x) (at_rest p.kept)
  -- or, inside a sync or unmount, what the session showed at its start
  cuts_sync : {w : World} {r : Reach w} {k l : List Item} → Along w r (in_session k l) → (c : Call) (n : ℕ) (card work : List ℕ)
      (x : Left (pending_in c n w) (length w.card) card) → is_sync c ≡ true → ReadsAs card l → Along (after_cut card work) (cut_in r c n card work x) (at_rest l)

-- ---- every answer is the list's

-- get, list and free of the session, where one is open
abbrev pub SessionTells : Session → List ℕ → Option (List Item) → Type 0
SessionTells None work none = Unit
SessionTells None work (some l) = ⊥
SessionTells (Some s) work none = ⊥
SessionTells (Some s) work (some l) = LooksAs s work l

pub record Tells (w : World) (p : Plain) : Type 0 where
  -- reading the card, at any time, also while a session is open
  pub reading : ReadsAs w.card p.kept
  pub session : SessionTells w.session w.work p.present

-- in every history there is a plain store that went along with it, and every answer is its
pub record Simulated {w : World} (r : Reach w) : Type 0 where
  pub plain : Plain
  pub along : Along w r plain
  pub tells : Tells w plain

abbrev pub Simulation : Type 0
Simulation = (w : World) (r : Reach w) → Simulated r
