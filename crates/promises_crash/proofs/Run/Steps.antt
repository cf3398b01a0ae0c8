-- Put, remove, land, get, list, free and make keep the invariant. Assumes nothing.
use Rattle.std.specs.Prelude.{Some, None}
use mathlib.Core.Path.{◌≡◌, refl, sym, ◌∙◌, subst}
use mathlib.Core.Bool.{Bool, true, false}
use mathlib.Core.List.{List, Memᴰ}
use mathlib.Core.Logic.{⊎_elim}
use Prim.Native.Nat.{ℕ, suc, ◌<◌}
use native.Mathlib.Decide.{ℕ_discrete}
use borrow.Author.Tests.{ltb-true}
use lib.ListN.{length}
use Rattle.sectors.specs.declared.Sector.{Sector}
use Rattle.sectors.specs.Sectors.{sec, set_sec}
use Rattle.sectors.proofs.SectorLaws.{set_sec-length, set_sec-own}
use Rattle.sectors.proofs.FlatLaws.{sec-in, set_here, set_there}
use Rattle.counts.specs.declared.Geo.{Geo}
use Rattle.counts.specs.Geometry.{geo_ok, geo_of}
use Rattle.card.specs.Plan.{Plan, do_it, ended, refused, done, Changed}
use Rattle.card.proofs.PlanLaws.{guard-inv, Num, ahead!, guard-num, passing}
use Rattle.card.specs.Sound.{shape_ok, sound}
use Rattle.card.proofs.SoundLaws.{shape-inv}
use Rattle.card.specs.Make.{fresh_card, make}
use Rattle.card.proofs.FreshLaws.{fresh-shape, fresh-sound}
use Rattle.card.specs.Reading.{files_shown}
use Rattle.session.specs.declared.Opened.{Opened}
use Rattle.session.specs.Session.{Session}
use Rattle.session.specs.Fits.{fits}
use Rattle.session.proofs.FitLaws.{Fit, fit-inv}
use Rattle.store.specs.Edit.{put_at, remove}
use Rattle.store.specs.Sync.{land}
use Rattle.store.proofs.Plans.{put_inv, put-num, remove-inv, remove-num, both-inv, both-num, make-num, make-ok}
use Rattle.promises_answers.specs.PlainList.{Item, shown_by}
use Rattle.promises_crash.specs.History.{Pending, newest, all_written, World, after_cut, by_number, edited, make_c, put_c, remove_c, land_c, after}
use Rattle.promises_answers.proofs.Keep.{Keeps}
use Rattle.promises_answers.proofs.Ready.{own_of}
use Rattle.promises_answers.proofs.Base.{Kept, put-left, remove-left}
use Rattle.promises_crash.proofs.Play.{mem-cases, top-mem}
use Rattle.promises_crash.proofs.State.{good-rests, Live}
use Rattle.promises_crash.proofs.Inv.{Worn, OpenInv, InvOf, Inv, mk}

-- ---- a plan either refuses, and the world stays, or goes through

pub by-plan : {A : Type 0} (number : A → ℕ) (P : World → Type 0) (w : World) (stop : ℕ → A) (on : ℕ → Sector → A) (next : A → World) {pl : Plan}
    → ((k : ℕ) → number (stop k) ≡ k) → Num pl → P w → ((j : ℕ) (a : Sector) → pl ≡ do_it j a → P (by_number (number (on j a)) (next (on j a)) w))
    → P (by_number (number (ended pl stop on)) (next (ended pl stop on)) w)
unfolding by_number
by-plan number P w stop on next e q h f = passing (λ r. P (by_number (number r) (next r) w)) stop on q (λ k. rw (e (suc k)) h) f

-- a session that is not worn is live
pub to-live : (s : Opened) (w : World) → s.worn ≡ false → OpenInv s.worn s w → Live s w.card w.work w.pending w.last
to-live s w e h = subst (λ (b : Bool). OpenInv b s w) e h

pub from-live : (s : Opened) (w : World) → s.worn ≡ false → Live s w.card w.work w.pending w.last → OpenInv s.worn s w
from-live s w e h = subst (λ (b : Bool). OpenInv b s w) (sym e) h

-- ---- a card just made

pub inv-start : (card work : List ℕ) → shape_ok card ≡ true → sound card ≡ true → Inv (after_cut card work)
unfolding after_cut shown_by files_shown sound
inv-start card work h k =
    let (a, b) = shape-inv card h in
    (geo_of (sec card), good-rests (geo_of (sec card)) card _ (record { sized = b; geo = refl; ok = a; good = k; shows = refl }))

pub inv-fresh : (g : Geo) (work : List ℕ) → geo_ok g ≡ true → Inv (after_cut (fresh_card g) work)
inv-fresh g work ok = inv-start (fresh_card g) work (fresh-shape g ok) (fresh-sound g ok)

pub step-make : (g : Geo) (w : World) → Inv w → Inv (after (make_c g) w)
unfolding after make refused done by_number
step-make g w h =
    by-plan (λ (r : Changed). r.answer.number) Inv w _ _ (λ r. after_cut r.image w.work) (λ k. refl) (make-num g w.card) h
    (λ j a e. inv-fresh g w.work (make-ok g w.card e))

-- ---- put, remove, land in a live session

module _ (s : Opened) (card work : List ℕ) (p : Pending) (m : List Item) (V₀ : Live s card work p m) where
  pub work-keeps : (i : ℕ) → Keeps s.geo (own_of s) (sec V₀.img₀) i (sec work i)
  work-keeps i = V₀.keeps i (sec work i) (top-mem (p i) (V₀.top i))

  pub live-edit : (work' : List ℕ) → Kept s V₀.img₀ V₀.base work work-keeps work' → Live s card work' (all_written work' p) m
  unfolding all_written newest
  live-edit work' E =
      record {
        img₀ = V₀.img₀;
        base = V₀.base;
        geo = V₀.geo;
        shows = V₀.shows;
        keeps = λ i x y. ⊎_elim (λ q. rw q (E.keeps i)) (λ q. V₀.keeps i x q) (mem-cases y);
        top = λ i. refl;
        may = λ i. Memᴰ.tail (V₀.may i);
        sized = V₀.sized;
      }

  pub live-land : (i : ℕ) → i < s.geo.s → Fit s work → Live s (set_sec card i (sec work i)) work p m
  live-land i h F =
      let l = sec-in work s.geo.s i F.sized h in
      record {
        img₀ = V₀.img₀;
        base = V₀.base;
        geo = V₀.geo;
        shows = V₀.shows;
        keeps = V₀.keeps;
        top = V₀.top;
        may = λ j. go l j (ℕ_discrete j i);
        sized = set_sec-length card i (sec work i) ∙ V₀.sized;
      }
    where
      go : length (sec work i) ≡ 512 → (j : ℕ) → Dec (j ≡ i) → Memᴰ (sec (set_sec card i (sec work i)) j) (p j)
      go l j (yes e) = rw (e, set_here s.geo.s card (sec work i) i V₀.sized h l) (top-mem (p i) (V₀.top i))
      go l j (no o) = rw (set_there s.geo.s card (sec work i) i V₀.sized h l j o) (V₀.may j)

pub worn-land : (g : Geo) (card work : List ℕ) (p : Pending) (m : List Item) → Worn g card work p m → (i : ℕ) → Worn g (set_sec card i (sec work i)) work p m
worn-land g card work p m W i = let e : set_sec card i (sec work i) ≡ card = rw W.same (set_sec-own card i) in rw e W

-- ---- the calls

pub step-put : (n d : List ℕ) (goal : ℕ) (s : Session) (card work : List ℕ) (p : Pending) (m : List Item) → InvOf s (mk card work s p m) → Inv (after (put_c n d goal) (mk card work s p m))
unfolding after edited put_at refused done by_number
step-put n d goal None card work p m h = h
step-put n d goal (Some s) card work p m h =
    by-plan (λ (r : Changed). r.answer.number) Inv (mk card work (Some s) p m) _ _ (λ r. mk card r.image (Some s) (all_written r.image p) m) (λ k. refl) (put-num s work n d goal) h
    (λ j a e.
    let live = (put_inv s work n d goal j a e).live in
    let V₀ = to-live s (mk card work (Some s) p m) live h in
    from-live s _ live (live-edit s card work p m V₀ _ (put-left s V₀.img₀ V₀.base work (work-keeps s card work p m V₀) n d goal j a e)))

pub step-remove : (n : List ℕ) (s : Session) (card work : List ℕ) (p : Pending) (m : List Item) → InvOf s (mk card work s p m) → Inv (after (remove_c n) (mk card work s p m))
unfolding after edited remove refused done by_number
step-remove n None card work p m h = h
step-remove n (Some s) card work p m h =
    by-plan (λ (r : Changed). r.answer.number) Inv (mk card work (Some s) p m) _ _ (λ r. mk card r.image (Some s) (all_written r.image p) m) (λ k. refl) (remove-num s work n) h
    (λ j a e.
    let live = (remove-inv s work n j a e).live in
    let V₀ = to-live s (mk card work (Some s) p m) live h in
    from-live s _ live (live-edit s card work p m V₀ _ (remove-left s V₀.img₀ V₀.base work (work-keeps s card work p m V₀) n j a e)))

open-land : (b : Bool) (s : Opened) (card work : List ℕ) (p : Pending) (m : List Item) (i : ℕ) → i < s.geo.s → fits s work ≡ true
    → OpenInv b s (mk card work (Some s) p m) → OpenInv b s (mk (set_sec card i (sec work i)) work (Some s) p m)
open-land true s card work p m i l f h = worn-land s.geo card work p m h i
open-land false s card work p m i l f h = live-land s card work p m h i l (fit-inv s work f)

pub step-land : (i : ℕ) (s : Session) (card work : List ℕ) (p : Pending) (m : List Item) → InvOf s (mk card work s p m) → Inv (after (land_c i) (mk card work s p m))
unfolding after land refused done by_number
step-land i None card work p m h = h
step-land i (Some s) card work p m h =
    by-plan (λ (r : Changed). r.answer.number) Inv (mk card work (Some s) p m) _ _ (λ r. mk r.image work (Some s) p m) (λ k. refl) (both-num s card work (guard-num 10 _ ahead!)) h
    (λ j a e.
    let (f, q) = both-inv s card work _ e in
    open-land s.worn s card work p m i (ltb-true i s.geo.s (guard-inv 11 _ _ q).0) f h)
