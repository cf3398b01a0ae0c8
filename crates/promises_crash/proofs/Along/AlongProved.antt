-- The simulation, proved: what a history's world keeps and shows is a plain store that goes along with it. Assumes nothing.
use Rattle.std.specs.Prelude.{Some, None}
use mathlib.Core.Path.{◌≡◌, refl, ap}
use mathlib.Core.Bool.{true}
use mathlib.Core.List.{List, []}
use mathlib.Core.Logic.{⊎_elim}
use Prim.Native.Nat.{ℕ, zero, suc}
use lib.ListN.{length}
use Rattle.words.proofs.BoolLaws.{falsum}
use Rattle.counts.specs.declared.Geo.{Geo}
use Rattle.counts.specs.Geometry.{geo_ok}
use Rattle.card.specs.Plan.{refused}
use Rattle.card.proofs.MeansParts.{limits-mean}
use Rattle.card.specs.Make.{fresh_card}
use Rattle.card.proofs.FreshLaws.{fresh-empty}
use Rattle.session.specs.Session.{Session}
use Rattle.store.specs.Sync.{sync, unmount}
use Rattle.promises_answers.specs.PlainList.{Item, items, shown_by, shown_in}
use Rattle.promises_crash.specs.History.{Pending, Left, World, Call, make_c, mount_c, sync_c, unmount_c, put_c, remove_c, land_c, get_c, list_c, free_c, after_cut, by_number, before, steps_of, play, pending_in, is_sync, Reach, fresh, call, cut, cut_in, Reads}
use Rattle.promises_crash.proofs.Inv.{mk}
use Rattle.promises_crash.proofs.Demand.{demand-three}
use Rattle.promises_crash.proofs.WholeProved.{reads_as}
use Rattle.promises_crash.specs.Along.{at_rest, in_session, Along, starts, calls, cuts, cuts_in, cuts_sync, Simulation}
use Rattle.promises_crash.proofs.Along.AlongCalls.{now_of, plain_of, world-tells, moves}

-- ---- cuts

-- with no session open a sync or unmount takes no step
closed-steps : (c : Call) (n : ℕ) (card work : List ℕ) (q : Pending) (m : List Item) → is_sync c ≡ true → pending_in c n (mk card work None q m) ≡ q
unfolding is_sync pending_in before steps_of sync unmount refused by_number play
closed-steps (make_c g) n card work q m e = falsum e
closed-steps mount_c n card work q m e = falsum e
closed-steps sync_c zero card work q m e = refl
closed-steps sync_c (suc n) card work q m e = refl
closed-steps unmount_c zero card work q m e = refl
closed-steps unmount_c (suc n) card work q m e = refl
closed-steps (put_c a d goal) n card work q m e = falsum e
closed-steps (remove_c a) n card work q m e = falsum e
closed-steps (land_c i) n card work q m e = falsum e
closed-steps (get_c a out) n card work q m e = falsum e
closed-steps (list_c lines) n card work q m e = falsum e
closed-steps free_c n card work q m e = falsum e

-- the plain store of a card at rest
rest_of : (card work : List ℕ) (l : List Item) → shown_by card ≡ l → plain_of (after_cut card work) ≡ at_rest l
unfolding after_cut now_of
rest_of card work l e = ap at_rest e

-- a cut inside a call that reads as the latest moment
along-old : (w : World) (r : Reach w) → Along w r (plain_of w) → (c : Call) (n : ℕ) (card work : List ℕ) (x : Left (pending_in c n w) (length w.card) card)
    → Reads card w.last → Along (after_cut card work) (cut_in r c n card work x) (plain_of (after_cut card work))
along-old w r h c n card work x q = rw (rest_of card work w.last q.shows) (cuts_in h c n card work x (reads_as card w.last q))

-- or as what the session showed
along-new : (o : Session) (k v : List ℕ) (p : Pending) (m : List Item) (r : Reach (mk k v o p m)) → Along (mk k v o p m) r (plain_of (mk k v o p m))
    → (c : Call) (n : ℕ) (card work : List ℕ) (x : Left (pending_in c n (mk k v o p m)) (length k) card) → is_sync c ≡ true → Reads card (shown_in o v)
    → Along (after_cut card work) (cut_in r c n card work x) (plain_of (after_cut card work))
along-new None k v p m r h c n card work x e q =
    along-old (mk k v None p m) r h c n card work x ((demand-three (mk k v None p m) r).0 card (rw (closed-steps c n k v p m e) at x))
along-new (Some s) k v p m r h c n card work x e q =
    let a : Along (mk k v (Some s) p m) r (in_session m (shown_in (Some s) v)) = unfold now_of in h in
    rw (rest_of card work (shown_in (Some s) v) q.shows) (cuts_sync a c n card work x e (reads_as card (shown_in (Some s) v) q))

along-in : (w : World) (r : Reach w) → Along w r (plain_of w) → (c : Call) (n : ℕ) (card work : List ℕ) (x : Left (pending_in c n w) (length w.card) card)
    → Along (after_cut card work) (cut_in r c n card work x) (plain_of (after_cut card work))
along-in w r h c n card work x =
    ⊎_elim (along-old w r h c n card work x) (λ q. along-new w.session w.card w.work w.pending w.last r h c n card work x q.0 q.1)
    ((demand-three w r).1 c n card x)

-- ---- proved

along : {w : World} (r : Reach w) → Along w r (plain_of w)
along (fresh g work ok) = rw (rest_of (fresh_card g) work [] (empty g ((limits-mean g).1 ok))) (starts g work ok)
  where
    empty : (g : Geo) → geo_ok g ≡ true → shown_by (fresh_card g) ≡ []
    empty g ok = unfold shown_by items in rw (fresh-empty g ok)
along (call {w = w} r c) = calls (along r) c (moves w r c)
along (cut {w = w} r card work x) = rw (rest_of card work w.last ((demand-three w r).0 card x).shows) (cuts (along r) card work x)
along (cut_in {w = w} r c n card work x) = along-in w r (along r) c n card work x

pub simulation : Simulation
simulation w r = record { plain = plain_of w; along = along r; tells = world-tells w r }
