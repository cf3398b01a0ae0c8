-- The tester's worries, proved. Assumes nothing.
use Rattle.std.specs.Prelude.{Some, None}
use mathlib.Core.Path.{◌≡◌, refl, sym, ap, subst}
use mathlib.Core.Bool.{Bool, true, false}
use mathlib.Core.List.{List}
use mathlib.Core.Logic.{◌⊎◌, inl, inr, ⊎_elim, ◌≢◌}
use Prim.Native.Nat.{ℕ, ◌*◌}
use native.Mathlib.Omega.{arith}
use lib.ListN.{length}
use Rattle.words.proofs.BoolLaws.{never, falsum}
use Rattle.sectors.specs.Sectors.{sec}
use Rattle.counts.specs.Geometry.{geo_of}
use Rattle.counts.specs.Stamps.{max_tx}
use Rattle.card.specs.Plan.{refused}
use Rattle.session.specs.declared.Opened.{Opened}
use Rattle.session.specs.Session.{Session}
use Rattle.session.specs.FitMeans.{Fits}
use Rattle.session.proofs.FitMeansProved.{fits-mean}
use Rattle.store.specs.Mount.{Ended, mount}
use Rattle.store.specs.Edit.{put_at, remove}
use Rattle.store.specs.Sync.{sync, unmount}
use Rattle.store.specs.Inner.{FitOf}
use Rattle.promises_answers.specs.PlainList.{Item, shown_by, shown_in}
use Rattle.promises_answers.specs.Numbers.{Misshapen}
use Rattle.promises_answers.proofs.RowLaws.{clash}
use Rattle.promises_answers.proofs.Numbers.NumbersProved.{numbers}
use Rattle.promises_answers.proofs.RefusalsProved.{refusals}
use Rattle.promises_crash.specs.History.{Pending, World, Call, make_c, mount_c, sync_c, unmount_c, put_c, remove_c, land_c, get_c, list_c, free_c, by_number, stepped, after, Reads}
use Rattle.promises_crash.proofs.Inv.{Worn, OpenInv, mk}
use Rattle.promises_crash.proofs.Run.Steps.{to-live}
use Rattle.promises_crash.proofs.SteadyProved.{refused-same, land-shows}
use Rattle.promises_crash.proofs.Leaves.LeavesProved.{sync-changes, unmount-changes}
use Rattle.promises_crash.proofs.WholeProved.{looks-as, reads_as}
use Rattle.promises_crash.specs.Field.{Since, then_call}
use Rattle.promises_crash.proofs.FieldProved.{sound-reads, inv-since, demand-three-field, card-reads, fits-since}
use Rattle.promises_crash.specs.Worries.{LandsAndWears, SyncAtTop, ends, OnlyLooks, WornOnlyLooks, NoneAbove, NoneAboveIn, NoCountAbove, CountsUsedUp}

-- ---- a sync at the top

module _ (s : Opened) (card work : List ℕ) (p : Pending) (m : List Item) (r : Since (mk card work (Some s) p m)) where
  abbrev W : World
  W = mk card work (Some s) p m

  fit : Fits s work
  fit = (fits-mean s work).0 (fits-since r)

  lands-and-wears : s.worn ≡ false → s.t.0 ≡ max_tx → LandsAndWears W s
  lands-and-wears live top =
      record {
        number = done;
        lands = subst (Reads (after sync_c W).card) moment (card-reads (after sync_c W) (then_call r sync_c));
        stays = λ c x. subst (Reads c) moment ((demand-three-field (after sync_c W) (then_call r sync_c)).0 c x);
        wears = (unfold after stepped by_number in rw done ((sync-changes s card work done).wears top));
      }
    where
      done : (sync (Some s) card work).answer.number ≡ 0
      done =
          (numbers.of_sync (Some s) card work 0).1
          (inr (λ q. never (cc), inr (λ q. q (to-live s W live (inv-since r)).sized, inr (λ q. q fit, inr (λ q. clash q live, refl)))))

      moment : (after sync_c W).last ≡ shown_in (Some s) work
      moment = unfold after stepped by_number in rw done

  -- ---- a worn session

  only-looks : s.worn ≡ true → OnlyLooks W s
  unfolding ends after
  only-looks w =
      record {
        puts = puts;
        removes = removes;
        syncs = syncs;
        stays = stays;
        looks = looks-as s work fit;
        lands = λ i l. (numbers.of_land (Some s) card work i 0).1 (inr (λ q. never (cc), inr (λ q. q sized, inr (λ q. q fit, inr (λ q. omega arith, refl)))));
        unmounts = closes;
        leaves = (unfold after stepped by_number in rw (closes, ((unmount-changes s card work closes).worn w).0, ← worn.same) fit.count);
      }
    where
      worn : Worn s.geo card work p m
      worn = subst (λ (b : Bool). OpenInv b s W) w (inv-since r)

      sized : length card ≡ 512 * s.geo.s
      sized = worn.rest.calm.is.sized

      puts : (n d : List ℕ) (goal : ℕ) → (put_at (Some s) work n d goal).answer.number ≡ 9
      puts n d goal = (numbers.of_put_at (Some s) work n d goal 9).1 (inr (λ q. never (cc), inr (λ q. q fit, inl (w, refl))))

      removes : (n : List ℕ) → (remove (Some s) work n).answer.number ≡ 9
      removes n = (numbers.of_remove (Some s) work n 9).1 (inr (λ q. never (cc), inr (λ q. q fit, inl (w, refl))))

      syncs : (sync (Some s) card work).answer.number ≡ 9
      syncs = (numbers.of_sync (Some s) card work 9).1 (inr (λ q. never (cc), inr (λ q. q sized, inr (λ q. q fit, inl (w, refl)))))

      closes : (unmount (Some s) card work).answer.number ≡ 0
      closes = (numbers.of_unmount (Some s) card work 0).1 (inr (λ q. never (cc), inr (λ q. q sized, inr (λ q. q fit, refl))))

      stays : (c : Call) → ends c ≡ false → (after c W).session ≡ Some s
      stays (make_c g) e = falsum (sym e)
      stays mount_c e = falsum (sym e)
      stays sync_c e = ap (λ (v : World). v.session) ((refused-same W).of_sync (λ z. omega (arith, syncs)))
      stays unmount_c e = falsum (sym e)
      stays (put_c n d goal) e = ap (λ (v : World). v.session) ((refused-same W).of_put n d goal (λ z. omega (arith, puts n d goal)))
      stays (remove_c n) e = ap (λ (v : World). v.session) ((refused-same W).of_remove n (λ z. omega (arith, removes n)))
      stays (land_c i) e = (land-shows W i).0
      stays (get_c n out) e = refl
      stays (list_c lines) e = refl
      stays free_c e = refl

-- at any world of a history
pub sync-at-top : SyncAtTop
sync-at-top w r s e live top =
    subst (λ (o : Session). Since (mk w.card w.work o w.pending w.last) → LandsAndWears (mk w.card w.work o w.pending w.last) s) (sym e)
    (λ r. lands-and-wears s w.card w.work w.pending w.last r live top) r

pub worn-only-looks : WornOnlyLooks
worn-only-looks w r s e worn =
    subst (λ (o : Session). Since (mk w.card w.work o w.pending w.last) → OnlyLooks (mk w.card w.work o w.pending w.last) s) (sym e)
    (λ r. only-looks s w.card w.work w.pending w.last r worn) r

-- ---- no count above the top

reads-below : {card : List ℕ} {m : List Item} → Reads card m → NoneAbove (geo_of (sec card)) card
reads-below r = record { words = r.is_sound.words; stamps = (λ p l. (r.is_sound.stamps.0 p l).1, λ i l. (r.is_sound.stamps.1 i l).1) }

session-below : (o : Session) (work : List ℕ) → FitOf o work → NoneAboveIn o work
session-below None work f = tt
session-below (Some s) work f =
    let F = (fits-mean s work).0 f in
    (F.t_most, record { words = F.words; stamps = (λ p l. (F.present.stamps.0 p l).1, λ i l. (F.present.stamps.1 i l).1) })

pub no-count-above : NoCountAbove
no-count-above w r =
    record {
      card = reads-below (card-reads w r);
      cuts = λ card x. reads-below ((demand-three-field w r).0 card x);
      cuts_in = λ c n card x. ⊎_elim (λ q. reads-below q) (λ q. reads-below q.1) ((demand-three-field w r).1 c n card x);
      session = session-below w.session w.work (fits-since r);
    }

-- ---- C = N

-- a mount refused with k has changed nothing
mount-refused : (k : ℕ) (card work : List ℕ) (r : Ended) → r.answer.number ≡ k → (r.session ≡ None) × (r.card ≡ card) × (r.work ≡ work) × (r.answer.count ≡ 0)
    → r ≡ record { answer = refused k; session = None; card = card; work = work }
unfolding refused
mount-refused k card work r e (a, b, c, d) = λ i. record { answer = record { number = e i; count = d i }; session = a i; card = b i; work = c i }

pub counts-used-up : CountsUsedUp
counts-used-up card work k l full =
    record { three = mount-refused 3 card work (mount card work) three (refusals.of_mount card work (λ z. omega (arith, three))); reads = reads_as card (shown_by card) (sound-reads card k) }
  where
    shapely : ¬ (Misshapen card ⊎ (length work ≢ length card))
    shapely q = ⊎_elim (λ o. ⊎_elim (λ n. n k.limits) (λ n. n k.sized) o) (λ o. o l) q

    three : (mount card work).answer.number ≡ 3
    three = (numbers.of_mount card work 3).1 (inr (shapely, inr (λ q. q k.is_sound, inl (full, refl))))
