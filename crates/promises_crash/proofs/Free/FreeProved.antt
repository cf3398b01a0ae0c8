-- Document 02, No. 1, proved: the two figures of free; a sync releases what waits. Assumes nothing.
use Rattle.std.specs.Prelude.{Some}
use mathlib.Core.Path.{◌≡◌, refl, ◌∙◌}
use mathlib.Core.Bool.{true, false}
use mathlib.Core.List.{List}
use Prim.Native.Nat.{ℕ, ◌+◌}
use Rattle.sectors.specs.Sectors.{sec}
use Rattle.counts.specs.Geometry.{table_of}
use Rattle.apages.specs.Bits.{clear_bits}
use Rattle.apages.specs.Index.{page_in}
use Rattle.apages.proofs.FreeLaws.{free-waiting, free-self, waiting-self}
use Rattle.card.specs.Plan.{refused}
use Rattle.card.proofs.PlanLaws.{ahead!, guard-num}
use Rattle.card.proofs.AgreeLaws.{page-agree}
use Rattle.session.specs.declared.Opened.{Opened}
use Rattle.session.specs.Views.{present_page, cut_page}
use Rattle.session.specs.Fits.{fits}
use Rattle.session.proofs.FitLaws.{Fit, fit-inv, present-live}
use Rattle.session.proofs.FitMeansProved.{fits-mean}
use Rattle.store.specs.Steps.{set_word, table_sector, at_top, sync_work}
use Rattle.store.specs.Mount.{Ended}
use Rattle.store.specs.Sync.{grown, sync_done, sync}
use Rattle.store.proofs.Plans.{both-num, sync-live}
use Rattle.store.specs.Look.{figures, free}
use Rattle.store.proofs.RoomLaws.{alike}
use Rattle.promises_answers.proofs.ShownProved.{free-is, session-shows}
use Rattle.promises_answers.proofs.Ready.{tp_of, pres}
use Rattle.promises_answers.proofs.Synced.{sync-other, sync-table, room}
use Rattle.promises_answers.proofs.Fit.FitCalm.{rest-map, rest-cut}
use Rattle.promises_answers.proofs.Fit.FitAll.{sync-rest}
use Rattle.promises_crash.proofs.Fit.FitHistory.{next_fits}
use Rattle.promises_crash.proofs.SteadyProved.{through}
use Rattle.promises_crash.specs.Free.{FreeSays, FreePromise}
use Rattle.promises_crash.proofs.Free.FreeCounts.{free-count, waiting-count, full-8, short-8, worn-none}

-- ---- after a sync

-- what free says of a session whose two maps are both m
module _ (s : Opened) (work : List ℕ) (fit : fits s work ≡ true) (m : List ℕ) (ep : present_page s (sec work) ≡ m) (eq : cut_page s (sec work) ≡ m) where
  pub one-view : ((free (Some s) work).number ≡ 0) × ((free (Some s) work).free ≡ clear_bits m) × ((free (Some s) work).waiting ≡ 0)
  unfolding figures
  one-view = rw (free-is s work fit, ep, eq) (refl, free-self m, waiting-self m)

module _ (s : Opened) (work : List ℕ) (F : Fit s work) (live : s.worn ≡ false) where
  -- the working image shows the map that the present view showed
  same_map : page_in s.geo (table_of s.geo (sec (sync_work s work))) (sec (sync_work s work)) ≡ present_page s (sec work)
  unfolding sync_work present_page
  same_map =
      rw (sync-table s work F live, present-live s (sec work) live)
      (page-agree s.geo (sec work) (sec (set_word s.c.0 s.t.0 work)) (table_sector s.c.0) (room s work F live).1 (sync-other s work F live) s.c.0 (tp_of s work) (pres s work F live))

  released : ((free (Some (grown (at_top s) s)) (sync_work s work)).number ≡ 0) × ((free (Some (grown (at_top s) s)) (sync_work s work)).free ≡ clear_bits (present_page s (sec work)))
      × ((free (Some (grown (at_top s) s)) (sync_work s work)).waiting ≡ 0)
  released =
      let R = sync-rest s work F live in
      one-view (grown (at_top s) s) (sync_work s work) (next_fits s work F live) (present_page s (sec work)) (rest-map s (sync_work s work) R (at_top s) ∙ same_map) (rest-cut s (sync_work s work) R (at_top s) ∙ same_map)

-- ---- all of it

module _ (s : Opened) (work : List ℕ) (fit : fits s work ≡ true) where
  abbrev After : Ended → Type 0
  After r = ((free r.session r.work).number ≡ 0) × ((free r.session r.work).free ≡ (free (Some s) work).free + (free (Some s) work).waiting) × ((free r.session r.work).waiting ≡ 0)

  both-clear : (free (Some s) work).free + (free (Some s) work).waiting ≡ clear_bits (present_page s (sec work))
  unfolding figures
  both-clear = rw (free-is s work fit) (free-waiting (present_page s (sec work)) (cut_page s (sec work)) (alike s work (fit-inv s work fit)))

  releases : (card : List ℕ) → (sync (Some s) card work).answer.number ≡ 0 → After (sync (Some s) card work)
  unfolding sync refused
  releases card h =
      through (λ (r : Ended). r.answer.number) After _ _ (λ k. refl) (both-num s card work (guard-num 8 _ ahead!))
      (λ j a e. let (F, live) = sync-live s card work e in (unfold sync_done in (rw both-clear (released s work F live)))) h

  free-says : FreeSays free s work
  unfolding figures
  free-says =
      record {
        number = (session-shows s work fit).frees.0;
        clears = rw (free-is s work fit) (free-count s work fit);
        waits = rw (free-is s work fit) (waiting-count s work fit);
        sum = (session-shows s work fit).frees.1;
        synced = releases;
        worn = λ w. rw (free-is s work fit) (worn-none s work fit w);
        short = λ n d w g e. rw (free-is s work fit) (short-8 s work fit n d w g e);
        full = λ n d w g e. rw (free-is s work fit) (full-8 s work fit n d w g e);
      }

pub free-promise : FreePromise free
free-promise s work f = free-says s work ((fits-mean s work).1 f)
