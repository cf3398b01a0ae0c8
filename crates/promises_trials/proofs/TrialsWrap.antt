-- A wrong build: "Comparing counts after a wrap, so 2,147,483,648 is below 1." Its t goes on past the top, and a put that was never synced is read after a
-- cut: demand 3 is false of it. Assumes nothing.
use Rattle.std.specs.Prelude.{Some, None}
use mathlib.Core.Path.{◌≡◌, refl, ap, ◌∙◌}
use mathlib.Core.Bool.{Bool, false, not, cond}
use mathlib.Core.List.Memᴰ
use mathlib.Core.List.{List, [], ◌∷◌}
use mathlib.Core.Option.{none, some}
use Prim.Native.Nat.{ℕ, ◌*◌, ◌%◌}
use native.Mathlib.Omega.{arith}
use lib.Dec.{leb}
use lib.ListN.{length, get_or}
use Rattle.sectors.specs.Sectors.{sec, set_sec, apply_steps}
use Rattle.sectors.proofs.SectorLaws.{set_sec-length}
use Rattle.counts.specs.declared.Stamp.{Stamp}
use Rattle.counts.specs.Geometry.{geo_of, table_of}
use Rattle.counts.specs.Stamps.{stamp_of, alive, showing}
use Rattle.entries.specs.Entries.{version_of, new_of, old_of, shown_bytes, shown, good_name, sectors_for}
use Rattle.directory.specs.Directory.{entries_of}
use Rattle.card.specs.declared.Line.{Line}
use Rattle.card.specs.Plan.{Plan, guard, need, ended, do_it, go_ahead, refused, done, Changed}
use Rattle.card.specs.Files.{cons_file, files_of}
use Rattle.card.specs.Reading.{files_in, files_shown}
use Rattle.session.specs.declared.Opened.{Opened}
use Rattle.session.specs.Session.{Session}
use Rattle.store.specs.Steps.{sync_steps, sync_work}
use Rattle.store.specs.Mount.{Ended}
use Rattle.store.specs.Edit.{place_in, run_in, put_work, put}
use Rattle.store.specs.Sync.{both_plan, grown, sync, sync_done}
use Rattle.promises_answers.specs.PlainList.{Item, items, shown_by, shown_in, lookup}
use Rattle.promises_crash.specs.History.{play, settled, all_written, Left, World, by_number, stepped, edited, after, sync_c, put_c, syncs_by, steps_of, Reach, call}
use Rattle.promises_crash.proofs.Inv.{mk}
use Rattle.promises_crash.proofs.Run.SyncRun.{sync-play}
use Rattle.promises_crash.proofs.Demand.{demand-three}
use Rattle.promises_trials.proofs.TrialsCard.{b, stretch, computes}
use Rattle.promises_trials.proofs.TrialsRun.{good}
use Rattle.promises_trials.proofs.TrialsSync.{after_sync, some-none}
use Rattle.promises_trials.proofs.TrialsEdit.{some-landed, one-landed}
use Rattle.promises_trials.proofs.TrialsFar.{img, Far, far, F, live, far-goes, far-work, far-card}

-- ---- what reading shows, by any comparison of a stamp with the table

unfoldable pub files_by : (List ℕ → Stamp → Bool) → List ℕ → List (List ℕ) → List Line
files_by lives tab [] = []
files_by lives tab (p ∷ ps) = cons_file p (version_of (cond (lives tab (stamp_of p)) (new_of p) (old_of p))) (files_by lives tab ps)

unfoldable pub reads_by : (List ℕ → Stamp → Bool) → List ℕ → List Item
reads_by lives card = items card (files_by lives (table_of (geo_of (sec card)) (sec card)) (entries_of (geo_of (sec card)) (sec card)))

-- this store compares by `alive`
files-by-alive : (tab : List ℕ) (ps : List (List ℕ)) → files_by alive tab ps ≡ files_of tab ps
unfolding files_by files_of shown shown_bytes showing
files-by-alive tab [] = refl
files-by-alive tab (p ∷ ps) = rw (files-by-alive tab ps)

pub by-alive : (card : List ℕ) → reads_by alive card ≡ shown_by card
unfolding reads_by shown_by files_shown files_in
by-alive card = rw files-by-alive

-- ---- demand 3 after a sync and a put, of a store that compares, syncs and puts so

abbrev pub then_put : (Session → List ℕ → List ℕ → Ended) → (Session → List ℕ → List ℕ → List ℕ → Changed) → World → List ℕ → List ℕ → World
then_put f p w n d =
    let v = after_sync w (f w.session w.card w.work) (steps_of sync_c w) in
    edited v (p v.session v.work n d)

abbrev pub StoreReads : (List ℕ → Stamp → Bool) → (Session → List ℕ → List ℕ → Ended) → (Session → List ℕ → List ℕ → List ℕ → Changed) → Type 0
StoreReads lives f p =
    (w : World) → Reach w → (n d card : List ℕ) → Left (then_put f p w n d).pending (length (then_put f p w n d).card) card
    → reads_by lives card ≡ (then_put f p w n d).last

-- of this store it is proved
pub of-this-store : StoreReads alive sync put
unfolding after put
of-this-store w r n d card x = by-alive card ∙ ((demand-three (after (put_c n d 0) (after sync_c w)) (call (call r sync_c) (put_c n d 0))).0 card x).shows

-- ---- the build

-- counts wrap at 2,147,483,648, and are compared then
unfoldable pub wrapped : List ℕ → Stamp → Bool
wrapped tab x = leb (x.txc.0 % 2147483648) (get_or tab x.cc.0 0)

-- so its t need not stop: "t grows by 1", always
unfoldable pub on_sync : Session → List ℕ → List ℕ → Ended
on_sync None card work = record { answer = refused 4; session = None; card = card; work = work }
on_sync (Some s) card work =
    ended (both_plan s card work (guard 9 (not s.worn) go_ahead)) (λ k. record { answer = refused k; session = Some s; card = card; work = work })
    (λ j i. record { answer = done 0; session = Some (grown false s); card = apply_steps (sync_steps s card work []) card; work = sync_work s work })

-- and its put does not ask whether t has passed the top
unfoldable pub on_plan : Opened → List ℕ → List ℕ → List ℕ → Plan
on_plan s work n d = guard 5 (good_name n) (need 7 (place_in s work n) (λ j. need 8 (run_in s work (sectors_for (length d)) 0) (λ i. do_it j (record { 0 = i }))))

unfoldable pub on_put : Session → List ℕ → List ℕ → List ℕ → Changed
on_put None work n d = record { answer = refused 4; image = work }
on_put (Some s) work n d =
    ended (on_plan s work n d) (λ k. record { answer = refused k; image = work }) (λ j i. record { answer = done 0; image = put_work s j i work n d })

-- ---- the history: fresh card, mount, 2,147,483,647 syncs, put `b` of 0 bytes; the directory lands, and a cut

unfoldable pub work_past : List ℕ
work_past = put_work (stretch 2147483648) 0 (record { 0 = 0 }) (img 2147483647) b []

unfoldable pub past_card : List ℕ
past_card = set_sec (img 2147483647) 5 (sec work_past 5)

past_finds : (place_in (stretch 2147483648) (img 2147483647) b ≡ Some 0) × (run_in (stretch 2147483648) (img 2147483647) (sectors_for 0) 0 ≡ Some 0)
unfolding computes img
past_finds = (refl, refl)

-- compared as numbers the stamp is dead, and the card shows nothing; after a wrap it is alive
pub past-shows : (length (img 2147483647) ≡ 512 * 10) × (length work_past ≡ 512 * 10) × (lookup b (shown_by past_card) ≡ none) × (lookup b (reads_by wrapped past_card) ≡ some [])
unfolding computes img work_past past_card shown_by reads_by files_by wrapped
past-shows = (refl, refl, refl, refl)

-- the world before the last sync, and the one after it
module _ (f : Far 2147483646) where
  abbrev s : Opened
  s = stretch 2147483647

  abbrev w : World
  w = mk (img 2147483646) (img 2147483646) (Some s) f.p f.m

  abbrev v : World
  v = mk (img 2147483647) (img 2147483647) (Some (stretch 2147483648)) (settled (img 2147483647)) (shown_in (Some s) (img 2147483646))

  on-sync : on_sync (Some s) (img 2147483646) (img 2147483646)
      ≡ record { answer = done 0; session = Some (stretch 2147483648); card = img 2147483647; work = img 2147483647 }
  unfolding on_sync ended grown
  on-sync = rw (far-goes 2147483646 f, far-card 2147483646 f, far-work 2147483646 f)

  sync-zero : (sync (Some s) (img 2147483646) (img 2147483646)).answer.number ≡ 0
  unfolding sync sync_done ended done
  sync-zero = rw (far-goes 2147483646 f)

  on-steps : play (steps_of sync_c w) f.p ≡ settled (img 2147483647)
  unfolding steps_of syncs_by by_number
  on-steps = rw sync-zero (sync-play s (img 2147483646) (img 2147483646) f.p f.m (live 2147483646 f) (F 2147483646 f) refl [] ∙ (unfold play sync_work in ap settled (far-work 2147483646 f)))

  after-sync : after_sync w (on_sync w.session w.card w.work) (steps_of sync_c w) ≡ v
  unfolding stepped by_number done
  after-sync = rw (on-sync, on-steps)

  on-put : on_put (Some (stretch 2147483648)) (img 2147483647) b [] ≡ record { answer = done 0; image = work_past }
  unfolding on_put on_plan ended guard need work_past
  on-put = rw (good.1, past_finds.0, past_finds.1)

  then-put : then_put on_sync on_put w b [] ≡ mk (img 2147483647) work_past (Some (stretch 2147483648)) (all_written work_past (settled (img 2147483647))) (shown_in (Some s) (img 2147483646))
  unfolding edited by_number done
  then-put = rw (after-sync, on-put)

  past-left : Left (all_written work_past (settled (img 2147483647))) (length (img 2147483647)) past_card
  unfolding settled past_card
  past-left =
      some-landed (settled (img 2147483647)) (img 2147483647) work_past _ (record { sized = refl; held = λ j l. Memᴰ.head refl })
      (set_sec-length (img 2147483647) 5 (sec work_past 5))
      (one-landed 10 5 (img 2147483647) work_past past-shows.0 past-shows.1 (omega arith))

-- it is refused: `b` was never synced, and is read
pub counts-wrapped : ¬ StoreReads wrapped on_sync on_put
counts-wrapped h =
    let f = far 2147483646 (omega arith) in
    some-none _ _ b [] past-shows.3 f.plain (rw (then-put f) at (h (w f) f.reach b [] past_card) (past-left f))
