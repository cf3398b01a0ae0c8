-- What put, remove and sync leave when they give 0 fits. Assumes nothing.
use Rattle.std.specs.Prelude.{Some}
use mathlib.Core.Path.{◌≡◌, refl, sym, ◌∙◌}
use mathlib.Core.Bool.{false}
use mathlib.Core.List.{List, []}
use Prim.Native.Nat.{ℕ}
use native.Mathlib.Omega.{arith}
use lib.ListN.{length}
use lib.Seq.{get_or-set_same}
use Rattle.words.specs.Lists.{first_at}
use Rattle.sectors.specs.declared.Sector.{Sector}
use Rattle.sectors.specs.Sectors.{sec}
use Rattle.counts.specs.Geometry.{g_n}
use Rattle.counts.proofs.GeoLaws.{max-set, past-set}
use Rattle.entries.specs.declared.Version.TheVariants.{Absent, Present}
use Rattle.entries.specs.Entries.{sectors_for}
use Rattle.directory.specs.Directory.{entries_of, named}
use Rattle.apages.proofs.LowestLaws.{run-clear}
use Rattle.card.specs.Plan.{do_it}
use Rattle.card.specs.Files.{run_of}
use Rattle.card.proofs.PieceLaws.{count-run}
use Rattle.card.proofs.SpaceLaws.{page-wide}
use Rattle.card.proofs.AgreeLaws.{view-agree, entries-agree, index-agree, alone-first}
use Rattle.session.specs.declared.Opened.{Opened}
use Rattle.session.proofs.FitLaws.{Fit, fit-inv, present-live}
use Rattle.store.specs.Edit.{put_plan, put_run, put_work, remove_plan, remove_work}
use Rattle.store.specs.Steps.{set_word, table_sector, sync_work}
use Rattle.store.proofs.PlaceLaws.{name-found, place-named}
use Rattle.store.proofs.Plans.{put_inv, remove-inv}
use Rattle.promises_answers.proofs.Alone.{place-alone, found-alone}
use Rattle.promises_answers.proofs.Ready.{tc_of, tp_of, hc, cut, pres}
use Rattle.promises_answers.proofs.Calls.{put-ready, remove-ready}
use Rattle.promises_answers.proofs.AnswersProved.{apart-live, named_live, place-live, run-live, run-free}
use Rattle.promises_answers.proofs.Fit.FitEdit.{fit-edit}
use Rattle.promises_answers.proofs.Fit.FitParts.{head-cong}
use Rattle.promises_answers.proofs.Fit.FitCalm.{Rest}
use Rattle.promises_answers.proofs.Synced.{sync-length, sync-other, sync-table, room}

-- ---- put and remove

pub put-fits : (s : Opened) (work n d : List ℕ) (goal j : ℕ) (a : Sector) → put_plan s work n d goal ≡ do_it j a → Fit s (put_work s j a work n d)
unfolding put_work
put-fits s work n d goal j a h =
    let p = put_inv s work n d goal j a h in
    let F = fit-inv s work p.fit in
    let e = place-live s work F p.live n j p.entry in
    let wc = page-wide s.geo (g_n s.geo) (tc_of s work) work F.shape F.sized (cut s work F p.live) in
    let wp = page-wide s.geo s.c.0 (tp_of s work) work F.shape F.sized (pres s work F p.live) in
    fit-edit s j a.0 (sectors_for (length d)) (Present (put_run a d)) work n d
    (record {
      ready = put-ready s work (sec work) refl n d goal j a h;
      alone = place-alone (tp_of s work) (tc_of s work) n (entries_of s.geo (sec work)) j (apart-live s work F p.live) e;
      named = named_live s work F p.live n j (place-named (tp_of s work) (tc_of s work) n (entries_of s.geo (sec work)) j e);
      free = run-free s work F p.live (sectors_for (length d)) goal a.0 p.run;
      name = p.name;
      clear = λ i lo hi. (run-clear (sectors_for (length d)) goal a.0 _ _ (wp ∙ sym wc) (run-live s work F p.live (sectors_for (length d)) goal a.0 p.run) i lo hi).0;
      run = λ i. (unfold run_of put_run in count-run (put_run a d) i);
    })

pub remove-fits : (s : Opened) (work n : List ℕ) (j : ℕ) (a : Sector) → remove_plan s work n ≡ do_it j a → Fit s (remove_work s j work n)
unfolding remove_work
remove-fits s work n j a h =
    let p = remove-inv s work n j a h in
    let F = fit-inv s work p.fit in
    let e : first_at (named (tp_of s work) (tp_of s work) n) 0 (entries_of s.geo (sec work)) ≡ Some j = rw (present-live s (sec work) p.live) at p.entry in
    fit-edit s j 0 0 Absent work n []
    (record {
      ready = remove-ready s work (sec work) refl n j a h;
      alone = found-alone (tp_of s work) (tc_of s work) n (entries_of s.geo (sec work)) j (apart-live s work F p.live) e;
      named = named_live s work F p.live n j (name-found (tp_of s work) (tp_of s work) n (entries_of s.geo (sec work)) j (tc_of s work) e);
      free = λ i lo hi. absurd (omega arith);
      name = p.name;
      clear = λ i lo hi. absurd (omega arith);
      run = λ i. (unfold run_of in count-run (run_of Absent) i);
    })

-- ---- sync

pub sync-rest : (s : Opened) (work : List ℕ) → Fit s work → s.worn ≡ false → Rest s (sync_work s work)
unfolding sync_work
sync-rest s work F live =
    let g = s.geo in
    let tb = sync-table s work F live in
    let ea = entries-agree s.geo (sec work) (sec (set_word s.c.0 s.t.0 work)) (table_sector s.c.0) (room s work F live).1 (sync-other s work F live) in
    let ia = index-agree s.geo (sec work) (sec (set_word s.c.0 s.t.0 work)) (table_sector s.c.0) (room s work F live).1 (sync-other s work F live) in
    record {
      shape = F.shape;
      count = F.count;
      sized = sync-length s work F live;
      head = head-cong s (sec work) (sec (set_word s.c.0 s.t.0 work)) (sync-other s work F live 0 (omega (arith, (room s work F live).0))) F.head;
      word = rw tb (get_or-set_same (tc_of s work) s.c.0 s.t.0 0 (hc s work F live));
      max = rw tb (max-set (tc_of s work) s.c.0 s.t.0 F.max F.tx);
      past = rw tb (past-set (tc_of s work) s.c.0 s.t.0 F.past);
      view = rw tb
          (view-agree s.geo (sec work) (sec (set_word s.c.0 s.t.0 work)) (table_sector s.c.0) (room s work F live).1 (sync-other s work F live) s.c.0 (tp_of s work)
          (rw (present-live s (sec work) live) at F.pres_view));
      alone = rw (tb, ea) (alone-first (tp_of s work) (tc_of s work) (entries_of s.geo (sec work)) (apart-live s work F live));
      stamps = rw ea F.stamps;
      index = rw ia F.index;
    }
