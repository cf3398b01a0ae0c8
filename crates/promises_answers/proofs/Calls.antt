-- A put or remove that gives 0 is ready, and keeps the cut view sector by sector. Assumes nothing.
use Rattle.std.specs.Prelude.{Some}
use mathlib.Core.Path.{◌≡◌, refl, sym, ◌∙◌}
use mathlib.Core.Bool.{false}
use mathlib.Core.List.{List, []}
use Prim.Native.Nat.{ℕ, ◌+◌, ◌*◌, ◌%◌, ◌≤◌, ◌<◌}
use native.Mathlib.Omega.{arith}
use lib.ListN.{length, length-take, length-drop}
use Rattle.words.specs.Lists.{pad}
use Rattle.words.specs.Bytes.{word_at}
use Rattle.sectors.specs.declared.Sector.{Sector}
use Rattle.sectors.specs.Sectors.{Cells, sec}
use Rattle.counts.specs.Geometry.{g_n}
use Rattle.entries.specs.declared.Version.TheVariants.{Absent, Present}
use Rattle.entries.specs.Entries.{name_bytes, shown, is_absent, sectors_for}
use Rattle.entries.proofs.PassLaws.{good-name, name-padded, short-name}
use Rattle.entries.proofs.ChangeLaws.{GoodVersion}
use Rattle.directory.specs.Directory.{entries_of}
use Rattle.directory.proofs.SpotLaws.{entry-wide}
use Rattle.apages.specs.Runs.{run_for}
use Rattle.apages.specs.Index.{page_in}
use Rattle.apages.proofs.LowestLaws.{run-for-none, run-page, run-clear, run_fits}
use Rattle.card.specs.Plan.{do_it}
use Rattle.card.specs.Files.{cover, files_of, run_of}
use Rattle.card.proofs.FileLaws.{Holds, held-cover}
use Rattle.card.specs.Reading.{files_in}
use Rattle.card.proofs.SpaceLaws.{page-wide, clear-bit}
use Rattle.card.proofs.SoundLaws.{entry-passes}
use Rattle.card.proofs.BitmapLaws.{InData}
use Rattle.session.specs.declared.Opened.{Opened}
use Rattle.session.specs.Views.{cut_table, present_table, present_page, cut_page}
use Rattle.session.proofs.FitLaws.{Fit, fit-inv, present-live}
use Rattle.store.specs.Edit.{put_place, place_in, run_in, put_plan, put_run, remove_plan}
use Rattle.store.proofs.PlaceLaws.{Named, name-found, place-named}
use Rattle.store.proofs.Plans.{put_inv, remove-inv}
use Rattle.promises_answers.proofs.Ready.{tc_of, tp_of, entry_at, cut, pres, Ready}

-- ---- a plan that goes through makes the change ready

module _ (s : Opened) (work : List ℕ) (k₀ : Cells) (same-files : files_in s.geo (sec work) ≡ files_in s.geo k₀) where
  named-is : (n : List ℕ) (j : ℕ) → Fit s work → s.worn ≡ false → Named (tp_of s work) (tc_of s work) n (entries_of s.geo (sec work)) j
      → is_absent (shown (tc_of s work) (entry_at s j work)) ≡ false
      → (word_at (entry_at s j work) 8 ≡ length n) × (name_bytes (entry_at s j work) ≡ pad 32 n)
  named-is n j F live N e =
      let l : length (entry_at s j work) ≡ 128 = entry-wide s.geo work F.shape F.sized j N.below in
      let P = entry-passes s.geo (g_n s.geo) (tc_of s work) (sec work) j [] (cut s work F live) N.below in
      name-padded (entry_at s j work) n (good-name s.geo _ _ _ P e) (name-wide l) (N.name' e)
    where
      name-wide : length (entry_at s j work) ≡ 128 → length (name_bytes (entry_at s j work)) ≡ 32
      name-wide l = unfold name_bytes in simp (length-take, length-drop) (omega arith)

  pub remove-ready : (n : List ℕ) (j : ℕ) (a : Sector) → remove_plan s work n ≡ do_it j a → Ready s j 0 0 Absent work n [] k₀
  remove-ready n j a h =
      let p = remove-inv s work n j a h in
      let F = fit-inv s work p.fit in
      let N = name-found (tp_of s work) (tp_of s work) n (entries_of s.geo (sec work)) j (tc_of s work) (rw (present-live s (sec work) p.live) at p.entry) in
      record {
        fit = F;
        live = p.live;
        below = N.below;
        short = short-name n p.name;
        good = tt;
        is = unfold run_of in (refl, refl);
        named = named-is n j F p.live N;
        inside = λ i lo hi. absurd (omega arith);
        fits = omega arith;
        page = omega arith;
        enough = omega arith;
        clear = λ i lo hi. absurd (omega arith);
      }

  pub put-ready : (n d : List ℕ) (goal j : ℕ) (a : Sector) → put_plan s work n d goal ≡ do_it j a → Ready s j a.0 (sectors_for (length d)) (Present (put_run a d)) work n d k₀
  put-ready n d goal j a h =
      let p = put_inv s work n d goal j a h in
      let F = fit-inv s work p.fit in
      let N = place-named (tp_of s work) (tc_of s work) n (entries_of s.geo (sec work)) j (rw (present-live s (sec work) p.live) at (open-place p.entry)) in
      let wc = page-wide s.geo (g_n s.geo) (tc_of s work) work F.shape F.sized (cut s work F p.live) in
      let wp = page-wide s.geo s.c.0 (tp_of s work) work F.shape F.sized (pres s work F p.live) in
      let run = rw (present-live s (sec work) p.live) at (open-run p.run) in
      let r : (i : ℕ) → a.0 ≤ i → i < a.0 + sectors_for (length d) → InData s.geo i × (cover (files_of (tc_of s work) (entries_of s.geo (sec work))) i ≡ 0) =
      λ i lo hi.
      let w = run-clear (sectors_for (length d)) goal a.0 _ _ (wp ∙ sym wc) run i lo hi in
      clear-bit s.geo (g_n s.geo) (tc_of s work) (sec work) F.shape (cut s work F p.live) wc i (omega (arith, w.2, wp)) w.1 in
      let f : a.0 + sectors_for (length d) ≤ s.geo.s = run_fits (sectors_for (length d)) goal a.0 s.geo.s _ _ run (λ i lo hi. (r i lo hi).0.1) in
      record {
        fit = F;
        live = p.live;
        below = N.below;
        short = short-name n p.name;
        good = good r f run (run-page (sectors_for (length d)) goal a.0 _ _ (wp ∙ sym wc) run);
        is = unfold run_of put_run in (refl, refl);
        named = named-is n j F p.live N;
        inside = λ i lo hi. (r i lo hi).0.0;
        fits = f;
        page = run-page (sectors_for (length d)) goal a.0 _ _ (wp ∙ sym wc) run;
        enough = enough;
        clear = λ i lo hi q. omega (arith, (r i lo hi).1, held-cover _ i (still q));
      }
    where
      open-place : place_in s work n ≡ Some j
          → put_place (present_table s (sec work)) (tc_of s work) n (entries_of s.geo (sec work)) ≡ Some j
      open-place e = unfold place_in cut_table in e

      open-run : run_in s work (sectors_for (length d)) goal ≡ Some a.0
          → run_for (sectors_for (length d)) goal (page_in s.geo (present_table s (sec work)) (sec work)) (page_in s.geo (tc_of s work) (sec work))
          ≡ Some a.0
      open-run e = unfold run_in present_page cut_page cut_table in e

      enough : length d ≤ 512 * sectors_for (length d)
      enough = unfold sectors_for in omega arith

      still : {i : ℕ} → Holds (files_in s.geo k₀) i → Holds (files_of (tc_of s work) (entries_of s.geo (sec work))) i
      still q = unfold files_in in rw (sym same-files) at q

      good : ((i : ℕ) → a.0 ≤ i → i < a.0 + sectors_for (length d) → InData s.geo i × (cover (files_of (tc_of s work) (entries_of s.geo (sec work))) i ≡ 0))
          → a.0 + sectors_for (length d) ≤ s.geo.s
          → run_for (sectors_for (length d)) goal (page_in s.geo (tp_of s work) (sec work)) (page_in s.geo (tc_of s work) (sec work))
          ≡ Some a.0
          → a.0 % 4096 + sectors_for (length d) ≤ 4096
          → GoodVersion s.geo (Present (put_run a d))
      good r f run page = unfold put_run in record { size = refl; span = λ l. ((r a.0 (omega arith) (omega arith)).0.0, f); empty = λ z. run-for-none _ goal a.0 _ _ run z; page = page }
