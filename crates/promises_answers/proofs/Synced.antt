-- After a sync the working image is the new base: sound, and it shows what the present view showed. Assumes nothing.
use Rattle.std.specs.Prelude.{Some}
use mathlib.Core.Path.{◌≡◌, sym, ◌∙◌}
use mathlib.Core.Bool.{true, false}
use mathlib.Core.List.{List}
use mathlib.Core.Logic.{◌≢◌}
use Prim.Native.Nat.{ℕ, ◌+◌, ◌*◌, ◌^◌, ◌≤◌, ◌<◌}
use native.Mathlib.Omega.{arith}
use lib.ListN.{length, drop, get_or}
use lib.Seq.{get_or-set_same}
use Rattle.words.specs.Lists.{every, is_zero}
use Rattle.sectors.specs.Sectors.{Cells, sec}
use Rattle.counts.specs.declared.Geo.{Geo}
use Rattle.counts.specs.Geometry.{geo_of, count_of, table_of}
use Rattle.counts.proofs.GeoLaws.{limits, head_of, table_here, table-next, max-set, past-set}
use Rattle.counts.specs.Stamps.{max_tx}
use Rattle.directory.specs.Directory.{entries_of}
use Rattle.card.specs.Files.{files_of}
use Rattle.card.proofs.FileLaws.{files-within}
use Rattle.card.specs.Reading.{files_in}
use Rattle.card.specs.Sound.{view_ok, sound_in}
use Rattle.card.proofs.AgreeLaws.{view-mono, alone-first, entries-agree, view-agree, sound-agree, Bump, bump-table}
use Rattle.session.specs.declared.Opened.{Opened}
use Rattle.session.specs.Views.{present_files, session_files}
use Rattle.session.proofs.FitLaws.{Fit, Head, head-inv, present-live}
use Rattle.store.specs.Steps.{set_word, table_sector}
use Rattle.store.proofs.StepLaws.{word-length, word-other, word-table, table-sector}
use Rattle.store.specs.Sync.{grown}
use Rattle.promises_answers.specs.PlainList.{items, shown_in}
use Rattle.promises_answers.proofs.Items.{items-agree}
use Rattle.promises_answers.proofs.Ready.{tc_of, tp_of, hc, pres}
use Rattle.promises_answers.proofs.Base.{Base}

module _ (s : Opened) (work : List ℕ) (F : Fit s work) (live : s.worn ≡ false) where
  abbrev g : Geo
  g = s.geo

  abbrev pub synced : List ℕ
  synced = set_word s.c.0 s.t.0 work

  small : s.t.0 < 2 ^ 32
  small = omega (arith, F.tx)

  pub sync-length : length synced ≡ 512 * g.s
  sync-length = word-length g s.c.0 s.t.0 work F.shape F.sized F.count small

  pub sync-other : (i : ℕ) → i ≢ table_sector s.c.0 → sec synced i ≡ sec work i
  sync-other = word-other g s.c.0 s.t.0 work F.shape F.sized F.count small

  pub sync-table : table_of g (sec synced) ≡ tp_of s work
  sync-table = word-table g s.c.0 s.t.0 work F.shape F.sized F.count small

  pub room : (1 ≤ table_sector s.c.0) × (table_sector s.c.0 ≤ g.t)
  room = table-sector g s.c.0 s.t.0 work F.shape F.sized F.count small

  pub inside : table_sector s.c.0 < g.s
  inside = omega (arith, room.1, (limits g F.shape).s_low, (limits g F.shape).past, (limits g F.shape).dir)

  H : Head s (sec work)
  H = head-inv s (sec work) F.head

  zero_same : sec synced 0 ≡ sec work 0
  zero_same = sync-other 0 (omega (arith, room.0))

  pub sync-count : count_of (sec synced) ≡ s.c.0 + 1
  sync-count = (head_of (sec work) (sec synced) zero_same).0 ∙ H.count

  pub sync-geo : geo_of (sec synced) ≡ g
  sync-geo = (head_of (sec work) (sec synced) zero_same).1 ∙ H.geo

  view : view_ok g s.c.0 (tp_of s work) (sec work) ≡ true
  view = rw (present-live s (sec work) live) at F.pres_view

  pub sync-sound : sound_in g (sec synced) ≡ true
  sync-sound =
      sound-agree g (sec work) (sec synced) (table_sector s.c.0) room.1 sync-other (tp_of s work) sync-table (omega (arith, sync-count, F.count))
      (rw zero_same H.tail)
      (rw sync-count (table-next g s.c.0 (tp_of s work) (max-set (tc_of s work) s.c.0 s.t.0 F.max F.tx) (past-set (tc_of s work) s.c.0 s.t.0 F.past)))
      (view-mono g s.c.0 (count_of (sec synced)) (tp_of s work) (sec work) (omega (arith, sync-count)) view)
      (alone-first (tp_of s work) (tc_of s work) (entries_of g (sec work)) (rw (present-live s (sec work) live) at F.alone))

  sync-files : files_in g (sec synced) ≡ files_of (tp_of s work) (entries_of g (sec work))
  unfolding files_in
  sync-files = rw (sync-table, entries-agree g (sec work) (sec synced) (table_sector s.c.0) room.1 sync-other)

  -- what the session showed is what its working image shows now
  pub sync-shows : items synced (files_in g (sec synced)) ≡ shown_in (Some s) work
  unfolding shown_in session_files present_files
  sync-shows =
      rw (sync-files, present-live s (sec work) live)
      (items-agree {g = g} synced work (table_sector s.c.0) room.1 sync-other
      (files-within g s.c.0 (tp_of s work) (entries_of g (sec work)) (pres s work F live).entries))

  word-now : get_or (tp_of s work) s.c.0 0 ≡ s.t.0
  word-now = get_or-set_same (tc_of s work) s.c.0 s.t.0 0 (hc s work F live)

  pub sync-base : s.t.0 < max_tx → Base (grown false s) synced
  unfolding grown
  sync-base h =
      record {
        ok = F.shape;
        hc = F.count;
        ht = omega arith;
        count = omega (arith, sync-count);
        good = sync-sound;
        word = rw (sync-table, word-now);
        sized = sync-length;
      }

  -- the same card with count c is sound too, unless the session is worn
  pub down-sound : s.t.0 < max_tx → (k₂ : Cells) → Bump k₂ (sec synced) → sound_in g k₂ ≡ true
  down-sound h k₂ B =
      let n : count_of k₂ ≡ s.c.0 = omega (arith, sync-count, B.count) in
      let z : every is_zero (drop 16 (k₂ 0)) ≡ true = rw (sym B.tail, zero_same) H.tail in
      let te : table_of g k₂ ≡ tp_of s work = sym (bump-table g k₂ (sec synced) B) ∙ sync-table in
      let e = entries-agree g (sec work) (sec synced) (table_sector s.c.0) room.1 sync-other in
      sound-agree g (sec synced) k₂ 0 (omega arith) (λ i o. sym (B.other i o)) (tp_of s work) te (omega (arith, F.count)) z
      (rw n (table_here g s.c.0 (tp_of s work) (max-set (tc_of s work) s.c.0 s.t.0 F.max F.tx) (past-set (tc_of s work) s.c.0 s.t.0 F.past) (omega (arith, word-now))))
      (rw n (view-agree g (sec work) (sec synced) (table_sector s.c.0) room.1 sync-other s.c.0 (tp_of s work) view))
      (rw e (alone-first (tp_of s work) (tc_of s work) (entries_of g (sec work)) (rw (present-live s (sec work) live) at F.alone)))
