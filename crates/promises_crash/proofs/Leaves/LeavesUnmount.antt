-- The card and the working image after an unmount: the count goes back, or the session is or becomes worn. Assumes nothing.
use mathlib.Core.Path.{◌≡◌, refl, sym, ap, ◌∙◌}
use mathlib.Core.Bool.{Bool, true, false}
use mathlib.Core.List.{List, [], ◌∷◌}
use mathlib.Core.Logic.{◌≢◌}
use Prim.Native.Nat.{ℕ, ◌+◌, ◌*◌, ◌^◌, ◌<◌}
use native.Mathlib.Omega.{arith}
use lib.ListN.{length, set}
use Rattle.sectors.specs.Sectors.{sec, set_sec, write, apply_steps}
use Rattle.sectors.proofs.SectorLaws.{set_sec-length}
use Rattle.sectors.proofs.FlatLaws.{sec-in, set_here, set_there}
use Rattle.counts.specs.declared.Geo.{Geo}
use Rattle.counts.specs.Geometry.{g_n, count_of, table_of}
use Rattle.counts.proofs.GeoLaws.{head_of, table_same}
use Rattle.counts.specs.Stamps.{max_tx}
use Rattle.session.specs.declared.Opened.{Opened}
use Rattle.session.proofs.FitLaws.{Fit, head-inv}
use Rattle.store.specs.Steps.{set_count, set_word, table_sector, sync_steps, unmount_steps, unmount_steps_by, down_steps, sync_work, unmount_work, unmount_work_by, down_work, at_top}
use Rattle.store.proofs.StepLaws.{count-length, count-other, count-here, count-count, word-table}
use Rattle.store.specs.Sync.{unmount_done}
use Rattle.promises_crash.specs.Leaves.{with_count, BothSynced, UnmountLeaves}
use Rattle.promises_crash.proofs.Leaves.LeavesSync.{L, pos, small, now-sized, room, now-here, now-there, done-by, below, at_top_lem, synced}

module _ (s : Opened) (card work : List ℕ) (l : length card ≡ 512 * s.geo.s) (F : Fit s work) where
  abbrev g : Geo
  g = s.geo

  abbrev new_work : List ℕ
  new_work = set_word s.c.0 s.t.0 work

  abbrev ts : ℕ
  ts = table_sector s.c.0

  head-count : count_of (sec work) ≡ s.c.0 + 1
  head-count = (head-inv s (sec work) F.head).count

  -- the counts of two images whose sector 0 is the working image's
  stays : {h a b : List ℕ} → BothSynced s card work h a b → h ≡ sec work 0 → (count_of (sec a) ≡ s.c.0 + 1) × (count_of (sec b) ≡ s.c.0 + 1)
  stays {h} {a} {b} B e =
      ((head_of (sec work) (sec a) (B.card_head ∙ e)).0 ∙ head-count, (head_of (sec work) (sec b) (B.work_head ∙ e)).0 ∙ head-count)

  count_small : s.c.0 < 2 ^ 32
  unfolding g_n
  count_small = omega (arith, F.count, (L s card work l F).t_high)

  abbrev back : List ℕ
  back = set_count s.c.0 new_work

  back-sized : length back ≡ 512 * g.s
  back-sized = count-length s.c.0 g.s new_work count_small (now-sized s card work l F) (pos s card work l F)

  back_head : sec back 0 ≡ with_count s.c.0 (sec work 0)
  back_head = count-here s.c.0 g.s new_work count_small (now-sized s card work l F) (pos s card work l F) ∙ ap (with_count s.c.0) (now-there s card work l F 0 (omega (arith, (room s card work l F).0)))

  back-there : (i : ℕ) → i ≢ 0 → sec back i ≡ sec new_work i
  back-there = count-other s.c.0 g.s new_work count_small (now-sized s card work l F) (pos s card work l F)

  back-word : table_of g (sec back) ≡ set (table_of g (sec work)) s.c.0 s.t.0
  back-word =
      table_same g (sec new_work) (sec back) (λ i lo hi. back-there i (omega arith))
      ∙ word-table g s.c.0 s.t.0 work F.shape F.sized F.count (small s card work l F)

  returned : (k : List ℕ) → BothSynced s card work (sec work 0) k new_work → BothSynced s card work (with_count s.c.0 (sec work 0)) (set_sec k 0 (sec back 0)) back
  returned k B =
      record {
        card_size = set_sec-length k 0 (sec back 0) ∙ B.card_size;
        work_size = back-sized ∙ sym F.sized;
        card_head = set_here g.s k (sec back 0) 0 w (pos s card work l F) wd ∙ back_head;
        copied = λ i h. there i (omega arith) ∙ B.copied i h;
        card_table = there ts (omega (arith, (room s card work l F).0)) ∙ B.card_table;
        card_others = λ i lo hi o. there i (omega arith) ∙ B.card_others i lo hi o;
        work_head = back_head;
        work_table = back-there ts (omega (arith, (room s card work l F).0)) ∙ now-here s card work l F;
        work_others = λ i z o. back-there i z ∙ now-there s card work l F i o;
        word = back-word;
      }
    where
      w : length k ≡ 512 * g.s
      w = B.card_size ∙ l

      wd : length (sec back 0) ≡ 512
      wd = sec-in back g.s 0 back-sized (pos s card work l F)

      there : (i : ℕ) → i ≢ 0 → sec (set_sec k 0 (sec back 0)) i ≡ sec k i
      there = set_there g.s k (sec back 0) 0 w (pos s card work l F) wd

  -- the steps of an unmount that syncs, and its working image
  unmount-is : {b : Bool} → s.worn ≡ false → at_top s ≡ b → (unmount_steps s card work ≡ sync_steps s card work (down_steps b s new_work)) × (unmount_work s work ≡ down_work b s new_work)
  unfolding unmount_steps unmount_steps_by unmount_work unmount_work_by sync_work
  unmount-is live q = (
    ap (λ (x : Bool). unmount_steps_by x s card work) live ∙ ap (λ (x : Bool). sync_steps s card work (down_steps x s new_work)) q,
    ap (λ (x : Bool). unmount_work_by x s work) live ∙ ap (λ (x : Bool). down_work x s new_work) q,
  )

  -- the three ends of an unmount: the count goes back, the session becomes worn, the session is worn
  down-done : s.worn ≡ false → s.t.0 < max_tx
      → BothSynced s card work (with_count s.c.0 (sec work 0)) (apply_steps (unmount_steps s card work) card) (unmount_work s work)
  unfolding down_steps down_work
  down-done live h =
      let D = done-by s card work l F (write 0 (sec back 0) ∷ []) in
      let e : apply_steps (sync_steps s card work (write 0 (sec back 0) ∷ [])) card ≡ set_sec D.card' 0 (sec back 0) = D.ends ∙ (unfold apply_steps in refl) in
      let (u, v) = unmount-is live (below s card work l F h) in
      rw (u, v, e) (returned D.card' D.images)

  top-done : s.worn ≡ false → s.t.0 ≡ max_tx → BothSynced s card work (sec work 0) (apply_steps (unmount_steps s card work) card) (unmount_work s work)
  unfolding down_steps down_work
  top-done live h = let (u, v) = unmount-is live (at_top_lem s card work l F h) in rw (u, v) (synced s card work l F)

  worn-done : s.worn ≡ true → (apply_steps (unmount_steps s card work) card ≡ card) × (unmount_work s work ≡ work)
  unfolding unmount_steps unmount_steps_by unmount_work unmount_work_by apply_steps
  worn-done w = rw w (refl, refl)

  -- a sector 0 with count C counts C
  counts : (a : List ℕ) → sec a 0 ≡ sec back 0 → count_of (sec a) ≡ s.c.0
  counts a e = (head_of (sec back) (sec a) e).0 ∙ count-count s.c.0 g.s new_work count_small (now-sized s card work l F) (pos s card work l F)

  pub unmount-done : UnmountLeaves s card work (unmount_done s card work)
  unfolding unmount_done
  unmount-done =
      record {
        closed = refl;
        down = down-done;
        count_down = λ live h. let B = down-done live h in (counts _ (B.card_head ∙ sym back_head), counts _ (B.work_head ∙ sym back_head));
        wears = top-done;
        count_up = λ live h. stays (top-done live h) refl;
        worn = λ w. let (a, b) = worn-done w in (a, b, rw b head-count);
      }
