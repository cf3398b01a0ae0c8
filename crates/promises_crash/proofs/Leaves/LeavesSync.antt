-- The card and the working image after the steps of a sync, sector by sector, whatever card it is. Assumes nothing.
use mathlib.Core.Path.{◌≡◌, refl, sym, ◌∙◌}
use mathlib.Core.Bool.{true, false}
use mathlib.Core.List.{List, [], ◌∷◌}
use mathlib.Core.Logic.{◌≢◌}
use Prim.Native.Nat.{ℕ, ◌+◌, ◌-◌, ◌*◌, ◌/◌, ◌%◌, ◌^◌, ◌≤◌, ◌<◌}
use native.Mathlib.Omega.{arith}
use native.Mathlib.Decide.{dec_lt}
use borrow.Author.Tests.{eq-eqb, ne_eqb}
use lib.ListN.{length}
use Rattle.words.specs.Bytes.{word_bytes}
use Rattle.words.proofs.WordLaws.{word_bytes-length}
use Rattle.sectors.specs.Sectors.{sec, set_sec, Step, write, settle, apply_steps, copy_steps}
use Rattle.sectors.proofs.SectorLaws.{set_sec-length}
use Rattle.sectors.proofs.FlatLaws.{sec-in, sec-beyond, set_here, set_there, inside-here}
use Rattle.counts.specs.declared.Geo.{Geo}
use Rattle.counts.proofs.GeoLaws.{Limits, limits}
use Rattle.counts.specs.Stamps.{max_tx}
use Rattle.session.specs.declared.Opened.{Opened}
use Rattle.session.proofs.FitLaws.{Fit}
use Rattle.store.specs.Steps.{set_word, table_sector, sync_steps, all_steps, sync_work, at_top}
use Rattle.store.proofs.SyncFewer.{sync-same-card}
use Rattle.store.proofs.StepLaws.{word-length, word-other, word-table, table-sector}
use Rattle.store.specs.Sync.{grown, sync_done}
use Rattle.promises_crash.proofs.Play.{Copied, copied}
use Rattle.promises_crash.specs.Leaves.{with_word, BothSynced, SyncLeaves}

-- ---- the card after the steps of a sync, sector by sector, and what follows them

module _ (s : Opened) (card work : List ℕ) (l : length card ≡ 512 * s.geo.s) (F : Fit s work) where
  abbrev g : Geo
  g = s.geo

  abbrev new_work : List ℕ
  new_work = set_word s.c.0 s.t.0 work

  abbrev ts : ℕ
  ts = table_sector s.c.0

  pub L : Limits g
  L = limits g F.shape

  pub pos : 0 < g.s
  pos = omega (arith, L.s_low)

  pub small : s.t.0 < 2 ^ 32
  small = omega (arith, F.tx)

  pub now-sized : length new_work ≡ 512 * g.s
  now-sized = word-length g s.c.0 s.t.0 work F.shape F.sized F.count small

  pub room : (1 ≤ ts) × (ts ≤ g.t)
  room = table-sector g s.c.0 s.t.0 work F.shape F.sized F.count small

  inside : ts < g.s
  inside = omega (arith, room.1, L.past, L.dir, L.s_low)

  pub now-here : sec new_work ts ≡ with_word s.c.0 s.t.0 (sec work ts)
  unfolding set_word table_sector
  now-here =
      let e : 512 + 4 * s.c.0 ≡ 512 * (1 + s.c.0 / 128) + 4 * (s.c.0 % 128) = omega arith in
      rw e (inside-here work (1 + s.c.0 / 128) (4 * (s.c.0 % 128)) (word_bytes s.t.0) (omega (arith, word_bytes-length s.t.0)))

  pub now-there : (i : ℕ) → i ≢ ts → sec new_work i ≡ sec work i
  now-there = word-other g s.c.0 s.t.0 work F.shape F.sized F.count small

  -- what stands on the card when the steps `r` behind the sync begin
  pub record Done (r : List Step) (out : List ℕ) : Type 0 where
    pub card' : List ℕ
    pub ends : out ≡ apply_steps r card'
    pub images : BothSynced s card work (sec work 0) card' new_work

  pub done-by : (r : List Step) → Done r (apply_steps (sync_steps s card work r) card)
  unfolding all_steps
  done-by r = rw (sync-same-card s card work r) (one (copied g.s 1 0 work card _ l F.sized (omega (arith, L.s_low))))
    where
      tail : List Step
      tail = settle ∷ write ts (sec new_work ts) ∷ settle ∷ r

      out : List ℕ
      out = apply_steps (all_steps s work r) card

      two : (A : Copied g.s 0 1 work card (copy_steps work (g.t + 1) (g.s - g.t - 1) tail) out)
          → Copied g.s (g.t + 1) (g.s - g.t - 1) work A.card' tail (apply_steps (copy_steps work (g.t + 1) (g.s - g.t - 1) tail) A.card') → Done r out
      two A B =
          record {
            card' = set_sec B.card' ts (sec new_work ts);
            ends = A.ends ∙ B.ends ∙ (unfold apply_steps in refl);
            images =
                record {
                  card_size = set_sec-length B.card' ts (sec new_work ts) ∙ B.sized ∙ sym l;
                  work_size = now-sized ∙ sym F.sized;
                  card_head = there 0 (omega (arith, room.0)) ∙ B.there 0 (λ q. omega (arith, q.0)) ∙ A.here 0 (omega arith) (omega arith);
                  copied = λ i h. past i h;
                  card_table = set_here g.s B.card' _ ts B.sized inside wd ∙ now-here;
                  card_others = λ i lo hi o. there i o ∙ B.there i (λ q. omega (arith, q.0)) ∙ A.there i (λ q. omega (arith, q.1));
                  work_head = now-there 0 (omega (arith, room.0));
                  work_table = now-here;
                  work_others = λ i z o. now-there i o;
                  word = word-table g s.c.0 s.t.0 work F.shape F.sized F.count small;
                };
          }
        where
          wd : length (sec new_work ts) ≡ 512
          wd = sec-in new_work g.s ts now-sized inside

          there : (i : ℕ) → i ≢ ts → sec (set_sec B.card' ts (sec new_work ts)) i ≡ sec B.card' i
          there = set_there g.s B.card' _ ts B.sized inside wd

          past : (i : ℕ) → g.t < i → sec (set_sec B.card' ts (sec new_work ts)) i ≡ sec work i
          past i h = there i (λ e. omega (arith, e, room.1)) ∙ go (dec_lt i g.s)
            where
              go : Dec (i < g.s) → sec B.card' i ≡ sec work i
              go (yes q) = B.here i (omega arith) (omega arith)
              go (no q) = sec-beyond B.card' g.s i B.sized (omega arith) ∙ sym (sec-beyond work g.s i F.sized (omega arith))

      one : Copied g.s 0 1 work card (copy_steps work (g.t + 1) (g.s - g.t - 1) tail) out → Done r out
      one A = two A (copied g.s (g.s - g.t - 1) (g.t + 1) work A.card' tail A.sized F.sized (omega (arith, L.past, L.dir, L.s_low)))

  -- ---- sync

  pub below : s.t.0 < max_tx → at_top s ≡ false
  unfolding at_top
  below h = ne_eqb s.t.0 max_tx (omega arith)

  pub at_top_lem : s.t.0 ≡ max_tx → at_top s ≡ true
  unfolding at_top
  at_top_lem h = eq-eqb s.t.0 max_tx h

  pub synced : BothSynced s card work (sec work 0) (apply_steps (sync_steps s card work []) card) new_work
  synced = let D = done-by [] in let e : apply_steps (sync_steps s card work []) card ≡ D.card' = D.ends ∙ (unfold apply_steps in refl) in rw e D.images

  pub sync-done : SyncLeaves s card work (sync_done s card work)
  unfolding sync_done sync_work
  sync-done =
      record {
        images = synced;
        grows = λ h. rw (below h) (unfold grown in refl);
        wears = λ h. rw (at_top_lem h) (unfold grown in refl);
      }
