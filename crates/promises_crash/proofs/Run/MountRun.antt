-- A mount, step by step: the count goes up and nothing else; at its end a live session. Assumes nothing.
use mathlib.Core.Path.{◌≡◌, refl, sym, ap, ◌∙◌, fun_ext}
use mathlib.Core.List.{List, [], Memᴰ}
use mathlib.Core.Logic.{inr, ⊎_elim}
use Prim.Native.Nat.{ℕ, ◌+◌, ◌*◌, ◌<◌}
use native.Mathlib.Omega.{arith}
use native.Mathlib.Decide.{ℕ_discrete}
use lib.ListN.{length, drop}
use Rattle.sectors.specs.Sectors.{sec, set_sec, apply_steps}
use Rattle.sectors.proofs.SectorLaws.{set_sec-length}
use Rattle.sectors.proofs.FlatLaws.{sec-in, set_here, set_there, image-same}
use Rattle.counts.specs.declared.Geo.{Geo}
use Rattle.counts.specs.Geometry.{g_n, geo_of, count_of, table_of}
use Rattle.counts.proofs.GeoLaws.{Limits, limits, head_of, table-inv}
use Rattle.card.specs.Reading.{files_in}
use Rattle.card.proofs.SoundLaws.{sound-inv}
use Rattle.card.proofs.AgreeLaws.{Bump, bump-table, bump-sound}
use Rattle.store.specs.Steps.{set_count, mount_steps}
use Rattle.store.specs.Mount.{opened_from}
use Rattle.store.proofs.StepLaws.{up-length, up-geo, mount-bump}
use Rattle.promises_answers.specs.PlainList.{Item, items}
use Rattle.promises_crash.specs.History.{Pending, written, newest, play, settled, Left, Reads}
use Rattle.promises_answers.proofs.Keep.{keeps-refl}
use Rattle.promises_answers.proofs.Items.{bump-items}
use Rattle.promises_answers.proofs.Base.{Base}
use Rattle.promises_crash.proofs.Play.{written-here, written-there, written-cases, mem-one, newest-mem, Every, every-nil, every-write, every-settle, Top}
use Rattle.promises_crash.proofs.State.{Up, Calm, calm-reads, AtRest, Live}

module _ (card : List ℕ) (p : Pending) (m : List Item) (K : AtRest (geo_of (sec card)) card p m) (few : count_of (sec card) < g_n (geo_of (sec card))) where
  abbrev g : Geo
  g = geo_of (sec card)

  L : Limits g
  L = limits g K.calm.is.ok

  pos : 0 < g.s
  pos = omega (arith, L.s_low, L.past, L.dir)

  abbrev pub up : List ℕ
  up = set_count (count_of (sec card) + 1) card

  wide_up : length up ≡ 512 * g.s
  wide_up = up-length card K.calm.is.ok K.calm.is.sized few

  wide : length (sec up 0) ≡ 512
  wide = sec-in up g.s 0 wide_up pos

  bump : Bump (sec card) (sec up)
  bump = mount-bump card K.calm.is.ok K.calm.is.sized few

  geo : geo_of (sec up) ≡ g
  geo = up-geo card K.calm.is.ok K.calm.is.sized few

  -- ---- the cuts inside

  calm-written : Calm g card (written 0 (sec up 0) p) m
  calm-written =
      record {
        is = K.calm.is;
        fixed = λ i x o y. K.calm.fixed i x o (rw (written-there 0 (sec up 0) p i o) at y);
        head = λ x y. ⊎_elim (λ q. inr (higher x q.1)) (λ q. K.calm.head x q) (written-cases 0 (sec up 0) p 0 x y);
      }
    where
      higher : (x : List ℕ) → x ≡ sec up 0 → Up g card x
      higher x e =
          let d = head_of (sec up) (λ i. x) e in
          record { count = d.0 ∙ bump.count; geo = d.1 ∙ geo; tail = ap (drop 16) e ∙ bump.tail; small = few }

  calm-newest : Calm g card (λ i. newest (written 0 (sec up 0) p i)) m
  calm-newest = record { is = K.calm.is; fixed = λ i x o y. calm-written.fixed i x o (newest-mem _ y); head = λ x y. calm-written.head x (newest-mem _ y) }

  abbrev Old : Pending → Type 0
  Old p' = (k : List ℕ) → Left p' (512 * g.s) k → Reads k m

  pub mount-every : Every Old (mount_steps card) p
  unfolding mount_steps
  mount-every =
      every-write Old 0 (sec up 0) _ p (calm-reads g card p m K.calm)
      (every-settle Old [] _ (calm-reads g card _ m calm-written) (every-nil Old _ (calm-reads g card _ m calm-newest)))

  -- ---- the end

  pub mount-lands : play (mount_steps card) p ≡ settled up
  unfolding mount_steps play
  mount-lands = fun_ext (λ i. go i (ℕ_discrete i 0))
    where
      go : (i : ℕ) → Dec (i ≡ 0) → newest (written 0 (sec up 0) p i) ≡ settled up i
      go i (yes e) = rw (e, written-here 0 (sec up 0) p) (unfold newest settled in refl)
      go i (no o) = rw (written-there 0 (sec up 0) p i o) (K.top i ∙ (unfold settled in (rw (bump.other i o))))

  pub mount-card : apply_steps (mount_steps card) card ≡ up
  unfolding mount_steps apply_steps
  mount-card = image-same _ up g.s (set_sec-length card 0 (sec up 0) ∙ K.calm.is.sized) wide_up (λ i l. go i (ℕ_discrete i 0))
    where
      go : (i : ℕ) → Dec (i ≡ 0) → sec (set_sec card 0 (sec up 0)) i ≡ sec up i
      go i (yes e) = rw e (set_here g.s card _ 0 K.calm.is.sized pos wide)
      go i (no o) = set_there g.s card _ 0 K.calm.is.sized pos wide i o ∙ sym (bump.other i o)

  base : Base (opened_from card) up
  unfolding opened_from
  base =
      record {
        ok = K.calm.is.ok;
        hc = few;
        ht = let t = (table-inv g _ (table_of g (sec card)) (sound-inv g (sec card) K.calm.is.good).tab).word few in omega arith;
        count = omega (arith, bump.count);
        good = bump-sound g (sec card) (sec up) bump few K.calm.is.good;
        word = rw (bump-table g (sec card) (sec up) bump);
        sized = wide_up;
      }

  pub mount-live : Live (opened_from card) up up (settled up) m
  mount-live =
      record {
        img₀ = up;
        base = base;
        geo = geo';
        shows = shows';
        keeps = λ i x y. rw (one i x y) (keeps-refl _ _ (sec up) i);
        top = top;
        may = may;
        sized = sized;
      }
    where
      geo' : geo_of (sec up) ≡ (opened_from card).geo
      geo' = unfold opened_from in geo

      shows' : items up (files_in (opened_from card).geo (sec up)) ≡ m
      shows' = unfold opened_from in (bump-items g card up bump K.calm.is.good ∙ K.calm.is.shows)

      one : (i : ℕ) (x : List ℕ) → Memᴰ x (settled up i) → x ≡ sec up i
      one i x y = unfold settled in mem-one y

      top : Top up (settled up)
      top i = unfold settled newest in refl

      may : (i : ℕ) → Memᴰ (sec up i) (settled up i)
      may i = unfold settled in Memᴰ.head refl

      sized : length up ≡ 512 * (opened_from card).geo.s
      sized = unfold opened_from in wide_up
