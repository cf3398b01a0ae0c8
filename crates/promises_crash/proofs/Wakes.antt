-- No dead stamp comes to life, at mount or at a sync, proved. Assumes nothing.
use Rattle.std.specs.Prelude.{Some}
use mathlib.Core.Path.{◌≡◌, refl, sym, ap, ◌∙◌, subst}
use mathlib.Core.Bool.{true, false}
use mathlib.Core.List.{List}
use mathlib.Core.Logic.{◌↔◌}
use Prim.Native.Nat.{ℕ, ◌+◌, ◌≤◌, ◌<◌}
use native.Mathlib.Omega.{arith}
use native.Mathlib.Decide.{ℕ_discrete, dec_le}
use lib.ListN.{length, get_or, set, length-set}
use lib.Seq.{get_or-set_same, get_or-set_other}
use Rattle.sectors.specs.Sectors.{sec}
use Rattle.counts.specs.declared.Geo.{Geo}
use Rattle.counts.specs.declared.Stamp.{Stamp}
use Rattle.counts.specs.Geometry.{g_n, geo_of, count_of, table_of}
use Rattle.counts.proofs.GeoLaws.{table_same}
use Rattle.counts.specs.Stamps.{max_tx}
use Rattle.card.specs.Plan.{refused}
use Rattle.card.proofs.PlanLaws.{ahead!, guard-num}
use Rattle.card.proofs.MeansParts.{limits-mean}
use Rattle.card.specs.Means.{EachStamp, Alive, DeadBelow, Sound}
use Rattle.card.proofs.SoundLaws.{shape-inv}
use Rattle.session.specs.declared.Opened.{Opened}
use Rattle.session.specs.Session.{Session}
use Rattle.session.specs.Views.{present_table, cut_table}
use Rattle.session.proofs.FitLaws.{fit-table, present-live, present-worn}
use Rattle.session.specs.FitMeans.{Fits}
use Rattle.session.proofs.FitMeansProved.{fits-mean}
use Rattle.store.specs.Mount.{Ended, mount}
use Rattle.store.specs.Sync.{sync}
use Rattle.store.proofs.Plans.{both-inv, both-num, mount-few, mount-good, mount-num}
use Rattle.promises_crash.proofs.ReadsBy.{means-sound}
use Rattle.promises_crash.proofs.SteadyProved.{through, mount-shows, sync-same}
use Rattle.promises_crash.specs.Leaves.{MountLeaves, SyncLeaves}
use Rattle.promises_crash.proofs.Leaves.LeavesProved.{mount-changes, sync-changes}
use Rattle.promises_crash.proofs.FewerProved.{sync-not-worn}
use Rattle.promises_crash.specs.Worries.{LivesOn, NoneWakes}

-- ---- stamps and tables

each-stamp : (g : Geo) (img : List ℕ) (P Q : Stamp → Type 0) → ((x : Stamp) → P x → Q x) → EachStamp g img P → EachStamp g img Q
each-stamp g img P Q f e = (λ p l. f _ (e.0 p l), λ i l. f _ (e.1 i l))

-- a stamp that is not dead below C is alive from C on
not_dead : (C : ℕ) (tab : List ℕ) (x : Stamp) → DeadBelow C tab x → C ≤ x.cc.0 → Alive tab x
not_dead C tab x d l = go (dec_le x.txc.0 (get_or tab x.cc.0 0))
  where
    go : Dec (Alive tab x) → Alive tab x
    go (yes a) = a
    go (no n) = absurd (omega (arith, d n))

-- word c becomes t: no stamp changes that is alive at c before and after
same-life : (tab : List ℕ) (c t : ℕ) (x : Stamp) → c < length tab → (x.cc.0 ≡ c → Alive tab x × (x.txc.0 ≤ t)) → Alive (set tab c t) x ↔ Alive tab x
same-life tab c t x l h = go (ℕ_discrete x.cc.0 c)
  where
    go : Dec (x.cc.0 ≡ c) → Alive (set tab c t) x ↔ Alive tab x
    go (yes e) = (λ q. (h e).0, λ q. rw (e, get_or-set_same tab c t 0 l) (h e).1)
    go (no o) = rw (get_or-set_other tab c x.cc.0 t 0 o) (λ q. q, λ q. q)

-- ---- mount

module _ (card work : List ℕ) (z : (mount card work).answer.number ≡ 0) where
  abbrev g : Geo
  g = geo_of (sec card)

  abbrev C : ℕ
  C = count_of (sec card)

  abbrev T : List ℕ
  T = table_of g (sec card)

  abbrev W : List ℕ
  W = (mount card work).work

  abbrev opened : Opened
  opened = record { geo = g; c = record { 0 = C }; t = record { 0 = get_or T C 0 + 1 }; worn = false }

  -- what mount has tested
  good : Sound card × (C < g_n g) × (length T ≡ g_n g)
  unfolding mount refused
  good =
      through (λ (r : Ended). r.answer.number) (λ r. Sound card × (C < g_n g) × (length T ≡ g_n g)) _ _ (λ k. refl) (mount-num card work)
      (λ j a e.
      let (x, y) = mount-good card work j a e in
      let (u, v) = shape-inv card x in
      ((means-sound card x y).1, mount-few card work j a e, fit-table g card u v)) z

  L : MountLeaves card (mount card work)
  L = mount-changes card work z

  same-table : table_of g (sec W) ≡ T
  same-table = table_same g (sec card) (sec W) (λ i lo hi. ap (λ (l : List ℕ). sec l i) L.copied ∙ L.others i (λ e. omega arith))

  lives_at : (x : Stamp) → DeadBelow C T x → LivesOn T (mount card work).session W x
  unfolding cut_table
  lives_at x d = subst (λ (o : Session). LivesOn T o W x) (sym L.session) (present, rw same-table (λ q. q, λ q. q))
    where
      present : Alive (present_table opened (sec W)) x ↔ Alive T x
      present =
          rw (present-live opened (sec W) refl, same-table)
          (same-life T C (get_or T C 0 + 1) x (omega (arith, good)) (λ e. let a : Alive T x = not_dead C T x d (omega arith) in (a, rw (← e) (omega arith))))

  pub wakes-mount : EachStamp g card (LivesOn T (mount card work).session W)
  wakes-mount = each-stamp g card (DeadBelow C T) (LivesOn T (mount card work).session W) lives_at good.0.dead

-- ---- sync

-- what sync has tested
sync-fits : (s : Opened) (card work : List ℕ) → (sync (Some s) card work).answer.number ≡ 0 → Fits s work
unfolding sync refused
sync-fits s card work z =
    through (λ (r : Ended). r.answer.number) (λ r. Fits s work) _ _ (λ k. refl) (both-num s card work (guard-num 8 _ ahead!))
    (λ j a e. (fits-mean s work).0 (both-inv s card work _ e).0) z

module _ (s : Opened) (card work : List ℕ) (z : (sync (Some s) card work).answer.number ≡ 0) where
  F : Fits s work
  F = sync-fits s card work z

  -- the present view before the sync
  abbrev P : List ℕ
  P = present_table s (sec work)

  abbrev synced : List ℕ
  synced = (sync (Some s) card work).work

  L₁ : SyncLeaves s card work (sync (Some s) card work)
  L₁ = sync-changes s card work z

  is_set : P ≡ set (table_of s.geo (sec work)) s.c.0 s.t.0
  is_set = present-live s (sec work) (sync-not-worn s card work z)

  -- is the table after it
  new-table : table_of s.geo (sec synced) ≡ P
  new-table = L₁.images.word ∙ sym is_set

  long : length P ≡ g_n s.geo
  long = ap length is_set ∙ length-set (table_of s.geo (sec work)) s.c.0 s.t.0 ∙ fit-table s.geo work ((limits-mean s.geo).1 F.limits) F.sized

  at_c_lem : get_or P s.c.0 0 ≡ s.t.0
  at_c_lem = rw is_set (get_or-set_same (table_of s.geo (sec work)) s.c.0 s.t.0 0 (omega (arith, F.c, long, ap length is_set, length-set (table_of s.geo (sec work)) s.c.0 s.t.0)))

  abbrev next : Opened
  next = record { geo = s.geo; c = s.c; t = record { 0 = s.t.0 + 1 }; worn = false }

  abbrev last : Opened
  last = record { geo = s.geo; c = s.c; t = s.t; worn = true }

  lives-after : (x : Stamp) → (x.cc.0 ≡ s.c.0 → x.txc.0 ≤ s.t.0) → LivesOn P (sync (Some s) card work).session synced x
  unfolding cut_table
  lives-after x m = go (ℕ_discrete s.t.0 max_tx)
    where
      go : Dec (s.t.0 ≡ max_tx) → LivesOn P (sync (Some s) card work).session synced x
      go (yes e) =
          subst (λ (o : Session). LivesOn P o synced x) (sym (L₁.wears e))
          (rw (present-worn last (sec synced) refl (ap length new-table ∙ long), new-table) (λ q. q, λ q. q), rw new-table (λ q. q, λ q. q))
      go (no o) =
          subst (λ (o : Session). LivesOn P o synced x) (sym (L₁.grows (omega (arith, F.t_most)))) (
            rw (present-live next (sec synced) refl, new-table)
                (same-life P s.c.0 (s.t.0 + 1) x (omega (arith, long, F.c)) (λ e. (rw (e, at_c_lem) (m e), omega (arith, m e)))),
            rw new-table (λ q. q, λ q. q),
          )

  pub wakes-sync : EachStamp s.geo work (LivesOn P (sync (Some s) card work).session synced)
  wakes-sync = each-stamp s.geo work (λ x. x.cc.0 ≡ s.c.0 → x.txc.0 ≤ s.t.0) (LivesOn P (sync (Some s) card work).session synced) lives-after F.at_c

-- ---- proved

pub none-wakes : NoneWakes
none-wakes =
    record {
      none_dead = λ card k.
          each-stamp (geo_of (sec card)) card (DeadBelow (count_of (sec card)) (table_of (geo_of (sec card)) (sec card)))
          (λ x. count_of (sec card) ≤ x.cc.0 → Alive (table_of (geo_of (sec card)) (sec card)) x) (not_dead (count_of (sec card)) (table_of (geo_of (sec card)) (sec card))) k.dead;
      at_mount = wakes-mount;
      at_sync = wakes-sync;
      mount_shows = mount-shows;
      sync_shows = sync-same;
    }
