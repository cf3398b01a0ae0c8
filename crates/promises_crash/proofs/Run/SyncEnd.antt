-- What a sync and an unmount leave: the card is the new base, live, worn or closed. Assumes nothing.
use Rattle.std.specs.Prelude.{Some}
use mathlib.Core.Path.{◌≡◌, refl, sym, ap, ◌∙◌}
use mathlib.Core.Bool.{true, false}
use mathlib.Core.List.{List, [], ◌∷◌, Memᴰ}
use mathlib.Core.Logic.{inl, inr, ⊎_elim, ◌≢◌}
use Prim.Native.Nat.{ℕ, ◌+◌, ◌*◌, ◌^◌, ◌<◌}
use native.Mathlib.Omega.{arith}
use native.Mathlib.Decide.{ℕ_discrete}
use lib.ListN.{length, drop}
use Rattle.sectors.specs.Sectors.{sec, set_sec, write, apply_steps}
use Rattle.sectors.proofs.SectorLaws.{set_sec-length}
use Rattle.sectors.proofs.FlatLaws.{sec-in, set_here, set_there, image-same}
use Rattle.counts.specs.declared.Geo.{Geo}
use Rattle.counts.specs.Geometry.{g_n, geo_of, count_of}
use Rattle.counts.proofs.GeoLaws.{Limits, limits, head_of}
use Rattle.counts.specs.Stamps.{max_tx}
use Rattle.card.specs.Reading.{files_in}
use Rattle.card.proofs.AgreeLaws.{Bump}
use Rattle.session.specs.declared.Opened.{Opened}
use Rattle.session.proofs.FitLaws.{Fit}
use Rattle.store.specs.Steps.{set_count, set_word}
use Rattle.store.proofs.StepLaws.{count-length, count-other, count-count, count-geo, count-tail}
use Rattle.store.specs.Sync.{grown}
use Rattle.promises_answers.specs.PlainList.{Item, items, shown_in}
use Rattle.promises_crash.specs.History.{Pending, written, newest, settled}
use Rattle.promises_answers.proofs.Keep.{keeps-refl}
use Rattle.promises_answers.proofs.Items.{bump-items}
use Rattle.promises_answers.proofs.Synced.{sync-length, sync-count, sync-geo, sync-shows, sync-base, down-sound}
use Rattle.promises_crash.proofs.Play.{written-here, written-there, written-cases, mem-one, Top}
use Rattle.promises_crash.proofs.State.{Good, Up, Calm, calm-reads, AtRest, Live}
use Rattle.promises_crash.proofs.Inv.{Worn}
use Rattle.promises_crash.proofs.Run.SyncRun.{Either, new-rests}

module _ (s : Opened) (card work : List ℕ) (p : Pending) (m : List Item) (V₀ : Live s card work p m) (F : Fit s work) (live : s.worn ≡ false) where
  abbrev g : Geo
  g = s.geo

  abbrev new_work : List ℕ
  new_work = set_word s.c.0 s.t.0 work

  -- ---- after a sync: live, or worn

  pub next-live : s.t.0 < max_tx → Live (grown false s) new_work new_work (settled new_work) (shown_in (Some s) work)
  next-live h =
      record {
        img₀ = new_work;
        base = sync-base s work F live h;
        geo = geo;
        shows = shows;
        keeps = λ i x y. rw (one i x y) (keeps-refl _ _ (sec new_work) i);
        top = top;
        may = may;
        sized = sized;
      }
    where
      geo : geo_of (sec new_work) ≡ (grown false s).geo
      geo = unfold grown in sync-geo s work F live

      shows : items new_work (files_in (grown false s).geo (sec new_work)) ≡ shown_in (Some s) work
      shows = unfold grown in sync-shows s work F live

      one : (i : ℕ) (x : List ℕ) → Memᴰ x (settled new_work i) → x ≡ sec new_work i
      one i x y = unfold settled in mem-one y

      top : Top new_work (settled new_work)
      top i = unfold settled newest in refl

      may : (i : ℕ) → Memᴰ (sec new_work i) (settled new_work i)
      may i = unfold settled in Memᴰ.head refl

      sized : length new_work ≡ 512 * (grown false s).geo.s
      sized = unfold grown in sync-length s work F live

  pub next-worn : Worn (grown true s).geo new_work new_work (settled new_work) (shown_in (Some s) work)
  unfolding grown
  next-worn = record { rest = new-rests s card work p m V₀ F live; same = refl }

  -- ---- after an unmount: the count goes back to c

  module _ (h : s.t.0 < max_tx) where
    L : Limits g
    L = limits g F.shape

    pos : 0 < g.s
    pos = omega (arith, L.s_low, L.past, L.dir)

    small : s.c.0 < 2 ^ 32
    unfolding g_n
    small = omega (arith, F.count, L.t_high)

    abbrev pub down : List ℕ
    down = set_count s.c.0 new_work

    pub down-length : length down ≡ 512 * g.s
    down-length = count-length s.c.0 g.s new_work small (sync-length s work F live) pos

    bump : Bump (sec down) (sec new_work)
    bump =
        let w = sync-length s work F live in
        record {
          count = sync-count s work F live ∙ ap (λ (x : ℕ). x + 1) (sym (count-count s.c.0 g.s new_work small w pos));
          tail = sym (count-tail s.c.0 g.s new_work small w pos);
          other = λ i o. sym (count-other s.c.0 g.s new_work small w pos i o);
        }

    few : count_of (sec down) < g_n g
    few = omega (arith, count-count s.c.0 g.s new_work small (sync-length s work F live) pos, F.count)

    abbrev pub may : Pending
    may = written 0 (sec down 0) (settled new_work)

    rest : (i : ℕ) (x : List ℕ) → i ≢ 0 → Memᴰ x (may i) → x ≡ sec down i
    unfolding settled
    rest i x o y = mem-one (rw (written-there 0 (sec down 0) (settled new_work) i o) at y) ∙ bump.other i o

    down-good : Good g down (shown_in (Some s) work)
    down-good =
        let w = sync-length s work F live in
        let good = down-sound s work F live h (sec down) bump in
        record {
          sized = down-length;
          geo = count-geo s.c.0 g.s new_work small w pos ∙ sync-geo s work F live;
          ok = F.shape;
          good = good;
          shows = sym (bump-items g down new_work bump good) ∙ sync-shows s work F live;
        }

    pub down-calm : Calm g down may (shown_in (Some s) work)
    down-calm =
        record {
          is = down-good;
          fixed = rest;
          head = λ x y. ⊎_elim (λ q. inl q.1) (λ q. inr (up x (one x q))) (written-cases 0 (sec down 0) (settled new_work) 0 x y);
        }
      where
        one : (x : List ℕ) → Memᴰ x (settled new_work 0) → x ≡ sec new_work 0
        one x q = unfold settled in mem-one q

        up : (x : List ℕ) → x ≡ sec new_work 0 → Up g down x
        up x e =
            let d = head_of (sec new_work) (λ i. x) e in
            record { count = d.0 ∙ bump.count; geo = d.1 ∙ sync-geo s work F live; tail = ap (drop 16) e ∙ bump.tail; small = few }

    pub down-rests : AtRest g down may (shown_in (Some s) work)
    down-rests = record { calm = down-calm; top = λ i. go i (ℕ_discrete i 0) }
      where
        go : (i : ℕ) → Dec (i ≡ 0) → newest (may i) ≡ sec down i ∷ []
        go i (yes e) = rw (e, written-here 0 (sec down 0) (settled new_work)) (unfold newest in refl)
        go i (no o) = rw (written-there 0 (sec down 0) (settled new_work) i o) (unfold newest settled in (rw (bump.other i o)))

    -- the last step leaves the card with count c
    pub down-card : apply_steps (write 0 (sec down 0) ∷ []) new_work ≡ down
    unfolding apply_steps
    down-card =
        image-same _ down g.s (set_sec-length new_work 0 (sec down 0) ∙ sync-length s work F live) down-length (λ i l. go i (ℕ_discrete i 0))
      where
        wd : length (sec down 0) ≡ 512
        wd = sec-in down g.s 0 down-length pos

        go : (i : ℕ) → Dec (i ≡ 0) → sec (set_sec new_work 0 (sec down 0)) i ≡ sec down i
        go i (yes e) = rw e (set_here g.s new_work _ 0 (sync-length s work F live) pos wd)
        go i (no o) = set_there g.s new_work _ 0 (sync-length s work F live) pos wd i o ∙ bump.other i o

    -- the cut after the count went back
    pub down-reads : Either s work m may
    down-reads k x = inr (refl, calm-reads g down may _ down-calm k x)
