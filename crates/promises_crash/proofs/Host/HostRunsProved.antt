-- A history of host functions is a history of calls: call by call the bytes hold the session that the call gives. Assumes nothing.
use Rattle.std.specs.Prelude.{Some, None}
use mathlib.Core.Path.{◌≡◌, refl, sym, ◌∙◌, subst}
use mathlib.Core.List.{List}
use mathlib.Core.Logic.{◌≢◌, ⊎_elim, inl, inr}
use Prim.Native.Nat.{ℕ, zero, suc}
use native.Mathlib.Omega.{arith}
use lib.ListN.{length}
use Rattle.sectors.specs.Sectors.{Step}
use Rattle.counts.specs.declared.Geo.{Geo}
use Rattle.card.specs.Plan.{Changed}
use Rattle.card.specs.Make.{make}
use Rattle.session.specs.Session.{Session}
use Rattle.store.specs.Mount.{Ended}
use Rattle.store.specs.Sync.{land}
use Rattle.host_crossing.specs.Crossing.{decoded, encoded}
use Rattle.host_crossing.proofs.SessionBytes.{closed-back}
use Rattle.host_crossing.proofs.HostCalls.{mount-crosses, sync-crosses, unmount-crosses}
use Rattle.promises_answers.specs.PlainList.{Item}
use Rattle.promises_answers.specs.Refusals.{SameBoth}
use Rattle.promises_answers.proofs.RefusalsProved.{refusals}
use Rattle.promises_crash.specs.History.{Pending, play, all_written, Left, World, Call, make_c, mount_c, sync_c, unmount_c, put_c, remove_c, land_c, get_c, list_c, free_c, after_cut, by_number, end_open, before, edited, stepped, after, Reach, fresh, call, cut, cut_in}
use Rattle.promises_crash.proofs.Inv.{mk}
use Rattle.promises_crash.proofs.Demand.{demand-three}
use Rattle.promises_crash.specs.HostRuns.{Held, left, Runs, made, ran, lost, lost_in, AsCalls, Kept}

-- ---- one call

-- the same images, and the session that the bytes hold
abbrev Same : Held → World → Type 0
Same h w = (w.card ≡ h.card) × (w.work ≡ h.work) × (w.session ≡ decoded h.bytes)

-- mount, sync and unmount: the bytes hold the session that the call gives, and a refusal leaves all
stepped_same : (w : World) (r : Ended) (steps : List Step) (shown : List Item) (b : List ℕ) → decoded b ≡ r.session
    → (r.answer.number ≢ 0 → SameBoth r w.session w.card w.work) → Same (record { card = r.card; work = r.work; bytes = b }) (stepped w r steps shown)
unfolding stepped
stepped_same w r steps shown b e stay = go r.answer.number refl
  where
    go : (n : ℕ) → r.answer.number ≡ n
        → Same (record { card = r.card; work = r.work; bytes = b }) (by_number n (mk r.card r.work r.session (play steps w.pending) shown) w)
    go zero q = unfold by_number in (refl, refl, sym e)
    go (suc k) q = unfold by_number in (let (s, c, x, z) = stay (λ z. absurd (omega arith)) in (sym c, sym x, sym (e ∙ s)))

-- put and remove
edited-same : (w : World) (r : Changed) (b : List ℕ) → w.session ≡ decoded b → (r.answer.number ≢ 0 → r.image ≡ w.work)
    → Same (record { card = w.card; work = r.image; bytes = b }) (edited w r)
unfolding edited
edited-same w r b e stay = go r.answer.number refl
  where
    go : (n : ℕ) → r.answer.number ≡ n
        → Same (record { card = w.card; work = r.image; bytes = b }) (by_number n (mk w.card r.image w.session (all_written r.image w.pending) w.last) w)
    go zero q = unfold by_number in (refl, refl, e)
    go (suc k) q = unfold by_number in (refl, sym (stay (λ z. absurd (omega arith))), e)

make_same : (g : Geo) (h : Held) (s : Session) (p : Pending) (m : List Item) → s ≡ decoded h.bytes → Same (left (make_c g) h) (after (make_c g) (mk h.card h.work s p m))
unfolding left after
make_same g h s p m e = go (make g h.card).answer.number refl
  where
    go : (n : ℕ) → (make g h.card).answer.number ≡ n
        → Same (record { card = (make g h.card).image; work = h.work; bytes = by_number n (encoded None) h.bytes }) (by_number n (after_cut (make g h.card).image h.work) (mk h.card h.work s p m))
    go zero q = unfold by_number after_cut in (refl, refl, sym closed-back)
    go (suc k) q = unfold by_number in (sym (refusals.of_make g h.card (λ z. absurd (omega arith))).0, refl, e)

mount-same : (s : Session) (h : Held) (p : Pending) (m : List Item) → Same (left mount_c h) (after mount_c (mk h.card h.work s p m))
unfolding left after before end_open after_cut
mount-same None h p m = stepped_same (mk h.card h.work None p m) _ _ _ _ (mount-crosses h.card h.work) (λ n. refusals.of_mount h.card h.work n)
mount-same (Some s) h p m = stepped_same (after_cut h.card h.work) _ _ _ _ (mount-crosses h.card h.work) (λ n. refusals.of_mount h.card h.work n)

land-same : (i : ℕ) (h : Held) (p : Pending) (m : List Item) → Same (left (land_c i) h) (after (land_c i) (mk h.card h.work (decoded h.bytes) p m))
unfolding left after
land-same i h p m = go (land (decoded h.bytes) h.card h.work i).answer.number refl
  where
    r : Changed
    r = land (decoded h.bytes) h.card h.work i

    go : (n : ℕ) → (land (decoded h.bytes) h.card h.work i).answer.number ≡ n
        → Same (record { card = (land (decoded h.bytes) h.card h.work i).image; work = h.work; bytes = h.bytes })
        (by_number n (mk (land (decoded h.bytes) h.card h.work i).image h.work (decoded h.bytes) p m) (mk h.card h.work (decoded h.bytes) p m))
    go zero q = unfold by_number in (refl, refl, refl)
    go (suc k) q = unfold by_number in (sym (refusals.of_land (decoded h.bytes) h.card h.work i (λ z. absurd (omega arith))).0, refl, refl)

step : (c : Call) (h : Held) (p : Pending) (m : List Item) → Same (left c h) (after c (mk h.card h.work (decoded h.bytes) p m))
step (make_c g) h p m = make_same g h (decoded h.bytes) p m refl
step mount_c h p m = mount-same (decoded h.bytes) h p m
step sync_c h p m =
    unfold left after in
    stepped_same (mk h.card h.work (decoded h.bytes) p m) _ _ _ _ (sync-crosses h.bytes h.card h.work) (λ n. refusals.of_sync (decoded h.bytes) h.card h.work n)
step unmount_c h p m =
    unfold left after in
    stepped_same (mk h.card h.work (decoded h.bytes) p m) _ _ _ _ (unmount-crosses h.bytes h.card h.work) (λ n. refusals.of_unmount (decoded h.bytes) h.card h.work n)
step (put_c n d goal) h p m =
    unfold left after in edited-same (mk h.card h.work (decoded h.bytes) p m) _ h.bytes refl (λ q. (refusals.of_put (decoded h.bytes) h.work n d goal q).0)
step (remove_c n) h p m =
    unfold left after in edited-same (mk h.card h.work (decoded h.bytes) p m) _ h.bytes refl (λ q. (refusals.of_remove (decoded h.bytes) h.work n q).0)
step (land_c i) h p m = land-same i h p m
step (get_c n out) h p m = unfold left after in (refl, refl, refl)
step (list_c lines) h p m = unfold left after in (refl, refl, refl)
step free_c h p m = unfold left after in (refl, refl, refl)

-- ---- every history

-- the world that is meant
whose : (h : Held) (w : World) → AsCalls h w → mk h.card h.work (decoded h.bytes) w.pending w.last ≡ w
whose h w A = λ i. record { card = sym A.card i; work = sym A.work i; session = sym A.session i; pending = w.pending; last = w.last }

next : (h : Held) (w : World) → AsCalls h w → (c : Call) → Same (left c h) (after c w)
next h w A c = subst (λ (v : World). Same (left c h) (after c v)) (whose h w A) (step c h w.pending w.last)

begins : (card work b : List ℕ) → decoded b ≡ None → Reach (after_cut card work) → AsCalls (record { card = card; work = work; bytes = b }) (after_cut card work)
unfolding after_cut
begins card work b z r = record { reached = r; card = refl; work = refl; session = sym z }

-- the card that a cut leaves is as long as either of two that are the same
as_long : (p : Pending) (a b card : List ℕ) → a ≡ b → Left p (length b) card → Left p (length a) card
as_long p a b card e l = rw e l

pub as-calls : {h : Held} {w : World} → Runs h w → AsCalls h w
as-calls (made g work b ok z) = begins _ work b z (fresh g work ok)
as-calls (ran {h} {w} r c) =
    let A = as-calls r in
    let (x, y, z) = next h w A c in
    record { reached = call A.reached c; card = x; work = y; session = z }
as-calls (lost {h} {w} r card work b l z) = let A = as-calls r in begins card work b z (cut A.reached card work (as_long _ _ _ card A.card l))
as-calls (lost_in {h} {w} r c n card work b l z) = let A = as-calls r in begins card work b z (cut_in A.reached c n card work (as_long _ _ _ card A.card l))

pub kept-so : (h : Held) (w : World) → AsCalls h w → Kept h w
kept-so h w A =
    let (x, y) = demand-three w A.reached in
    record {
      at_rest = λ card l. x card (as_long _ _ _ card A.card l);
      inside = λ c n card l. ⊎_elim (λ q. inl q) (λ q. inr (q.0, rw (A.session, A.work) at q.1)) (y c n card (as_long _ _ _ card A.card l));
    }
