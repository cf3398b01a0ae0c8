-- A refused host function leaves the bytes of its session and of its output as lent, but that "a refused mount returns a closed session"; the images, and what
-- get and list are lent, are in Refusals. Assumes nothing.
use mathlib.Core.Path.{◌≡◌, ap, ◌∙◌}
use mathlib.Core.List.{List}
use mathlib.Core.Logic.{◌≢◌}
use Prim.Native.Nat.{ℕ}
use borrow.Author.Tests.{ne_eqb}
use lib.ListN.{replicate}
use Rattle.card.specs.Reading.{read}
use Rattle.session.specs.Session.{Session}
use Rattle.store.specs.Look.{free}
use Rattle.store.specs.Mount.{mount}
use Rattle.store.specs.Sync.{sync, unmount}
use Rattle.host_crossing.specs.Crossing.{decoded, encoded, reported, roomed, kept}
use Rattle.host_crossing.proofs.SessionBytes.{closed-zeros}
use Rattle.host_crossing.proofs.HostCalls.{kept-refused}
use Rattle.promises_answers.proofs.RefusalsProved.{refusals}

pub read_stays : (card out : List ℕ) → (read card).number ≢ 0 → reported (read card) out ≡ out
unfolding reported
read_stays card out n = rw (ne_eqb (read card).number 0 n)

-- 24 zeros
pub mount-stays : (card work : List ℕ) → (mount card work).answer.number ≢ 0
    → (encoded (mount card work).session ≡ replicate 24 0) × ((mount card work).card ≡ card) × ((mount card work).work ≡ work)
mount-stays card work n = let (s, c, w, z) = refusals.of_mount card work n in (ap encoded s ∙ closed-zeros, c, w)

pub free_stays : (s : Session) (work out : List ℕ) → (free s work).number ≢ 0 → roomed (free s work) out ≡ out
unfolding roomed
free_stays s work out n = rw (ne_eqb (free s work).number 0 n)

pub sync-stays : (b card work : List ℕ) → (sync (decoded b) card work).answer.number ≢ 0
    → (kept (sync (decoded b) card work) b ≡ b) × ((sync (decoded b) card work).card ≡ card) × ((sync (decoded b) card work).work ≡ work)
sync-stays b card work h = let (s, c, w, z) = refusals.of_sync (decoded b) card work h in (kept-refused _ b h, c, w)

pub unmount-stays : (b card work : List ℕ) → (unmount (decoded b) card work).answer.number ≢ 0
    → (kept (unmount (decoded b) card work) b ≡ b) × ((unmount (decoded b) card work).card ≡ card) × ((unmount (decoded b) card work).work ≡ work)
unmount-stays b card work h = let (s, c, w, z) = refusals.of_unmount (decoded b) card work h in (kept-refused _ b h, c, w)
