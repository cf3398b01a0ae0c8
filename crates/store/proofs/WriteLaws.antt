-- What mount, sync and unmount ask, the sectors they write, and the steps of mount one by one. Assumes nothing.
use mathlib.Core.Path.{◌≡◌, refl, sym, ◌∙◌}
use mathlib.Core.Bool.{true, false}
use mathlib.Core.Logic.{◌≢◌}
use mathlib.Core.List.{List}
use Prim.Native.Nat.{ℕ, zero, suc, ◌+◌, ◌*◌, ◌/◌, ◌%◌, ◌≤◌, ◌<◌}
use native.Mathlib.Omega.{arith}
use lib.ListN.{length, take, get_or}
use Rattle.words.specs.Lists.{part, splice}
use Rattle.words.specs.Bytes.{word_at, word_bytes}
use Rattle.words.proofs.WordLaws.{word_bytes-length, word-part}
use Rattle.sectors.specs.Sectors.{sec, set_sec, apply_steps, apply_step}
use Rattle.sectors.proofs.FlatLaws.{inside-here, inside-other}
use Rattle.counts.specs.declared.Geo.{Geo}
use Rattle.counts.specs.Geometry.{g_n, geo_of, count_of, table_of}
use Rattle.counts.specs.Stamps.{max_tx}
use Rattle.counts.proofs.GeoLaws.{limits, table-inv}
use Rattle.counts.proofs.TableLaws.{ok-laid}
use Rattle.card.specs.Sound.{shape_ok, sound}
use Rattle.card.proofs.SoundLaws.{shape-inv, sound-inv}
use Rattle.session.specs.declared.Opened.{Opened}
use Rattle.session.specs.Fits.{fits}
use Rattle.session.proofs.FitLaws.{fit-inv}
use Rattle.store.specs.Steps.{set_count, set_word, table_sector, mount_steps}
use Rattle.store.specs.Mount.{opened_from}
use Rattle.store.specs.Inner.{CanMount, CanSync}

pub can-mount : (card : List ℕ) → shape_ok card ≡ true → sound card ≡ true → count_of (sec card) < g_n (geo_of (sec card)) → CanMount card
unfolding sound
can-mount card h k l =
    let (g, m) = shape-inv card h in
    let S = sound-inv (geo_of (sec card)) (sec card) k in
    record { laid = ok-laid (geo_of (sec card)) card g m; count = l; word = (table-inv _ _ _ S.tab).word l }

pub can-sync : (s : Opened) (card work : List ℕ) → length card ≡ 512 * s.geo.s → fits s work ≡ true → CanSync s card work
can-sync s card work l h =
    let F = fit-inv s work h in
    let L = limits s.geo F.shape in
    record { room = omega (arith, L.past, L.dir, L.s_low); top = L.s_high; table = L.t_high; count = F.count; tx = F.tx; card_size = l; work_size = F.sized }

-- a card of the same length serves as well
pub can-still : (s : Opened) {card work : List ℕ} (next : List ℕ) → CanSync s card work → length next ≡ length card → CanSync s next work
can-still s next C l =
    record { room = C.room; top = C.top; table = C.table; count = C.count; tx = C.tx; card_size = l ∙ C.card_size; work_size = C.work_size }

-- ---- sectors with one word put

pub count-sector : (c : ℕ) (img : List ℕ) → sec (set_count c img) 0 ≡ splice (sec img 0) 0 (word_bytes c)
unfolding set_count
count-sector c img = inside-here img 0 0 (word_bytes c) (omega (arith, word_bytes-length c))

at-word : (c : ℕ) → 512 + 4 * c ≡ 512 * (1 + c / 128) + 4 * (c % 128)
at-word c = omega arith

pub word-sector : (c t : ℕ) (img : List ℕ) → sec (set_word c t img) (table_sector c) ≡ splice (sec img (1 + c / 128)) (4 * (c % 128)) (word_bytes t)
unfolding set_word table_sector
word-sector c t img = rw (at-word c) (inside-here img (1 + c / 128) (4 * (c % 128)) (word_bytes t) (omega (arith, word_bytes-length t)))

pub word_first : (c t : ℕ) (img : List ℕ) → sec (set_word c t img) 0 ≡ sec img 0
unfolding set_word
word_first c t img =
    rw (at-word c) (inside-other img (1 + c / 128) (4 * (c % 128)) (word_bytes t) (omega (arith, word_bytes-length t)) 0 (λ e. omega arith))

pub count-here : (img : List ℕ) → 512 ≤ length img → word_at img 0 ≡ count_of (sec img)
unfolding count_of sec part
count-here img h = sym (word-part img 512 0 0 (omega arith) (omega arith))

-- ---- mount

-- a loop over the steps of mount reads the list off the card as it is by then: the steps that are left are the same
pub mount-same : (card₀ card : List ℕ) (k : ℕ) → card ≡ apply_steps (take k (mount_steps card₀)) card₀ → apply_step k (mount_steps card) card ≡ apply_step k (mount_steps card₀) card
unfolding mount_steps apply_steps apply_step
mount-same card₀ card zero e = rw e
mount-same card₀ card (suc k) e = refl

-- and before the first step the card is the old one
pub mount-begins : (card₀ card : List ℕ) (k : ℕ) → card ≡ apply_steps (take k (mount_steps card₀)) card₀ → CanMount card₀ → k ≡ 0 → CanMount card
unfolding apply_steps
mount-begins card₀ card zero e M z = rw e M
mount-begins card₀ card (suc k) e M z = absurd (omega arith)

-- step number 0, and the others
pub mount-write : (card : List ℕ) {k c : ℕ} {block f : List ℕ} → k ≡ 0 → 512 ≤ length card → c ≡ word_at card 0
    → block ≡ splice (sec card 0) 0 (word_bytes (c + 1)) → f ≡ set_sec card 0 block → f ≡ apply_step k (mount_steps card) card
unfolding mount_steps apply_steps apply_step
mount-write card z l e g h = h ∙ rw (z, g, e, count-here card l, ← count-sector)

pub mount-still : (card : List ℕ) (k : ℕ) → k ≢ 0 → card ≡ apply_step k (mount_steps card) card
unfolding mount_steps apply_steps apply_step
mount-still card zero n = absurd (n refl)
mount-still card (suc zero) n = refl
mount-still card (suc (suc k)) n = refl

-- the session that mount opens, from the words that code reads
pub opened-here : (card : List ℕ) {g : Geo} {c t : ℕ} → 512 ≤ length card → g ≡ geo_of (sec card) → c ≡ word_at card 0 → t ≡ get_or (table_of g (sec card)) c 0
    → record { geo = g; c = record { 0 = c }; t = record { 0 = t + 1 }; worn = false } ≡ opened_from card
unfolding opened_from
opened-here card h eg ec et = rw (et, ec, eg, count-here card h)

pub word_fits : (card : List ℕ) {g : Geo} {c t : ℕ} → CanMount card → 512 ≤ length card → g ≡ geo_of (sec card) → c ≡ word_at card 0 → t ≡ get_or (table_of g (sec card)) c 0
    → t < max_tx
word_fits card M h eg ec et = rw (et, ec, eg, count-here card h) M.word
