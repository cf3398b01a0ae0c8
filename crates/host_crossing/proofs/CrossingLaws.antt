-- What crosses to a host as code computes it: a session's words read, and a report taken over. Assumes nothing.
use mathlib.Core.Path.{◌≡◌, ap, ◌∙◌}
use mathlib.Core.Bool.{true}
use mathlib.Core.List.{List}
use Prim.Native.Nat.{ℕ}
use borrow.Author.Tests.{eq-eqb}
use lib.Dec.{eqb}
use Rattle.words.specs.Bytes.{word_at}
use Rattle.card.specs.Plan.{Report}
use Rattle.session.specs.Session.{Session}
use Rattle.host_crossing.specs.Crossing.{geo_with, session_of, decoded, report_bytes, reported}

-- ---- a session from bytes

pub decoded-words : (b : List ℕ) {state s t d c x : ℕ} {r : Session} → state ≡ word_at b 0 → s ≡ word_at b 4 → t ≡ word_at b 8
    → d ≡ word_at b 12 → c ≡ word_at b 16 → x ≡ word_at b 20 → r ≡ session_of state (geo_with s t d) c x → r ≡ decoded b
unfolding decoded
decoded-words b h₀ h₁ h₂ h₃ h₄ h₅ e = e ∙ rw (h₀, h₁, h₂, h₃, h₄, h₅)

-- ---- a call's outcome taken over

pub read_through : (e : Report) (out : List ℕ) {r : Report} {b : List ℕ} → r ≡ e → r.number ≡ 0 → b ≡ report_bytes r
    → (r.number ≡ e.number) × (b ≡ reported e out)
unfolding reported
read_through e out {r} {b} p n h =
    let m : eqb e.number 0 ≡ true = rw p at (eq-eqb r.number 0 n) in
    (ap (λ (x : Report). x.number) p, rw m (h ∙ ap (λ (x : Report). report_bytes x) p))
