-- A session as 24 bytes: it is read back whole, the closed one is zeros, and a state above 2 never fits. Assumes nothing.
use Rattle.std.specs.Prelude.{Some, None}
use mathlib.Core.Path.{◌≡◌, refl}
use mathlib.Core.Bool.{Bool, true, false}
use mathlib.Core.List.{List}
use Prim.Native.Nat.{ℕ, ◌^◌, ◌<◌}
use native.Mathlib.Omega.{arith}
use borrow.Author.Tests.{lt-ltb, ne_eqb}
use lib.ListN.{length, replicate}
use Rattle.words.specs.Bytes.{word_at, word_bytes}
use Rattle.words.proofs.WordLaws.{join-bytes}
use Rattle.session.specs.declared.Opened.{Opened}
use Rattle.session.specs.Session.{Session}
use Rattle.session.specs.Fits.{fits}
use Rattle.session.proofs.FitLaws.{fit-inv}
use Rattle.host_crossing.specs.Crossing.{geo_with, opened_of, session_of, decoded, state_of, opened_bytes, encoded}

-- the closed session is 24 zeros
pub closed-zeros : encoded None ≡ replicate 24 0
unfolding encoded
closed-zeros = refl

-- every session is 24 bytes
pub encoded-length : (s : Session) → length (encoded s) ≡ 24
unfolding encoded opened_bytes word_bytes
encoded-length None = refl
encoded-length (Some o) = refl

-- state 0 is the closed session whatever follows
pub state-zero : (b : List ℕ) → word_at b 0 ≡ 0 → decoded b ≡ None
unfolding decoded session_of
state-zero b h = rw h

-- ---- read back

-- an open session whose S, T, D, c and t are words
pub record InWords (o : Opened) : Type 0 where
  pub of_s : o.geo.s < 2 ^ 32
  pub of_t : o.geo.t < 2 ^ 32
  pub of_d : o.geo.d < 2 ^ 32
  pub of_c : o.c.0 < 2 ^ 32
  pub of_tx : o.t.0 < 2 ^ 32

state-small : (worn : Bool) → state_of worn < 2 ^ 32
unfolding state_of
state-small true = omega arith
state-small false = omega arith

by_state : (o : Opened) (worn : Bool) → o.worn ≡ worn → session_of (state_of worn) o.geo o.c.0 o.t.0 ≡ Some o
unfolding session_of opened_of state_of
by_state o true e = rw e
by_state o false e = rw e

pub opened-back : (o : Opened) → InWords o → decoded (encoded (Some o)) ≡ Some o
unfolding decoded encoded
opened-back o w = rw (word-0, word-1, word-2, word-3, word-4, word-5) (by_state o o.worn refl)
  where
    word-0 : word_at (opened_bytes o) 0 ≡ state_of o.worn
    word-0 = unfold opened_bytes word_at word_bytes in join-bytes (state_of o.worn) (state-small o.worn)

    word-1 : word_at (opened_bytes o) 4 ≡ o.geo.s
    word-1 = unfold opened_bytes word_at word_bytes in join-bytes o.geo.s w.of_s

    word-2 : word_at (opened_bytes o) 8 ≡ o.geo.t
    word-2 = unfold opened_bytes word_at word_bytes in join-bytes o.geo.t w.of_t

    word-3 : word_at (opened_bytes o) 12 ≡ o.geo.d
    word-3 = unfold opened_bytes word_at word_bytes in join-bytes o.geo.d w.of_d

    word-4 : word_at (opened_bytes o) 16 ≡ o.c.0
    word-4 = unfold opened_bytes word_at word_bytes in join-bytes o.c.0 w.of_c

    word-5 : word_at (opened_bytes o) 20 ≡ o.t.0
    word-5 = unfold opened_bytes word_at word_bytes in join-bytes o.t.0 w.of_tx

pub closed-back : decoded (encoded None) ≡ None
unfolding encoded
closed-back = state-zero (replicate 24 0) (unfold word_at in refl)

-- a session of words is read back from its bytes
pub decoded-encoded : (s : Session) → ((o : Opened) → s ≡ Some o → InWords o) → decoded (encoded s) ≡ s
decoded-encoded None h = closed-back
decoded-encoded (Some o) h = opened-back o (h o refl)

-- ---- a state above 2

not_low : (o : Opened) (work : List ℕ) (b : Bool) → o.t.0 ≡ 0 → fits o work ≡ b → fits o work ≡ false
not_low o work true z e = absurd (omega (arith, (fit-inv o work e).low))
not_low o work false z e = e

-- it is an open session with the S of its bytes, and fits no working image
pub never-fits : (b work : List ℕ) → 2 < word_at b 0 → (o : Opened) × (decoded b ≡ Some o) × (o.geo.s ≡ word_at b 4) × (fits o work ≡ false)
unfolding decoded session_of opened_of
never-fits b work h =
    let o : Opened = record { geo = geo_with (word_at b 4) (word_at b 8) (word_at b 12); c = record { 0 = word_at b 16 }; t = record { 0 = 0 }; worn = false } in
    (o, rw (ne_eqb (word_at b 0) 0 (λ e. absurd (omega arith)), lt-ltb 2 (word_at b 0) h), refl, not_low o work (fits o work) refl refl)
