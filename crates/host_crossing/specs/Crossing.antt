-- What crosses to a host: a session as 24 bytes, a report as 16. Assumes nothing.
use Rattle.std.specs.Prelude.{◌≡◌, Bool, false, cond, List, ◌++◌, ℕ, eqb, ltb, replicate, Some, None}
use Rattle.words.specs.Bytes.{word_at, word_bytes}
use Rattle.counts.specs.declared.Geo.{Geo}
use Rattle.card.specs.declared.Answer.{Answer}
use Rattle.card.specs.Plan.{Report}
use Rattle.session.specs.declared.Opened.{Opened}
use Rattle.session.specs.Session.{Session}
use Rattle.store.specs.Given.{Room}
use Rattle.store.specs.Mount.{Ended}

-- "S sectors, ..; T table sectors, ..; D directory sectors", as three numbers
abbrev pub geo_with : ℕ → ℕ → ℕ → Geo
geo_with s t d = record { s = s; t = t; d = d }

-- an open session of six words; a state above 2 has t = 0, and so never fits: "t from 1 to 2,147,483,647"
unfoldable pub opened_of : ℕ → Geo → ℕ → ℕ → Opened
opened_of state g c t =
    cond (ltb 2 state) (record { geo = g; c = record { 0 = c }; t = record { 0 = 0 }; worn = false })
    (record { geo = g; c = record { 0 = c }; t = record { 0 = t }; worn = eqb state 2 })

-- state 0 is the closed session whatever follows: "all closed sessions are one value"
unfoldable pub session_of : ℕ → Geo → ℕ → ℕ → Session
session_of state g c t = cond (eqb state 0) None (Some (opened_of state g c t))

-- the session that bytes hold: "Words are 32 bits, least byte first", in the order state, S, T, D, c, t
unfoldable pub decoded : List ℕ → Session
decoded b = session_of (word_at b 0) (geo_with (word_at b 4) (word_at b 8) (word_at b 12)) (word_at b 16) (word_at b 20)

-- the state of an open session: 2 where "the session is worn", else 1
unfoldable pub state_of : Bool → ℕ
state_of worn = cond worn 2 1

-- the bytes of an open session, its six words in the same order
unfoldable pub opened_bytes : Opened → List ℕ
opened_bytes o =
    word_bytes (state_of o.worn) ++ word_bytes o.geo.s ++ word_bytes o.geo.t ++ word_bytes o.geo.d ++ word_bytes o.c.0 ++ word_bytes o.t.0

-- the bytes of a session; the closed one is 24 zeros
unfoldable pub encoded : Session → List ℕ
encoded None = replicate 24 0
encoded (Some o) = opened_bytes o

-- "it gives C, N, the file count and the clear bits shown", as four words
unfoldable pub report_bytes : Report → List ℕ
report_bytes r = word_bytes r.c.0 ++ word_bytes r.n ++ word_bytes r.files ++ word_bytes r.free

-- what store_read leaves in its output: the report where the number is 0, else the bytes as lent
unfoldable pub reported : Report → List ℕ → List ℕ
reported r out = cond (eqb r.number 0) (report_bytes r) out

-- free's two figures, free and waiting, as two words
unfoldable pub room_bytes : Room → List ℕ
room_bytes r = word_bytes r.free ++ word_bytes r.waiting

-- what store_free leaves in its output: the figures where the number is 0, else the bytes as lent
unfoldable pub roomed : Room → List ℕ → List ℕ
roomed r out = cond (eqb r.number 0) (room_bytes r) out

-- what a session's bytes become with a call's answer: the session that it gives where the number is 0, else as lent
unfoldable pub kept_by : Answer → Session → List ℕ → List ℕ
kept_by a s b = cond (eqb a.number 0) (encoded s) b

-- what store_sync and store_unmount leave in the session's bytes
unfoldable pub kept : Ended → List ℕ → List ℕ
kept e b = kept_by e.answer e.session b

-- what store_mount says and leaves is what mount's definition leaves: its number, the session's bytes and both images
pub record IsMounted (number' : ℕ) (bytes' card' work' : List ℕ) (e : Ended) : Type 0 where
  pub number : number' ≡ e.answer.number
  pub bytes : bytes' ≡ encoded e.session
  pub card : card' ≡ e.card
  pub work : work' ≡ e.work

-- the same of store_sync_count and store_unmount, to which the session's bytes b are lent: their answer is number and count
pub record IsKept (answer' : Answer) (bytes' card' work' : List ℕ) (b : List ℕ) (e : Ended) : Type 0 where
  pub answer : answer' ≡ e.answer
  pub bytes : bytes' ≡ kept e b
  pub card : card' ≡ e.card
  pub work : work' ≡ e.work

-- the same of store_sync, which says the number alone
pub record IsKeptNumber (number' : ℕ) (bytes' card' work' : List ℕ) (b : List ℕ) (e : Ended) : Type 0 where
  pub number : number' ≡ e.answer.number
  pub bytes : bytes' ≡ kept e b
  pub card : card' ≡ e.card
  pub work : work' ≡ e.work
