-- "An entry is 32 words": its codec, what it shows, and when it is well formed. An entry is its 128 bytes. Assumes nothing.
use Rattle.std.specs.Prelude.{Bool, true, false, cond, ◌&&◌, ◌||◌, List, [], ◌∷◌, ◌++◌, ℕ, ◌+◌, ◌/◌, length, take, drop, replicate, leb, eqb}
use Rattle.words.specs.Lists.{every, is_zero, pad}
use Rattle.words.specs.Bytes.{word_at, word_bytes}
use Rattle.counts.specs.declared.Geo.{Geo}
use Rattle.counts.specs.declared.Stamp.{Stamp}
use Rattle.counts.specs.Geometry.{g_f, in_page}
use Rattle.counts.specs.Stamps.{stamp_of, showing, stamp_ok, dead_below, standing, becomes_old}
use Rattle.entries.specs.declared.Run.{Run}
use Rattle.entries.specs.declared.Version.{Version}
use Rattle.entries.specs.declared.Version.TheVariants.{Absent, Present}
use Rattle.entries.specs.declared.Entry.{Entry}

-- ---- the codec

-- "A version is state (0 absent, 1 present), start, sectors, bytes": the version that 16 bytes are
unfoldable pub version_of : List ℕ → Version
version_of v =
    cond (is_zero (word_at v 0)) Absent (Present (record { start = record { 0 = word_at v 4 }; sectors = word_at v 8; bytes = word_at v 12 }))

-- the four words of a version; "an absent version is four zeros"
unfoldable pub version_bytes : Version → List ℕ
version_bytes Absent = word_bytes 0 ++ word_bytes 0 ++ word_bytes 0 ++ word_bytes 0
version_bytes (Present r) = word_bytes 1 ++ word_bytes r.start.0 ++ word_bytes r.sectors ++ word_bytes r.bytes

-- "the new version (4 words), the old version (4 words)": where they stand in an entry
unfoldable pub new_of : List ℕ → List ℕ
new_of p = take 16 (drop 44 p)

unfoldable pub old_of : List ℕ → List ℕ
old_of p = take 16 (drop 60 p)

-- "8 words of name bytes"
unfoldable pub name_bytes : List ℕ → List ℕ
name_bytes p = take 32 (drop 12 p)

-- "cc, txc, name length, 8 words of name bytes, the new version .., the old version"
unfoldable pub entry_of : List ℕ → Entry
entry_of p = record { stamp = stamp_of p; size = word_at p 8; name = name_bytes p; new = version_of (new_of p); old = version_of (old_of p) }

-- the bytes of an entry behind its versions, "13 zero words": they must be 0
unfoldable pub entry_rest : List ℕ → List ℕ
entry_rest p = drop 76 p

-- the 128 bytes of an entry, "13 zero words" at its end
unfoldable pub entry_bytes : Entry → List ℕ
entry_bytes e =
    word_bytes e.stamp.cc.0 ++ word_bytes e.stamp.txc.0 ++ word_bytes e.size ++ e.name ++ version_bytes e.new ++ version_bytes e.old
    ++ replicate 52 0

-- ---- what an entry shows in a view

-- "An entry shows its new version when alive, its old one when dead."
unfoldable pub shown_bytes : List ℕ → List ℕ → List ℕ
shown_bytes tab p = showing tab (stamp_of p) (new_of p) (old_of p)

unfoldable pub shown : List ℕ → List ℕ → Version
shown tab p = version_of (shown_bytes tab p)

abbrev pub is_absent : Version → Bool
is_absent Absent = true
is_absent (Present r) = false

-- ---- names

-- "Names have 1 to 32 bytes, each 33 to 126"
abbrev pub good_byte : ℕ → Bool
good_byte x = leb 33 x && leb x 126

unfoldable pub good_name : List ℕ → Bool
good_name n = leb 1 (length n) && leb (length n) 32 && every good_byte n

-- the name of an entry
unfoldable pub name_of : List ℕ → List ℕ
name_of p = take (word_at p 8) (name_bytes p)

-- an entry's name of n bytes is good: "unused name bytes are 0"
unfoldable pub name_ok : ℕ → List ℕ → Bool
name_ok n b = leb 1 n && leb n 32 && every good_byte (take n b) && every is_zero (drop n b)

-- ---- the sectors of a file

-- a piece of a file: neighbouring sectors, the first of them and how many
pub record Piece : Type 0 where
  pub at : ℕ
  pub count : ℕ

-- the pieces that a file's sectors are, in the order of its content: one run
unfoldable pub pieces_of : Run → List Piece
pieces_of r = record { at = r.start.0; count = r.sectors } ∷ []

-- ---- well formed

-- "Sectors = bytes/512 rounded up"
unfoldable pub sectors_for : ℕ → ℕ
sectors_for b = (b + 511) / 512

-- shown present files "lie inside the data", and "no run crosses out of" its page: asked of each piece
unfoldable pub piece_ok : Geo → Piece → Bool
piece_ok g q = leb (g_f g) q.at && leb (q.at + q.count) g.s && in_page q.at q.count

-- "a file of 0 bytes has start 0 and sectors 0"
unfoldable pub run_ok : Geo → Run → Bool
run_ok g r = eqb r.sectors (sectors_for r.bytes) && cond (is_zero r.sectors) (is_zero r.start.0) (every (piece_ok g) (pieces_of r))

-- the 16 bytes of a version are well formed
unfoldable pub version_ok : Geo → List ℕ → Bool
version_ok g v =
    cond (is_zero (word_at v 0)) (is_zero (word_at v 4) && is_zero (word_at v 8) && is_zero (word_at v 12))
    (eqb (word_at v 0) 1 && run_ok g (record { start = record { 0 = word_at v 4 }; sectors = word_at v 8; bytes = word_at v 12 }))

-- an entry passes in a view: its stamp, the zero words, the shown version, and the name of a shown present file
unfoldable pub entry_ok : Geo → ℕ → List ℕ → List ℕ → Bool
entry_ok g bound tab p =
    stamp_ok g (stamp_of p) && (dead_below bound tab (stamp_of p) && every is_zero (entry_rest p) && version_ok g (shown_bytes tab p)
    && (is_absent (shown tab p) || name_ok (word_at p 8) (name_bytes p)))

-- ---- changing an entry

-- "If the stamp is (c, t), replace the new version. Otherwise, if alive, the new version first becomes the old one. Then write the
-- name, the new version and stamp (c, t)."
unfoldable pub changed : List ℕ → Stamp → Entry → List ℕ → Version → Entry
changed tab own e name v =
    record { stamp = own; size = length name; name = pad 32 name; new = v; old = becomes_old (standing tab own e.stamp) e.new e.old }
