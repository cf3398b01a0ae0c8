-- The codec of entries: what was written is read back. Assumes nothing.
use mathlib.Core.Path.{◌≡◌, refl, ◌∙◌}
use mathlib.Core.List.{List, ◌++◌, append_assoc}
use Prim.Native.Nat.{ℕ, ◌+◌, ◌≤◌, ◌<◌, ◌^◌}
use native.Mathlib.Omega.{arith}
use lib.ListN.{length, take, drop, replicate, length-append}
use lib.Seq.{take_at, drop_at}
use Rattle.words.specs.Lists.{splice}
use Rattle.words.specs.Bytes.{word_at, word_bytes}
use Rattle.words.proofs.SpliceLaws.{range_same}
use Rattle.words.proofs.WordLaws.{word_bytes-length, join-bytes}
use Rattle.counts.specs.Stamps.{stamp_of}
use Rattle.entries.specs.declared.Run.{Run}
use Rattle.entries.specs.declared.Version.{Version}
use Rattle.entries.specs.declared.Version.TheVariants.{Absent, Present}
use Rattle.entries.specs.declared.Entry.{Entry}
use Rattle.entries.specs.Entries.{version_of, version_bytes, new_of, old_of, name_bytes, entry_of, entry_rest, entry_bytes}

-- what the types say of a run, a version and an entry
pub record FitRun (r : Run) : Type 0 where
  pub start : r.start.0 < 2 ^ 32
  pub sectors : r.sectors < 2 ^ 32
  pub bytes : r.bytes < 2 ^ 32

abbrev pub FitVersion : Version → Type 0
FitVersion Absent = Unit {0}
FitVersion (Present r) = FitRun r

pub record FitEntry (e : Entry) : Type 0 where
  pub cc : e.stamp.cc.0 < 2 ^ 32
  pub txc : e.stamp.txc.0 < 2 ^ 32
  pub size : e.size < 2 ^ 32
  pub name : length e.name ≡ 32
  pub new : FitVersion e.new
  pub old : FitVersion e.old

pub version_bytes-length : (v : Version) → length (version_bytes v) ≡ 16
unfolding version_bytes word_bytes
version_bytes-length Absent = refl
version_bytes-length (Present r) = refl

-- a version is read back
pub version-back : (v : Version) → FitVersion v → version_of (version_bytes v) ≡ v
unfolding version_of version_bytes word_bytes word_at
version-back Absent f = refl
version-back (Present r) f = rw (join-bytes r.start.0 f.start, join-bytes r.sectors f.sectors, join-bytes r.bytes f.bytes)

-- the bytes between those before and those behind
middle : (a b c : List ℕ) (n m : ℕ) → length a ≡ n → length b ≡ m → take m (drop n (a ++ (b ++ c))) ≡ b
middle a b c n m h k = rw (drop_at a (b ++ c) n h) (take_at b c m k)

module _ (e : Entry) (name : length e.name ≡ 32) where
  -- the bytes before the name, before the new version, before the old one and before the zeros
  abbrev to_name : List ℕ
  to_name = word_bytes e.stamp.cc.0 ++ word_bytes e.stamp.txc.0 ++ word_bytes e.size

  abbrev to_new : List ℕ
  to_new = to_name ++ e.name

  abbrev to_old : List ℕ
  to_old = to_new ++ version_bytes e.new

  abbrev to_end : List ℕ
  to_end = to_old ++ version_bytes e.old

  to_name-length : length to_name ≡ 12
  to_name-length = simp (length-append, word_bytes-length)

  to_new-length : length to_new ≡ 44
  to_new-length = simp (length-append, word_bytes-length) (omega (arith, name))

  to_old-length : length to_old ≡ 60
  to_old-length = simp (length-append, word_bytes-length, version_bytes-length) (omega (arith, name))

  to_end-length : length to_end ≡ 76
  to_end-length = simp (length-append, word_bytes-length, version_bytes-length) (omega (arith, name))

  pub entry_bytes-length : length (entry_bytes e) ≡ 128
  unfolding entry_bytes
  entry_bytes-length = length-append to_end (replicate 52 0) ∙ omega (arith, to_end-length)

  -- the parts of an entry's bytes
  pub name-bytes : name_bytes (entry_bytes e) ≡ e.name
  unfolding name_bytes entry_bytes
  name-bytes =
      let w : entry_bytes e ≡ to_name ++ (e.name ++ (version_bytes e.new ++ (version_bytes e.old ++ replicate 52 0))) = simp append_assoc in
      rw w (middle to_name e.name _ 12 32 to_name-length name)

  pub new-bytes : new_of (entry_bytes e) ≡ version_bytes e.new
  unfolding new_of entry_bytes
  new-bytes =
      let w : entry_bytes e ≡ to_new ++ (version_bytes e.new ++ (version_bytes e.old ++ replicate 52 0)) = simp append_assoc in
      rw w (middle to_new (version_bytes e.new) _ 44 16 to_new-length (version_bytes-length e.new))

  pub old-bytes : old_of (entry_bytes e) ≡ version_bytes e.old
  unfolding old_of entry_bytes
  old-bytes =
      let w : entry_bytes e ≡ to_old ++ (version_bytes e.old ++ replicate 52 0) = simp append_assoc in
      rw w (middle to_old (version_bytes e.old) _ 60 16 to_old-length (version_bytes-length e.old))

  pub rest-bytes : entry_rest (entry_bytes e) ≡ replicate 52 0
  unfolding entry_rest entry_bytes
  rest-bytes = drop_at to_end (replicate 52 0) 76 to_end-length

module _ (e : Entry) (f : FitEntry e) where
  pub stamp-back : stamp_of (entry_bytes e) ≡ e.stamp
  unfolding stamp_of entry_bytes word_bytes word_at
  stamp-back = rw (join-bytes e.stamp.cc.0 f.cc, join-bytes e.stamp.txc.0 f.txc)

  pub size_back : word_at (entry_bytes e) 8 ≡ e.size
  unfolding entry_bytes word_bytes word_at
  size_back = join-bytes e.size f.size

  -- an entry is read back
  pub entry-back : entry_of (entry_bytes e) ≡ e
  unfolding entry_of
  entry-back =
      rw (
        stamp-back,
        size_back,
        name-bytes e f.name,
        new-bytes e f.name,
        old-bytes e f.name,
        version-back e.new f.new,
        version-back e.old f.old,
      )

  -- an entry that was put is read back
  pub entry-put : (s : List ℕ) (at : ℕ) → at + 128 ≤ length s → entry_of (take 128 (drop at (splice s at (entry_bytes e)))) ≡ e
  entry-put s at h = rw (range_same s at 128 (entry_bytes e) (entry_bytes-length e f.name) h) entry-back
