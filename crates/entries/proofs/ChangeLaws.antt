-- A changed entry, read back: its parts, and what it shows in the present and in the cut view. Assumes nothing.
use mathlib.Core.Path.{◌≡◌, refl, ap, ◌∙◌}
use mathlib.Core.Bool.{Bool, true, false, cond, ◌&&◌}
use mathlib.Core.List.{List}
use Prim.Native.Nat.{ℕ, zero, suc, ◌+◌, ◌≤◌, ◌<◌, ◌^◌}
use native.Mathlib.Omega.{arith}
use borrow.Author.Tests.{eq-eqb, ne_eqb, le-leb}
use lib.Dec.{leb, eqb}
use lib.ListN.{length, get_or, set, length-append, length-replicate}
use Rattle.words.specs.Lists.{every, is_zero, pad}
use Rattle.words.specs.Bytes.{word_at, word_bytes}
use Rattle.words.proofs.BoolLaws.{join}
use Rattle.words.proofs.WordLaws.{join-bytes}
use Rattle.words.proofs.EveryMore.{zeros-zero}
use Rattle.counts.specs.declared.Geo.{Geo}
use Rattle.counts.specs.declared.Stamp.{Stamp}
use Rattle.counts.specs.Geometry.{g_n, g_f, in_page}
use Rattle.counts.proofs.GeoLaws.{Limits}
use Rattle.counts.specs.Stamps.{max_tx, stamp_of, alive, showing}
use Rattle.counts.proofs.StampLaws.{now-new, cut-old, old-cut}
use Rattle.entries.specs.declared.Run.{Run}
use Rattle.entries.specs.declared.Version.{Version}
use Rattle.entries.specs.declared.Version.TheVariants.{Absent, Present}
use Rattle.entries.specs.declared.Entry.{Entry}
use Rattle.entries.specs.Entries.{version_of, version_bytes, new_of, old_of, name_bytes, entry_of, entry_rest, entry_bytes, shown_bytes, shown, run_ok, version_ok, changed}
use Rattle.entries.proofs.PassLaws.{RunIs, run-text, run_small, shown-run}
use Rattle.entries.proofs.CodecLaws.{FitVersion, FitEntry, version-back, entry_bytes-length, name-bytes, new-bytes, old-bytes, rest-bytes, stamp-back, size_back}

pub pad-length : (n : ℕ) (l : List ℕ) → length l ≤ n → length (pad n l) ≡ n
unfolding pad
pad-length n l h = simp (length-append, length-replicate) (omega arith)

-- ---- versions that may be written

-- an absent version, or a run that is well formed and lies inside the data
abbrev pub GoodVersion : Geo → Version → Type 0
GoodVersion g Absent = Unit {0}
GoodVersion g (Present r) = RunIs g r

pub good-shown : (g : Geo) (tab p : List ℕ) → version_ok g (shown_bytes tab p) ≡ true → GoodVersion g (shown tab p)
good-shown g tab p h = go (shown tab p) refl
  where
    go : (v : Version) → shown tab p ≡ v → GoodVersion g v
    go Absent e = tt
    go (Present r) e = shown-run g tab p h e

pub good-fit : (g : Geo) (v : Version) → Limits g → GoodVersion g v → FitVersion v
good-fit g Absent L h = tt
good-fit g (Present r) L h = let (a, b, c) = run_small g r L h in record { start = a; sectors = b; bytes = c }

run_ok_lem : (g : Geo) (r : Run) → RunIs g r → run_ok g r ≡ true
run_ok_lem g r R = run-text g r ∙ join _ _ (eq-eqb _ _ R.size) (go r.sectors refl)
  where
    go : (n : ℕ) → r.sectors ≡ n → cond (eqb r.sectors 0) (eqb r.start.0 0) (leb (g_f g) r.start.0 && leb (r.start.0 + r.sectors) g.s && in_page r.start.0 r.sectors) ≡ true
    go zero e = rw (eq-eqb r.sectors 0 e) (eq-eqb _ _ (R.empty e))
    go (suc n) e =
        let q = R.span (omega arith) in
        rw (ne_eqb r.sectors 0 (omega arith)) (join _ _ (join _ _ (le-leb _ _ q.0) (le-leb _ _ q.1)) (le-leb _ _ R.page))

-- the bytes of a good version are well formed
pub good-ok : (g : Geo) (v : Version) → Limits g → GoodVersion g v → version_ok g (version_bytes v) ≡ true
unfolding version_ok version_bytes word_bytes word_at
good-ok g Absent L h = refl
good-ok g (Present r) L h =
    let f = good-fit g (Present r) L h in
    rw (join-bytes r.start.0 f.start, join-bytes r.sectors f.sectors, join-bytes r.bytes f.bytes) (run_ok_lem g r h)

-- ---- a changed entry; tab is the table of the cut view, and the present view takes word c as t

module _ (g : Geo) (L : Limits g) (tab : List ℕ) (own : Stamp) (hc : own.cc.0 < length tab) (hw : get_or tab own.cc.0 0 + 1 ≡ own.txc.0)
    (c_n : own.cc.0 < g_n g) (t_m : own.txc.0 ≤ max_tx) (p n : List ℕ) (v : Version)
    (stamps : (stamp_of p).cc.0 ≡ own.cc.0 → (stamp_of p).txc.0 ≤ own.txc.0)
    (wf : version_ok g (shown_bytes tab p) ≡ true) (short : length n ≤ 32) (good : GoodVersion g v) where
  abbrev pub present : List ℕ
  present = set tab own.cc.0 own.txc.0

  abbrev pub entry : Entry
  entry = changed present own (entry_of p) n v

  abbrev pub bytes : List ℕ
  bytes = entry_bytes entry

  -- what becomes old is what the cut view showed
  pub old-shown : entry.old ≡ shown tab p
  unfolding changed entry_of shown shown_bytes
  old-shown = old-cut tab own hc hw (stamp_of p) (version_of (new_of p)) (version_of (old_of p)) stamps ∙ pick (alive tab (stamp_of p))
    where
      pick : (b : Bool) → showing tab (stamp_of p) (version_of (new_of p)) (version_of (old_of p)) ≡ version_of (showing tab (stamp_of p) (new_of p) (old_of p))
      pick b = unfold showing in go (alive tab (stamp_of p))
        where
          go : (b : Bool) → cond b (version_of (new_of p)) (version_of (old_of p)) ≡ version_of (cond b (new_of p) (old_of p))
          go true = refl
          go false = refl

  c_n' : own.cc.0 < 2 ^ 32
  unfolding g_n
  c_n' = omega (arith, c_n, L.t_high)

  pub entry-fits : FitEntry entry
  entry-fits = record { cc = cc'; txc = tx'; size = size'; name = name'; new = new'; old = rw old-shown (good-fit g (shown tab p) L (good-shown g tab p wf)) }
    where
      cc' : entry.stamp.cc.0 < 2 ^ 32
      cc' = unfold changed in c_n'

      tx' : entry.stamp.txc.0 < 2 ^ 32
      tx' = unfold changed in omega (arith, t_m)

      size' : entry.size < 2 ^ 32
      size' = unfold changed in omega (arith, short)

      name' : length entry.name ≡ 32
      name' = unfold changed in pad-length 32 n short

      new' : FitVersion entry.new
      new' = unfold changed in good-fit g v L good

  pub bytes-length : length bytes ≡ 128
  bytes-length = entry_bytes-length entry entry-fits.name

  pub bytes-stamp : stamp_of bytes ≡ own
  bytes-stamp = stamp-back entry entry-fits ∙ (unfold changed in refl)

  pub bytes-size : word_at bytes 8 ≡ length n
  bytes-size = size_back entry entry-fits ∙ (unfold changed in refl)

  pub bytes-name : name_bytes bytes ≡ pad 32 n
  bytes-name = name-bytes entry entry-fits.name ∙ (unfold changed in refl)

  pub bytes-zeros : every is_zero (entry_rest bytes) ≡ true
  bytes-zeros = ap (λ (x : List ℕ). every is_zero x) (rest-bytes entry entry-fits.name) ∙ zeros-zero 52

  -- in the cut view: as before
  pub cut-bytes : shown_bytes tab bytes ≡ version_bytes (shown tab p)
  unfolding shown_bytes
  cut-bytes =
      rw bytes-stamp (cut-old tab own hc hw (new_of bytes) (old_of bytes)) ∙ old-bytes entry entry-fits.name ∙ ap version_bytes old-shown

  pub cut-shown : shown tab bytes ≡ shown tab p
  cut-shown = open-shown tab bytes ∙ ap version_of cut-bytes ∙ version-back (shown tab p) (good-fit g (shown tab p) L (good-shown g tab p wf))
    where
      open-shown : (tab q : List ℕ) → shown tab q ≡ version_of (shown_bytes tab q)
      open-shown tab q = unfold shown in refl

  pub cut-wf : version_ok g (shown_bytes tab bytes) ≡ true
  cut-wf = ap (λ (x : List ℕ). version_ok g x) cut-bytes ∙ good-ok g (shown tab p) L (good-shown g tab p wf)

  -- in the present view: the new version
  pub now-bytes : shown_bytes present bytes ≡ version_bytes v
  unfolding shown_bytes
  now-bytes = rw bytes-stamp (now-new tab own hc hw (new_of bytes) (old_of bytes)) ∙ new-bytes entry entry-fits.name ∙ (unfold changed in refl)

  pub now-shown : shown present bytes ≡ v
  now-shown = open-shown present bytes ∙ ap version_of now-bytes ∙ version-back v (good-fit g v L good)
    where
      open-shown : (tab q : List ℕ) → shown tab q ≡ version_of (shown_bytes tab q)
      open-shown tab q = unfold shown in refl

  pub now-wf : version_ok g (shown_bytes present bytes) ≡ true
  now-wf = ap (λ (x : List ℕ). version_ok g x) now-bytes ∙ good-ok g v L good
