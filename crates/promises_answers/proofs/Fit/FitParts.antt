-- One change of an entry in a session that fits: the entry and the index that it writes pass. Assumes nothing.
use mathlib.Core.Path.{◌≡◌, refl, ◌∙◌}
use mathlib.Core.Bool.{true, ◌&&◌}
use mathlib.Core.List.{List}
use mathlib.Core.Logic.{inl, inr, ⊎_elim, ◌≢◌}
use Prim.Native.Nat.{ℕ, ◌+◌, ◌-◌, ◌≤◌, ◌<◌}
use native.Mathlib.Omega.{arith}
use borrow.Author.Tests.{lt-ltb, le-leb}
use lib.Dec.{leb}
use lib.ListN.{length, get_or, replicate}
use lib.Seq.{take_at, drop_at}
use Rattle.words_sums.specs.Sums.{in_run}
use Rattle.words.specs.Lists.{every, pad}
use Rattle.words.specs.Bytes.{word_at}
use Rattle.words.proofs.BoolLaws.{join, or-intro}
use Rattle.words.proofs.EveryMore.{zeros-zero}
use Rattle.sectors.specs.Sectors.{Cells, sec}
use Rattle.counts.specs.declared.Geo.{Geo}
use Rattle.counts.specs.Geometry.{g_n, geo_of, count_of, table_of}
use Rattle.counts.proofs.GeoLaws.{Limits}
use Rattle.counts.proofs.StampLaws.{own-alive}
use Rattle.counts.specs.Stamps.{max_tx, stamp_of, stamp_ok, dead_below}
use Rattle.entries.specs.declared.Version.{Version}
use Rattle.entries.specs.declared.Version.TheVariants.{Absent}
use Rattle.entries.specs.Entries.{name_bytes, shown, is_absent, good_byte, good_name, name_of, name_ok, entry_ok}
use Rattle.entries.proofs.PassLaws.{passes-intro}
use Rattle.entries.proofs.ChangeLaws.{bytes-stamp, bytes-size, bytes-name, bytes-zeros, now-wf}
use Rattle.directory.specs.Directory.{entries_of}
use Rattle.apages.specs.Bits.{bit_at}
use Rattle.apages.specs.Index.{index_in, page_in}
use Rattle.apages.proofs.PassLaws.{IndexPasses, index-inv}
use Rattle.card.specs.Files.{holds_at, files_of, cover, run_of}
use Rattle.card.proofs.SoundLaws.{View}
use Rattle.session.specs.declared.Opened.{Opened}
use Rattle.session.specs.Views.{present_table}
use Rattle.session.specs.Fits.{head_ok, entry_at_most, stamp_at_most, index_at_most}
use Rattle.session.proofs.FitLaws.{Fit, present-live, at-most-intro, index-most, index-most-intro}
use Rattle.store.specs.Edit.{edit_work}
use Rattle.promises_answers.proofs.Ready.{own_of, tc_of, tp_of, entry_at, entry_for, index_at, lim, hc, hw, pres, Ready, in_cut, stamps}
use Rattle.promises_answers.proofs.Change.{index_same}
use Rattle.promises_answers.proofs.Alone.{Alone}
use Rattle.promises_answers.proofs.Answered.{same-table, same-tp}

-- a good name, padded, passes as an entry's
padded-ok : (n : List ℕ) → good_name n ≡ true → name_ok (length n) (pad 32 n) ≡ true
unfolding good_name name_ok pad
padded-ok n h =
    rw (take_at n (replicate (32 - length n) 0) (length n) refl, drop_at n (replicate (32 - length n) 0) (length n) refl)
    (join (leb 1 (length n) && leb (length n) 32 && every good_byte n) _ h (zeros-zero (32 - length n)))

pub head-cong : (s : Opened) (k k' : Cells) → k' 0 ≡ k 0 → head_ok s k ≡ true → head_ok s k' ≡ true
unfolding head_ok count_of geo_of
head-cong s k k' e h = rw e h

-- a change that a plan which goes through makes: ready, and what the searches say of its name and its sectors
pub record Made (s : Opened) (j a k : ℕ) (v : Version) (work n d : List ℕ) : Type 0 where
  pub ready : Ready s j a k v work n d (sec work)
  pub alone : Alone (tp_of s work) (tc_of s work) n (entries_of s.geo (sec work)) j
  pub named : shown (tp_of s work) (entry_at s j work) ≢ Absent → name_of (entry_at s j work) ≡ n
  pub free : (i : ℕ) → a ≤ i → i < a + k → cover (files_of (tp_of s work) (entries_of s.geo (sec work))) i ≡ 0
  pub name : good_name n ≡ true
  pub clear : (i : ℕ) → a ≤ i → i < a + k → bit_at (page_in s.geo (tp_of s work) (sec work)) i ≡ 0
  pub run : (i : ℕ) → holds_at (run_of v) i ≡ in_run a k i

module _ (s : Opened) (j a k : ℕ) (v : Version) (work n d : List ℕ) (M : Made s j a k v work n d) where
  abbrev R : Ready s j a k v work n d (sec work)
  R = M.ready

  abbrev g : Geo
  g = s.geo

  abbrev tp : List ℕ
  tp = tp_of s work

  abbrev tc : List ℕ
  tc = tc_of s work

  abbrev x : List ℕ
  x = entry_for s j v work n

  abbrev after : List ℕ
  after = edit_work s j v work n d

  F : Fit s work
  F = R.fit

  L : Limits g
  L = lim s work F R.live

  pub h_c : s.c.0 < length tc
  h_c = hc s work F R.live

  pub h_w : get_or tc s.c.0 0 + 1 ≡ s.t.0
  h_w = hw s work F R.live

  P : View g s.c.0 tp (sec work)
  P = pres s work F R.live

  pub tab≡ : table_of g (sec after) ≡ tc
  tab≡ = same-table s j a k v work n d (sec work) R M.alone M.named M.free

  pub pres≡ : present_table s (sec after) ≡ tp
  pres≡ = present-live s (sec after) R.live ∙ same-tp s j a k v work n d (sec work) R M.alone M.named M.free

  -- ---- the stamp (c, t)

  own-ok : stamp_ok g (own_of s) ≡ true
  unfolding stamp_ok
  own-ok = join _ _ (lt-ltb s.c.0 (g_n g) F.count) (le-leb s.t.0 max_tx F.tx)

  own-dead : dead_below s.c.0 tp (own_of s) ≡ true
  unfolding dead_below
  own-dead = or-intro _ _ (inl (own-alive tc (own_of s) h_c h_w))

  own-most : stamp_at_most s (own_of s) ≡ true
  own-most = at-most-intro s (own_of s) (λ q. omega arith)

  x-stamp : stamp_of x ≡ own_of s
  x-stamp = bytes-stamp g L tc (own_of s) h_c h_w F.count F.tx (entry_at s j work) n v (stamps s j a k v work n d (sec work) R) (in_cut s j a k v work n d (sec work) R).wf R.short R.good

  pub x-most : entry_at_most s x ≡ true
  unfolding entry_at_most
  x-most = rw x-stamp own-most

  pub x-good : entry_ok g s.c.0 tp x ≡ true
  x-good =
      let st = stamps s j a k v work n d (sec work) R in
      let wf = (in_cut s j a k v work n d (sec work) R).wf in
      let size : word_at x 8 ≡ length n = bytes-size g L tc (own_of s) h_c h_w F.count F.tx (entry_at s j work) n v st wf R.short R.good in
      let name : name_bytes x ≡ pad 32 n = bytes-name g L tc (own_of s) h_c h_w F.count F.tx (entry_at s j work) n v st wf R.short R.good in
      passes-intro g s.c.0 tp x
      (record {
        stamp = rw x-stamp own-ok;
        dead = rw x-stamp own-dead;
        zeros = bytes-zeros g L tc (own_of s) h_c h_w F.count F.tx (entry_at s j work) n v st wf R.short R.good;
        wf = now-wf g L tc (own_of s) h_c h_w F.count F.tx (entry_at s j work) n v st wf R.short R.good;
        name = or-intro (is_absent (shown tp x)) _ (inr (rw (size, name) (padded-ok n M.name)));
      })

  -- ---- the index sector: each group is as it was, or has the stamp (c, t)

  pub index-good : IndexPasses g s.c.0 tp (index_in g (sec after))
  index-good =
      let I = index_same s j a k v work n d (sec work) R in
      let X = index-inv g s.c.0 tp (index_at s work) P.index in
      record {
        groups = λ p l. record {
          stamp = ⊎_elim (λ q. rw q (X.groups p l).stamp) (λ q. rw q own-ok) (I.groups p l).stamp;
          dead = ⊎_elim (λ q. rw q (X.groups p l).dead) (λ q. rw q own-dead) (I.groups p l).stamp;
          pair = (I.groups p l).pair ∙ (X.groups p l).pair;
        };
        zeros = I.zeros ∙ X.zeros;
      }

  pub index-low : index_at_most s (index_in g (sec after)) ≡ true
  index-low =
      let I = index_same s j a k v work n d (sec work) R in
      index-most-intro s (index_in g (sec after))
      (λ p l. ⊎_elim (λ q. rw q (index-most s (index_at s work) F.index p l)) (λ q. rw q own-most) (I.groups p l).stamp)
