-- What a fit session and a plan that goes through give for the change of an entry. Assumes nothing.
use mathlib.Core.Path.{◌≡◌}
use mathlib.Core.Bool.{true, false}
use mathlib.Core.List.{List, []}
use Prim.Native.Nat.{ℕ, ◌+◌, ◌*◌, ◌%◌, ◌≤◌, ◌<◌}
use native.Mathlib.Omega.{arith}
use lib.ListN.{length, get_or, set}
use Rattle.words.specs.Lists.{pad}
use Rattle.words.specs.Bytes.{word_at}
use Rattle.words.proofs.EveryLaws.{every-at}
use Rattle.sectors.specs.Sectors.{Cells, sec}
use Rattle.counts.specs.declared.Stamp.{Stamp}
use Rattle.counts.specs.Geometry.{g_n, g_p, g_f, table_of, g_dir}
use Rattle.counts.proofs.GeoLaws.{Limits, limits}
use Rattle.counts.specs.Stamps.{stamp_of}
use Rattle.entries.specs.declared.Run.{Run}
use Rattle.entries.specs.declared.Version.{Version}
use Rattle.entries.specs.Entries.{name_bytes, entry_of, entry_bytes, shown, is_absent, changed}
use Rattle.entries.proofs.PassLaws.{Passes, shown-run}
use Rattle.entries.proofs.ChangeLaws.{GoodVersion, bytes-length}
use Rattle.directory.specs.Directory.{sector_entries, entries_of, spot_of}
use Rattle.directory.proofs.SpotLaws.{SpotOk, at-spot}
use Rattle.apages.specs.Index.{group_of, index_in}
use Rattle.apages.proofs.PassLaws.{IndexPasses, index-inv}
use Rattle.card.specs.Files.{run_of}
use Rattle.card.proofs.FileLaws.{Holds}
use Rattle.card.specs.Reading.{files_in}
use Rattle.card.proofs.SoundLaws.{View, view-inv, entry-passes}
use Rattle.session.specs.declared.Opened.{Opened}
use Rattle.session.specs.Fits.{stamp_at_most, entry_at_most}
use Rattle.session.proofs.FitLaws.{Fit, fit-table, word_live, present-live, at_most, index-most}
use Rattle.apages.proofs.Remapped.{Paired}
use Rattle.store.proofs.RoomLaws.{version-room, version-page}

-- the session's stamp, the present table, and the entry that the change works on
abbrev pub own_of : Opened → Stamp
own_of s = record { cc = s.c; txc = s.t }

abbrev pub tc_of : Opened → List ℕ → List ℕ
tc_of s work = table_of s.geo (sec work)

abbrev pub tp_of : Opened → List ℕ → List ℕ
tp_of s work = set (table_of s.geo (sec work)) s.c.0 s.t.0

abbrev pub entry_at : Opened → ℕ → List ℕ → List ℕ
entry_at s j work = get_or (entries_of s.geo (sec work)) j []

abbrev pub entry_for : Opened → ℕ → Version → List ℕ → List ℕ → List ℕ
entry_for s j v work n = entry_bytes (changed (tp_of s work) (own_of s) (entry_of (entry_at s j work)) n v)

abbrev pub index_at : Opened → List ℕ → List ℕ
index_at s work = index_in s.geo (sec work)

-- the run that the entry shows before the change
abbrev pub old_run : Opened → ℕ → List ℕ → Run
old_run s j work = run_of (shown (tp_of s work) (entry_at s j work))

-- ---- a live session that fits

module _ (s : Opened) (work : List ℕ) (F : Fit s work) (live : s.worn ≡ false) where
  pub lim : Limits s.geo
  lim = limits s.geo F.shape

  pub hc : s.c.0 < length (tc_of s work)
  hc = omega (arith, F.count, fit-table s.geo work F.shape F.sized)

  pub hw : get_or (tc_of s work) s.c.0 0 + 1 ≡ s.t.0
  hw = word_live s _ live F.word

  pub cut : View s.geo (g_n s.geo) (tc_of s work) (sec work)
  cut = view-inv s.geo (g_n s.geo) (tc_of s work) (sec work) F.cut_view

  pub pres : View s.geo s.c.0 (tp_of s work) (sec work)
  pres = view-inv s.geo s.c.0 (tp_of s work) (sec work) (rw (present-live s (sec work) live) at F.pres_view)

  pub idx_cut : IndexPasses s.geo (g_n s.geo) (tc_of s work) (index_at s work)
  idx_cut = index-inv _ _ _ _ cut.index

  pub idx_stamp : (p : ℕ) → p < g_p s.geo → (stamp_of (group_of (index_at s work) p)).cc.0 ≡ s.c.0 → (stamp_of (group_of (index_at s work) p)).txc.0 ≤ s.t.0
  idx_stamp p l = at_most s (stamp_of (group_of (index_at s work) p)) (index-most s (index_at s work) F.index p l)

  -- the bitmap can be changed
  pub paired : Paired s.geo (own_of s) work
  paired = record { sized = F.sized; pair = λ p l. (idx_cut.groups p l).pair; stamps = idx_stamp }

  pub stamps_at : (j : ℕ) → j < length (entries_of s.geo (sec work)) → (stamp_of (entry_at s j work)).cc.0 ≡ s.c.0 → (stamp_of (entry_at s j work)).txc.0 ≤ s.t.0
  stamps_at j h = at_most s (stamp_of (entry_at s j work)) (open-most (every-at (entry_at_most s) (entries_of s.geo (sec work)) j [] h F.stamps))
    where
      open-most : entry_at_most s (entry_at s j work) ≡ true → stamp_at_most s (stamp_of (entry_at s j work)) ≡ true
      open-most h = unfold entry_at_most in h

-- ---- the change of entry j: version v under name n, whose run is the k sectors from a on, for content d

pub record Ready (s : Opened) (j a k : ℕ) (v : Version) (work n d : List ℕ) (k₀ : Cells) : Type 0 where
  pub fit : Fit s work
  pub live : s.worn ≡ false
  pub below : j < length (entries_of s.geo (sec work))
  pub short : length n ≤ 32
  pub good : GoodVersion s.geo v
  pub is : ((run_of v).start.0 ≡ a) × ((run_of v).sectors ≡ k)
  pub named : is_absent (shown (tc_of s work) (entry_at s j work)) ≡ false → (word_at (entry_at s j work) 8 ≡ length n) × (name_bytes (entry_at s j work) ≡ pad 32 n)
  pub inside : (i : ℕ) → a ≤ i → i < a + k → g_f s.geo ≤ i
  pub fits : a + k ≤ s.geo.s
  pub page : a % 4096 + k ≤ 4096
  pub enough : length d ≤ 512 * k
  pub clear : (i : ℕ) → a ≤ i → i < a + k → ¬ Holds (files_in s.geo k₀) i

module _ (s : Opened) (j a k : ℕ) (v : Version) (work n d : List ℕ) (k₀ : Cells) (R : Ready s j a k v work n d k₀) where
  pub spot : SpotOk (g_dir s.geo) (g_dir s.geo + s.geo.d) (spot_of s.geo j)
  spot = (at-spot s.geo (sec work) j [] R.below).0

  pub spot_is : entry_at s j work ≡ get_or (sector_entries (sec work (spot_of s.geo j).sector)) (spot_of s.geo j).slot []
  spot_is = (at-spot s.geo (sec work) j [] R.below).1

  pub in-card : (spot_of s.geo j).sector < s.geo.s
  in-card = omega (arith, spot.high, (lim s work R.fit R.live).s_low, (lim s work R.fit R.live).past, (lim s work R.fit R.live).dir)

  pub in_cut : Passes s.geo (g_n s.geo) (tc_of s work) (entry_at s j work)
  in_cut = entry-passes s.geo (g_n s.geo) (tc_of s work) (sec work) j [] (cut s work R.fit R.live) R.below

  pub in_pres : Passes s.geo s.c.0 (tp_of s work) (entry_at s j work)
  in_pres = entry-passes s.geo s.c.0 (tp_of s work) (sec work) j [] (pres s work R.fit R.live) R.below

  -- the run that the entry shows in the present view: in the card, and in one page
  pub old-room : (old_run s j work).start.0 + (old_run s j work).sectors ≤ s.geo.s
  old-room = version-room s.geo _ (λ r e. shown-run s.geo (tp_of s work) (entry_at s j work) in_pres.wf e)

  pub old-page : (old_run s j work).start.0 % 4096 + (old_run s j work).sectors ≤ 4096
  old-page = version-page s.geo _ (λ r e. shown-run s.geo (tp_of s work) (entry_at s j work) in_pres.wf e)

  pub stamps : (stamp_of (entry_at s j work)).cc.0 ≡ s.c.0 → (stamp_of (entry_at s j work)).txc.0 ≤ s.t.0
  stamps = stamps_at s work R.fit R.live j R.below

  pub wide : length (entry_for s j v work n) ≡ 128
  wide =
      bytes-length s.geo (lim s work R.fit R.live) (tc_of s work) (own_of s) (hc s work R.fit R.live) (hw s work R.fit R.live) R.fit.count R.fit.tx
      (entry_at s j work) n v stamps in_cut.wf R.short R.good
