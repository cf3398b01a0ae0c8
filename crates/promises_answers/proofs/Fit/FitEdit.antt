-- A live session that fits still fits after one change of an entry. Assumes nothing.
use mathlib.Core.Path.{◌≡◌, refl, ap, ◌∙◌}
use mathlib.Core.Bool.{true}
use mathlib.Core.List.{List, [], ◌∷◌}
use Prim.Native.Nat.{ℕ, suc, ◌+◌, ◌≤◌, ◌<◌}
use native.Mathlib.Omega.{arith}
use lib.ListN.{take, drop, get_or, set}
use lib.Seq.{split_at}
use Rattle.counts.proofs.TableLaws.{past_index, dir-data}
use Rattle.words_sums.specs.Sums.{in_run}
use Rattle.words.specs.Lists.{pairwise}
use Rattle.words.proofs.EveryMore.{every_set}
use Rattle.sectors.specs.Sectors.{sec}
use Rattle.counts.specs.declared.Geo.{Geo}
use Rattle.counts.specs.Geometry.{g_n, g_f}
use Rattle.counts.proofs.GeoLaws.{Limits}
use Rattle.entries.specs.declared.Version.{Version}
use Rattle.entries.specs.declared.Version.TheVariants.{Absent, Present}
use Rattle.entries.specs.Entries.{shown, entry_ok}
use Rattle.entries.proofs.PassLaws.{RunIs, run_room, shown-run}
use Rattle.directory.specs.Directory.{entries_of, apart}
use Rattle.directory.proofs.NameLaws.{apart-set, quiet-apart}
use Rattle.apages.specs.Runs.{page_ok}
use Rattle.apages.specs.Index.{index_in, page_in}
use Rattle.apages.proofs.PassLaws.{index-intro}
use Rattle.card.specs.declared.Line.{Line}
use Rattle.card.specs.Files.{holds_at, files_of, cover, run_of}
use Rattle.card.proofs.PieceLaws.{count-run}
use Rattle.card.proofs.FileLaws.{Holds, files-append, files-set, files-within, held-data, cover-append}
use Rattle.card.proofs.BitmapLaws.{InData}
use Rattle.card.proofs.RuleLaws.{cover-version, rule-kept}
use Rattle.card.specs.Reading.{files_in}
use Rattle.card.specs.Sound.{view_ok}
use Rattle.card.proofs.SpaceLaws.{page-wide}
use Rattle.card.proofs.SoundLaws.{View, view-intro, view-page}
use Rattle.session.specs.declared.Opened.{Opened}
use Rattle.session.specs.Fits.{entry_at_most}
use Rattle.session.proofs.FitLaws.{Fit, present-live}
use Rattle.store.specs.Edit.{edit_work}
use Rattle.promises_answers.proofs.Keep.{Keeps, keeps-refl, view-same}
use Rattle.promises_answers.proofs.Edit.{wrote-keeps}
use Rattle.promises_answers.proofs.Ready.{own_of, tc_of, tp_of, entry_at, entry_for, old_run, lim, cut, pres, Ready, spot, in_pres}
use Rattle.promises_answers.proofs.Change.{edit-length, map-now, left_alone, entries-now}
use Rattle.promises_answers.proofs.Writes.{wrote}
use Rattle.promises_answers.proofs.Answered.{new-name, new-shown}
use Rattle.promises_answers.proofs.Fit.FitParts.{Made, head-cong, tab≡, pres≡, x-good, x-most, index-good, index-low}

module _ (s : Opened) (j a k : ℕ) (v : Version) (work n d : List ℕ) (M : Made s j a k v work n d) where
  abbrev R : Ready s j a k v work n d (sec work)
  R = M.ready

  abbrev g : Geo
  g = s.geo

  abbrev tp : List ℕ
  tp = tp_of s work

  abbrev tc : List ℕ
  tc = tc_of s work

  abbrev es : List (List ℕ)
  es = entries_of s.geo (sec work)

  abbrev x : List ℕ
  x = entry_for s j v work n

  abbrev after : List ℕ
  after = edit_work s j v work n d

  F : Fit s work
  F = R.fit

  L : Limits g
  L = lim s work F R.live

  P : View g s.c.0 tp (sec work)
  P = pres s work F R.live

  es≡ : entries_of g (sec after) ≡ set es j x
  es≡ = entries-now s j a k v work n d (sec work) R

  -- ---- the page that the present view shows

  abbrev A : List Line
  A = files_of tp (take j es)

  abbrev B : List Line
  B = files_of tp (drop (suc j) es)

  abbrev old : ℕ → ℕ
  old i = holds_at (old_run s j work) i

  was-cover : (i : ℕ) → cover (files_of tp es) i ≡ cover A i + (old i + cover B i)
  unfolding files_of
  was-cover i =
      ap (λ (l : List (List ℕ)). cover (files_of tp l) i) (split_at es j [] R.below) ∙ ap (λ (f : List Line). cover f i) (files-append tp (take j es) (entry_at s j work ∷ drop (suc j) es))
      ∙ cover-append A _ i ∙ ap (λ (m : ℕ). cover A i + m) (cover-version (entry_at s j work) (shown tp (entry_at s j work)) B i)

  now-cover : (i : ℕ) → cover (files_of tp (set es j x)) i ≡ cover A i + (in_run a k i + cover B i)
  now-cover i =
      ap (λ (f : List Line). cover f i) (files-set tp es j x R.below) ∙ cover-append A _ i
      ∙ ap (λ (m : ℕ). cover A i + m) (cover-version x (shown tp x) B i ∙ rw (new-shown s j a k v work n d (sec work) R M.alone M.named M.free, M.run i))

  old-run : ((old_run s j work).start.0 + (old_run s j work).sectors ≤ g.s)
      × ((i : ℕ) → (old_run s j work).start.0 ≤ i → i < (old_run s j work).start.0 + (old_run s j work).sectors → InData g i)
  unfolding run_of
  old-run = go (shown tp (entry_at s j work)) refl
    where
      go : (w : Version) → shown tp (entry_at s j work) ≡ w → ((run_of w).start.0 + (run_of w).sectors ≤ g.s)
          × ((i : ℕ) → (run_of w).start.0 ≤ i → i < (run_of w).start.0 + (run_of w).sectors → InData g i)
      go Absent e = (omega arith, λ i lo hi. absurd (omega arith))
      go (Present r) e =
          let Q : RunIs g r = shown-run g tp (entry_at s j work) (in_pres s j a k v work n d (sec work) R).wf e in
          (run_room g r Q, λ i lo hi. let w = Q.span (omega arith) in (omega (arith, w.0), omega (arith, w.1)))

  page-good : page_ok g (cover (files_of tp (set es j x))) (page_in g tp (sec after)) ≡ true
  page-good =
      rw (map-now s j a k v work n d (sec work) R)
      (rule-kept g F.shape (cover (files_of tp es)) (cover (files_of tp (set es j x))) (page_in g tp (sec work)) (page-wide g s.c.0 tp work F.shape F.sized P) P.page a k
      (old_run s j work).start.0 (old_run s j work).sectors (λ i. omega (arith, was-cover i, now-cover i, count-run (old_run s j work) i)) R.fits old-run.0
      (λ i lo hi. (R.inside i lo hi, omega (arith, hi, R.fits))) old-run.1 (λ i. omega (arith, was-cover i, count-run (old_run s j work) i)) M.clear)

  -- ---- the tests

  pres-good : view_ok g s.c.0 tp (sec after) ≡ true
  pres-good =
      view-intro g s.c.0 tp (sec after)
      (record {
        index = index-intro g s.c.0 tp (index_in g (sec after)) (index-good s j a k v work n d M);
        entries = rw es≡ (every_set (entry_ok g s.c.0 tp) es j x P.entries (x-good s j a k v work n d M));
        page = rw es≡ page-good;
      })

  keeps : (i : ℕ) → Keeps g (own_of s) (sec work) i (sec after i)
  keeps =
      λ i.
      wrote-keeps g (own_of s) (sec work) (sec work) (sec after) (keeps-refl g (own_of s) (sec work)) (view-page g (g_n g) tc (sec work) (cut s work F R.live)) in-data i
      (wrote s j a k v work n d (sec work) R refl (λ p l. refl) in-data i)
    where
      in-data : (i : ℕ) → Holds (files_in g (sec work)) i → g_f g ≤ i
      in-data i h = (held-data (files-within g (g_n g) tc es (cut s work F R.live).entries) i (unfold files_in in h)).0

  cut-good : view_ok g (g_n g) tc (sec after) ≡ true
  cut-good = view-same g (own_of s) (sec work) (sec after) keeps F.count F.tx (g_n g) F.count F.cut_view

  names-good : pairwise (apart tp tc) (set es j x) ≡ true
  names-good =
      apart-set tp tc es j x R.below (rw (present-live s (sec work) R.live) at F.alone)
      (λ i l o. quiet-apart tp tc n x (get_or es i []) (new-name s j a k v work n d (sec work) R M.alone M.named M.free) (M.alone i l o))

  zero-out : g_f g ≤ 0 → ⊥
  zero-out h = omega (arith, h, past_index g, dir-data g)

  pub fit-edit : Fit s after
  fit-edit =
      record {
        shape = F.shape;
        count = F.count;
        low = F.low;
        tx = F.tx;
        sized = edit-length s j a k v work n d (sec work) R;
        head = head-cong s (sec work) (sec after)
            (left_alone s j a k v work n d (sec work) R 0 (omega (arith, (spot s j a k v work n d (sec work) R).low, past_index g)) (omega arith) (λ q. omega (arith, q.0))
            (λ q. zero-out (R.inside 0 q.0 q.1)))
            F.head;
        word = rw (tab≡ s j a k v work n d M) F.word;
        max = rw (tab≡ s j a k v work n d M) F.max;
        past = rw (tab≡ s j a k v work n d M) F.past;
        pres_view = rw (pres≡ s j a k v work n d M) pres-good;
        cut_view = rw (tab≡ s j a k v work n d M) cut-good;
        alone = rw (pres≡ s j a k v work n d M, tab≡ s j a k v work n d M, es≡) names-good;
        stamps = rw es≡ (every_set (entry_at_most s) es j x F.stamps (x-most s j a k v work n d M));
        index = index-low s j a k v work n d M;
      }
