-- One change of an entry, as the plain list of what the session shows sees it. Assumes nothing.
use Rattle.std.specs.Prelude.{Some}
use mathlib.Core.Path.{◌≡◌, refl, sym, ap, ◌∙◌}
use mathlib.Core.Bool.{Bool, true}
use mathlib.Core.List.{List, [], ◌∷◌, ◌++◌}
use mathlib.Core.Logic.{◌≢◌}
use Prim.Native.Nat.{ℕ, zero, suc, ◌+◌, ◌-◌, ◌*◌, ◌≤◌, ◌<◌}
use native.Mathlib.Omega.{arith}
use lib.ListN.{length, take, drop, replicate}
use lib.Seq.{take_at, take-take, split_at, set_split}
use Rattle.counts.proofs.TableLaws.{past_index, dir-data}
use Rattle.words.specs.Lists.{every, splice, pad}
use Rattle.words.proofs.BoolLaws.{both, join}
use Rattle.words.proofs.EveryMore.{every_drop}
use Rattle.words.proofs.SpliceLaws.{range_same}
use Rattle.sectors.specs.Sectors.{Cells, sec}
use Rattle.counts.specs.declared.Geo.{Geo}
use Rattle.counts.specs.Geometry.{g_dir, g_f, table_of, first_page}
use Rattle.counts.proofs.GeoLaws.{Limits, table_same}
use Rattle.entries.specs.declared.Run.{Run}
use Rattle.entries.specs.declared.Version.{Version}
use Rattle.entries.specs.declared.Version.TheVariants.{Absent, Present}
use Rattle.entries.specs.Entries.{shown, name_of, sectors_for}
use Rattle.entries.proofs.ChangeLaws.{bytes-size, bytes-name, now-shown, pad-length}
use Rattle.directory.specs.Directory.{entries_of, spot_of}
use Rattle.card.specs.declared.Line.{Line}
use Rattle.card.specs.Files.{FileHolds, cons_file, files_of, cover, content_of, run_of}
use Rattle.card.proofs.PieceLaws.{holds-run, content-same, content-run}
use Rattle.card.proofs.FileLaws.{files-append, Within, files-within, Holds, held-data, held-cover, cover-append}
use Rattle.card.proofs.SoundLaws.{View}
use Rattle.session.specs.declared.Opened.{Opened}
use Rattle.session.specs.Views.{present_files, session_files}
use Rattle.session.proofs.FitLaws.{present-live}
use Rattle.store.specs.Edit.{put_content, put_run, edit_work}
use Rattle.promises_answers.specs.PlainList.{Item, items, without, With, shown_in}
use Rattle.promises_answers.proofs.ListLaws.{list_of, list-absent, list-present}
use Rattle.promises_answers.proofs.Items.{items-same}
use Rattle.promises_answers.proofs.Alone.{Alone, quiet-before, quiet-after, without-quiet, without-one, list-append, without-append}
use Rattle.promises_answers.proofs.Ready.{own_of, tc_of, tp_of, entry_at, entry_for, lim, hc, hw, pres, Ready, spot, in_cut, stamps}
use Rattle.promises_answers.proofs.Change.{data-put, left_alone, entries-now}

every_take : {A : Type 0} (f : A → Bool) (n : ℕ) (l : List A) → every f l ≡ true → every f (take n l) ≡ true
unfolding every
every_take f zero l h = refl
every_take f (suc n) [] h = refl
every_take f (suc n) (x ∷ l) h = let (a, b) = both (f x) (every f l) h in join _ _ a (every_take f n l b)

cover-cons : (p : List ℕ) (v : Version) (fs : List Line) (i : ℕ) → cover fs i ≤ cover (cons_file p v fs) i
unfolding cons_file cover
cover-cons p Absent fs i = omega arith
cover-cons p (Present r) fs i = omega arith

-- content that was put is read back
pub put_back : (r : Run) (S : ℕ) (d work : List ℕ) → length work ≡ 512 * S → r.start.0 + r.sectors ≤ S → length d ≤ 512 * r.sectors
    → take (length d) (drop (512 * r.start.0) (put_content r d work)) ≡ d
unfolding put_content
put_back r S d work l f e =
    let at = 512 * r.start.0 in
    let n = 512 * r.sectors in
    let w : take n (drop at (splice work at (pad n d))) ≡ pad n d = range_same work at n (pad n d) (pad-length n d e) (omega arith) in
    sym (take-take (length d) n (drop at (splice work at (pad n d))) e) ∙ ap (λ (x : List ℕ). take (length d) x) w
    ∙ (unfold pad in take_at d (replicate (n - length d) 0) (length d) refl)

module _ (s : Opened) (j a k : ℕ) (v : Version) (work n d : List ℕ) (k₀ : Cells) (R : Ready s j a k v work n d k₀)
    (al : Alone (tp_of s work) (tc_of s work) n (entries_of s.geo (sec work)) j)
    (hn : shown (tp_of s work) (entry_at s j work) ≢ Absent → name_of (entry_at s j work) ≡ n)
    (free : (i : ℕ) → a ≤ i → i < a + k → cover (files_of (tp_of s work) (entries_of s.geo (sec work))) i ≡ 0) where
  abbrev g : Geo
  g = s.geo

  abbrev tp : List ℕ
  tp = tp_of s work

  abbrev es : List (List ℕ)
  es = entries_of s.geo (sec work)

  abbrev x : List ℕ
  x = entry_for s j v work n

  abbrev pub after : List ℕ
  after = edit_work s j v work n d

  L : Limits g
  L = lim s work R.fit R.live

  pub same-table : table_of g (sec after) ≡ table_of g (sec work)
  unfolding g_f
  same-table =
      table_same g (sec work) (sec after)
      (λ i lo hi. left_alone s j a k v work n d k₀ R i (omega (arith, (spot s j a k v work n d k₀ R).low, past_index g)) (omega arith) (λ q. omega (arith, q.0))
      (λ q. omega (arith, R.inside i q.0 q.1, past_index g)))

  pub same-tp : tp_of s after ≡ tp_of s work
  same-tp = rw same-table

  pub new-shown : shown tp x ≡ v
  new-shown =
      now-shown g L (tc_of s work) (own_of s) (hc s work R.fit R.live) (hw s work R.fit R.live) R.fit.count R.fit.tx (entry_at s j work) n v
      (stamps s j a k v work n d k₀ R) (in_cut s j a k v work n d k₀ R).wf R.short R.good

  pub new-name : name_of x ≡ n
  unfolding name_of pad
  new-name =
      rw (
        bytes-size g L (tc_of s work) (own_of s) (hc s work R.fit R.live) (hw s work R.fit R.live) R.fit.count R.fit.tx (entry_at s j work) n v (stamps s j a k v work n d k₀ R) (in_cut s j a k v work n d k₀ R).wf R.short R.good,
        bytes-name g L (tc_of s work) (own_of s) (hc s work R.fit R.live) (hw s work R.fit R.live) R.fit.count R.fit.tx (entry_at s j work) n v (stamps s j a k v work n d k₀ R) (in_cut s j a k v work n d k₀ R).wf R.short R.good,
      )
      (take_at n (replicate (32 - length n) 0) (length n) refl)

  P : View g s.c.0 tp (sec work)
  P = pres s work R.fit R.live

  -- ---- a sector that another shown file holds is left alone

  old-files : files_of tp es ≡ files_of tp (take j es) ++ cons_file (entry_at s j work) (shown tp (entry_at s j work)) (files_of tp (drop (suc j) es))
  unfolding files_of
  old-files = ap (files_of tp) (split_at es j [] R.below) ∙ files-append tp (take j es) (entry_at s j work ∷ drop (suc j) es)

  untouched : (fs : List Line) → Within g fs → ((i : ℕ) → cover fs i ≤ cover (files_of tp es) i) → items after fs ≡ items work fs
  untouched fs w le = items-same {g = g} after work w one
    where
      one : (i : ℕ) → Holds fs i → sec after i ≡ sec work i
      one i h =
          let q : g_f g ≤ i = (held-data w i h).0 in
          left_alone s j a k v work n d k₀ R i (far q) (far' q) (far'' q) (λ z. omega (arith, free i z.0 z.1, le i, held-cover fs i h))
        where
          far : g_f g ≤ i → i ≢ (spot_of g j).sector
          far z = unfold g_f in omega (arith, z, (spot s j a k v work n d k₀ R).high)

          far' : g_f g ≤ i → i ≢ g.t + 1
          far' z = omega (arith, z, past_index g, dir-data g)

          far'' : g_f g ≤ i → ¬ ((first_page g ≤ i) × (i < g_dir g))
          far'' z q = omega (arith, z, q.1, dir-data g)

  keep-before : list_of tp after (take j es) ≡ list_of tp work (take j es)
  keep-before =
      untouched (files_of tp (take j es)) (files-within g s.c.0 tp (take j es) (every_take _ j es P.entries))
      (λ i. rw (old-files, cover-append (files_of tp (take j es))) (omega arith))

  keep-after : list_of tp after (drop (suc j) es) ≡ list_of tp work (drop (suc j) es)
  keep-after =
      untouched (files_of tp (drop (suc j) es)) (files-within g s.c.0 tp (drop (suc j) es) (every_drop _ (suc j) es P.entries))
      (λ i. rw (old-files, cover-append (files_of tp (take j es)))
      (omega (arith, cover-cons (entry_at s j work) (shown tp (entry_at s j work)) (files_of tp (drop (suc j) es)) i)))

  -- ---- the lists

  list-now : shown_in (Some s) after ≡ list_of tp work (take j es) ++ list_of tp after (x ∷ drop (suc j) es)
  unfolding shown_in session_files present_files
  list-now =
      rw (present-live s (sec after) R.live, same-tp, entries-now s j a k v work n d k₀ R, set_split es j x R.below)
      (list-append tp after (take j es) (x ∷ drop (suc j) es) ∙ ap (λ (l : List Item). l ++ list_of tp after (x ∷ drop (suc j) es)) keep-before)

  list-old : without n (shown_in (Some s) work) ≡ list_of tp work (take j es) ++ list_of tp work (drop (suc j) es)
  unfolding shown_in session_files present_files
  list-old =
      rw (present-live s (sec work) R.live)
      (ap (λ (l : List (List ℕ)). without n (list_of tp work l)) (split_at es j [] R.below)
      ∙ ap (without n) (list-append tp work (take j es) (entry_at s j work ∷ drop (suc j) es))
      ∙ without-append n (list_of tp work (take j es)) (list_of tp work (entry_at s j work ∷ drop (suc j) es))
      ∙ rw (
        without-quiet tp (tc_of s work) n work (take j es) (quiet-before tp (tc_of s work) n es j R.below al),
        without-one tp (tc_of s work) n work (entry_at s j work) (drop (suc j) es) hn (quiet-after tp (tc_of s work) n es j R.below al),
      ))

  pub gone-now : v ≡ Absent → shown_in (Some s) after ≡ without n (shown_in (Some s) work)
  gone-now e =
      list-now ∙ ap (λ (l : List Item). list_of tp work (take j es) ++ l) (list-absent tp after x (drop (suc j) es) (new-shown ∙ e) ∙ keep-after) ∙ sym list-old

  pub added-now : v ≡ Present (put_run (record { 0 = a }) d) → k ≡ sectors_for (length d) → With n d (shown_in (Some s) work) (shown_in (Some s) after)
  added-now e q =
      record {
        before = list_of tp work (take j es);
        after = list_of tp work (drop (suc j) es);
        others = list-old;
        becomes = list-now ∙ ap (λ (l : List Item). list_of tp work (take j es) ++ l) (list-present tp after x (drop (suc j) es) (new-shown ∙ e) ∙ rw (new-name, text, keep-after));
      }
    where
      in-run : (i : ℕ) → FileHolds (put_run (record { 0 = a }) d) i → (a ≤ i) × (i < a + k)
      in-run i h = rw q (unfold put_run in (holds-run (put_run (record { 0 = a }) d) i).0 h)

      whole : content_of after (put_run (record { 0 = a }) d) ≡ content_of (put_content (run_of v) d work) (put_run (record { 0 = a }) d)
      whole =
          content-same after (put_content (run_of v) d work) (put_run (record { 0 = a }) d)
          (λ i h. data-put s j a k v work n d k₀ R i (R.inside i (in-run i h).0 (in-run i h).1))

      there : content_of (put_content (run_of v) d work) (put_run (record { 0 = a }) d) ≡ take (length d) (drop (512 * a) (put_content (run_of v) d work))
      there = unfold put_run in content-run (put_content (run_of v) d work) (put_run (record { 0 = a }) d) (rw (← q) R.enough)

      text : content_of after (put_run (record { 0 = a }) d) ≡ d
      text =
          whole ∙ there ∙ ap (λ (i : ℕ). take (length d) (drop (512 * i) (put_content (run_of v) d work))) (sym R.is.0)
          ∙ put_back (run_of v) g.s d work R.fit.sized (rw (R.is.0, R.is.1) R.fits) (rw R.is.1 R.enough)
