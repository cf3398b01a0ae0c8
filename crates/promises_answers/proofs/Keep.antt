-- The sector rule: what may stand in a sector at a cut, and what a card reads whose every sector keeps it. Assumes nothing.
use mathlib.Core.Path.{◌≡◌, refl, ◌∙◌}
use mathlib.Core.Bool.{true, false, not, ◌&&◌, ◌||◌}
use mathlib.Core.List.{List, [], ◌∷◌}
use mathlib.Core.Logic.{◌⊎◌, inl}
use Prim.Native.Nat.{ℕ, zero, suc, ◌+◌, ◌≤◌, ◌<◌}
use native.Mathlib.Omega.{arith}
use Rattle.words.specs.Lists.{every, pairwise, is_zero, eq_list}
use Rattle.words.specs.Bytes.{word_at}
use Rattle.words.proofs.BoolLaws.{both, join, All2, nil2, cons2, all2-append}
use Rattle.words.proofs.EveryMore.{every_two}
use Rattle.sectors.specs.Sectors.{Cells}
use Rattle.counts.specs.declared.Geo.{Geo}
use Rattle.counts.specs.declared.Stamp.{Stamp}
use Rattle.counts.specs.Geometry.{g_n, g_p, g_f, count_of, table_of, g_dir}
use Rattle.counts.specs.Stamps.{max_tx, stamp_of}
use Rattle.counts.proofs.GeoLaws.{head_of, table_same, stamp-either, dead-either}
use Rattle.entries.specs.declared.Version.{Version}
use Rattle.entries.specs.declared.Version.TheVariants.{Absent, Present}
use Rattle.entries.specs.Entries.{entry_rest, shown_bytes, shown, is_absent, name_bytes, name_of, name_ok, version_ok, entry_ok}
use Rattle.entries.proofs.PassLaws.{passes, passes-intro}
use Rattle.directory.specs.Directory.{sector_entries, entries_from, entries_of, gone, apart}
use Rattle.apages.specs.Index.{group_of, index_in, index_ok, shown_page, page_at, page_in}
use Rattle.apages.proofs.MapLaws.{map_same}
use Rattle.apages.proofs.PassLaws.{index-inv, index-intro}
use Rattle.apages.proofs.IndexViews.{IndexSame, index-refl}
use Rattle.card.specs.declared.Line.{Line}
use Rattle.card.specs.Files.{cons_file, files_of}
use Rattle.card.proofs.FileLaws.{Holds}
use Rattle.card.specs.Sound.{view_ok, sound_in}
use Rattle.card.proofs.SoundLaws.{view-inv, view-intro, sound-inv, sound-intro}
use Rattle.card.specs.Reading.{files_in}

-- ---- an entry that the cut view reads as before

pub record EntrySame (g : Geo) (tab : List ℕ) (own : Stamp) (p₀ p : List ℕ) : Type 0 where
  pub same : shown tab p ≡ shown tab p₀
  pub wf : version_ok g (shown_bytes tab p₀) ≡ true → version_ok g (shown_bytes tab p) ≡ true
  pub named : is_absent (shown tab p₀) ≡ false → (word_at p 8 ≡ word_at p₀ 8) × (name_bytes p ≡ name_bytes p₀)
  pub stamp : (stamp_of p ≡ stamp_of p₀) ⊎ (stamp_of p ≡ own)
  pub zeros : every is_zero (entry_rest p) ≡ every is_zero (entry_rest p₀)

module _ (g : Geo) (tab : List ℕ) (own : Stamp) where
  pub entry-refl : (l : List (List ℕ)) → All2 (EntrySame g tab own) l l
  entry-refl [] = nil2
  entry-refl (e ∷ es) = cons2 (record { same = refl; wf = λ h. h; named = λ h. (refl, refl); stamp = inl refl; zeros = refl }) (entry-refl es)

  cons_same : (v : Version) (p₀ p : List ℕ) (r₀ r : List Line) → (is_absent v ≡ false → (word_at p 8 ≡ word_at p₀ 8) × (name_bytes p ≡ name_bytes p₀)) → r ≡ r₀
      → cons_file p v r ≡ cons_file p₀ v r₀
  unfolding cons_file
  cons_same Absent p₀ p r₀ r h q = q
  cons_same (Present x) p₀ p r₀ r h q = rw ((h refl).0, (h refl).1, q)

  pub files-same : {l₀ l : List (List ℕ)} → All2 (EntrySame g tab own) l₀ l → files_of tab l ≡ files_of tab l₀
  unfolding files_of
  files-same nil2 = refl
  files-same (cons2 {a = p₀} {b = p} {l = l₀} {m = l} s q) =
      rw s.same (cons_same (shown tab p₀) p₀ p (files_of tab l₀) (files_of tab l) s.named (files-same q))

  name-same : (v : Version) (p₀ p : List ℕ) → (is_absent v ≡ false → (word_at p 8 ≡ word_at p₀ 8) × (name_bytes p ≡ name_bytes p₀))
      → (is_absent v || name_ok (word_at p₀ 8) (name_bytes p₀)) ≡ true → (is_absent v || name_ok (word_at p 8) (name_bytes p)) ≡ true
  name-same Absent p₀ p n h = refl
  name-same (Present r) p₀ p n h = rw ((n refl).0, (n refl).1) h

  -- names do not clash where they did not
  apart-same : (a₀ a b₀ b : List ℕ) → EntrySame g tab own a₀ a → EntrySame g tab own b₀ b → apart tab tab a₀ b₀ ≡ true → apart tab tab a b ≡ true
  unfolding apart name_of gone
  apart-same a₀ a b₀ b s q h = rw (s.same, q.same) (go (shown tab a₀) (shown tab b₀) s.named q.named h)
    where
      go : (u v : Version) → (is_absent u ≡ false → (word_at a 8 ≡ word_at a₀ 8) × (name_bytes a ≡ name_bytes a₀))
          → (is_absent v ≡ false → (word_at b 8 ≡ word_at b₀ 8) × (name_bytes b ≡ name_bytes b₀))
          → (is_absent u && is_absent u || is_absent v && is_absent v || not (eq_list (name_of a₀) (name_of b₀))) ≡ true
          → (is_absent u && is_absent u || is_absent v && is_absent v || not (eq_list (name_of a) (name_of b))) ≡ true
      go Absent v x y h = refl
      go (Present r) Absent x y h = refl
      go (Present r) (Present r') x y h = unfold name_of in rw ((x refl).0, (x refl).1, (y refl).0, (y refl).1) h

  pub alone-same : {l₀ l : List (List ℕ)} → All2 (EntrySame g tab own) l₀ l → pairwise (apart tab tab) l₀ ≡ true → pairwise (apart tab tab) l ≡ true
  unfolding pairwise
  alone-same nil2 h = refl
  alone-same (cons2 {a = p₀} {b = p} {l = l₀} {m = l} s q) h =
      let (x, y) = both (every (apart tab tab p₀) l₀) (pairwise (apart tab tab) l₀) h in
      join _ _ (first q x) (alone-same q y)
    where
      first : {m₀ m : List (List ℕ)} → All2 (EntrySame g tab own) m₀ m → every (apart tab tab p₀) m₀ ≡ true → every (apart tab tab p) m ≡ true
      first nil2 h = unfold every in refl
      first (cons2 {a = b₀} {b = b} {l = m₀} {m = m} t r) h = more b₀ b m₀ m t h (first r (rest b₀ m₀ h))
        where
          rest : (b₀ : List ℕ) (m₀ : List (List ℕ)) → every (apart tab tab p₀) (b₀ ∷ m₀) ≡ true → every (apart tab tab p₀) m₀ ≡ true
          rest b₀ m₀ h = unfold every in (both (apart tab tab p₀ b₀) (every (apart tab tab p₀) m₀) h).1

          more : (b₀ b : List ℕ) (m₀ m : List (List ℕ)) → EntrySame g tab own b₀ b → every (apart tab tab p₀) (b₀ ∷ m₀) ≡ true → every (apart tab tab p) m ≡ true
              → every (apart tab tab p) (b ∷ m) ≡ true
          more b₀ b m₀ m t h w = unfold every in join _ _ (apart-same p₀ p b₀ b s t (both (apart tab tab p₀ b₀) (every (apart tab tab p₀) m₀) h).0) w

  -- what the entry rules ask of a stamp of the running session
  module _ (bound : ℕ) (hc : own.cc.0 < g_n g) (ht : own.txc.0 ≤ max_tx) (hb : own.cc.0 < bound) where
    pub entry-same : (p₀ p : List ℕ) → EntrySame g tab own p₀ p → entry_ok g bound tab p₀ ≡ true → entry_ok g bound tab p ≡ true
    entry-same p₀ p s h =
        let P = passes g bound tab p₀ h in
        passes-intro g bound tab p
        (record {
          stamp = stamp-either g (stamp_of p) (stamp_of p₀) own hc ht s.stamp P.stamp;
          dead = dead-either bound tab (stamp_of p) (stamp_of p₀) own hb s.stamp P.dead;
          zeros = s.zeros ∙ P.zeros;
          wf = s.wf P.wf;
          name = rw s.same (name-same (shown tab p₀) p₀ p s.named P.name);
        })

-- ---- a sector

-- what may stand in sector i at a cut: relative to the sectors k₀ of the latest moment and the running stamp
pub record Keeps (g : Geo) (own : Stamp) (k₀ : Cells) (i : ℕ) (s : List ℕ) : Type 0 where
  pub fixed : i ≤ g.t → s ≡ k₀ i
  pub index : i ≡ g.t + 1 → IndexSame g (table_of g k₀) own (k₀ i) s
  pub page : (p : ℕ) → p < g_p g → i ≡ shown_page (table_of g k₀) (group_of (index_in g k₀) p) → s ≡ k₀ i
  pub dir : g_dir g ≤ i → i < g_f g → All2 (EntrySame g (table_of g k₀) own) (sector_entries (k₀ i)) (sector_entries s)
  pub held : Holds (files_in g k₀) i → s ≡ k₀ i

-- a base keeps itself
pub keeps-refl : (g : Geo) (own : Stamp) (k₀ : Cells) (i : ℕ) → Keeps g own k₀ i (k₀ i)
keeps-refl g own k₀ i = record { fixed = λ h. refl; index = λ h. index-refl _ _ _ _; page = λ p l h. refl; dir = λ a b. entry-refl _ _ _ _; held = λ h. refl }

-- ---- a kept card reads as k₀

module _ (g : Geo) (own : Stamp) (k₀ k : Cells) (P : (i : ℕ) → Keeps g own k₀ i (k i)) where
  pub tab-same : table_of g k ≡ table_of g k₀
  tab-same = table_same g k₀ k (λ i lo hi. (P i).fixed hi)

  dir-from : (n i : ℕ) → g_dir g ≤ i → i + n ≤ g_f g → All2 (EntrySame g (table_of g k₀) own) (entries_from i n k₀) (entries_from i n k)
  unfolding entries_from
  dir-from zero i lo hi = nil2
  dir-from (suc n) i lo hi = all2-append ((P i).dir lo (omega arith)) (dir-from n (suc i) (omega arith) (omega arith))

  pub dir-same : All2 (EntrySame g (table_of g k₀) own) (entries_of g k₀) (entries_of g k)
  unfolding entries_of g_f
  dir-same = dir-from g.d (g_dir g) (omega arith) (omega arith)

  pub kept-files : files_in g k ≡ files_in g k₀
  unfolding files_in
  kept-files = rw tab-same (files-same g (table_of g k₀) own dir-same)

  pub kept-page : page_in g (table_of g k₀) k ≡ page_in g (table_of g k₀) k₀
  kept-page =
      map_same g (table_of g k₀) (table_of g k₀) k₀ k
      (λ p l. (unfold page_at index_in in rw (((P (g.t + 1)).index refl).groups p l).page ((P (shown_page (table_of g k₀) (group_of (k₀ (g.t + 1)) p))).page p l refl)))

  pub kept-count : count_of k ≡ count_of k₀
  kept-count = (head_of k₀ k ((P 0).fixed (omega arith))).0

  module _ (hc : own.cc.0 < g_n g) (ht : own.txc.0 ≤ max_tx) where
    pub view-same : (bound : ℕ) → own.cc.0 < bound → view_ok g bound (table_of g k₀) k₀ ≡ true → view_ok g bound (table_of g k₀) k ≡ true
    view-same bound hb h =
        let w = view-inv g bound (table_of g k₀) k₀ h in
        view-intro g bound (table_of g k₀) k
        (record {
          index = index w.index;
          entries = every_two (entry_ok g bound (table_of g k₀)) (entry-same g (table_of g k₀) own bound hc ht hb) dir-same w.entries;
          page = rw (files-same g (table_of g k₀) own dir-same, kept-page) w.page;
        })
      where
        index : index_ok g bound (table_of g k₀) (index_in g k₀) ≡ true → index_ok g bound (table_of g k₀) (index_in g k) ≡ true
        index h = unfold index_in in (
            let s = (P (g.t + 1)).index refl in
            let x = index-inv g bound (table_of g k₀) (k₀ (g.t + 1)) h in
            index-intro g bound (table_of g k₀) (k (g.t + 1))
            (record {
              groups = λ p l.
                  let y = s.groups p l in
                  let z = x.groups p l in
                  record {
                    stamp = stamp-either g (stamp_of (group_of (k (g.t + 1)) p)) (stamp_of (group_of (k₀ (g.t + 1)) p)) own hc ht y.stamp z.stamp;
                    dead = dead-either bound (table_of g k₀) (stamp_of (group_of (k (g.t + 1)) p)) (stamp_of (group_of (k₀ (g.t + 1)) p)) own hb y.stamp z.dead;
                    pair = y.pair ∙ z.pair;
                  };
              zeros = s.zeros ∙ x.zeros;
            }))

    pub kept-sound : own.cc.0 < count_of k₀ → sound_in g k₀ ≡ true → sound_in g k ≡ true
    kept-sound h_c h =
        let s = sound-inv g k₀ h in
        sound-intro g k
        (record {
          small = rw kept-count s.small;
          tail = rw ((P 0).fixed (omega arith)) s.tail;
          tab = rw (kept-count, tab-same) s.tab;
          view = rw (kept-count, tab-same) (view-same (count_of k₀) h_c s.view);
          alone = rw tab-same (alone-same g (table_of g k₀) own dir-same s.alone);
        })
