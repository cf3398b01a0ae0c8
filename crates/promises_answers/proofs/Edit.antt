-- What one change does to the sectors keeps the cut view. Assumes nothing.
use mathlib.Core.Path.{◌≡◌, refl, sym, ◌∙◌}
use mathlib.Core.Bool.{true, false}
use mathlib.Core.List.{List, []}
use mathlib.Core.Logic.{inr, ◌≢◌}
use Prim.Native.Nat.{ℕ, zero, suc, ◌+◌, ◌≤◌, ◌<◌}
use native.Mathlib.Omega.{arith}
use lib.ListN.{length, get_or, set}
use Rattle.words.specs.Lists.{every, is_zero, pad}
use Rattle.words.specs.Bytes.{word_at}
use Rattle.words.proofs.BoolLaws.{All2, nil2, cons2}
use Rattle.sectors.specs.Sectors.{Cells}
use Rattle.counts.specs.declared.Geo.{Geo}
use Rattle.counts.specs.declared.Stamp.{Stamp}
use Rattle.counts.specs.Geometry.{g_n, g_p, g_f, table_of, g_dir, first_page}
use Rattle.counts.proofs.TableLaws.{past_index, dir-data}
use Rattle.counts.proofs.GeoLaws.{Limits}
use Rattle.counts.specs.Stamps.{max_tx, stamp_of}
use Rattle.entries.specs.declared.Version.{Version}
use Rattle.entries.specs.Entries.{name_bytes, entry_of, entry_rest, entry_bytes, shown_bytes, shown, is_absent, version_ok, changed}
use Rattle.entries.proofs.ChangeLaws.{GoodVersion, bytes-stamp, bytes-size, bytes-name, bytes-zeros, cut-shown, cut-wf}
use Rattle.directory.specs.Directory.{sector_entries}
use Rattle.apages.specs.Index.{group_of, index_in, shown_page}
use Rattle.apages.proofs.IndexViews.{IndexSame, index-trans}
use Rattle.card.proofs.FileLaws.{Holds}
use Rattle.card.specs.Reading.{files_in}
use Rattle.promises_answers.proofs.Keep.{EntrySame, Keeps}

-- a changed entry is read at a cut as before: the name is kept where the cut view shows one
pub step_same : (g : Geo) (L : Limits g) (tab : List ℕ) (own : Stamp) → (hc : own.cc.0 < length tab) → (hw : get_or tab own.cc.0 0 + 1 ≡ own.txc.0)
    → (c_n : own.cc.0 < g_n g) → (t_m : own.txc.0 ≤ max_tx) → (p n : List ℕ) (v : Version)
    → (stamps : (stamp_of p).cc.0 ≡ own.cc.0 → (stamp_of p).txc.0 ≤ own.txc.0)
    → (wf : version_ok g (shown_bytes tab p) ≡ true) → (short : length n ≤ 32) → (good : GoodVersion g v)
    → (is_absent (shown tab p) ≡ false → (word_at p 8 ≡ length n) × (name_bytes p ≡ pad 32 n)) → every is_zero (entry_rest p) ≡ true
    → (p₀ : List ℕ) → EntrySame g tab own p₀ p → EntrySame g tab own p₀ (entry_bytes (changed (set tab own.cc.0 own.txc.0) own (entry_of p) n v))
step_same g L tab own hc hw c_n t_m p n v stamps wf short good named zeros p₀ s =
    record {
      same = cut-shown g L tab own hc hw c_n t_m p n v stamps wf short good ∙ s.same;
      wf = λ h. cut-wf g L tab own hc hw c_n t_m p n v stamps wf short good;
      named = λ h.
          let q = named (rw s.same h) in (
            bytes-size g L tab own hc hw c_n t_m p n v stamps wf short good ∙ sym q.0 ∙ (s.named h).0,
            bytes-name g L tab own hc hw c_n t_m p n v stamps wf short good ∙ sym q.1 ∙ (s.named h).1,
          );
      stamp = inr (bytes-stamp g L tab own hc hw c_n t_m p n v stamps wf short good);
      zeros = bytes-zeros g L tab own hc hw c_n t_m p n v stamps wf short good ∙ sym zeros ∙ s.zeros;
    }

all2-set : {A : Type 0} {R : A → A → Type 0} {l₀ l : List A} (x d : A) → All2 R l₀ l → (r : ℕ) → ((a b : A) → R a b → b ≡ get_or l r d → R a x) → All2 R l₀ (set l r x)
all2-set x d nil2 r h = nil2
all2-set x d (cons2 {a = a} {b = b} s p) zero h = cons2 (h a b s refl) p
all2-set x d (cons2 s p) (suc r) h = cons2 s (all2-set x d p r h)

-- ---- the kinds of write that keep the cut view

-- a sector behind the index that the cut view uses neither for a page, nor for the directory, nor for a file
pub record Loose (g : Geo) (k₀ : Cells) (i : ℕ) : Type 0 where
  pub past : g.t + 1 < i
  pub page : (p : ℕ) → p < g_p g → i ≢ shown_page (table_of g k₀) (group_of (index_in g k₀) p)
  pub dir : ¬ ((g_dir g ≤ i) × (i < g_f g))
  pub held : ¬ Holds (files_in g k₀) i

-- an entry of a directory sector, which the cut view reads as before
pub record EntryPut (g : Geo) (own : Stamp) (k₀ k k' : Cells) (d : ℕ) : Type 0 where
  pub low : g_dir g ≤ d
  pub high : d < g_f g
  pub r : ℕ
  pub entry : List ℕ
  pub entries : sector_entries (k' d) ≡ set (sector_entries (k d)) r entry
  pub step : (p₀ : List ℕ) → EntrySame g (table_of g k₀) own p₀ (get_or (sector_entries (k d)) r []) → EntrySame g (table_of g k₀) own p₀ entry

-- what a change does to sector i: nothing, a loose sector, an entry, or the index
pub data Wrote (g : Geo) (own : Stamp) (k₀ k k' : Cells) (i : ℕ) : Type 0 where
  stays : k' i ≡ k i → Wrote g own k₀ k k' i
  loose : Loose g k₀ i → Wrote g own k₀ k k' i
  entry : EntryPut g own k₀ k k' i → Wrote g own k₀ k k' i
  index : i ≡ g.t + 1 → IndexSame g (table_of g k₀) own (k i) (k' i) → Wrote g own k₀ k k' i

module _ (g : Geo) (own : Stamp) (k₀ k k' : Cells) (P : (i : ℕ) → Keeps g own k₀ i (k i))
    (pages : (p : ℕ) → p < g_p g → (first_page g ≤ shown_page (table_of g k₀) (group_of (index_in g k₀) p)) × (shown_page (table_of g k₀) (group_of (index_in g k₀) p) < g_dir g))
    (in_data : (i : ℕ) → Holds (files_in g k₀) i → g_f g ≤ i) where
  -- a loose sector may hold anything
  pub loose-keeps : (i : ℕ) → Loose g k₀ i → Keeps g own k₀ i (k' i)
  loose-keeps i L =
      record {
        fixed = λ h. absurd (omega (arith, L.past));
        index = λ h. absurd (omega (arith, L.past));
        page = λ p l h. absurd (L.page p l h);
        dir = λ a b. absurd (L.dir (a, b));
        held = λ h. absurd (L.held h);
      }

  pub entry-keeps : (d : ℕ) → EntryPut g own k₀ k k' d → Keeps g own k₀ d (k' d)
  entry-keeps d E =
      record {
        fixed = λ h. absurd (omega (arith, E.low, past_index g));
        index = λ h. absurd (omega (arith, E.low, past_index g));
        page = λ p l h. absurd (omega (arith, E.low, (pages p l).1));
        dir = λ a b. rw E.entries (all2-set E.entry [] ((P d).dir E.low E.high) E.r (λ p₀ x s q. E.step p₀ (rw q at s)));
        held = λ h. absurd (omega (arith, E.high, in_data d h));
      }

  -- the index, every group of it read as before
  pub index-keeps : (i : ℕ) → i ≡ g.t + 1 → IndexSame g (table_of g k₀) own (k i) (k' i) → Keeps g own k₀ i (k' i)
  index-keeps i e ix =
      record {
        fixed = λ h. absurd (omega arith);
        index = λ h. index-trans g (table_of g k₀) own ((P i).index e) ix;
        page = λ p l h. absurd (omega (arith, (pages p l).0));
        dir = λ a b. absurd (omega (arith, past_index g));
        held = λ h. absurd (omega (arith, in_data i h, past_index g, dir-data g));
      }

  stays-keeps : (i : ℕ) → k' i ≡ k i → Keeps g own k₀ i (k' i)
  stays-keeps i e = rw e (P i)

  pub wrote-keeps : (i : ℕ) → Wrote g own k₀ k k' i → Keeps g own k₀ i (k' i)
  wrote-keeps i (stays e) = stays-keeps i e
  wrote-keeps i (loose L) = loose-keeps i L
  wrote-keeps i (entry E) = entry-keeps i E
  wrote-keeps i (index e x) = index-keeps i e x
