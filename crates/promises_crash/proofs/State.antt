-- The invariant: a session that is closed, live or worn, and what a cut of each reads. Assumes nothing.
use mathlib.Core.Path.{◌≡◌, refl, sym, ◌∙◌}
use mathlib.Core.Bool.{true}
use mathlib.Core.List.{List, Memᴰ}
use mathlib.Core.Logic.{◌⊎◌, inl, inr, ◌≢◌}
use Prim.Native.Nat.{ℕ, ◌+◌, ◌*◌, ◌≤◌, ◌<◌}
use native.Mathlib.Omega.{arith}
use native.Mathlib.Decide.{ℕ_discrete, dec_lt}
use lib.ListN.{length, drop}
use Rattle.sectors.specs.Sectors.{sec}
use Rattle.sectors.proofs.FlatLaws.{sec-beyond, image-same}
use Rattle.counts.specs.declared.Geo.{Geo}
use Rattle.counts.specs.Geometry.{g_n, g_f, geo_ok, geo_of, count_of, table_of}
use Rattle.counts.proofs.GeoLaws.{limits, head_of}
use Rattle.directory.specs.Directory.{entries_of}
use Rattle.apages.specs.Bits.{bit_at}
use Rattle.apages.proofs.BitLaws.{bit-lt}
use Rattle.apages.specs.Index.{page_in}
use Rattle.card.specs.Files.{cover, files_of}
use Rattle.card.proofs.FileLaws.{cover-out}
use Rattle.card.specs.Reading.{files_in, files_shown, page_shown}
use Rattle.card.specs.Sound.{sound_in, sound}
use Rattle.card.specs.Means.{InLimits, Sound}
use Rattle.card.proofs.SoundLaws.{View, sound-view, view-page, shape-inv, shape-intro}
use Rattle.card.proofs.AgreeLaws.{Bump, bump-sound}
use Rattle.card.proofs.BitmapLaws.{InData, in-data, wanted-in, page-bits}
use Rattle.session.specs.declared.Opened.{Opened}
use Rattle.promises_answers.specs.PlainList.{Item, items, shown_by}
use Rattle.promises_crash.specs.History.{Pending, newest, settled, Left, Reads}
use Rattle.promises_crash.proofs.ReadsBy.{reads-shape, reads-sound, means-sound}
use Rattle.promises_answers.proofs.Keep.{Keeps, kept-sound, kept-files}
use Rattle.promises_answers.proofs.Items.{items-same, sound-within, base-data, bump-items}
use Rattle.promises_answers.proofs.Ready.{own_of}
use Rattle.card.proofs.SpaceLaws.{page-wide}
use Rattle.promises_answers.proofs.Base.{Base}
use Rattle.promises_crash.proofs.Play.{mem-one, Top}

-- ---- a card that is sound reads

pub record Good (g : Geo) (card : List ℕ) (m : List Item) : Type 0 where
  pub sized : length card ≡ 512 * g.s
  pub geo : geo_of (sec card) ≡ g
  pub ok : geo_ok g ≡ true
  pub good : sound_in g (sec card) ≡ true
  pub shows : items card (files_in g (sec card)) ≡ m

module _ (g : Geo) (card : List ℕ) (m : List Item) (G : Good g card m) where
  view : View g (count_of (sec card)) (table_of g (sec card)) (sec card)
  view = sound-view g (sec card) G.good

  -- each data sector's bit counts the shown files that hold it
  bits-cover : (n : ℕ) → g_f g ≤ n → n < g.s → bit_at (page_in g (table_of g (sec card)) (sec card)) n ≡ cover (files_in g (sec card)) n
  unfolding files_in
  bits-cover n lo hi =
      let l = page-wide g _ _ card G.ok G.sized view in
      let L = limits g G.ok in
      page-bits g (cover (files_of (table_of g (sec card)) (entries_of g (sec card)))) (page_in g (table_of g (sec card)) (sec card)) (omega (arith, L.covered)) view.page n
      (omega (arith, L.covered))
      ∙ wanted-in g _ n (lo, hi)

  cover-once : (n : ℕ) → cover (files_in g (sec card)) n ≤ 1
  cover-once n = go (in-data g n)
    where
      go : Dec (InData g n) → cover (files_in g (sec card)) n ≤ 1
      go (yes q) = omega (arith, bits-cover n q.0 q.1, bit-lt (page_in g (table_of g (sec card)) (sec card)) n)
      go (no o) = omega (arith, cover-out (sound-within g (sec card) G.good) n o)

  pub good-reads : Reads card m
  good-reads =
      record {
        limits = both-mean.0;
        sized = rw G.geo G.sized;
        is_sound = both-mean.1;
        shows = (unfold shown_by files_shown in rw G.geo G.shows);
        bits = (unfold page_shown files_shown in rw G.geo bits-cover);
        once = (unfold files_shown in rw G.geo cover-once);
      }
    where
      both-mean : InLimits (geo_of (sec card)) × Sound card
      both-mean = means-sound card (shape-intro g card G.geo G.ok G.sized) (unfold sound in rw G.geo G.good)

pub reads-good : (card : List ℕ) (m : List Item) → Reads card m → Good (geo_of (sec card)) card m
reads-good card m r =
    let (a, b) = shape-inv card (reads-shape r) in
    record { sized = b; geo = refl; ok = a; good = (unfold sound in reads-sound r); shows = (unfold shown_by files_shown in r.shows) }

-- ---- no session: every sector is settled, but the count may be one too high

pub record Up (g : Geo) (img₀ x : List ℕ) : Type 0 where
  pub count : count_of (λ i. x) ≡ count_of (sec img₀) + 1
  pub geo : geo_of (λ i. x) ≡ g
  pub tail : drop 16 x ≡ drop 16 (sec img₀ 0)
  pub small : count_of (sec img₀) < g_n g

pub record Calm (g : Geo) (img₀ : List ℕ) (p : Pending) (m : List Item) : Type 0 where
  pub is : Good g img₀ m
  pub fixed : (i : ℕ) (x : List ℕ) → i ≢ 0 → Memᴰ x (p i) → x ≡ sec img₀ i
  pub head : (x : List ℕ) → Memᴰ x (p 0) → (x ≡ sec img₀ 0) ⊎ Up g img₀ x

pub calm-reads : (g : Geo) (img₀ : List ℕ) (p : Pending) (m : List Item) → Calm g img₀ p m → (card : List ℕ) → Left p (512 * g.s) card → Reads card m
calm-reads g img₀ p m C card h = go (C.head (sec card 0) (h.held 0 (omega (arith, (limits g C.is.ok).s_low, (limits g C.is.ok).past, (limits g C.is.ok).dir))))
  where
    same : (i : ℕ) → i ≢ 0 → Dec (i < g.s) → sec card i ≡ sec img₀ i
    same i z (yes l) = C.fixed i (sec card i) z (h.held i (omega arith))
    same i z (no l) = sec-beyond card g.s i h.sized (omega arith) ∙ sym (sec-beyond img₀ g.s i C.is.sized (omega arith))

    go : (sec card 0 ≡ sec img₀ 0) ⊎ Up g img₀ (sec card 0) → Reads card m
    go (inl e) = rw (image-same card img₀ g.s h.sized C.is.sized (λ j l. all j (ℕ_discrete j 0))) (good-reads g img₀ m C.is)
      where
        all : (i : ℕ) → Dec (i ≡ 0) → sec card i ≡ sec img₀ i
        all i (yes z) = rw z e
        all i (no z) = same i z (dec_lt i g.s)
    go (inr u) =
        let hd = head_of (λ i. sec card 0) (sec card) refl in
        let B : Bump (sec img₀) (sec card) = record { count = hd.0 ∙ u.count; tail = u.tail; other = λ i z. same i z (dec_lt i g.s) } in
        good-reads g card m
        (record {
          sized = h.sized;
          geo = hd.1 ∙ u.geo;
          ok = C.is.ok;
          good = bump-sound g (sec img₀) (sec card) B u.small C.is.good;
          shows = bump-items g img₀ card B C.is.good ∙ C.is.shows;
        })

pub record AtRest (g : Geo) (card : List ℕ) (p : Pending) (m : List Item) : Type 0 where
  pub calm : Calm g card p m
  pub top : Top card p

pub good-rests : (g : Geo) (card : List ℕ) (m : List Item) → Good g card m → AtRest g card (settled card) m
unfolding settled newest
good-rests g card m G = record { calm = record { is = G; fixed = λ i x o h. mem-one h; head = λ x h. inl (mem-one h) }; top = λ i. refl }

-- ---- a live session, relative to the base of the latest mount or sync

pub record Live (s : Opened) (card work : List ℕ) (p : Pending) (m : List Item) : Type 0 where
  pub img₀ : List ℕ
  pub base : Base s img₀
  pub geo : geo_of (sec img₀) ≡ s.geo
  pub shows : items img₀ (files_in s.geo (sec img₀)) ≡ m
  pub keeps : (i : ℕ) (x : List ℕ) → Memᴰ x (p i) → Keeps s.geo (own_of s) (sec img₀) i x
  pub top : Top work p
  pub may : (i : ℕ) → Memᴰ (sec card i) (p i)
  pub sized : length card ≡ 512 * s.geo.s

-- past the card there is nothing to keep
keeps-beyond : (s : Opened) (img₀ : List ℕ) → Base s img₀ → (i : ℕ) (x : List ℕ) → s.geo.s ≤ i → Keeps s.geo (own_of s) (sec img₀) i x
unfolding g_f
keeps-beyond s img₀ B i x h =
    let L = limits s.geo B.ok in
    let pg = view-page s.geo _ _ (sec img₀) (sound-view s.geo (sec img₀) B.good) in
    record {
      fixed = λ e. absurd (omega (arith, L.s_low, L.past, L.dir));
      index = λ e. absurd (omega (arith, L.s_low, L.past, L.dir));
      page = λ p l e. absurd (omega (arith, (pg p l).1, L.s_low, L.dir));
      dir = λ a b. absurd (omega (arith, L.s_low, L.past, L.dir));
      held = λ e. absurd (omega (arith, (base-data s.geo (sec img₀) B.good i e).1));
    }

-- what keeps reads as the base
pub keeps-reads : (s : Opened) (img₀ : List ℕ) (p : Pending) → Base s img₀ → geo_of (sec img₀) ≡ s.geo
    → ((i : ℕ) (x : List ℕ) → Memᴰ x (p i) → Keeps s.geo (own_of s) (sec img₀) i x)
    → (card : List ℕ) → Left p (512 * s.geo.s) card → Reads card (items img₀ (files_in s.geo (sec img₀)))
keeps-reads s img₀ p B e K card h =
    good-reads s.geo card _
    (record {
      sized = h.sized;
      geo = (head_of (sec img₀) (sec card) ((kept 0).fixed (omega arith))).1 ∙ e;
      ok = B.ok;
      good = kept-sound s.geo (own_of s) (sec img₀) (sec card) kept B.hc B.ht B.count B.good;
      shows = rw (kept-files s.geo (own_of s) (sec img₀) (sec card) kept)
          (items-same card img₀ (sound-within s.geo (sec img₀) B.good) (λ i q. (kept i).held q));
    })
  where
    kept : (i : ℕ) → Keeps s.geo (own_of s) (sec img₀) i (sec card i)
    kept i = go (dec_lt i s.geo.s)
      where
        go : Dec (i < s.geo.s) → Keeps s.geo (own_of s) (sec img₀) i (sec card i)
        go (yes l) = K i (sec card i) (h.held i (omega arith))
        go (no l) = keeps-beyond s img₀ B i (sec card i) (omega arith)
