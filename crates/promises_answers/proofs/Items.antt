-- The files of two images with their contents: alike where the sectors that they hold are. Assumes nothing.
use mathlib.Core.Path.{◌≡◌, refl}
use mathlib.Core.List.Memᴰ
use mathlib.Core.List.{List}
use mathlib.Core.Logic.{◌≢◌}
use Prim.Native.Nat.{ℕ, ◌≤◌, ◌<◌}
use mathlib.Core.Bool.{true}
use native.Mathlib.Omega.{arith}
use Rattle.counts.proofs.TableLaws.{past_index}
use Rattle.sectors.specs.Sectors.{Cells, sec}
use Rattle.counts.specs.declared.Geo.{Geo}
use Rattle.counts.specs.Geometry.{g_f, count_of, table_of}
use Rattle.directory.specs.Directory.{entries_of}
use Rattle.card.specs.declared.Line.{Line}
use Rattle.card.proofs.PieceLaws.{content-same}
use Rattle.card.proofs.FileLaws.{Within, none, more, Holds, held-data, files-within}
use Rattle.card.specs.Reading.{files_in}
use Rattle.card.specs.Sound.{sound_in}
use Rattle.card.proofs.SoundLaws.{sound-view}
use Rattle.card.proofs.AgreeLaws.{Bump, bump-files}
use Rattle.promises_answers.specs.PlainList.{items}

pub items-same : {g : Geo} {fs : List Line} (a b : List ℕ) → Within g fs → ((i : ℕ) → Holds fs i → sec a i ≡ sec b i) → items a fs ≡ items b fs
unfolding items
items-same a b none h = refl
items-same {g} a b (more {f = f} {fs = fs} R w) h =
    rw (
      content-same a b f.run (λ j q. h j (record { file = f; there = Memᴰ.head refl; held = q })),
      items-same a b w (λ i q. h i (record { file = q.file; there = Memᴰ.tail q.there; held = q.held })),
    )

-- the files of a sound card lie inside its data
pub sound-within : (g : Geo) (k : Cells) → sound_in g k ≡ true → Within g (files_in g k)
unfolding files_in
sound-within g k h = files-within g (count_of k) (table_of g k) (entries_of g k) (sound-view g k h).entries

pub base-data : (g : Geo) (k₀ : Cells) → sound_in g k₀ ≡ true → (i : ℕ) → Holds (files_in g k₀) i → (g_f g ≤ i) × (i < g.s)
base-data g k₀ h i q = held-data (sound-within g k₀ h) i q

-- images that agree but for one sector before the data
pub items-agree : {g : Geo} {fs : List Line} (a b : List ℕ) (x : ℕ) → x ≤ g.t → ((i : ℕ) → i ≢ x → sec a i ≡ sec b i) → Within g fs → items a fs ≡ items b fs
unfolding g_f
items-agree {g} a b x low other w = items-same a b w (λ i q. other i (omega (arith, (held-data w i q).0, past_index g)))

pub bump-items : (g : Geo) (img img' : List ℕ) → Bump (sec img) (sec img') → sound_in g (sec img) ≡ true → items img' (files_in g (sec img')) ≡ items img (files_in g (sec img))
bump-items g img img' B good =
    rw (bump-files g (sec img) (sec img') B) (items-agree {g = g} img' img 0 (omega arith) B.other (sound-within g (sec img) good))
