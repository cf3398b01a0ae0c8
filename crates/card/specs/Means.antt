-- The limits, names and "A card is sound when all of this holds", clause by clause in the paper's order: no test, only words, entries and sectors.
-- A byte or word past the end of what it is read from counts as 0. Assumes nothing.
use Rattle.std.specs.Prelude.{◌≡◌, ◌⊎◌, ◌≢◌, ◌↔◌, ℕ, ◌+◌, ◌*◌, ◌/◌, ◌≤◌, ◌<◌, length, get_or}
use mathlib.Core.List.{List, [], Memᴰ}
use Rattle.words.specs.Bytes.{word_at}
use Rattle.sectors.specs.Sectors.{sec}
use Rattle.counts.specs.declared.Geo.{Geo}
use Rattle.counts.specs.declared.Stamp.{Stamp}
use Rattle.counts.specs.Geometry.{g_n, g_p, g_f, geo_of, count_of, table_of, pair_low, pair_high}
use Rattle.counts.specs.Stamps.{max_tx, stamp_of}
use Rattle.entries.specs.declared.Version.TheVariants.{Absent}
use Rattle.entries.specs.Entries.{name_bytes, name_of, shown_bytes, shown, entry_rest, Piece, pieces_of}
use Rattle.directory.specs.Directory.{entries_of}
use Rattle.apages.specs.Bits.{bit_at}
use Rattle.apages.specs.Index.{group_of, index_in, page_at}
use Rattle.card.specs.Files.{InPiece, FileHolds, run_of}

-- "S may reach 65,536"; "T table sectors, 1 to 512; .. D directory sectors, 1 to 64"; "F = T + 2 + 2P + D"; "S must be at least F + 1"
pub record InLimits (g : Geo) : Type 0 where
  pub s_most : g.s ≤ 65536
  pub t_least : 1 ≤ g.t
  pub t_most : g.t ≤ 512
  pub d_least : 1 ≤ g.d
  pub d_most : g.d ≤ 64
  pub s_least : g_f g + 1 ≤ g.s

-- "each 33 to 126"
abbrev pub GoodBytes : List ℕ → Type 0
GoodBytes n = (i : ℕ) → i < length n → (33 ≤ get_or n i 0) × (get_or n i 0 ≤ 126)

-- "Names have 1 to 32 bytes, each 33 to 126"
pub record GoodName (n : List ℕ) : Type 0 where
  pub least : 1 ≤ length n
  pub most : length n ≤ 32
  pub bytes : GoodBytes n

-- ---- parts of a card

-- every entry, by its index
abbrev pub Each : Geo → List ℕ → (List ℕ → Type 0) → Type 0
Each g img Q = (i : ℕ) → i < length (entries_of g (sec img)) → Q (get_or (entries_of g (sec img)) i [])

-- every group of the index, with its number: "the index holds P groups of cc, txc, A, B"
abbrev pub EachGroup : Geo → List ℕ → (ℕ → List ℕ → Type 0) → Type 0
EachGroup g img Q = (p : ℕ) → p < g_p g → Q p (group_of (index_in g (sec img)) p)

-- every stamp: each group has one, and so has every entry
abbrev pub EachStamp : Geo → List ℕ → (Stamp → Type 0) → Type 0
EachStamp g img Q = EachGroup g img (λ p x. Q (stamp_of x)) × Each g img (λ e. Q (stamp_of e))

-- all bytes from `from` on are 0
abbrev pub ZerosFrom : ℕ → List ℕ → Type 0
ZerosFrom from s = (i : ℕ) → from ≤ i → get_or s i 0 ≡ 0

-- "A stamp (cc, txc) is alive when txc is at most table word cc, otherwise dead."
abbrev pub Alive : List ℕ → Stamp → Type 0
Alive tab x = x.txc.0 ≤ get_or tab x.cc.0 0

-- "every cc is below N, every txc at most 2,147,483,647"
abbrev pub Ranged : Geo → Stamp → Type 0
Ranged g x = (x.cc.0 < g_n g) × (x.txc.0 ≤ max_tx)

-- "a dead stamp has cc below C"
abbrev pub DeadBelow : ℕ → List ℕ → Stamp → Type 0
DeadBelow C tab x = ¬ Alive tab x → x.cc.0 < C

-- ---- an entry

-- the words of a version: "state (0 absent, 1 present), start, sectors, bytes". "Sectors = bytes/512 rounded up; a file of 0 bytes has
-- start 0 and sectors 0"
pub record Stored (v : List ℕ) : Type 0 where
  pub state : word_at v 0 ≡ 1
  pub enough : word_at v 12 ≤ 512 * word_at v 8
  pub no_more : 512 * word_at v 8 < word_at v 12 + 512
  pub empty : word_at v 12 ≡ 0 → (word_at v 4 ≡ 0) × (word_at v 8 ≡ 0)

-- "an absent version is four zeros"
abbrev pub FourZeros : List ℕ → Type 0
FourZeros v = (word_at v 0 ≡ 0) × (word_at v 4 ≡ 0) × (word_at v 8 ≡ 0) × (word_at v 12 ≡ 0)

abbrev pub WellFormed : List ℕ → Type 0
WellFormed v = FourZeros v ⊎ Stored v

-- the name in an entry, its length the third word: 1 to 32 bytes, each 33 to 126; "unused name bytes are 0"
pub record Named (p : List ℕ) : Type 0 where
  pub least : 1 ≤ word_at p 8
  pub most : word_at p 8 ≤ 32
  pub bytes : GoodBytes (name_of p)
  pub unused : ZerosFrom (word_at p 8) (name_bytes p)

-- an entry shows a file: its shown version is not absent
abbrev pub ShowsFile : List ℕ → List ℕ → Type 0
ShowsFile tab p = shown tab p ≢ Absent

-- the file that an entry shows holds sector n; an absent one holds none
abbrev pub Holds : List ℕ → List ℕ → ℕ → Type 0
Holds tab p n = FileHolds (run_of (shown tab p)) n

-- a file that an entry shows lies "inside the data": all sectors that it holds do
abbrev pub Inside : Geo → List ℕ → List ℕ → Type 0
Inside g tab p = (n : ℕ) → Holds tab p n → (g_f g ≤ n) × (n < g.s)

-- the pages "cover sectors 4,096p to 4,096p + 4,095, and no run crosses out of one": all sectors of a piece have one page
abbrev pub OnePage : List ℕ → List ℕ → Type 0
OnePage tab p = (q : Piece) → Memᴰ q (pieces_of (run_of (shown tab p))) → (m n : ℕ) → InPiece q m → InPiece q n → m / 4096 ≡ n / 4096

-- some entry's file holds it
abbrev pub Held : Geo → List ℕ → List ℕ → ℕ → Type 0
Held g tab img n = (i : ℕ) × (i < length (entries_of g (sec img))) × Holds tab (get_or (entries_of g (sec img)) i []) n

-- no two entries that are `Here` have one name
abbrev pub NoTwoAlike : Geo → List ℕ → (List ℕ → Type 0) → Type 0
NoTwoAlike g img Here =
    (i j : ℕ) → i < length (entries_of g (sec img)) → j < length (entries_of g (sec img))
    → Here (get_or (entries_of g (sec img)) i []) → Here (get_or (entries_of g (sec img)) j [])
    → name_of (get_or (entries_of g (sec img)) i []) ≡ name_of (get_or (entries_of g (sec img)) j []) → i ≡ j

-- ---- the index and the apages

-- "Pair p is T + 2 + 2p and T + 3 + 2p, stamped by group p": A and B of group p, in either order
abbrev pub AandB : Geo → ℕ → List ℕ → Type 0
AandB g p x =
    ((word_at x 8 ≡ pair_low g p) × (word_at x 12 ≡ pair_high g p)) ⊎ ((word_at x 8 ≡ pair_high g p) × (word_at x 12 ≡ pair_low g p))

-- sector n has to have its bit set: "the bits below F, from S up, and of the sectors of shown files"
abbrev pub Taken : Geo → List ℕ → List ℕ → ℕ → Type 0
Taken g tab img n = (n < g_f g) ⊎ ((g.s ≤ n) ⊎ Held g tab img n)

-- the shown apage of each pair "has set exactly" those bits; "its pages cover sectors 4,096p to 4,096p + 4,095"
abbrev pub Bits : Geo → List ℕ → List ℕ → Type 0
Bits g tab img = (p i : ℕ) → p < g_p g → i < 4096 → (bit_at (page_at g tab (sec img) p) i ≡ 1) ↔ Taken g tab img (4096 * p + i)

-- "each in one file"
abbrev pub OneFile : Geo → List ℕ → List ℕ → Type 0
OneFile g tab img =
    (n i j : ℕ) → i < length (entries_of g (sec img)) → j < length (entries_of g (sec img))
    → Holds tab (get_or (entries_of g (sec img)) i []) n → Holds tab (get_or (entries_of g (sec img)) j []) n → i ≡ j

-- what lies past S in the shown apages is made of bytes: true of every image that is lent
abbrev pub Bytes : Geo → List ℕ → List ℕ → Type 0
Bytes g tab img = (p j : ℕ) → p < g_p g → g.s ≤ 4096 * p + 8 * j → get_or (page_at g tab (sec img) p) j 0 < 256

-- ---- the entry, index and bitmap rules, in the view that takes the table as `tab`

pub record View (g : Geo) (tab img : List ℕ) : Type 0 where
  pub stamps : EachStamp g img (Ranged g)
  pub pair : EachGroup g img (AandB g)
  pub formed : Each g img (λ p. WellFormed (shown_bytes tab p))
  pub names : Each g img (λ p. ShowsFile tab p → Named p)
  pub inside : Each g img (Inside g tab)
  pub in_page : Each g img (OnePage tab)
  pub bits : Bits g tab img
  pub one_file : OneFile g tab img
  pub bytes : Bytes g tab img
  pub index_rest : ZerosFrom (16 * g_p g) (index_in g (sec img))
  pub entry_rest : Each g img (λ p. ZerosFrom 0 (entry_rest p))

-- ---- "A card is sound when all of this holds", of an image of the right shape

-- table word i, in the geometry that the image stores; N; C
abbrev pub word : List ℕ → ℕ → ℕ
word img i = get_or (table_of (geo_of (sec img)) (sec img)) i 0

abbrev pub N : List ℕ → ℕ
N img = g_n (geo_of (sec img))

abbrev pub C : List ℕ → ℕ
C img = count_of (sec img)

abbrev pub G : List ℕ → Geo
G img = geo_of (sec img)

abbrev pub tab : List ℕ → List ℕ
tab img = table_of (geo_of (sec img)) (sec img)

pub record Sound (img : List ℕ) : Type 0 where
  -- "C is at most N; every table word is at most 2,147,483,647; words past C are 0; word C, if C < N, is at most 2,147,483,646"
  pub count : C img ≤ N img
  pub words : (i : ℕ) → i < N img → word img i ≤ max_tx
  pub past : (i : ℕ) → C img < i → i < N img → word img i ≡ 0
  pub word_c : C img < N img → word img (C img) ≤ 2147483646
  -- "every cc is below N, every txc at most 2,147,483,647, and a dead stamp has cc below C"
  pub stamps : EachStamp (G img) img (Ranged (G img))
  pub dead : EachStamp (G img) img (DeadBelow (C img) (tab img))
  -- "Pair p is T + 2 + 2p and T + 3 + 2p", A and B "in either order"
  pub pair : EachGroup (G img) img (AandB (G img))
  -- "every shown version is well formed, shown present files have good names, no two alike, and lie inside the data"
  pub formed : Each (G img) img (λ p. WellFormed (shown_bytes (tab img) p))
  pub names : Each (G img) img (λ p. ShowsFile (tab img) p → Named p)
  pub alone : NoTwoAlike (G img) img (ShowsFile (tab img))
  pub inside : Each (G img) img (Inside (G img) (tab img))
  -- "and no run crosses out of one (such a card is not sound)"
  pub in_page : Each (G img) img (OnePage (tab img))
  -- "the shown apage has set exactly the bits below F, from S up, and of the sectors of shown files, each in one file"
  pub bits : Bits (G img) (tab img) img
  pub one_file : OneFile (G img) (tab img) img
  pub bytes : Bytes (G img) (tab img) img
  -- "The words named above as zero are [judged]": the rest of sector 0, of the index and of each entry
  pub head_rest : ZerosFrom 16 (sec img 0)
  pub index_rest : ZerosFrom (16 * g_p (G img)) (index_in (G img) (sec img))
  pub entry_rest : Each (G img) img (λ p. ZerosFrom 0 (entry_rest p))
