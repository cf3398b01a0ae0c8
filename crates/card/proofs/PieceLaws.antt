-- The pieces of a file: those that hold a sector, counted; their bytes; and what they are for a file in one run. Assumes nothing.
use mathlib.Core.Path.{◌≡◌, refl, ap, ◌∙◌}
use mathlib.Core.List.Memᴰ
use mathlib.Core.List.{List, [], ◌∷◌, append-nil, Memᴰ}
use mathlib.Core.Logic.{⊎_elim, ◌↔◌}
use Prim.Native.Nat.{ℕ, ◌+◌, ◌*◌, ◌≤◌, ◌<◌}
use native.Mathlib.Omega.{arith}
use lib.ListN.{take, drop}
use lib.Seq.{take-take}
use Rattle.words_sums.specs.Sums.{in_run}
use Rattle.words_sums.proofs.SumLaws.{place}
use Rattle.sectors.specs.Sectors.{sec}
use Rattle.sectors.proofs.FlatLaws.{flat-same}
use Rattle.entries.specs.declared.Run.{Run}
use Rattle.entries.specs.Entries.{Piece, pieces_of}
use Rattle.card.specs.Files.{InPiece, FileHolds, in_pieces, holds_at, pieces_in, content_of}

-- ---- any number of pieces

pub in-run : (a n i : ℕ) → a ≤ i → i < a + n → in_run a n i ≡ 1
in-run a n i lo hi = ⊎_elim (λ w. absurd (omega arith)) (⊎_elim (λ w. w.2) (λ w. absurd (omega arith))) (place a n i)

pub out-run : (a n i : ℕ) → ¬ ((a ≤ i) × (i < a + n)) → in_run a n i ≡ 0
out-run a n i o = ⊎_elim (λ w. w.1) (⊎_elim (λ w. absurd (o (w.0, w.1))) (λ w. w.2)) (place a n i)

-- a piece that holds a sector is counted
piece-counts : (q : Piece) (n : ℕ) (qs : List Piece) → Memᴰ q qs → InPiece q n → 1 ≤ in_pieces qs n
unfolding in_pieces
piece-counts q n [] m h = elim m [ ]
piece-counts q n (x ∷ qs) (Memᴰ.head e) h = rw (← e) (omega (arith, in-run q.at q.count n h.0 h.1))
piece-counts q n (x ∷ qs) (Memᴰ.tail m) h = omega (arith, piece-counts q n qs m h)

-- and where one is counted, some piece holds the sector
counted-piece : (n : ℕ) (qs : List Piece) → 1 ≤ in_pieces qs n → (q : Piece) × Memᴰ q qs × InPiece q n
unfolding in_pieces
counted-piece n [] h = absurd (omega arith)
counted-piece n (x ∷ qs) h =
    let later : in_run x.at x.count n ≡ 0 → (q : Piece) × Memᴰ q (x ∷ qs) × InPiece q n =
    λ z. let w = counted-piece n qs (omega arith) in (w.0, Memᴰ.tail w.1, w.2) in
    ⊎_elim (λ w. later w.1) (⊎_elim (λ w. (x, Memᴰ.head refl, (w.0, w.1))) (λ w. later w.2)) (place x.at x.count n)

-- a file holds the sectors at which its pieces are counted
pub holds-count : (r : Run) (n : ℕ) → FileHolds r n ↔ (1 ≤ holds_at r n)
unfolding holds_at
holds-count r n = (λ h. piece-counts h.0 n (pieces_of r) h.1 h.2, λ h. counted-piece n (pieces_of r) h)

-- pieces are the same where their sectors are
pieces-same : (a b : List ℕ) (qs : List Piece) → ((q : Piece) → Memᴰ q qs → (j : ℕ) → InPiece q j → sec a j ≡ sec b j) → pieces_in a qs ≡ pieces_in b qs
unfolding pieces_in
pieces-same a b [] h = refl
pieces-same a b (q ∷ qs) h =
    rw (flat-same a b q.count q.at (λ j lo hi. h q (Memᴰ.head refl) j (lo, hi)), pieces-same a b qs (λ x m. h x (Memᴰ.tail m)))

-- a file's content is the same where its sectors are
pub content-same : (a b : List ℕ) (r : Run) → ((j : ℕ) → FileHolds r j → sec a j ≡ sec b j) → content_of a r ≡ content_of b r
unfolding content_of
content-same a b r h = ap (λ (x : List ℕ). take r.bytes x) (pieces-same a b (pieces_of r) (λ q m j i. h j (q, m, i)))

-- ---- a file in one run

-- what one piece holds
one_piece : (x : Piece) (n : ℕ) → ((q : Piece) × Memᴰ q (x ∷ []) × InPiece q n) ↔ InPiece x n
one_piece x n = (λ h. go h.0 h.1 h.2, λ h. (x, Memᴰ.head refl, h))
  where
    go : (q : Piece) → Memᴰ q (x ∷ []) → InPiece q n → InPiece x n
    go q (Memᴰ.head e) h = rw e at h
    go q (Memᴰ.tail m) h = absurd (Memᴰ.not-nil m)

pub holds-run : (r : Run) (n : ℕ) → FileHolds r n ↔ ((r.start.0 ≤ n) × (n < r.start.0 + r.sectors))
unfolding pieces_of
holds-run r n = one_piece (record { at = r.start.0; count = r.sectors }) n

pub count-run : (r : Run) (n : ℕ) → holds_at r n ≡ in_run r.start.0 r.sectors n
unfolding holds_at in_pieces pieces_of
count-run r n = omega arith

pub run-bytes : (img : List ℕ) (r : Run) → pieces_in img (pieces_of r) ≡ take (512 * r.sectors) (drop (512 * r.start.0) img)
unfolding pieces_in pieces_of
run-bytes img r = append-nil (take (512 * r.sectors) (drop (512 * r.start.0) img))

-- the content of a file whose sectors are enough for its bytes: the bytes from its start on
pub content-run : (img : List ℕ) (r : Run) → r.bytes ≤ 512 * r.sectors → content_of img r ≡ take r.bytes (drop (512 * r.start.0) img)
unfolding content_of
content-run img r h = ap (λ (x : List ℕ). take r.bytes x) (run-bytes img r) ∙ take-take r.bytes (512 * r.sectors) (drop (512 * r.start.0) img) h
