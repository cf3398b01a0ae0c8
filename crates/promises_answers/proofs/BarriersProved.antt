-- What Barriers states, proved. Assumes nothing.
use mathlib.Core.Path.{◌≡◌, refl, sym, ap, ◌∙◌}
use mathlib.Core.Bool.{Bool, true, false}
use mathlib.Core.List.{List, [], ◌∷◌}
use Prim.Native.Nat.{ℕ, zero, suc, ◌+◌}
use native.Mathlib.Nat.{add-suc, suc-add}
use native.Mathlib.Numerals.{add-one}
use native.Mathlib.Omega.{arith}
use Rattle.words.specs.Lists.{eq_list}
use Rattle.sectors.specs.Sectors.{sec, Step, write, settle, unless, diff_steps, writes_in}
use Rattle.counts.specs.Geometry.{count_of}
use Rattle.session.specs.declared.Opened.{Opened}
use Rattle.store.specs.Steps.{set_count, set_word, table_sector, past_table, table_steps, mount_steps, sync_steps, at_top, down_steps, unmount_steps_by, unmount_steps}
use Rattle.promises_answers.specs.Barriers.{barriers_from, barriers, copies}

-- the writes of some steps, in their order
unfoldable pub writes_of : List Step → List Step
writes_of [] = []
writes_of (write i x ∷ r) = write i x ∷ writes_of r
writes_of (settle ∷ r) = writes_of r

-- the last write of a sync: "the table sector that holds" word c
abbrev pub table_write : Opened → List ℕ → Step
table_write s work = write (table_sector s.c.0) (sec (set_word s.c.0 s.t.0 work) (table_sector s.c.0))

-- ---- mount: "The count C + 1 of mount has landed before anything else of the session."

pub mount-writes : (card : List ℕ) → writes_of (mount_steps card) ≡ write 0 (sec (set_count (count_of (sec card) + 1) card) 0) ∷ []
unfolding writes_of mount_steps
mount-writes card = refl

pub mount-barriers : (card : List ℕ) → barriers (mount_steps card) ≡ 1 ∷ []
unfolding barriers_from mount_steps
mount-barriers card = refl

-- ---- sync: "Every other sector holds its newest value before sync writes the table sector, and the table has landed before unmount writes sector 0."

diff-writes : (card img : List ℕ) (i n : ℕ) (r : List Step) → writes_of (diff_steps card img i n r) ≡ diff_steps card img i n (writes_of r)
unfolding diff_steps
diff-writes card img i zero r = refl
diff-writes card img i (suc n) r = by (eq_list (sec card i) (sec img i)) (diff-writes card img (suc i) n r)
  where
    by : (b : Bool) → writes_of (diff_steps card img (suc i) n r) ≡ diff_steps card img (suc i) n (writes_of r)
        → writes_of (unless b (write i (sec img i)) (diff_steps card img (suc i) n r)) ≡ unless b (write i (sec img i)) (diff_steps card img (suc i) n (writes_of r))
    by true h = unfold unless in h
    by false h = unfold unless writes_of in ap (λ (l : List Step). write i (sec img i) ∷ l) h

diff-barriers : (card img : List ℕ) (i n k : ℕ) (r : List Step) → barriers_from k (diff_steps card img i n r) ≡ barriers_from (k + writes_in (diff_steps card img i n [])) r
unfolding diff_steps writes_in
diff-barriers card img i zero k r = let e : k + 0 ≡ k = omega arith in rw e
diff-barriers card img i (suc n) k r = by (eq_list (sec card i) (sec img i)) (λ m. diff-barriers card img (suc i) n m r)
  where
    by : (b : Bool) → ((m : ℕ) → barriers_from m (diff_steps card img (suc i) n r) ≡ barriers_from (m + writes_in (diff_steps card img (suc i) n [])) r)
        → barriers_from k (unless b (write i (sec img i)) (diff_steps card img (suc i) n r)) ≡ barriers_from (k + writes_in (unless b (write i (sec img i)) (diff_steps card img (suc i) n []))) r
    by true h = unfold unless in h k
    by false h = unfold unless barriers_from writes_in in (h (suc k) ∙ ap (λ (m : ℕ). barriers_from m r) (suc-add k _ ∙ sym (add-suc k _)))

write-barriers : (n i : ℕ) (x : List ℕ) (r : List Step) → barriers_from n (settle ∷ write i x ∷ settle ∷ r) ≡ n ∷ (n + 1) ∷ barriers_from (n + 1) r
unfolding barriers_from
write-barriers n i x r = rw (add-one n)

module _ (s : Opened) (card work : List ℕ) (r : List Step) where
  pub sync-writes : writes_of (sync_steps s card work r) ≡ diff_steps card work 0 1 (diff_steps card work (s.geo.t + 1) (past_table s) (table_write s work ∷ writes_of r))
  unfolding sync_steps
  sync-writes =
      diff-writes card work 0 1 _
      ∙ ap (diff_steps card work 0 1) (diff-writes card work (s.geo.t + 1) (past_table s) _ ∙ ap (diff_steps card work (s.geo.t + 1) (past_table s)) rest)
    where
      rest : writes_of (table_steps s work r) ≡ table_write s work ∷ writes_of r
      rest = unfold writes_of in refl

  -- one behind the copies, one behind the table sector, and those of what follows
  pub sync-barriers : barriers (sync_steps s card work r) ≡ copies s card work ∷ (copies s card work + 1) ∷ barriers_from (copies s card work + 1) r
  unfolding sync_steps
  sync-barriers =
      diff-barriers card work 0 1 0 _ ∙ diff-barriers card work (s.geo.t + 1) (past_table s) (0 + writes_in (diff_steps card work 0 1 [])) _
      ∙ ap (λ (n : ℕ). barriers_from n (table_steps s work r)) e ∙ write-barriers (copies s card work) _ _ r
    where
      e : 0 + writes_in (diff_steps card work 0 1 []) + writes_in (diff_steps card work (s.geo.t + 1) (past_table s) []) ≡ copies s card work
      e = omega arith

-- ---- unmount: sync's, and no other

-- the write behind the sync: sector 0, unless the session becomes worn
abbrev pub down_writes : Opened → List ℕ → List Step
down_writes s work = down_steps (at_top s) s (set_word s.c.0 s.t.0 work)

down-none : (b : Bool) (s : Opened) (work : List ℕ) (n : ℕ) → barriers_from n (down_steps b s work) ≡ []
unfolding down_steps barriers_from
down-none true s work n = refl
down-none false s work n = refl

pub unmount-barriers : (s : Opened) (card work : List ℕ) → s.worn ≡ false → barriers (unmount_steps s card work) ≡ copies s card work ∷ (copies s card work + 1) ∷ []
unfolding unmount_steps unmount_steps_by
unmount-barriers s card work live =
    ap (λ (b : Bool). barriers (unmount_steps_by b s card work)) live ∙ sync-barriers s card work (down_writes s work)
    ∙ ap (λ (l : List ℕ). copies s card work ∷ (copies s card work + 1) ∷ l) (down-none (at_top s) s (set_word s.c.0 s.t.0 work) (copies s card work + 1))

-- a worn session's unmount takes no step
pub worn-barriers : (s : Opened) (card work : List ℕ) → s.worn ≡ true → unmount_steps s card work ≡ []
unfolding unmount_steps unmount_steps_by
worn-barriers s card work w = ap (λ (b : Bool). unmount_steps_by b s card work) w
