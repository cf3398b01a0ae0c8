-- A count put into sector 0 and a word put into the table: what each sector and each number is then. Assumes nothing.
use mathlib.Core.Path.{◌≡◌, sym, ap, ◌∙◌}
use mathlib.Core.Logic.{◌≢◌}
use mathlib.Core.Bool.{true}
use mathlib.Core.List.{List}
use Prim.Native.Nat.{ℕ, ◌+◌, ◌*◌, ◌/◌, ◌%◌, ◌^◌, ◌≤◌, ◌<◌}
use native.Mathlib.Omega.{arith}
use native.Mathlib.Decide.{ℕ_discrete, dec_lt}
use lib.ListN.{length, drop, get_or, set, length-set}
use lib.Seq.{ext_get_or, get_or-set_same, get_or-set_other}
use Rattle.words.specs.Lists.{splice}
use Rattle.words.specs.Bytes.{word_at, word_bytes}
use Rattle.words.proofs.SpliceLaws.{splice-length, drop-after}
use Rattle.words.proofs.WordLaws.{word_bytes-length, word_same, word-before, word_after}
use Rattle.sectors.specs.Sectors.{sec}
use Rattle.sectors.proofs.FlatLaws.{sec-in, inside-here, inside-other}
use Rattle.counts.specs.declared.Geo.{Geo}
use Rattle.counts.specs.Geometry.{g_n, geo_ok, geo_of, count_of, table_of}
use Rattle.counts.proofs.GeoLaws.{geo-eq, limits}
use Rattle.counts.specs.Inner.{LaidOut}
use Rattle.counts.proofs.TableLaws.{ok-laid, table-length, table_at}
use Rattle.card.proofs.AgreeLaws.{Bump}
use Rattle.store.specs.Steps.{set_count, set_word, table_sector}

-- ---- the count

module _ (C S : ℕ) (img : List ℕ) (small : C < 2 ^ 32) (l : length img ≡ 512 * S) (pos : 0 < S) where
  pub count-length : length (set_count C img) ≡ 512 * S
  unfolding set_count
  count-length = splice-length img 0 (word_bytes C) ∙ l

  pub count-other : (i : ℕ) → i ≢ 0 → sec (set_count C img) i ≡ sec img i
  unfolding set_count
  count-other i o = inside-other img 0 0 (word_bytes C) (omega (arith, word_bytes-length C)) i o

  pub count-here : sec (set_count C img) 0 ≡ splice (sec img 0) 0 (word_bytes C)
  unfolding set_count
  count-here = inside-here img 0 0 (word_bytes C) (omega (arith, word_bytes-length C))

  wide : length (sec img 0) ≡ 512
  wide = sec-in img S 0 l pos

  pub count-count : count_of (sec (set_count C img)) ≡ C
  unfolding count_of
  count-count = ap (λ (x : List ℕ). word_at x 0) count-here ∙ word_same (sec img 0) 0 C (omega (arith, wide)) small

  word-past : (i : ℕ) → 4 ≤ i → word_at (sec (set_count C img) 0) i ≡ word_at (sec img 0) i
  word-past i h = ap (λ (x : List ℕ). word_at x i) count-here ∙ word_after (sec img 0) 0 (word_bytes C) i (omega (arith, word_bytes-length C))

  pub count-geo : geo_of (sec (set_count C img)) ≡ geo_of (sec img)
  unfolding geo_of
  count-geo = geo-eq _ _ (word-past 4 (omega arith)) (word-past 8 (omega arith)) (word-past 12 (omega arith))

  pub count-tail : drop 16 (sec (set_count C img) 0) ≡ drop 16 (sec img 0)
  count-tail = ap (drop 16) count-here ∙ drop-after (sec img 0) 0 (word_bytes C) 16 (omega (arith, word_bytes-length C))

-- mount's step: the count goes up, and nothing else changes
module _ (card : List ℕ) (ok : geo_ok (geo_of (sec card)) ≡ true) (l : length card ≡ 512 * (geo_of (sec card)).s) (few : count_of (sec card) < g_n (geo_of (sec card))) where
  abbrev up : List ℕ
  up = set_count (count_of (sec card) + 1) card

  some : 0 < (geo_of (sec card)).s
  some = omega (arith, (limits (geo_of (sec card)) ok).s_low, (limits (geo_of (sec card)) ok).past, (limits (geo_of (sec card)) ok).dir)

  next_small : count_of (sec card) + 1 < 2 ^ 32
  unfolding g_n
  next_small = omega (arith, few, (limits (geo_of (sec card)) ok).t_high)

  pub up-length : length up ≡ 512 * (geo_of (sec card)).s
  up-length = count-length (count_of (sec card) + 1) (geo_of (sec card)).s card next_small l some

  pub up-geo : geo_of (sec up) ≡ geo_of (sec card)
  up-geo = count-geo (count_of (sec card) + 1) (geo_of (sec card)).s card next_small l some

  pub mount-bump : Bump (sec card) (sec up)
  mount-bump =
      record {
        count = count-count (count_of (sec card) + 1) (geo_of (sec card)).s card next_small l some;
        tail = count-tail (count_of (sec card) + 1) (geo_of (sec card)).s card next_small l some;
        other = count-other (count_of (sec card) + 1) (geo_of (sec card)).s card next_small l some;
      }

-- ---- a word of the table

module _ (g : Geo) (c t : ℕ) (img : List ℕ) (ok : geo_ok g ≡ true) (l : length img ≡ 512 * g.s) (hc : c < g_n g) (small : t < 2 ^ 32) where
  pub word-length : length (set_word c t img) ≡ 512 * g.s
  unfolding set_word
  word-length = splice-length img (512 + 4 * c) (word_bytes t) ∙ l

  pub word-other : (i : ℕ) → i ≢ table_sector c → sec (set_word c t img) i ≡ sec img i
  unfolding set_word table_sector
  word-other i o =
      let e : 512 + 4 * c ≡ 512 * (1 + c / 128) + 4 * (c % 128) = omega arith in
      rw e (inside-other img (1 + c / 128) (4 * (c % 128)) (word_bytes t) (omega (arith, word_bytes-length t)) i o)

  pub table-sector : (1 ≤ table_sector c) × (table_sector c ≤ g.t)
  unfolding table_sector g_n
  table-sector = (omega arith, omega (arith, hc))

  now-laid : LaidOut g (set_word c t img)
  now-laid = ok-laid g (set_word c t img) ok word-length

  was-laid : LaidOut g img
  was-laid = ok-laid g img ok l

  -- word c is t, and every other word is as it was
  at-now : (cc : ℕ) → cc < 128 * g.t → word_at (set_word c t img) (512 + 4 * cc) ≡ get_or (set (table_of g (sec img)) c t) cc 0
  unfolding set_word g_n
  at-now cc h = go (ℕ_discrete cc c)
    where
      go : Dec (cc ≡ c) → word_at (splice img (512 + 4 * c) (word_bytes t)) (512 + 4 * cc) ≡ get_or (set (table_of g (sec img)) c t) cc 0
      go (yes e) =
          rw e (word_same img (512 + 4 * c) t (omega (arith, was-laid.room, was-laid.past, was-laid.dir, hc)) small
          ∙ sym (get_or-set_same (table_of g (sec img)) c t 0 (omega (arith, hc, table-length g img was-laid))))
      go (no o) = side (dec_lt cc c) ∙ sym (table_at g img was-laid cc h) ∙ sym (get_or-set_other (table_of g (sec img)) c cc t 0 o)
        where
          side : Dec (cc < c) → word_at (splice img (512 + 4 * c) (word_bytes t)) (512 + 4 * cc) ≡ word_at img (512 + 4 * cc)
          side (yes a) = word-before img (512 + 4 * c) (word_bytes t) (512 + 4 * cc) (omega arith)
          side (no a) = word_after img (512 + 4 * c) (word_bytes t) (512 + 4 * cc) (omega (arith, word_bytes-length t))

  pub word-table : table_of g (sec (set_word c t img)) ≡ set (table_of g (sec img)) c t
  word-table =
      ext_get_or 0 (table_of g (sec (set_word c t img))) (set (table_of g (sec img)) c t)
      (table-length g (set_word c t img) now-laid ∙ sym (length-set (table_of g (sec img)) c t ∙ table-length g img was-laid))
      (λ cc h. let b : cc < 128 * g.t = omega (arith, table-length g (set_word c t img) now-laid) in table_at g (set_word c t img) now-laid cc b ∙ at-now cc b)
