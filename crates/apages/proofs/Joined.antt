-- Two runs of one page changed one after the other are one write of its group and its page: the second change finds the stamp (c, t) and goes to A as it is. Assumes nothing.
use mathlib.Core.Path.{◌≡◌, refl, sym, ap, ◌∙◌}
use mathlib.Core.List.{List}
use mathlib.Core.Logic.{◌≢◌}
use Prim.Native.Nat.{ℕ, suc, ◌+◌, ◌*◌, ◌/◌, ◌%◌, ◌≤◌, ◌<◌}
use native.Mathlib.Omega.{arith}
use borrow.Author.Tests.{eq-eqb}
use lib.ListN.{length, get_or, set}
use Rattle.words.specs.Lists.{part, set_part}
use Rattle.words.proofs.BoolLaws.{join}
use Rattle.words.proofs.SpliceLaws.{splice-own}
use Rattle.sectors.specs.Sectors.{sec, set_sec}
use Rattle.sectors.proofs.SectorLaws.{set_sec-own}
use Rattle.sectors.proofs.FlatLaws.{sec-in}
use Rattle.counts.specs.declared.Geo.{Geo}
use Rattle.counts.specs.declared.Stamp.{Stamp}
use Rattle.counts.specs.declared.Standing.{Standing}
use Rattle.counts.specs.declared.Standing.TheVariants.{Own, Alive, Dead}
use Rattle.counts.specs.Geometry.{g_n, g_p, pair_low, pair_high}
use Rattle.counts.proofs.GeoLaws.{Limits}
use Rattle.counts.specs.Stamps.{max_tx, same_stamp, standing}
use Rattle.apages.specs.declared.Index.{Index}
use Rattle.apages.specs.Bits.{set_run}
use Rattle.apages.proofs.RunLaws.{set_run-length}
use Rattle.apages.specs.Index.{index_of, group_bytes, group_of, index_in, page_at, changed_index, page_before, changed_run, change_run}
use Rattle.apages.proofs.IndexLaws.{changed-stamp}
use Rattle.apages.proofs.PageLaws.{set_sec-twice}
use Rattle.apages.proofs.FrameLaws.{bits-page, group-here}
use Rattle.apages.proofs.IndexViews.{before-shown, between, read_back}
use Rattle.apages.proofs.Remapped.{Paired, paired-wide}

own-stands : (tab : List ℕ) (own : Stamp) → standing tab own own ≡ Own
unfolding standing same_stamp
own-stands tab own = rw (join _ _ (eq-eqb own.cc.0 own.cc.0 refl) (eq-eqb own.txc.0 own.txc.0 refl))

-- a group under the session's own stamp stays as it is
own-index : (st : Standing) (own : Stamp) (x : Index) → changed_index Own own (changed_index st own x) ≡ changed_index st own x
unfolding changed_index
own-index Own own x = refl
own-index Alive own x = refl
own-index Dead own x = refl

module _ (g : Geo) (L : Limits g) (tab : List ℕ) (own : Stamp) (c_n : own.cc.0 < g_n g) (t_m : own.txc.0 ≤ max_tx)
    (hc : own.cc.0 < length tab) (hw : get_or tab own.cc.0 0 + 1 ≡ own.txc.0)
    (a k v b m w : ℕ) (img : List ℕ) (P : Paired g own img) (small : a / 4096 < g_p g) (alike : b / 4096 ≡ a / 4096) where
  abbrev present : List ℕ
  present = set tab own.cc.0 own.txc.0

  abbrev ix : List ℕ
  ix = index_in g (sec img)

  abbrev x : List ℕ
  x = group_of ix (a / 4096)

  abbrev st : Standing
  st = standing present own (index_of x).stamp

  abbrev y : Index
  y = changed_index st own (index_of x)

  abbrev first : List ℕ
  first = change_run g present own a (suc k) v img

  wide : length ix ≡ 512
  unfolding index_in
  wide = sec-in img g.s (g.t + 1) P.sized (omega (arith, L.past, L.dir, L.s_low))

  page : length (sec img (page_before st y)) ≡ 512
  unfolding page_at
  page = rw (before-shown g (a / 4096) small tab own hc hw x (P.stamps (a / 4096) small) (P.pair (a / 4096) small)) (paired-wide g L own img present P (a / 4096) small)

  span : (pair_low g (a / 4096) ≤ y.a.0) × (y.a.0 ≤ pair_high g (a / 4096))
  span = between g (a / 4096) small tab own hc hw x (P.stamps (a / 4096) small) (P.pair (a / 4096) small)

  off : y.a.0 ≢ g.t + 1
  off e = omega (arith, span.0)

  room : 512 * (g.t + 1) + 512 ≤ length img
  room = omega (arith, P.sized, L.past, L.dir, L.s_low)

  there : group_of (index_in g (sec first)) (a / 4096) ≡ group_bytes y
  unfolding index_in
  there = group-here g present own a k v img ix refl wide page off room (omega (arith, L.few))

  again : index_of (group_of (index_in g (sec first)) (b / 4096)) ≡ y
  again = rw (alike, there) (read_back g (a / 4096) small tab own hc hw x (P.stamps (a / 4096) small) (P.pair (a / 4096) small) L c_n t_m)

  same-group : set_part 16 (index_in g (sec first)) (b / 4096) (group_bytes y) ≡ index_in g (sec first)
  unfolding set_part group_of part
  same-group = rw alike (ap (λ (z : List ℕ). set_part 16 (index_in g (sec first)) (a / 4096) z) (sym there) ∙ (unfold set_part group_of part in splice-own (index_in g (sec first)) (16 * (a / 4096)) 16))

  new : List ℕ
  new = set_run (sec img (page_before st y)) (a % 4096) (suc k) v

  at_a : sec first y.a.0 ≡ new
  unfolding new
  at_a = bits-page g present own a k v img ix refl wide page (omega (arith, span.1, P.sized, L.dir_is, L.dir, L.s_low))

  stamp-own : y.stamp ≡ own
  stamp-own = changed-stamp st own (index_of x)

  second : change_run g present own b (suc m) w first ≡ changed_run g Own y b (suc m) w first
  unfolding change_run
  second =
      ap (λ (i : Index). changed_run g (standing present own i.stamp) (changed_index (standing present own i.stamp) own i) b (suc m) w first) again
      ∙ ap (λ (s : Standing). changed_run g s (changed_index s own y) b (suc m) w first) (ap (λ (s : Stamp). standing present own s) stamp-own ∙ own-stands present own)
      ∙ ap (λ (i : Index). changed_run g Own i b (suc m) w first) (own-index st own (index_of x))

  still : set_sec first (g.t + 1) (index_in g (sec first)) ≡ first
  unfolding index_in
  still = set_sec-own first (g.t + 1)

  pub runs-joined : change_run g present own b (suc m) w first
      ≡ set_sec (set_sec img (g.t + 1) (set_part 16 ix (a / 4096) (group_bytes y))) y.a.0 (set_run (set_run (sec img (page_before st y)) (a % 4096) (suc k) v) (b % 4096) (suc m) w)
  unfolding changed_run page_before new
  runs-joined =
      second ∙ (rw (same-group, at_a) (ap (λ (z : List ℕ). set_sec z y.a.0 (set_run new (b % 4096) (suc m) w)) still ∙ last))
    where
      open-first : first ≡ set_sec (set_sec img (g.t + 1) (set_part 16 ix (a / 4096) (group_bytes y))) y.a.0 new
      open-first = unfold change_run changed_run new in refl

      last : set_sec first y.a.0 (set_run new (b % 4096) (suc m) w)
          ≡ set_sec (set_sec img (g.t + 1) (set_part 16 ix (a / 4096) (group_bytes y))) y.a.0 (set_run new (b % 4096) (suc m) w)
      last =
          ap (λ (z : List ℕ). set_sec z y.a.0 (set_run new (b % 4096) (suc m) w)) open-first
          ∙ set_sec-twice _ y.a.0 new (set_run new (b % 4096) (suc m) w) (sym (set_run-length new (b % 4096) (suc m) w))
