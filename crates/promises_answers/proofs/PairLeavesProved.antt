-- What PairLeaves states, proved. Assumes nothing.
use mathlib.Core.Path.{◌≡◌, refl, sym, ◌∙◌}
use mathlib.Core.Bool.{true}
use mathlib.Core.List.{List, []}
use mathlib.Core.Logic.{⊎_elim}
use Prim.Native.Nat.{ℕ, ◌<◌}
use native.Mathlib.Omega.{arith}
use borrow.Author.Tests.{le-leb, lt-leb}
use lib.ListN.{length, get_or}
use Rattle.sectors.specs.Sectors.{sec}
use Rattle.counts.specs.declared.Geo.{Geo}
use Rattle.counts.specs.Geometry.{g_p}
use Rattle.counts.specs.Stamps.{stamp_of, alive, showing}
use Rattle.counts.proofs.StampLaws.{now-new, cut-old}
use Rattle.entries.specs.declared.Version.{Version}
use Rattle.entries.specs.declared.Version.TheVariants.{Absent, Present}
use Rattle.entries.specs.Entries.{sectors_for}
use Rattle.apages.specs.Index.{pair_ok, shown_page}
use Rattle.apages.proofs.PassLaws.{Pair, pair_values}
use Rattle.apages.proofs.IndexViews.{IdxSame}
use Rattle.card.specs.Means.{Alive}
use Rattle.session.specs.declared.Opened.{Opened}
use Rattle.session.specs.Views.{own_stamp, cut_table}
use Rattle.session.proofs.FitLaws.{present-live}
use Rattle.store.specs.Edit.{put_run, put_work, edit_work, remove_work}
use Rattle.promises_answers.proofs.Ready.{own_of, tc_of, tp_of, hc, hw, paired, Ready, old-page}
use Rattle.promises_answers.proofs.Change.{index_same, stamped-now, page-kept}
use Rattle.promises_answers.proofs.Calls.{put-ready, remove-ready}
use Rattle.promises_answers.specs.Untouched.{Changes}
use Rattle.promises_answers.proofs.BitsNow.{changes-runs}
use Rattle.promises_answers.specs.PairLeaves.{group, A, B, PairLeaves, PutPairs, RemovePairs}

-- two orders of one pair
both-same : (g : Geo) (q a b a' b' : ℕ) → Pair g q a b → Pair g q a' b' → b' ≡ b → a' ≡ a
both-same g q a b a' b' u w e =
    ⊎_elim (λ x. ⊎_elim (λ y. omega (arith, x.0, y.0)) (λ y. absurd (omega (arith, x.1, y.1))) w)
    (λ x. ⊎_elim (λ y. absurd (omega (arith, x.1, y.1))) (λ y. omega (arith, x.0, y.0)) w) u

both-other : (g : Geo) (q a b a' b' : ℕ) → Pair g q a b → Pair g q a' b' → b' ≡ a → a' ≡ b
both-other g q a b a' b' u w e =
    ⊎_elim (λ x. ⊎_elim (λ y. absurd (omega (arith, x.0, y.1))) (λ y. omega (arith, x.1, y.0)) w)
    (λ x. ⊎_elim (λ y. omega (arith, x.1, y.0)) (λ y. absurd (omega (arith, x.0, y.1))) w) u

-- the page that a view shows
shown-live : (tab x : List ℕ) → Alive tab (stamp_of x) → shown_page tab x ≡ A x
unfolding shown_page showing alive
shown-live tab x h = rw (le-leb (stamp_of x).txc.0 (get_or tab (stamp_of x).cc.0 0) h)

shown-dead : (tab x : List ℕ) → ¬ Alive tab (stamp_of x) → shown_page tab x ≡ B x
unfolding shown_page showing alive
shown-dead tab x h = rw (lt-leb (stamp_of x).txc.0 (get_or tab (stamp_of x).cc.0 0) (omega (arith, h)))

module _ (s : Opened) (j a k : ℕ) (v : Version) (work n d : List ℕ) (R : Ready s j a k v work n d (sec work)) (q : ℕ) (l : q < g_p s.geo) where
  abbrev after : List ℕ
  after = edit_work s j v work n d

  abbrev x : List ℕ
  x = group s work q

  abbrev y : List ℕ
  y = group s after q

  same : IdxSame s.geo q (tc_of s work) (own_of s) x y
  same = (index_same s j a k v work n d (sec work) R).groups q l

  pair-x : pair_ok s.geo q (A x) (B x) ≡ true
  pair-x = (paired s work R.fit R.live).pair q l

  px : Pair s.geo q (A x) (B x)
  px = pair_values s.geo q (A x) (B x) pair-x

  py : Pair s.geo q (A y) (B y)
  py = pair_values s.geo q (A y) (B y) (same.pair ∙ pair-x)

  -- a group with the session's stamp: the cut view shows B, the present view A
  own-cut : (z : List ℕ) → stamp_of z ≡ own_of s → shown_page (tc_of s work) z ≡ B z
  unfolding shown_page
  own-cut z e = rw e (cut-old (tc_of s work) (own_of s) (hc s work R.fit R.live) (hw s work R.fit R.live) (A z) (B z))

  own-now : (z : List ℕ) → stamp_of z ≡ own_of s → shown_page (tp_of s work) z ≡ A z
  unfolding shown_page
  own-now z e = rw e (now-new (tc_of s work) (own_of s) (hc s work R.fit R.live) (hw s work R.fit R.live) (A z) (B z))

  -- B is the page that the cut view showed
  back : stamp_of y ≡ own_of s → B y ≡ shown_page (tc_of s work) x
  back e = sym (own-cut y e) ∙ same.page

  unmoved : B y ≡ B x → (A y ≡ A x) × (B y ≡ B x)
  unmoved e = (both-same s.geo q (A x) (B x) (A y) (B y) px py e, e)

  pair-leaves : stamp_of y ≡ own_of s → PairLeaves s work after q
  unfolding own_stamp cut_table
  pair-leaves e =
      record {
        stamp = e;
        mine = λ o. unmoved (back e ∙ own-cut x o);
        trade = λ o h. let b : B y ≡ A x = back e ∙ shown-live (tc_of s work) x h in (both-other s.geo q (A x) (B x) (A y) (B y) px py b, b);
        stay = λ h. unmoved (back e ∙ shown-dead (tc_of s work) x h);
        shows = rw (present-live s (sec work) R.live) (own-now y e);
        kept = rw (back e) (page-kept s j a k v work n d (sec work) R q l);
      }

  edit-pairs : Changes s work j v q → PairLeaves s work after q
  edit-pairs c = pair-leaves (stamped-now s j a k v work n d (sec work) R q l (changes-runs s work j a k v R.live R.is q R.page (old-page s j a k v work n d (sec work) R) c))

pub put-pairs : PutPairs
unfolding put_work
put-pairs s work n d goal j a h q l c =
    edit-pairs s j a.0 (sectors_for (length d)) (Present (put_run a d)) work n d (put-ready s work (sec work) refl n d goal j a h) q l c

pub remove-pairs : RemovePairs
unfolding remove_work
remove-pairs s work n j a h q l c = edit-pairs s j 0 0 Absent work n [] (remove-ready s work (sec work) refl n j a h) q l c
