-- What a mount that gives 0 leaves fits. Assumes nothing.
use mathlib.Core.Path.{◌≡◌, refl}
use mathlib.Core.Bool.{true, false}
use mathlib.Core.List.{List}
use mathlib.Core.Logic.{⊎_elim}
use Prim.Native.Nat.{ℕ, ◌+◌, ◌*◌, ◌≤◌, ◌<◌}
use native.Mathlib.Omega.{arith}
use borrow.Author.Tests.{leb-true, ltb-true}
use lib.Dec.{leb, ltb}
use lib.ListN.{length, get_or}
use Rattle.words.proofs.BoolLaws.{or_cases}
use Rattle.words.proofs.EveryMore.{every-weaker}
use Rattle.sectors.specs.Sectors.{sec, apply_steps}
use Rattle.counts.specs.declared.Geo.{Geo}
use Rattle.counts.specs.declared.Stamp.{Stamp}
use Rattle.counts.specs.Geometry.{g_n, geo_of, count_of, table_of}
use Rattle.counts.proofs.GeoLaws.{Table, table-inv}
use Rattle.counts.specs.Stamps.{stamp_of, alive, dead_below}
use Rattle.entries.specs.Entries.{entry_ok}
use Rattle.entries.proofs.PassLaws.{passes}
use Rattle.directory.specs.Directory.{entries_of}
use Rattle.apages.specs.Index.{group_of, index_in}
use Rattle.apages.proofs.PassLaws.{index-inv}
use Rattle.card.specs.Sound.{shape_ok, sound}
use Rattle.card.proofs.SoundLaws.{View, view-inv, Sound, sound-inv, shape-inv}
use Rattle.card.proofs.AgreeLaws.{Bump, bump-table, view-agree, entries-agree, index-agree}
use Rattle.card.specs.Reading.{files_in}
use Rattle.session.specs.declared.Opened.{Opened}
use Rattle.session.specs.Fits.{stamp_at_most, entry_at_most}
use Rattle.session.proofs.FitLaws.{Fit, head-intro, at-most-intro, index-most-intro}
use Rattle.store.specs.Steps.{set_count, mount_steps}
use Rattle.store.specs.Mount.{opened_from}
use Rattle.store.specs.Sync.{grown}
use Rattle.store.proofs.StepLaws.{up-length, up-geo, mount-bump}
use Rattle.promises_answers.specs.PlainList.{items}
use Rattle.promises_answers.proofs.Fit.FitCalm.{Rest, rest-fits}
use Rattle.promises_crash.proofs.State.{good-rests}
use Rattle.promises_crash.proofs.Run.MountRun.{mount-card}

-- the session at the card's own word C
abbrev pub at_word : List ℕ → Opened
at_word card =
    record {
      geo = geo_of (sec card);
      c = record { 0 = count_of (sec card) };
      t = record { 0 = get_or (table_of (geo_of (sec card)) (sec card)) (count_of (sec card)) 0 };
      worn = false;
    }

pub opened-is : (card : List ℕ) → opened_from card ≡ grown false (at_word card)
unfolding opened_from grown
opened-is card = refl

-- "a dead stamp has cc below C", so a stamp at C is within word C
within_word : (s : Opened) (T : List ℕ) (x : Stamp) → get_or T s.c.0 0 ≡ s.t.0 → dead_below s.c.0 T x ≡ true → stamp_at_most s x ≡ true
unfolding dead_below alive
within_word s T x w h =
    at-most-intro s x
    (λ e. ⊎_elim (λ q. let z : x.txc.0 ≤ get_or T x.cc.0 0 = leb-true _ _ q in let y : get_or T x.cc.0 0 ≡ s.t.0 = rw e w in omega arith)
    (λ q. let z : x.cc.0 < s.c.0 = ltb-true _ _ q in omega arith) (or_cases (leb x.txc.0 (get_or T x.cc.0 0)) (ltb x.cc.0 s.c.0) h))

module _ (card : List ℕ) (shape : shape_ok card ≡ true) (good : sound card ≡ true) (few : count_of (sec card) < g_n (geo_of (sec card))) where
  abbrev g : Geo
  g = geo_of (sec card)

  abbrev up : List ℕ
  up = set_count (count_of (sec card) + 1) card

  S : Sound g (sec card)
  unfolding sound
  S = sound-inv g (sec card) good

  U : View g (count_of (sec card)) (table_of g (sec card)) (sec card)
  U = view-inv g (count_of (sec card)) (table_of g (sec card)) (sec card) S.view

  sized : length card ≡ 512 * g.s
  sized = (shape-inv card shape).1

  bump : Bump (sec card) (sec up)
  bump = mount-bump card (shape-inv card shape).0 sized few

  tb : table_of g (sec up) ≡ table_of g (sec card)
  tb = bump-table g (sec card) (sec up) bump

  ea : entries_of g (sec up) ≡ entries_of g (sec card)
  ea = entries-agree g (sec card) (sec up) 0 (omega arith) bump.other

  ia : index_in g (sec up) ≡ index_in g (sec card)
  ia = index-agree g (sec card) (sec up) 0 (omega arith) bump.other

  tt-table : Table g (count_of (sec card)) (table_of g (sec card))
  tt-table = table-inv g (count_of (sec card)) (table_of g (sec card)) S.tab

  pub mount-rest : Rest (at_word card) up
  mount-rest =
      record {
        shape = (shape-inv card shape).0;
        count = few;
        sized = up-length card (shape-inv card shape).0 sized few;
        head = head-intro (at_word card) (sec up) (record { count = bump.count; geo = up-geo card (shape-inv card shape).0 sized few; tail = rw bump.tail S.tail });
        word = rw tb;
        max = rw tb tt-table.max;
        past = rw tb tt-table.past;
        view = rw tb (view-agree g (sec card) (sec up) 0 (omega arith) bump.other (count_of (sec card)) (table_of g (sec card)) S.view);
        alone = rw (tb, ea) S.alone;
        stamps = rw ea
            (every-weaker (entry_ok g (count_of (sec card)) (table_of g (sec card))) (entry_at_most (at_word card)) (entries_of g (sec card))
            (λ p h. (unfold entry_at_most in within_word (at_word card) (table_of g (sec card)) (stamp_of p) refl (passes g (count_of (sec card)) (table_of g (sec card)) p h).dead)) U.entries);
        index = rw ia
            (index-most-intro (at_word card) (index_in g (sec card))
            (λ p l. within_word (at_word card) (table_of g (sec card)) (stamp_of (group_of (index_in g (sec card)) p)) refl ((index-inv g (count_of (sec card)) (table_of g (sec card)) (index_in g (sec card)) U.index).groups p l).dead));
      }

  -- the card after mount's step
  pub mount-up : apply_steps (mount_steps card) card ≡ up
  unfolding sound
  mount-up =
      mount-card card _ (items card (files_in g (sec card)))
      (good-rests g card (items card (files_in g (sec card))) (record { sized = sized; geo = refl; ok = (shape-inv card shape).0; good = good; shows = refl })) few

  pub mount-fits : Fit (opened_from card) (apply_steps (mount_steps card) card)
  mount-fits = rw (mount-up, opened-is card) (rest-fits (at_word card) up mount-rest (omega (arith, tt-table.word few)))
