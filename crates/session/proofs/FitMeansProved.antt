-- `fits` holds exactly when every clause of "A session fits a working image" does. Assumes nothing.
use mathlib.Core.Path.{◌≡◌, refl, sym}
use mathlib.Core.Bool.{Bool, true, false}
use mathlib.Core.List.{List, []}
use mathlib.Core.Logic.{◌↔◌}
use Prim.Native.Nat.{ℕ, ◌+◌}
use borrow.Author.Tests.{eqb-true, eq-eqb}
use lib.Dec.{eqb}
use lib.ListN.{get_or}
use Rattle.words.proofs.BoolLaws.{both, join, falsum}
use Rattle.words.proofs.EveryLaws.{every-at, every-all}
use Rattle.sectors.specs.Sectors.{sec}
use Rattle.counts.specs.Geometry.{g_n, table_of}
use Rattle.counts.specs.Stamps.{max_tx, stamp_of, table_in}
use Rattle.directory.specs.Directory.{entries_of}
use Rattle.apages.specs.Index.{group_of, index_in}
use Rattle.card.proofs.MeansParts.{limits-mean, zeros-mean, words-mean, past-means}
use Rattle.card.proofs.MeansProved.{view-says, says-view, alone-means}
use Rattle.session.specs.declared.Opened.{Opened}
use Rattle.session.specs.Views.{present_table, cut_view, cut_table}
use Rattle.session.specs.Fits.{word_ok, entry_at_most, fits}
use Rattle.session.proofs.FitLaws.{fit-inv, fit-intro, head-inv, head-intro, at_most, at-most-intro, index-most, index-most-intro, cut-literal, fit-table}
use Rattle.session.specs.FitMeans.{Fits}

word-says : (b : Bool) (t x : ℕ) → word_ok b t x ≡ true → (b ≡ false → x + 1 ≡ t) × (b ≡ true → (t ≡ max_tx) × (x ≡ max_tx))
unfolding word_ok
word-says true t x h = let (u, v) = both (eqb t max_tx) (eqb x max_tx) h in (λ e. falsum (sym e), λ e. (eqb-true _ _ u, eqb-true _ _ v))
word-says false t x h = (λ e. eqb-true _ _ h, λ e. falsum e)

says-word : (b : Bool) (t x : ℕ) → (b ≡ false → x + 1 ≡ t) → (b ≡ true → (t ≡ max_tx) × (x ≡ max_tx)) → word_ok b t x ≡ true
unfolding word_ok
says-word true t x f g = let (u, v) = g refl in join _ _ (eq-eqb _ _ u) (eq-eqb _ _ v)
says-word false t x f g = eq-eqb _ _ (f refl)

module _ (s : Opened) (work : List ℕ) where
  fits-says : fits s work ≡ true → Fits s work
  unfolding cut_table entry_at_most
  fits-says h =
      let F = fit-inv s work h in
      let H = head-inv s (sec work) F.head in
      let n = fit-table s.geo work F.shape F.sized in
      let (P, D) = view-says s.geo s.c.0 (present_table s (sec work)) work F.shape F.sized F.pres_view in
      let w = word-says s.worn s.t.0 (get_or (table_of s.geo (sec work)) s.c.0 0) F.word in
      let z : table_in s.geo (cut_view s) (sec work) ≡ table_of s.geo (sec work) = cut-literal s (sec work) n F.word in
      record {
        limits = (limits-mean s.geo).0 F.shape;
        c = F.count;
        t_least = F.low;
        t_most = F.tx;
        sized = F.sized;
        count = H.count;
        geo = H.geo;
        head_rest = (zeros-mean 16 (sec work 0)).0 H.tail;
        word_c = w.0;
        worn_c = w.1;
        words = (words-mean (g_n s.geo) (table_of s.geo (sec work)) n).0 F.max;
        past = (past-means (g_n s.geo) (table_of s.geo (sec work)) n s.c.0).0 F.past;
        present = P;
        cut = rw z (view-says s.geo (g_n s.geo) (table_of s.geo (sec work)) work F.shape F.sized F.cut_view).0;
        alone = rw z ((alone-means (present_table s (sec work)) (table_of s.geo (sec work)) s.geo work).0 F.alone);
        dead = D;
        at_c = (
          λ p l. at_most s (stamp_of (group_of (index_in s.geo (sec work)) p)) (index-most s (index_in s.geo (sec work)) F.index p l),
          λ i l. at_most s (stamp_of (get_or (entries_of s.geo (sec work)) i [])) (every-at (entry_at_most s) (entries_of s.geo (sec work)) i [] l F.stamps),
        );
      }

  says-fits : Fits s work → fits s work ≡ true
  unfolding cut_table entry_at_most
  says-fits F =
      let ok = (limits-mean s.geo).1 F.limits in
      let n = fit-table s.geo work ok F.sized in
      let w = says-word s.worn s.t.0 (get_or (table_of s.geo (sec work)) s.c.0 0) F.word_c F.worn_c in
      let z : table_in s.geo (cut_view s) (sec work) ≡ table_of s.geo (sec work) = cut-literal s (sec work) n w in
      fit-intro s work
      (record {
        shape = ok;
        count = F.c;
        low = F.t_least;
        tx = F.t_most;
        sized = F.sized;
        head = head-intro s (sec work) (record { count = F.count; geo = F.geo; tail = (zeros-mean 16 (sec work 0)).1 F.head_rest });
        word = w;
        max = (words-mean (g_n s.geo) (table_of s.geo (sec work)) n).1 F.words;
        past = (past-means (g_n s.geo) (table_of s.geo (sec work)) n s.c.0).1 F.past;
        pres_view = says-view s.geo s.c.0 (present_table s (sec work)) work ok F.sized F.present F.dead;
        -- every stamp has cc below N
        cut_view = says-view s.geo (g_n s.geo) (table_of s.geo (sec work)) work ok F.sized (rw z at F.cut)
            (λ p l o. (F.cut.stamps.0 p l).0, λ i l o. (F.cut.stamps.1 i l).0);
        alone = (alone-means (present_table s (sec work)) (table_of s.geo (sec work)) s.geo work).1 (rw z at F.alone);
        stamps = every-all (entry_at_most s) (entries_of s.geo (sec work)) [] (λ i l. at-most-intro s (stamp_of (get_or (entries_of s.geo (sec work)) i [])) (F.at_c.1 i l));
        index = index-most-intro s (index_in s.geo (sec work)) (λ p l. at-most-intro s (stamp_of (group_of (index_in s.geo (sec work)) p)) (F.at_c.0 p l));
      })

  -- a session fits exactly when all of this holds
  pub fits-mean : (fits s work ≡ true) ↔ Fits s work
  fits-mean = (fits-says, says-fits)
