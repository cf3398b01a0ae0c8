-- What the tests of a view, of names and of a whole card mean: `sound` holds exactly when every clause does. Assumes nothing.
use mathlib.Core.Path.{◌≡◌, refl}
use mathlib.Core.Bool.{Bool, true, false, not, ◌||◌}
use mathlib.Core.List.{List, [], ◌∷◌}
use mathlib.Core.Logic.{◌⊎◌, inl, ⊎_elim, ◌≢◌, ◌↔◌}
use Prim.Native.Nat.{ℕ, suc, ◌*◌, ◌<◌}
use native.Mathlib.Omega.{arith}
use lib.ListN.{length, get_or}
use Rattle.words.specs.Lists.{pairwise, eq_list}
use Rattle.words.specs.Bytes.{word_at}
use Rattle.words.proofs.BoolLaws.{join}
use Rattle.words.proofs.EveryLaws.{every-at, every-all}
use Rattle.words.proofs.EveryMore.{eq_list-eq}
use Rattle.sectors.specs.Sectors.{sec}
use Rattle.sectors.proofs.FlatLaws.{sec-in}
use Rattle.counts.specs.declared.Geo.{Geo}
use Rattle.counts.specs.Geometry.{g_n, g_p, geo_ok, geo_of, count_of, table_of}
use Rattle.counts.proofs.GeoLaws.{Limits, limits}
use Rattle.counts.proofs.TableLaws.{ok-laid, table-length}
use Rattle.entries.specs.declared.Version.TheVariants.{Absent}
use Rattle.entries.specs.Entries.{name_of, shown, entry_ok}
use Rattle.directory.specs.Directory.{entries_of, gone, apart}
use Rattle.directory.proofs.NameLaws.{gone-false, here-gone, one_entry}
use Rattle.apages.specs.Index.{group_of, index_in, pair_ok, shown_page, page_at}
use Rattle.apages.proofs.PassLaws.{pair_values, pair-intro, index-inv, index-intro, shown-before}
use Rattle.apages.proofs.MapLaws.{Wide}
use Rattle.card.specs.Sound.{view_ok, sound}
use Rattle.card.proofs.SoundLaws.{view-inv, view-intro, sound-inv, sound-intro}
use Rattle.card.specs.Means.{InLimits, EachStamp, DeadBelow, NoTwoAlike, View, Sound}
use Rattle.card.proofs.MeansParts.{limits-mean, zeros-mean, stamp-means, dead-means, table-means, EntrySays, entry-means}
use Rattle.card.proofs.MeansBits.{page-says, page-bytes, says-page}

-- ---- a view

module _ (g : Geo) (bound : ℕ) (tab img : List ℕ) (ok : geo_ok g ≡ true) (sized : length img ≡ 512 * g.s) where
  abbrev ix : List ℕ
  ix = index_in g (sec img)

  page-wide : ((p : ℕ) → p < g_p g → pair_ok g p (word_at (group_of (index_in g (sec img)) p) 8) (word_at (group_of (index_in g (sec img)) p) 12) ≡ true) → Wide g tab (sec img)
  unfolding page_at
  page-wide q p l =
      let M : Limits g = limits g ok in
      let r = shown-before g p tab (group_of (index_in g (sec img)) p) l (q p l) in
      sec-in img g.s (shown_page tab (group_of (index_in g (sec img)) p)) sized (omega (arith, r.1, M.dir, M.s_low))

  pub view-says : view_ok g bound tab (sec img) ≡ true → View g tab img × EachStamp g img (DeadBelow bound tab)
  view-says h =
      let U = view-inv g bound tab (sec img) h in
      let X = index-inv g bound tab ix U.index in
      let W = page-wide (λ p l. (X.groups p l).pair) in
      let (b, o) = page-says g tab img ok W (λ i l. (each i l).inside) U.page in (
        record {
          stamps = (λ p l. (stamp-means g _).0 (X.groups p l).stamp, λ i l. (each i l).stamp);
          pair = λ p l. pair_values g p _ _ (X.groups p l).pair;
          formed = λ i l. (each i l).formed;
          names = λ i l. (each i l).name;
          inside = λ i l. (each i l).inside;
          in_page = λ i l. (each i l).in_page;
          bits = b;
          one_file = o;
          bytes = page-bytes g tab img ok W (λ i l. (each i l).inside) U.page;
          index_rest = (zeros-mean (16 * g_p g) ix).0 X.zeros;
          entry_rest = λ i l. (each i l).rest;
        },
        (λ p l. (dead-means bound tab _).0 (X.groups p l).dead, λ i l. (each i l).dead),
      )
    where
      each : (i : ℕ) → i < length (entries_of g (sec img)) → EntrySays g tab (get_or (entries_of g (sec img)) i []) bound
      each i l = (entry-means g tab _ bound).0 (every-at (entry_ok g bound tab) (entries_of g (sec img)) i [] l (view-inv g bound tab (sec img) h).entries)

  pub says-view : View g tab img → EachStamp g img (DeadBelow bound tab) → view_ok g bound tab (sec img) ≡ true
  says-view W D =
      view-intro g bound tab (sec img)
      (record {
        index = index-intro g bound tab ix (record {
          groups = λ p l. record { stamp = (stamp-means g _).1 (W.stamps.0 p l); dead = (dead-means bound tab _).1 (D.0 p l); pair = pair-intro g p _ _ (W.pair p l) };
          zeros = (zeros-mean (16 * g_p g) ix).1 W.index_rest;
        });
        entries = every-all (entry_ok g bound tab) (entries_of g (sec img)) [] (λ i l. (entry-means g tab _ bound).1 (record {
          stamp = W.stamps.1 i l;
          dead = D.1 i l;
          formed = W.formed i l;
          name = W.names i l;
          inside = W.inside i l;
          in_page = W.in_page i l;
          rest = W.entry_rest i l;
        }));
        page = says-page g tab img ok (page-wide (λ p l. pair-intro g p _ _ (W.pair p l))) W.inside W.bits W.one_file W.bytes;
      })

-- ---- names

module _ (tp tc : List ℕ) where
  abbrev Here : List ℕ → Type 0
  Here p = (shown tp p ≢ Absent) ⊎ (shown tc p ≢ Absent)

  apart_by : (p q : List ℕ) → (Here p → Here q → name_of p ≡ name_of q → ⊥) → apart tp tc p q ≡ true
  unfolding apart
  apart_by p q h = go (gone tp tc p) refl (gone tp tc q) refl (eq_list (name_of p) (name_of q)) refl
    where
      go : (a : Bool) → gone tp tc p ≡ a → (b : Bool) → gone tp tc q ≡ b → (c : Bool) → eq_list (name_of p) (name_of q) ≡ c → (a || b || not c) ≡ true
      go true e b f c d = refl
      go false e true f c d = refl
      go false e false f false d = refl
      go false e false f true d = absurd (h (gone-false tp tc p e) (gone-false tp tc q f) (eq_list-eq _ _ d))

  pairs-all : (f : List ℕ → List ℕ → Bool) (ps : List (List ℕ)) → ((i j : ℕ) → i < j → j < length ps → f (get_or ps i []) (get_or ps j []) ≡ true) → pairwise f ps ≡ true
  unfolding pairwise
  pairs-all f [] h = refl
  pairs-all f (p ∷ ps) h =
      join _ _ (every-all (f p) ps [] (λ i l. h 0 (suc i) (omega arith) (omega arith))) (pairs-all f ps (λ i j a b. h (suc i) (suc j) (omega arith) (omega arith)))

  pub alone-means : (g : Geo) (img : List ℕ) → (pairwise (apart tp tc) (entries_of g (sec img)) ≡ true) ↔ NoTwoAlike g img Here
  alone-means g img = (
    λ h i j li lj x y e. one_entry tp tc (entries_of g (sec img)) i j h li lj (here-gone tp tc _ x) (here-gone tp tc _ y) e,
    λ q. pairs-all (apart tp tc) (entries_of g (sec img)) (λ i j a b. apart_by _ _ (λ x y e. absurd (omega (arith, q i j (omega arith) b x y e)))),
  )

-- ---- a card of the right shape

table-long : (g : Geo) (img : List ℕ) → geo_ok g ≡ true → length img ≡ 512 * g.s → length (table_of g (sec img)) ≡ g_n g
unfolding g_n
table-long g img ok l = table-length g img (ok-laid g img ok l)

module _ (img : List ℕ) (fit : InLimits (geo_of (sec img))) (sized : length img ≡ 512 * (geo_of (sec img)).s) where
  abbrev g : Geo
  g = geo_of (sec img)

  abbrev t : List ℕ
  t = table_of (geo_of (sec img)) (sec img)

  abbrev c : ℕ
  c = count_of (sec img)

  ok : geo_ok (geo_of (sec img)) ≡ true
  ok = (limits-mean (geo_of (sec img))).1 fit

  pub sound-says : sound img ≡ true → Sound img
  unfolding sound
  sound-says h =
      let S = sound-inv g (sec img) h in
      let T = (table-means g c t (table-long g img ok sized)).0 S.tab in
      let (W, D) = view-says g c t img ok sized S.view in
      record {
        count = S.small;
        words = T.0;
        past = T.1;
        word_c = T.2;
        stamps = W.stamps;
        dead = D;
        pair = W.pair;
        formed = W.formed;
        names = W.names;
        alone = λ i j li lj x y e. (alone-means t t g img).0 S.alone i j li lj (inl x) (inl y) e;
        inside = W.inside;
        in_page = W.in_page;
        bits = W.bits;
        one_file = W.one_file;
        bytes = W.bytes;
        head_rest = (zeros-mean 16 (sec img 0)).0 S.tail;
        index_rest = W.index_rest;
        entry_rest = W.entry_rest;
      }

  pub says-sound : Sound img → sound img ≡ true
  unfolding sound
  says-sound S =
      sound-intro g (sec img)
      (record {
        small = S.count;
        tail = (zeros-mean 16 (sec img 0)).1 S.head_rest;
        tab = (table-means g c t (table-long g img ok sized)).1 (S.words, S.past, S.word_c);
        view = says-view g c t img ok sized
            (record {
              stamps = S.stamps;
              pair = S.pair;
              formed = S.formed;
              names = S.names;
              inside = S.inside;
              in_page = S.in_page;
              bits = S.bits;
              one_file = S.one_file;
              bytes = S.bytes;
              index_rest = S.index_rest;
              entry_rest = S.entry_rest;
            })
            S.dead;
        alone = (alone-means t t g img).1 (λ i j li lj x y e. S.alone i j li lj (⊎_elim (λ q. q) (λ q. q) x) (⊎_elim (λ q. q) (λ q. q) y) e);
      })

  -- the card is sound exactly when all of this holds
  pub sound-means : (sound img ≡ true) ↔ Sound img
  sound-means = (sound-says, says-sound)
