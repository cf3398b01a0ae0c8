-- The calls that only look answer from the plain list, whole; and so after every cut. Assumes nothing.
use Rattle.std.specs.Prelude.{Some}
use mathlib.Core.Path.{◌≡◌, refl, sym, ap, subst, ◌∙◌}
use mathlib.Core.List.{List, ◌++◌}
use mathlib.Core.Logic.{inl, inr, ⊎_elim}
use Prim.Native.Nat.{ℕ, ◌≤◌, ◌<◌}
use native.Mathlib.Omega.{arith}
use lib.ListN.{length, drop}
use lib.Seq.{take_at, drop_at}
use Rattle.words.proofs.BoolLaws.{never}
use Rattle.sectors.specs.Sectors.{sec}
use Rattle.counts.specs.declared.Geo.{Geo}
use Rattle.counts.specs.Geometry.{geo_of}
use Rattle.card.specs.declared.Line.{Line}
use Rattle.card.specs.Plan.{refused, done, Got, Listed}
use Rattle.card.specs.Files.{sectors_of}
use Rattle.card.proofs.FileLaws.{Within, more, files-within}
use Rattle.card.specs.Means.{GoodName}
use Rattle.card.specs.Reading.{files_shown, read_list, read_get}
use Rattle.session.specs.declared.Opened.{Opened}
use Rattle.session.specs.Views.{present_table, present_files}
use Rattle.session.specs.FitMeans.{Fits}
use Rattle.store.specs.Look.{get, list}
use Rattle.promises_answers.specs.PlainList.{Item, shown_by, shown_in}
use Rattle.promises_answers.specs.PlainCalls.{Lines, none_left, one_more, SessionShows, CardShows}
use Rattle.promises_answers.proofs.ViewShows.{lines-length}
use Rattle.promises_answers.proofs.ShownProved.{all-show}
use Rattle.promises_answers.proofs.RefusalsProved.{refusals}
use Rattle.promises_answers.proofs.Numbers.NumbersProved.{numbers}
use Rattle.promises_crash.specs.History.{Reads}
use Rattle.promises_crash.proofs.Demand.{demand-three}
use Rattle.directory.specs.Directory.{entries_of}
use Rattle.card.specs.Sound.{sound}
use Rattle.card.proofs.SoundLaws.{view-inv}
use Rattle.session.proofs.FitLaws.{fit-inv}
use Rattle.session.proofs.FitMeansProved.{fits-mean}
use Rattle.promises_answers.specs.Numbers.{Misshapen}
use Rattle.promises_answers.proofs.Items.{sound-within}
use Rattle.promises_crash.proofs.ReadsBy.{reads-sound}
use Rattle.promises_crash.specs.Whole.{sectors_in, ListsAs, ReadsAs, LooksAs, CutsReadWhole}

-- files that lie inside the data and tell a list take the sectors of its contents
sectors-told : {g : Geo} {m : List Item} {fs : List Line} → Lines m fs → Within g fs → sectors_of fs ≡ sectors_in m
unfolding sectors_of sectors_in
sectors-told none_left w = refl
sectors-told (one_more t r) (more s w) = rw (s.size, t.bytes, sectors-told r w)

-- ---- from one equation for each call to the whole

listed-as : (m : List Item) (fs lines : List Line) (r : Listed) → Lines m fs
    → (length lines < length m → r ≡ record { answer = refused 10; lines = lines })
    → (length m ≤ length lines → r ≡ record { answer = done (length m); lines = fs ++ drop (length m) lines }) → ListsAs m lines r
listed-as m fs lines r t x y =
    record {
      short = x;
      answer = λ h. ap (λ (r : Listed). r.answer) (y h);
      told = λ h. rw (y h, take_at fs (drop (length m) lines) (length m) (sym (lines-length t))) t;
      rest = λ h. rw (y h) (drop_at fs (drop (length m) lines) (length m) (sym (lines-length t)));
    }

-- a refusal by number k that leaves what it was lent
got-refused : (k : ℕ) (out : List ℕ) (r : Got) → r.answer.number ≡ k → (r.out ≡ out) × (r.answer.count ≡ 0) → r ≡ record { answer = refused k; out = out }
unfolding refused
got-refused k out r e q = ap (λ (n : ℕ). of n r.answer.count r.out) e ∙ ap (λ (n : ℕ). of k n r.out) q.1 ∙ ap (λ (o : List ℕ). of k 0 o) q.0
  where
    of : ℕ → ℕ → List ℕ → Got
    of n c o = record { answer = record { number = n; count = c }; out = o }

listed-refused : (k : ℕ) (lines : List Line) (r : Listed) → r.answer.number ≡ k → (r.lines ≡ lines) × (r.answer.count ≡ 0) → r ≡ record { answer = refused k; lines = lines }
unfolding refused
listed-refused k lines r e q = ap (λ (n : ℕ). of n r.answer.count r.lines) e ∙ ap (λ (n : ℕ). of k n r.lines) q.1 ∙ ap (λ (l : List Line). of k 0 l) q.0
  where
    of : ℕ → ℕ → List Line → Listed
    of n c l = record { answer = record { number = n; count = c }; lines = l }

-- ---- a session

module _ (s : Opened) (work : List ℕ) (f : Fits s work) where
  S : SessionShows s work
  S = all-show.0 s work f

  get-bad : (n out : List ℕ) → ¬ GoodName n → get (Some s) work n out ≡ record { answer = refused 5; out = out }
  get-bad n out b =
      let e : (get (Some s) work n out).answer.number ≡ 5 = (numbers.of_get (Some s) work n out 5).1 (inr (λ q. never (cc), inr (λ q. q f, inl (b, refl)))) in
      got-refused 5 out _ e (refusals.of_get (Some s) work n out (λ z. omega (arith, e, z)))

  list-short : (lines : List Line) → length lines < length (shown_in (Some s) work) → list (Some s) work lines ≡ record { answer = refused 10; lines = lines }
  list-short lines h =
      let e : (list (Some s) work lines).answer.number ≡ 10 =
      (numbers.of_list (Some s) work lines 10).1 (inr (λ q. never (cc), inr (λ q. q f, inl (omega (arith, lines-length S.tells), refl)))) in
      listed-refused 10 lines _ e (refusals.of_list (Some s) work lines (λ z. omega (arith, e, z)))

  within : Within s.geo (present_files s (sec work))
  unfolding present_files
  within =
      let F = fit-inv s work ((fits-mean s work).1 f) in
      files-within s.geo s.c.0 (present_table s (sec work)) (entries_of s.geo (sec work)) (view-inv s.geo s.c.0 (present_table s (sec work)) (sec work) F.pres_view).entries

  pub looks-as : LooksAs s work (shown_in (Some s) work)
  looks-as =
      record {
        names = S.names;
        gets = λ n out. record { bad = get-bad n out; good = S.gets n out };
        lists = λ lines. listed-as _ (present_files s (sec work)) lines _ S.tells (list-short lines) (S.lists lines);
        number = S.frees.0;
        frees = rw (sym (sectors-told S.tells within)) S.frees.1;
      }

-- ---- a card

module _ (card : List ℕ) (m : List Item) (R : Reads card m) where
  K : CardShows card
  K = all-show.1 card R.limits R.sized R.is_sound

  shapely : ¬ Misshapen card
  shapely q = ⊎_elim (λ o. o R.limits) (λ o. o R.sized) q

  read-bad : (n out : List ℕ) → ¬ GoodName n → read_get card n out ≡ record { answer = refused 5; out = out }
  read-bad n out b =
      let e : (read_get card n out).answer.number ≡ 5 = (numbers.of_read_get card n out 5).1 (inr (shapely, inr (λ q. q R.is_sound, inl (b, refl)))) in
      got-refused 5 out _ e (refusals.of_read_get card n out (λ z. omega (arith, e, z)))

  read_short : (lines : List Line) → length lines < length (shown_by card) → read_list card lines ≡ record { answer = refused 10; lines = lines }
  read_short lines h =
      let e : (read_list card lines).answer.number ≡ 10 =
      (numbers.of_read_list card lines 10).1 (inr (shapely, inr (λ q. q R.is_sound, inl (omega (arith, lines-length K.tells), refl)))) in
      listed-refused 10 lines _ e (refusals.of_read_list card lines (λ z. omega (arith, e, z)))

  inside : Within (geo_of (sec card)) (files_shown card)
  unfolding files_shown sound
  inside = sound-within (geo_of (sec card)) (sec card) (reads-sound R)

  -- by what the card shows
  shown-as : ReadsAs card (shown_by card)
  shown-as =
      record {
        names = K.names;
        number = K.counts.0;
        count = K.counts.1;
        most = K.counts.2;
        files = K.counts.3;
        free = rw (sym (sectors-told K.tells inside)) K.counts.4;
        gets = λ n out. record { bad = read-bad n out; good = K.gets n out };
        lists = λ lines. listed-as _ (files_shown card) lines _ K.tells (read_short lines) (K.lists lines);
      }

  pub reads_as : ReadsAs card m
  reads_as = subst (ReadsAs card) R.shows shown-as

-- ---- every cut

pub cuts-read-whole : CutsReadWhole
cuts-read-whole w r = (
  λ card x. reads_as card w.last ((demand-three w r).0 card x),
  λ c n card x. ⊎_elim (λ q. inl (reads_as card w.last q)) (λ q. inr (q.0, reads_as card _ q.1)) ((demand-three w r).1 c n card x),
)
