-- What a line of the bench sheet does, and what it says of it. Assumes nothing.
use Rattle.std.specs.Prelude.{Bool, true, false, cond, ◌&&◌, ◌||◌, List, [], ◌∷◌, ◌++◌, ℕ, ◌*◌, take, drop, replicate, eqb, Some, None}
use Rattle.words.specs.Lists.{eq_list, splice}
use Rattle.words.specs.Bytes.{word_bytes}
use Rattle.sectors.specs.Sectors.{sec, apply_steps}
use Rattle.counts.specs.declared.Geo.{Geo}
use Rattle.counts.specs.Geometry.{count_of}
use Rattle.card.specs.declared.Line.{Line}
use Rattle.card.specs.declared.Answer.{Answer}
use Rattle.card.specs.Plan.{Report}
use Rattle.card.specs.Make.{make}
use Rattle.card.specs.Reading.{files_shown, read}
use Rattle.session.specs.Session.{Session}
use Rattle.session.specs.Views.{session_files}
use Rattle.store.specs.Given.{Room}
use Rattle.store.specs.Steps.{set_count, set_word, sync_steps}
use Rattle.store.specs.Mount.{mount}
use Rattle.store.specs.Edit.{put, put_at, remove}
use Rattle.store.specs.Look.{get, free}
use Rattle.store.specs.Sync.{land, sync, unmount}

-- a call gives the number at its end, and a refusal or a call that counts nothing the count 0
pub data Act : Type 0 where
  -- make with S sectors (T = 1, D = 1) on an image of that length; a refusal leaves it as lent
  makes : ℕ → ℕ → Act
  mounts : ℕ → Act
  -- put of so many bytes 7 under a name
  puts : List ℕ → ℕ → ℕ → Act
  -- the same with a goal
  puts_at : List ℕ → ℕ → ℕ → ℕ → Act
  removes : List ℕ → ℕ → Act
  -- get into an output of so many bytes 9: the number and the count; that many bytes 7, and the rest as lent
  gets : List ℕ → ℕ → ℕ → ℕ → Act
  -- free and waiting
  frees : ℕ → ℕ → Act
  -- the number, and how many sectors it wrote
  syncs : ℕ → ℕ → Act
  -- land of a sector
  lands : ℕ → ℕ → Act
  unmounts : ℕ → ℕ → Act
  -- the power is cut: the card stays as it is
  cuts : Act
  -- sync takes so many of its steps, and the power is cut
  sync_cuts : ℕ → Act
  -- the session lists the name with so many bytes, this start and so many sectors
  shows : List ℕ → ℕ → ℕ → ℕ → Act
  -- reading the card: C, the file count and the clear bits; N is 128
  reads : ℕ → ℕ → ℕ → Act
  -- reading the card lists the name with so many bytes, this start and so many sectors
  reads_line : List ℕ → ℕ → ℕ → ℕ → Act
  -- reading the card is refused
  refuses : ℕ → Act
  -- word C of the card, of the working image is this
  counts : ℕ → Act
  work_counts : ℕ → Act
  -- word C of the card, a table word of it, the stamp of its first entry is made this
  sets : ℕ → Act
  tops : ℕ → ℕ → Act
  stamps : ℕ → ℕ → Act

pub record Bench : Type 0 where
  pub session : Session
  pub card : List ℕ
  pub work : List ℕ

abbrev pub geo_for : ℕ → Geo
geo_for s = record { s = s; t = 1; d = 1 }

unfoldable pub same_line : List ℕ → ℕ → ℕ → ℕ → Line → Bool
same_line n b a k l = eq_list n (take l.size l.name) && eqb b l.run.bytes && eqb a l.run.start.0 && eqb k l.run.sectors

unfoldable pub has_line : List ℕ → ℕ → ℕ → ℕ → List Line → Bool
unfolding same_line
has_line n b a k [] = false
has_line n b a k (l ∷ ls) = same_line n b a k l || has_line n b a k ls

unfoldable pub is_answer : ℕ → ℕ → Answer → Bool
is_answer k n a = eqb k a.number && eqb n a.count

unfoldable pub is_report : ℕ → ℕ → ℕ → ℕ → ℕ → Report → Bool
is_report k c N f n r = eqb k r.number && eqb c r.c.0 && eqb N r.n && eqb f r.files && eqb n r.free

unfoldable pub is_room : ℕ → ℕ → Room → Bool
is_room f n r = eqb 0 r.number && eqb f r.free && eqb n r.waiting

-- the card after the first n steps of a sync
unfoldable pub steps_done : Session → ℕ → List ℕ → List ℕ → List ℕ
steps_done None n card work = card
steps_done (Some s) n card work = apply_steps (take n (sync_steps s card work [])) card

-- the acts of one case in order: each gives what the line says, or the case fails
unfoldable pub run : Bench → List Act → Bool
unfolding has_line is_answer is_report is_room steps_done
run w [] = true
run w (makes s k ∷ acts) =
    let r = make (geo_for s) (replicate (512 * s) 5) in
    cond (is_answer k 0 r.answer && (eqb k 0 || eq_list r.image (replicate (512 * s) 5))) (run (record { session = None; card = r.image; work = r.image }) acts) false
run w (mounts k ∷ acts) =
    let r = mount w.card w.work in cond (is_answer k 0 r.answer) (run (record { session = r.session; card = r.card; work = r.work }) acts) false
run w (puts n b k ∷ acts) =
    let r = put w.session w.work n (replicate b 7) in
    cond (is_answer k 0 r.answer) (run (record { session = w.session; card = w.card; work = r.image }) acts) false
run w (puts_at n b goal k ∷ acts) =
    let r = put_at w.session w.work n (replicate b 7) goal in
    cond (is_answer k 0 r.answer) (run (record { session = w.session; card = w.card; work = r.image }) acts) false
run w (removes n k ∷ acts) =
    let r = remove w.session w.work n in
    cond (is_answer k 0 r.answer) (run (record { session = w.session; card = w.card; work = r.image }) acts) false
run w (gets n l k b ∷ acts) =
    let r = get w.session w.work n (replicate l 9) in
    cond (is_answer k b r.answer && eq_list r.out (replicate b 7 ++ drop b (replicate l 9))) (run w acts) false
run w (frees f n ∷ acts) = cond (is_room f n (free w.session w.work)) (run w acts) false
run w (syncs k n ∷ acts) =
    let r = sync w.session w.card w.work in
    cond (is_answer k n r.answer) (run (record { session = r.session; card = r.card; work = r.work }) acts) false
run w (lands i k ∷ acts) =
    let r = land w.session w.card w.work i in
    cond (is_answer k 0 r.answer) (run (record { session = w.session; card = r.image; work = w.work }) acts) false
run w (unmounts k n ∷ acts) =
    let r = unmount w.session w.card w.work in
    cond (is_answer k n r.answer) (run (record { session = r.session; card = r.card; work = r.work }) acts) false
run w (cuts ∷ acts) = run (record { session = None; card = w.card; work = w.card }) acts
run w (sync_cuts n ∷ acts) =
    let k = steps_done w.session n w.card w.work in run (record { session = None; card = k; work = k }) acts
run w (shows n b a k ∷ acts) = cond (has_line n b a k (session_files w.session w.work)) (run w acts) false
run w (reads c f n ∷ acts) = cond (is_report 0 c 128 f n (read w.card)) (run w acts) false
run w (reads_line n b a k ∷ acts) = cond (has_line n b a k (files_shown w.card)) (run w acts) false
run w (refuses k ∷ acts) = cond (is_report k 0 0 0 0 (read w.card)) (run w acts) false
run w (counts c ∷ acts) = cond (eqb c (count_of (sec w.card))) (run w acts) false
run w (work_counts c ∷ acts) = cond (eqb c (count_of (sec w.work))) (run w acts) false
run w (sets c ∷ acts) = run (record { session = w.session; card = set_count c w.card; work = w.work }) acts
run w (tops c t ∷ acts) = run (record { session = w.session; card = set_word c t w.card; work = w.work }) acts
run w (stamps c t ∷ acts) =
    run (record { session = w.session; card = splice w.card (512 * 5) (word_bytes c ++ word_bytes t); work = w.work }) acts

-- every case holds
unfoldable pub all : List (List Act) → Bool
unfolding run
all [] = true
all (x ∷ xs) = run (record { session = None; card = []; work = [] }) x && all xs
