-- put with a goal: 4, 2, 9, 5, 11, 7, 8; put without one: "4, 2, 9, 5, 7, 8"; remove: "4, 2, 9, 5, 6". Assumes nothing.
use Rattle.std.specs.Prelude.{not, List, [], ℕ, ◌*◌, length, get_or, ltb, Option, Some, None}
use Rattle.words.specs.Lists.{first_at, splice, pad, or_else}
use Rattle.sectors.specs.declared.Sector.{Sector}
use Rattle.sectors.specs.Sectors.{sec}
use Rattle.entries.specs.declared.Run.{Run}
use Rattle.entries.specs.declared.Version.{Version}
use Rattle.entries.specs.declared.Version.TheVariants.{Absent, Present}
use Rattle.entries.specs.Entries.{entry_of, entry_bytes, sectors_for, good_name, changed}
use Rattle.directory.specs.Directory.{entries_of, spot_of, set_entry, gone, named}
use Rattle.apages.specs.Runs.{run_for}
use Rattle.apages.specs.Index.{change_bits}
use Rattle.card.specs.Plan.{Plan, guard, need, ended, do_it, do_at, refused, done, Changed}
use Rattle.card.specs.Files.{run_of, run_at}
use Rattle.session.specs.declared.Opened.{Opened}
use Rattle.session.specs.Session.{Session}
use Rattle.session.specs.Views.{own_stamp, present_table, cut_table, present_page, cut_page}
use Rattle.session.specs.Fits.{fits}

-- "A name present in either view of an entry uses that entry; otherwise the lowest entry absent in both views."
unfoldable pub put_place : List ℕ → List ℕ → List ℕ → List (List ℕ) → Option ℕ
put_place tp tc n ps = or_else (first_at (named tp tc n) 0 ps) (first_at (gone tp tc) 0 ps)

-- the entry that put uses, and the run its content goes to
unfoldable pub place_in : Opened → List ℕ → List ℕ → Option ℕ
place_in s work n = put_place (present_table s (sec work)) (cut_table s (sec work)) n (entries_of s.geo (sec work))

unfoldable pub run_in : Opened → List ℕ → ℕ → ℕ → Option ℕ
run_in s work k goal = run_for k goal (present_page s (sec work)) (cut_page s (sec work))

-- put with a goal: "4, 2, 9, 5", "11 for a goal of S or more, after 5 and before 7", "7, 8"
unfoldable pub put_plan : Opened → List ℕ → List ℕ → List ℕ → ℕ → Plan
put_plan s work n d goal =
    guard 2 (fits s work) (guard 9 (not s.worn) (guard 5 (good_name n) (guard 11 (ltb goal s.geo.s)
    (need 7 (place_in s work n) (λ j. need 8 (run_in s work (sectors_for (length d)) goal) (λ a. do_it j (record { 0 = a })))))))

-- "Content goes to the lowest run ..; The last sector is filled with zeros."
unfoldable pub put_content : Run → List ℕ → List ℕ → List ℕ
put_content r d img = splice img (512 * r.start.0) (pad (512 * r.sectors) d)

-- entry j gets name n and version v; content d goes to v's run; "the file's earlier sectors, if any, are cleared"
unfoldable pub edit_work : Opened → ℕ → Version → List ℕ → List ℕ → List ℕ → List ℕ
edit_work s j v work n d =
    let tp = present_table s (sec work) in
    let e = entry_of (get_or (entries_of s.geo (sec work)) j []) in
    change_bits s.geo tp (own_stamp s) (run_of v) (run_at s.geo tp work j)
    (set_entry (spot_of s.geo j) (entry_bytes (changed tp (own_stamp s) e n v)) (put_content (run_of v) d work))

-- the run of content d from sector a on
unfoldable pub put_run : Sector → List ℕ → Run
put_run a d = record { start = a; sectors = sectors_for (length d); bytes = length d }

unfoldable pub put_work : Opened → ℕ → Sector → List ℕ → List ℕ → List ℕ → List ℕ
put_work s j a work n d = edit_work s j (Present (put_run a d)) work n d

-- "Put takes a goal sector"
unfoldable pub put_at : Session → List ℕ → List ℕ → List ℕ → ℕ → Changed
put_at None work n d goal = record { answer = refused 4; image = work }
put_at (Some s) work n d goal =
    ended (put_plan s work n d goal) (λ k. record { answer = refused k; image = work }) (λ j a. record { answer = done 0; image = put_work s j a work n d })

-- "Goal 0 is today's rule, and calls without a goal keep it"
unfoldable pub put : Session → List ℕ → List ℕ → List ℕ → Changed
put s work n d = put_at s work n d 0

-- "remove 4, 2, 9, 5, 6"
unfoldable pub remove_plan : Opened → List ℕ → List ℕ → Plan
remove_plan s work n =
    guard 2 (fits s work) (guard 9 (not s.worn) (guard 5 (good_name n)
    (need 6 (first_at (named (present_table s (sec work)) (present_table s (sec work)) n) 0 (entries_of s.geo (sec work))) (λ j. do_at j))))

-- "Remove writes an absent new version."
unfoldable pub remove_work : Opened → ℕ → List ℕ → List ℕ → List ℕ
remove_work s j work n = edit_work s j Absent work n []

unfoldable pub remove : Session → List ℕ → List ℕ → Changed
remove None work n = record { answer = refused 4; image = work }
remove (Some s) work n =
    ended (remove_plan s work n) (λ k. record { answer = refused k; image = work }) (λ j a. record { answer = done 0; image = remove_work s j work n })
