-- The images of a history on which the trial stores are tried: a fresh card, mount, put `a`, sync, put `b`. They are computed. Assumes nothing.
use Rattle.std.specs.Prelude.{Some}
use mathlib.Core.Path.{◌≡◌, refl}
use mathlib.Core.Bool.{true, false}
use mathlib.Core.List.{List, [], ◌∷◌}
use mathlib.Core.Option.{none, some}
use Prim.Native.Nat.{ℕ}
use Rattle.words_sums.specs.Sums.{in_run}
use Rattle.words.specs.Lists.{every, pairwise, first_at, eq_list, part, over, splice, set_part, pad, or_else}
use Rattle.words.specs.Bytes.{word_at, words, word_bytes}
use Rattle.sectors.specs.Sectors.{sec, set_sec, apply_steps, unless, diff_steps}
use Rattle.counts.specs.Geometry.{g_n, g_f, geo_ok, count_of, geo_of, table_from, table_of, g_dir, g_p}
use Rattle.counts.specs.Stamps.{stamp_of, alive, showing, stamp_ok, dead_below, table_ok, table_in, as_is, same_stamp, standing, becomes_old}
use Rattle.entries.specs.Entries.{version_of, version_bytes, new_of, old_of, name_bytes, entry_of, entry_rest, entry_bytes, shown_bytes, shown, good_name, name_of, name_ok, sectors_for, pieces_of, piece_ok, run_ok, version_ok, entry_ok, changed}
use Rattle.directory.specs.Directory.{sector_entries, entries_from, entries_of, spots_from, spot_of, set_entry, gone, apart, named}
use Rattle.apages.specs.Bits.{bit_at, put_digit, put_bit, set_run, bits_n, bits_of, clear_in, clear_bits}
use Rattle.apages.specs.Runs.{merge, all_clear, find_run, run_after, lowest_run, goal_run, run_for, outside, wanted, bits_ok, bytes_to_s, page_ok, data_from, data_to, fresh_page}
use Rattle.apages.specs.Index.{index_of, group_bytes, group_of, every_group, index_in, pair_ok, group_ok, index_ok, shown_page, page_at, map_from, page_in, changed_index, page_before, changed_run, change_run, change_bits}
use Rattle.card.specs.Plan.{go_ahead, guard, need, ended, refused, done}
use Rattle.card.specs.Files.{cons_file, files_of, in_pieces, holds_at, cover, pieces_in, content_of, run_of, run_at}
use Rattle.card.specs.Sound.{view_ok, sound_in, shape_ok, sound}
use Rattle.card.specs.Make.{block_bytes, fresh_group, fresh_groups, fresh_index, fresh_pages, fresh_card}
use Rattle.card.specs.Reading.{files_in, files_shown, page_shown}
use Rattle.session.specs.Views.{own_stamp, present_view, present_table, cut_table, present_page, cut_page, present_files, session_files}
use Rattle.session.specs.Fits.{sizes_ok, head_ok, word_ok, stamp_at_most, entry_at_most, group_at_most, index_at_most, table_fits, views_fit, stamps_fit, fits_in, fits}
use Rattle.store.specs.Steps.{set_count, set_word, table_sector, mount_steps, sync_steps, at_top, sync_work}
use Rattle.store.specs.Mount.{mount_plan, opened_from}
use Rattle.store.specs.Edit.{put_place, place_in, run_in, put_plan, put_content, edit_work, put_run, put_work}
use Rattle.store.specs.Sync.{both_plan, grown}
use Rattle.session.specs.declared.Opened.{Opened}
use Rattle.counts.specs.declared.Geo.{Geo}
use Rattle.promises_answers.specs.PlainList.{line_name, items, shown_in, lookup}

-- "S = 10, T = 1, D = 1"
abbrev pub ten : Geo
ten = record { s = 10; t = 1; d = 1 }

-- inside the limits
pub ten-ok : geo_ok ten ≡ true
unfolding geo_ok g_f g_dir g_p
ten-ok = refl

-- names and a content of one byte
abbrev pub a : List ℕ
a = 97 ∷ []

abbrev pub b : List ℕ
b = 98 ∷ []

abbrev pub seven : List ℕ
seven = 7 ∷ []

-- the session at t
abbrev pub stretch : ℕ → Opened
stretch t = record { geo = ten; c = record { 0 = 0 }; t = record { 0 = t }; worn = false }

-- ---- the images

-- after mount, both
unfoldable pub start : List ℕ
start = apply_steps (mount_steps (fresh_card ten)) (fresh_card ten)

-- the working image after put of `a`
unfoldable pub work_a : List ℕ
work_a = put_work (stretch 1) 0 (record { 0 = 6 }) start a seven

-- the card after sync, and the working image
unfoldable pub card_s : List ℕ
card_s = apply_steps (sync_steps (stretch 1) start work_a []) start

unfoldable pub work_s : List ℕ
work_s = sync_work (stretch 1) work_a

-- the working image after put of `b`
unfoldable pub work_b : List ℕ
work_b = put_work (stretch 2) 1 (record { 0 = 7 }) work_s b seven

-- one name that opens what these compute with
unfoldable pub computes : ℕ
unfolding start work_a card_s work_s work_b shown_in items line_name lookup in_run every pairwise first_at eq_list part over splice set_part pad word_at words word_bytes sec set_sec apply_steps unless diff_steps g_n g_f g_dir g_p geo_ok count_of geo_of table_from table_of stamp_of alive showing stamp_ok dead_below table_ok table_in as_is same_stamp standing becomes_old version_of version_bytes new_of old_of name_bytes entry_of entry_rest entry_bytes shown_bytes shown good_name name_of name_ok sectors_for pieces_of piece_ok run_ok version_ok entry_ok changed sector_entries entries_from entries_of spots_from spot_of set_entry gone apart named bit_at put_digit put_bit set_run bits_n bits_of clear_in clear_bits merge all_clear find_run lowest_run run_for outside wanted bits_ok bytes_to_s page_ok data_from data_to fresh_page index_of group_bytes group_of every_group index_in pair_ok group_ok index_ok shown_page page_at map_from page_in changed_index page_before changed_run change_run change_bits guard need ended refused done cons_file files_of in_pieces holds_at cover pieces_in content_of run_of run_at view_ok sound_in shape_ok sound block_bytes fresh_group fresh_groups fresh_index fresh_pages fresh_card files_in files_shown page_shown own_stamp present_view present_table cut_table present_page cut_page present_files session_files sizes_ok head_ok word_ok stamp_at_most entry_at_most group_at_most index_at_most table_fits views_fit stamps_fit fits_in fits set_count set_word table_sector mount_steps sync_steps at_top sync_work mount_plan opened_from or_else put_place place_in run_in put_plan put_content edit_work put_run put_work both_plan grown run_after goal_run
computes = 0

-- mount goes through, and opens the session at t = 1
pub mount-goes : (mount_plan (fresh_card ten) (fresh_card ten) ≡ go_ahead) × (opened_from (fresh_card ten) ≡ stretch 1)
unfolding computes
mount-goes = (refl, refl)

-- what put finds: an entry and a first sector
pub finds : (place_in (stretch 1) start a ≡ Some 0) × (run_in (stretch 1) start 1 0 ≡ Some 6) × (place_in (stretch 2) work_s b ≡ Some 1) × (run_in (stretch 2) work_s 1 0 ≡ Some 7)
unfolding computes
finds = (refl, refl, refl, refl)

-- what the sessions show
pub looks : (lookup a (shown_in (Some (stretch 1)) start) ≡ none) × (lookup a (shown_in (Some (stretch 1)) work_a) ≡ some seven)
    × (lookup b (shown_in (Some (stretch 1)) work_a) ≡ none) × (lookup b (shown_in (Some (stretch 2)) work_b) ≡ some seven)
unfolding computes
looks = (refl, refl, refl, refl)

-- the table sector that the second sync writes
unfoldable pub new_table : List ℕ
new_table = sec (set_word 0 2 work_b) 1

-- a card on which this sector and the new directory have landed, and nothing else
unfoldable pub table_landed : List ℕ
table_landed = set_sec (set_sec card_s 5 (sec work_b 5)) 1 new_table

-- it is not sound: it shows `b`, and the bitmap shows its sector free
pub table-unsound : sound table_landed ≡ false
unfolding computes new_table table_landed
table-unsound = refl
