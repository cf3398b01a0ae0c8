-- What Sheet states, proved. Assumes nothing.
use mathlib.Core.Path.{◌≡◌, refl}
use mathlib.Core.Bool.{true}
use Rattle.words_sums.specs.Sums.{in_run}
use Rattle.words.specs.Lists.{every, pairwise, first_at, eq_list, part, over, splice, set_part, pad, or_else}
use Rattle.words.specs.Bytes.{word_at, words, word_bytes}
use Rattle.sectors.specs.Sectors.{sec, set_sec, apply_steps, unless, diff_steps, writes_in}
use Rattle.counts.specs.Geometry.{g_n, g_p, g_dir, g_f, geo_ok, count_of, geo_of, table_from, table_of}
use Rattle.counts.specs.Stamps.{stamp_of, alive, showing, stamp_ok, dead_below, table_ok, table_in, as_is, same_stamp, standing, becomes_old}
use Rattle.entries.specs.Entries.{version_of, version_bytes, new_of, old_of, name_bytes, entry_of, entry_rest, entry_bytes, shown_bytes, shown, good_name, name_of, name_ok, sectors_for, pieces_of, piece_ok, run_ok, version_ok, entry_ok, changed}
use Rattle.directory.specs.Directory.{sector_entries, entries_from, entries_of, spots_from, spot_of, set_entry, gone, apart, named}
use Rattle.apages.specs.Bits.{bit_at, put_digit, put_bit, set_run, bits_n, bits_of, clear_in, clear_bits}
use Rattle.apages.specs.Runs.{merge, all_clear, find_run, lowest_run, run_for, outside, wanted, bits_ok, bytes_to_s, page_ok, data_from, data_to, fresh_page, run_after, goal_run}
use Rattle.apages.specs.Free.{free_in, waits, waiting_in}
use Rattle.apages.specs.Index.{index_of, group_bytes, group_of, every_group, index_in, pair_ok, group_ok, index_ok, shown_page, page_at, map_from, page_in, changed_index, page_before, changed_run, change_run, change_bits}
use Rattle.card.specs.Plan.{guard, need, ended, refused, done}
use Rattle.card.specs.Files.{cons_file, files_of, in_pieces, holds_at, cover, pieces_in, content_of, run_of, run_at, get_plan, get_end, list_plan, list_end}
use Rattle.card.specs.Sound.{view_ok, sound_in, shape_ok, sound}
use Rattle.card.specs.Make.{block_bytes, fresh_group, fresh_groups, fresh_index, fresh_pages, fresh_card, make_plan, make}
use Rattle.card.specs.Reading.{files_in, files_shown, page_shown, read_plan, read, read_list, read_get}
use Rattle.session.specs.Views.{own_stamp, present_view, present_table, cut_table, present_page, cut_page, present_files, session_files}
use Rattle.session.specs.Fits.{sizes_ok, head_ok, word_ok, stamp_at_most, entry_at_most, group_at_most, index_at_most, table_fits, views_fit, stamps_fit, fits_in, fits}
use Rattle.store.specs.Steps.{set_count, set_word, table_sector, mount_steps, sync_steps, at_top, down_steps, unmount_steps_by, unmount_steps, counted_by, unmount_count, sync_work, down_work, unmount_work_by, unmount_work}
use Rattle.store.specs.Mount.{mount_plan, opened_from, mount_done, mount}
use Rattle.store.specs.Edit.{put_place, place_in, run_in, put_plan, put_content, edit_work, put_run, put_work, put, remove_plan, remove_work, remove, put_at}
use Rattle.store.specs.Look.{get, list_tests, list, no_figures, figures, free}
use Rattle.store.specs.Sync.{both_plan, land, grown, sync_done, sync, unmount_done, unmount}
use Rattle.promises_sheet.specs.Acts.{same_line, has_line, is_answer, is_report, is_room, steps_done, run, all}
use Rattle.promises_sheet.specs.Sheet.{ten, four_files, starred, others}

-- every starred line of the bench sheet holds
pub sheet : all starred ≡ true
unfolding all starred run same_line has_line is_answer is_report steps_done ten four_files in_run every pairwise first_at eq_list part over splice set_part pad word_at words word_bytes sec set_sec apply_steps unless diff_steps writes_in g_n g_p g_dir g_f geo_ok count_of geo_of table_from table_of stamp_of alive showing stamp_ok dead_below table_ok table_in as_is same_stamp standing becomes_old version_of version_bytes new_of old_of name_bytes entry_of entry_rest entry_bytes shown_bytes shown good_name name_of name_ok sectors_for pieces_of piece_ok run_ok version_ok entry_ok changed sector_entries entries_from entries_of spots_from spot_of set_entry gone apart named bit_at put_digit put_bit set_run bits_n bits_of clear_in clear_bits merge all_clear find_run lowest_run run_for outside wanted bits_ok bytes_to_s page_ok data_from data_to fresh_page index_of group_bytes group_of every_group index_in pair_ok group_ok index_ok shown_page page_at map_from page_in changed_index page_before changed_run change_run change_bits guard need ended refused done cons_file files_of in_pieces holds_at cover pieces_in content_of run_of run_at get_plan get_end list_plan list_end view_ok sound_in shape_ok sound block_bytes fresh_group fresh_groups fresh_index fresh_pages fresh_card make_plan make files_in files_shown page_shown read_plan read read_list read_get own_stamp present_view present_table cut_table present_page cut_page present_files session_files sizes_ok head_ok word_ok stamp_at_most entry_at_most group_at_most index_at_most table_fits views_fit stamps_fit fits_in fits set_count set_word table_sector mount_steps sync_steps at_top down_steps unmount_steps_by unmount_steps counted_by unmount_count sync_work down_work unmount_work_by unmount_work mount_plan opened_from mount_done mount or_else put_place place_in run_in put_plan put_content edit_work put_run put_work put remove_plan remove_work remove get list_tests list free both_plan land grown sync_done sync unmount_done unmount is_room free_in waits waiting_in no_figures figures run_after goal_run put_at
sheet = refl

-- and so do these
pub sheet-others : all others ≡ true
unfolding all others run same_line has_line is_answer is_report steps_done ten four_files in_run every pairwise first_at eq_list part over splice set_part pad word_at words word_bytes sec set_sec apply_steps unless diff_steps writes_in g_n g_p g_dir g_f geo_ok count_of geo_of table_from table_of stamp_of alive showing stamp_ok dead_below table_ok table_in as_is same_stamp standing becomes_old version_of version_bytes new_of old_of name_bytes entry_of entry_rest entry_bytes shown_bytes shown good_name name_of name_ok sectors_for pieces_of piece_ok run_ok version_ok entry_ok changed sector_entries entries_from entries_of spots_from spot_of set_entry gone apart named bit_at put_digit put_bit set_run bits_n bits_of clear_in clear_bits merge all_clear find_run lowest_run run_for outside wanted bits_ok bytes_to_s page_ok data_from data_to fresh_page index_of group_bytes group_of every_group index_in pair_ok group_ok index_ok shown_page page_at map_from page_in changed_index page_before changed_run change_run change_bits guard need ended refused done cons_file files_of in_pieces holds_at cover pieces_in content_of run_of run_at get_plan get_end list_plan list_end view_ok sound_in shape_ok sound block_bytes fresh_group fresh_groups fresh_index fresh_pages fresh_card make_plan make files_in files_shown page_shown read_plan read read_list read_get own_stamp present_view present_table cut_table present_page cut_page present_files session_files sizes_ok head_ok word_ok stamp_at_most entry_at_most group_at_most index_at_most table_fits views_fit stamps_fit fits_in fits set_count set_word table_sector mount_steps sync_steps at_top down_steps unmount_steps_by unmount_steps counted_by unmount_count sync_work down_work unmount_work_by unmount_work mount_plan opened_from mount_done mount or_else put_place place_in run_in put_plan put_content edit_work put_run put_work put remove_plan remove_work remove get list_tests list free both_plan land grown sync_done sync unmount_done unmount is_room free_in waits waiting_in no_figures figures run_after goal_run put_at
sheet-others = refl
