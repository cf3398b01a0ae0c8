-- "A session fits a working image when". Assumes nothing.
use Rattle.std.specs.Prelude.{Bool, true, false, not, ◌&&◌, ◌||◌, List, ℕ, ◌+◌, ◌*◌, length, drop, get_or, leb, ltb, eqb}
use Rattle.words.specs.Lists.{every, pairwise, is_zero}
use Rattle.sectors.specs.Sectors.{Cells, sec}
use Rattle.counts.specs.declared.Stamp.{Stamp}
use Rattle.counts.specs.Geometry.{g_n, g_p, geo_ok, geo_of, count_of, table_of}
use Rattle.counts.specs.Stamps.{max_tx, words_ok, stamp_of}
use Rattle.directory.specs.Directory.{entries_of, apart}
use Rattle.apages.specs.Index.{index_in, every_group}
use Rattle.card.specs.Sound.{view_ok}
use Rattle.session.specs.declared.Opened.{Opened}
use Rattle.session.specs.Views.{present_table, cut_table}

-- "its geometry is inside the limits, c is below N and t from 1 to 2,147,483,647, lengths .. agree"
unfoldable pub sizes_ok : Opened → List ℕ → Bool
sizes_ok s work =
    geo_ok s.geo && ltb s.c.0 (g_n s.geo) && leb 1 s.t.0 && leb s.t.0 max_tx && eqb (length work) (512 * s.geo.s)

-- "sector 0 agree[s] (count c + 1)"
unfoldable pub head_ok : Opened → Cells → Bool
head_ok s k =
    eqb (count_of k) (s.c.0 + 1) && eqb (geo_of k).s s.geo.s && eqb (geo_of k).t s.geo.t && eqb (geo_of k).d s.geo.d
    && every is_zero (drop 16 (k 0))

-- "table word c is t − 1 (worn: t and the word are 2,147,483,647)"
unfoldable pub word_ok : Bool → ℕ → ℕ → Bool
word_ok true t x = eqb t max_tx && eqb x max_tx
word_ok false t x = eqb (x + 1) t

-- "stamps at c have txc at most t"
unfoldable pub stamp_at_most : Opened → Stamp → Bool
stamp_at_most s x = not (eqb x.cc.0 s.c.0) || leb x.txc.0 s.t.0

unfoldable pub entry_at_most : Opened → List ℕ → Bool
entry_at_most s p = stamp_at_most s (stamp_of p)

-- the same of a group of the index, and of each of them
unfoldable pub group_at_most : Opened → ℕ → List ℕ → Bool
group_at_most s p x = stamp_at_most s (stamp_of x)

unfoldable pub index_at_most : Opened → List ℕ → Bool
index_at_most s ix = every_group (group_at_most s) ix 0 (g_p s.geo)

-- counts and table: sector 0, table word c, "every table word is at most 2,147,483,647, words past c are 0"
unfoldable pub table_fits : Opened → Cells → Bool
table_fits s k = head_ok s k && word_ok s.worn s.t.0 (get_or (table_of s.geo k) s.c.0 0) && words_ok s.c.0 (table_of s.geo k)

-- the two views: "each view passes the entry, index and bitmap rules, no name is present in either view of two entries, stamps dead in the present view have cc
-- below c"; in the cut view, below N
unfoldable pub views_fit : Opened → Cells → Bool
views_fit s k =
    view_ok s.geo s.c.0 (present_table s k) k && view_ok s.geo (g_n s.geo) (cut_table s k) k
    && pairwise (apart (present_table s k) (cut_table s k)) (entries_of s.geo k)

-- "stamps at c have txc at most t": those of entries and of the index
unfoldable pub stamps_fit : Opened → Cells → Bool
stamps_fit s k = every (entry_at_most s) (entries_of s.geo k) && index_at_most s (index_in s.geo k)

-- the rest of the paragraph in three parts
unfoldable pub fits_in : Opened → Cells → Bool
fits_in s k = table_fits s k && views_fit s k && stamps_fit s k

unfoldable pub fits : Opened → List ℕ → Bool
fits s work = sizes_ok s work && fits_in s (sec work)
