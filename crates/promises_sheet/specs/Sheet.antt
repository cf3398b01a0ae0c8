-- "The starred cases are one table with one proof over the definitions". Assumes nothing.
use Rattle.std.specs.Prelude.{List, [], ◌∷◌, ℕ, replicate}
use Rattle.promises_sheet.specs.Acts.{Act, makes, mounts, puts, puts_at, removes, gets, frees, syncs, lands, unmounts, cuts, sync_cuts, shows, reads, reads_line, refuses, counts, work_counts, sets, tops, stamps}

abbrev pub a : List ℕ
a = 97 ∷ []

abbrev pub b : List ℕ
b = 98 ∷ []

abbrev pub c : List ℕ
c = 99 ∷ []

abbrev pub d : List ℕ
d = 100 ∷ []

abbrev pub e : List ℕ
e = 101 ∷ []

-- S = 10, T = 1, D = 1 unless said
unfoldable pub ten : List Act → List Act
ten acts = makes 10 0 ∷ mounts 0 ∷ acts

-- four synced files of 0 bytes
unfoldable pub four_files : List Act → List Act
four_files acts = makes 10 0 ∷ mounts 0 ∷ puts a 0 0 ∷ puts b 0 0 ∷ puts c 0 0 ∷ puts d 0 0 ∷ syncs 0 2 ∷ acts

unfoldable pub starred : List (List Act)
unfolding ten four_files
starred =
    -- S = 6 is refused 1; S = 7 is made
    (makes 6 1 ∷ [])
    ∷ (makes 7 0 ∷ reads 0 0 1 ∷ mounts 0 ∷ puts a 1 0 ∷ shows a 1 6 1 ∷ frees 0 0 ∷ [])
    -- Name of 32 bytes taken; 0 and 33 refused 5
    ∷ ten (puts (replicate 32 120) 1 0 ∷ shows (replicate 32 120) 1 6 1 ∷ frees 3 0 ∷ [])
    ∷ ten (puts [] 1 5 ∷ frees 4 0 ∷ puts (replicate 33 120) 1 5 ∷ frees 4 0 ∷ [])
    -- 513 bytes take sectors 6 and 7
    ∷ ten (puts a 513 0 ∷ shows a 513 6 2 ∷ frees 2 0 ∷ [])
    -- Put a (2 sectors), sync, put a (2 sectors): at 8. Put b of 1 byte: 8. After sync it goes to 6
    ∷ ten (puts a 1024 0 ∷ syncs 0 6 ∷ puts a 1024 0 ∷ shows a 1024 8 2 ∷ frees 0 2 ∷ puts b 1 8 ∷ syncs 0 6 ∷ frees 2 0 ∷ puts b 1 0 ∷ shows b 1 6 1 ∷ [])
    -- Put a (1 sector), remove a, put b (1 sector), no sync: b at 6
    ∷ ten (puts a 1 0 ∷ removes a 0 ∷ puts b 1 0 ∷ shows b 1 6 1 ∷ frees 3 0 ∷ [])
    -- 0 bytes are stored with no room left
    ∷ ten (puts a 2048 0 ∷ frees 0 0 ∷ puts b 0 0 ∷ shows b 0 0 0 ∷ [])
    -- Four synced files of 0 bytes, one removed: a fifth name gets 7, and after a sync it is taken. Put instead of it, the removed name is taken at once
    ∷ four_files (removes b 0 ∷ puts e 0 7 ∷ syncs 0 2 ∷ puts e 0 0 ∷ shows e 0 0 0 ∷ [])
    ∷ four_files (removes b 0 ∷ puts b 0 0 ∷ shows b 0 0 0 ∷ [])
    -- C = 127: mount writes 128. After a cut mount gives 3, reading still shows the files
    ∷ ten (puts a 513 0 ∷ unmounts 0 6 ∷ counts 0 ∷ work_counts 0 ∷ sets 127 ∷ mounts 0 ∷ counts 128 ∷ cuts ∷ mounts 3 ∷ reads 128 1 2 ∷ reads_line a 513 6 2 ∷ [])
    -- Word C = 2,147,483,646: sync gives 0, then put gives 9; unmount leaves C + 1. Word C = 2,147,483,647 is refused 2
    ∷ (makes 10 0 ∷ tops 0 2147483646 ∷ mounts 0 ∷ puts a 1 0 ∷ syncs 0 5 ∷ puts b 1 9 ∷ unmounts 0 0 ∷ counts 1 ∷ work_counts 1 ∷ reads_line a 1 6 1 ∷ [])
    ∷ (makes 10 0 ∷ tops 0 2147483647 ∷ mounts 2 ∷ refuses 2 ∷ [])
    ∷ []

-- lines without a star that compute in the same way
unfoldable pub others : List (List Act)
unfolding ten
others =
    -- A stamp (C, word C + 1) is refused 2; the same at C − 1 is dead and shows the old version
    ten (puts a 0 0 ∷ syncs 0 2 ∷ cuts ∷ stamps 1 1 ∷ refuses 2 ∷ stamps 0 2 ∷ reads 1 0 4 ∷ [])
    ∷ ten (puts a 0 0 ∷ syncs 0 2 ∷ puts a 1 0 ∷ lands 5 0 ∷ cuts ∷ reads 1 1 4 ∷ reads_line a 0 0 0 ∷ [])
    -- Cut in sync before the table sector: the earlier files. After it: the new ones
    ∷ ten (puts a 0 0 ∷ syncs 0 2 ∷ puts a 1 0 ∷ sync_cuts 5 ∷ reads_line a 0 0 0 ∷ reads 1 1 4 ∷ [])
    ∷ ten (puts a 0 0 ∷ syncs 0 2 ∷ puts a 1 0 ∷ sync_cuts 6 ∷ reads_line a 1 6 1 ∷ reads 1 1 3 ∷ [])
    -- Get into a buffer of the file's size: 0; one byte less: 10
    ∷ ten (puts a 513 0 ∷ gets a 513 0 513 ∷ gets a 515 0 513 ∷ [])
    ∷ ten (puts a 513 0 ∷ gets a 512 10 0 ∷ gets b 512 6 0 ∷ [])
    -- document 02, No. 1: a table is removed; none is free until the next sync releases its sector
    ∷ (makes 7 0 ∷ mounts 0 ∷ puts a 1 0 ∷ syncs 0 5 ∷ removes a 0 ∷ frees 0 1 ∷ puts b 1 8 ∷ syncs 0 3 ∷ frees 1 0 ∷ puts b 1 0 ∷ frees 0 0 ∷ [])
    -- on a chopped card two sectors are free, and a put of two gets 8
    ∷ ten (puts a 1 0 ∷ puts b 1 0 ∷ puts c 1 0 ∷ syncs 0 7 ∷ removes b 0 ∷ syncs 0 4 ∷ frees 2 0 ∷ puts d 1024 8 ∷ puts d 512 0 ∷ shows d 512 7 1 ∷ [])
    -- document 02: "A sync with no change writes exactly 1."; a sector that a land wrote is not written again
    ∷ ten (syncs 0 1 ∷ puts a 513 0 ∷ syncs 0 6 ∷ syncs 0 1 ∷ puts a 513 0 ∷ lands 5 0 ∷ syncs 0 5 ∷ unmounts 0 1 ∷ [])
    -- document 02, No. 4: "the first fitting run at or after it, else the lowest"; 11 for a goal of S, none for one below F
    ∷ ten (puts_at a 1 8 0 ∷ shows a 1 8 1 ∷ puts_at b 513 7 0 ∷ shows b 513 6 2 ∷ puts_at c 0 10 11 ∷ puts_at c 1 5 0 ∷ shows c 1 9 1 ∷ [])
    ∷ []
