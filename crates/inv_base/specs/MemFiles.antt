-- How files in memory are kept: in the order in which they were added, with the place in the open one.
use Rattle.std.specs.Prelude.{ℕ, ◌<◌, ◌≤◌, length, List, [], map, reverse, drop, Option, Some, None, option_map, unwrap_or, slice_get, string_bytes}
use Rattle.inv_base.specs.declared.mem_shelf.MemFile.{MemFile}
use Rattle.inv_base.specs.declared.mem_shelf.Opened.{Opened}

abbrev pub file_of : MemFile → List ℕ × List ℕ
file_of file = (string_bytes file.name, file.bytes.items)

-- the newest first, so that the last one added of a name counts
abbrev pub newest_first : List MemFile → List (List ℕ × List ℕ)
newest_first files = reverse (map file_of files)

abbrev pub bytes_at : ℕ → List MemFile → List ℕ
bytes_at k files = unwrap_or (option_map (λ (file : MemFile). file.bytes.items) (slice_get files k)) []

-- the bytes left of the open file, none where no file is open
abbrev pub left_of : List MemFile → Option Opened → List ℕ
left_of files None = []
left_of files (Some opened) = drop opened.position (bytes_at opened.file files)

-- A file that is open is one of the files, and no more of it was read than it has.
abbrev pub IsPlace : List MemFile → Option Opened → Type 0
IsPlace files None = Unit {0}
IsPlace files (Some opened) = (opened.file < length files) × (opened.position ≤ length (bytes_at opened.file files))

-- A read gives at least one byte where there are some.
abbrev pub IsPiece : Option ℕ → Type 0
IsPiece None = Unit {0}
IsPiece (Some piece) = 0 < piece
