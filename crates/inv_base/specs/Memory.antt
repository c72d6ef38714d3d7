-- Files and outputs in memory: what they hold, the calls that fail, and how far their counts are.
use Rattle.std.specs.Prelude.{ℕ, Bool, true, ◌||◌, not, List, ◌++◌, length, take, drop, nat_le, ◌==◌, Option, Some, None}
use Rattle.std.specs.List.{list_any}
use Rattle.inv_base.specs.Counts.{next_count}
use Rattle.inv_base.specs.Outside.{SinkView, ShelfView}
use Rattle.inv_base.specs.Files.{is_named, content_of}

-- an output: the bytes that it took, its room, the numbers of the calls that fail, and its counts
pub record Taken : Type 0 where
  pub bytes : List ℕ
  pub room : ℕ
  pub failing : List ℕ
  pub calls : ℕ
  pub faults : ℕ

-- files, the newest first, the bytes left of the open one, how many of them a read gives at most, where that is
-- bounded, the numbers of the calls that fail, and the counts
pub record Kept : Type 0 where
  pub files : List (List ℕ × List ℕ)
  pub left : List ℕ
  pub piece : Option ℕ
  pub failing : List ℕ
  pub calls : ℕ
  pub faults : ℕ
  pub opens : ℕ

-- The next call is one of those that fail.
abbrev pub is_listed : List ℕ → ℕ → Bool
is_listed failing calls = list_any (λ call. call == next_count calls) failing

-- what an output shows as a sink: it tells its bytes
abbrev pub sink_of : Taken → SinkView
sink_of s = record { told = Some s.bytes; faults = s.faults }

-- The next write fails: it is listed, or the room is full.
abbrev pub is_refused : Taken → Bool
is_refused s = is_listed s.failing s.calls || nat_le s.room (length s.bytes)

-- the output behind a write that fails
abbrev pub behind_refusal : Taken → Taken
behind_refusal s = record s { calls = next_count s.calls; faults = next_count s.faults }

-- the output behind a write that takes so many bytes of the piece
abbrev pub behind_write : ℕ → List ℕ → Taken → Taken
behind_write count piece s = record s { bytes = s.bytes ++ take count piece; calls = next_count s.calls }

-- what files in memory show as a shelf: they tell their content, and every other name is absent
abbrev pub shelf_of : Kept → ShelfView
shelf_of s = record { held = Some (record { named = s.files; others_absent = true }); left = Some s.left; faults = s.faults; opens = s.opens }

-- The next open of the name fails: it is listed, or there is no such file.
abbrev pub cannot_open : List ℕ → Kept → Bool
cannot_open name s = is_listed s.failing s.calls || not (is_named name s.files)

-- the files behind an open that fails, and behind one that doesn't
abbrev pub behind_failed_open : Kept → Kept
behind_failed_open s = record s { calls = next_count s.calls; faults = next_count s.faults; opens = next_count s.opens }

abbrev pub behind_open : List ℕ → Kept → Kept
behind_open name s = record s { left = content_of name s.files; calls = next_count s.calls; opens = next_count s.opens }

-- the bytes that a read gives into a buffer with room for them
abbrev pub within_piece : Option ℕ → List ℕ → List ℕ
within_piece None left = left
within_piece (Some piece) left = take piece left

-- the files behind a read that fails, and behind one that gives so many bytes
abbrev pub behind_failed_read : Kept → Kept
behind_failed_read s = record s { calls = next_count s.calls; faults = next_count s.faults }

abbrev pub behind_read : ℕ → Kept → Kept
behind_read count s = record s { left = drop count s.left; calls = next_count s.calls }
