use Rattle.std.proofs.Common.{◌≡◌, ◌+◌, length}
use Rattle.json_reading.specs.Reading.{run}
use Rattle.json_reading.specs.Standing.{state_of}
use Rattle.json_reading.proofs.reading.read_bytes.Given as goal

-- what is read of the rest is what is read of all
abbrev pub invariant-bytes : goal.invariant-bytes
invariant-bytes l =
    (run l.deepest l.at l.rest (state_of l.reader) ≡ run l.deepest 0 l.bytes (state_of l.initial.reader))
    × (l.at + length l.rest ≡ length l.bytes)

abbrev pub decreases-bytes : goal.decreases-bytes
decreases-bytes l = length l.rest
