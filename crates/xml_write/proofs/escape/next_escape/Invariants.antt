use Rattle.std.proofs.Common.{◌≡◌, ◌++◌, take, drop}
use Rattle.xml_write.specs.Escapes.{escaped}
use Rattle.xml_write.proofs.escape.next_escape.Given as goal

-- the bytes so far stand for themselves
abbrev pub invariant-bytes : goal.invariant-bytes
invariant-bytes l = escaped l.within l.bytes ≡ take l.at l.bytes ++ escaped l.within (drop l.at l.bytes)
