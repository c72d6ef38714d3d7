use Rattle.std.proofs.Common.{◌≡◌, ◌*◌, ◌≤◌, take, length}
use Rattle.xml_write.specs.Escapes.{escaped}
use Rattle.xml_write.proofs.gauge.escaped_length.Given as goal

-- the bytes so far are measured, and none has more than six
abbrev pub invariant-bytes : goal.invariant-bytes
invariant-bytes l = (l.length ≡ length (escaped l.within (take l.byte-index l.fn.text))) × (l.length ≤ 6 * l.byte-index)
