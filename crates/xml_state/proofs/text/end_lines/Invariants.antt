use Rattle.std.proofs.Common.{◌≡◌, ◌++◌, length, drop, false, string_bytes}
use Rattle.std.specs.Str.{chars}
use Rattle.xml_state.specs.LineEnds.{read_lines}
use Rattle.xml_state.proofs.text.end_lines.Given as goal

abbrev pub invariant-loop-c : goal.invariant-loop-c
invariant-loop-c l = chars (string_bytes l.text) ++ read_lines l.is_behind_return (drop (length l.yielded) (chars l.written)) ≡ read_lines false
    (chars l.written)
