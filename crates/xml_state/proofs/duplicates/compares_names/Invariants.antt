use Rattle.std.proofs.Common.{◌≡◌, map, drop, take, [], bytes_eq}
use Rattle.xml_tokens.specs.Seen.{seen_attribute}
use Rattle.xml_state.specs.StartTags.{written_names, twice_behind}
use Rattle.xml_state.proofs.duplicates.compares_names.Given as goal

abbrev pub invariant-loop-i : goal.invariant-loop-i
invariant-loop-i l = twice_behind bytes_eq (written_names (map seen_attribute (take l.i l.attributes)))
    (written_names (map seen_attribute (drop l.i l.attributes))) ≡ twice_behind bytes_eq [] (written_names (map seen_attribute l.attributes))
