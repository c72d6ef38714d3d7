use Rattle.std.proofs.Common.{◌≡◌, map, drop, bytes_eq}
use Rattle.std.specs.List.{list_any}
use Rattle.xml_tokens.specs.Seen.{seen_attribute}
use Rattle.xml_state.specs.StartTags.{written_names}
use Rattle.xml_state.proofs.duplicates.has_name.Given as goal

abbrev pub invariant-loop-attribute : goal.invariant-loop-attribute
invariant-loop-attribute l = list_any (bytes_eq l.name) (written_names (map seen_attribute (drop l.attribute-index l.attributes))) ≡ list_any (bytes_eq l.name)
    (written_names (map seen_attribute l.attributes))
