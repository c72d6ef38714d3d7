use Rattle.std.proofs.Common.{◌≡◌, map, drop, take, [], bytes_eq}
use Rattle.xml_tokens.specs.Seen.{seen_attribute}
use Rattle.xml_state.specs.StartTags.{written_names, twice_behind}
use Rattle.xml_state.proofs.LookupLemmas.{HasNames}
use Rattle.xml_state.proofs.duplicates.looks_names_up.Given as goal

abbrev pub invariant-loop-attribute : goal.invariant-loop-attribute
invariant-loop-attribute l = record {
  twice : twice_behind bytes_eq (written_names (map seen_attribute (take l.attribute-index l.attributes)))
      (written_names (map seen_attribute (drop l.attribute-index l.attributes))) ≡ twice_behind bytes_eq [] (written_names (map seen_attribute l.attributes));
  has : HasNames l.names (written_names (map seen_attribute (take l.attribute-index l.attributes)));
}
