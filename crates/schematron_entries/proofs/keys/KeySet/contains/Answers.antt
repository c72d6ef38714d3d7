use Rattle.std.proofs.Common.{◌∙◌, ap}
use Rattle.std.specs.List.{list_any}
use Rattle.schematron_entries.specs.Keys as spec
use Rattle.schematron_entries.proofs.KeyLemmas.{any_same}
use Rattle.schematron_entries.proofs.keys.KeySet.contains.Goals as goal

pub returns : goal.returns
returns c = c.contains.ensures ∙ (any_same c.args.key c.self.inside.keys.keys c.text_is_its_characters.ensures c.self.invariant
    ∙ ap (list_any (spec.is_same (spec.seen_key c.args.key))) c.self.view_is)
