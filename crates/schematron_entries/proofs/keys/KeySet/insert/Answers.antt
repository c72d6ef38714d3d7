use Rattle.std.proofs.Common.{◌∙◌, ap, not}
use Rattle.std.specs.List.{list_any}
use Rattle.schematron_entries.specs.Keys as spec
use Rattle.schematron_entries.proofs.KeyLemmas.{any_same, put_same}
use Rattle.schematron_entries.proofs.keys.KeySet.insert.Goals as goal

pub returns-clause-added : goal.returns-clause-added
returns-clause-added c = c.in_ok-insert.ensures.added ∙ ap not (any_same c.args.key c.self.inside.keys.keys c.text_is_its_characters.ensures c.self.invariant
    ∙ ap (list_any (spec.is_same (spec.seen_key c.args.key))) c.self.view_is)

pub returns-clause-keys : goal.returns-clause-keys
returns-clause-keys c = put_same c.args.key c.self.inside.keys.keys c.insert.new.self.keys c.args.self.now c.text_is_its_characters.ensures c.self.invariant
    c.self.view_is c.in_ok-insert.ensures.keys
