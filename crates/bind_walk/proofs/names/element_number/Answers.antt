use Rattle.std.proofs.Common.{◌∙◌}
use Rattle.bind_walk.proofs.NameLemmas.{element-found}
use Rattle.bind_walk.proofs.names.element_number.Goals as goal

pub returns : goal.returns
returns c = c.number_of.ensures ∙ element-found c.args.doc.now c.args.name.now _ _ _ _ c.uri_of.ensures c.as_str.ensures c.names.ensures c.in_ok-found.ensures
