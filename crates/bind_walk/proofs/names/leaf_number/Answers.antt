use Rattle.std.proofs.Common.{ap, sym, ◌∙◌}
use Rattle.bind_walk.specs.Found.{found_leaf}
use Rattle.bind_walk.specs.declared.names.FoundLeaf.TheVariants as founds
use Rattle.bind_walk.proofs.NameLemmas.{attribute-found}
use Rattle.bind_walk.proofs.names.leaf_number.Goals as goal

pub returns-in_ok-found-in-Attribute : goal.returns-in_ok-found-in-Attribute
returns-in_ok-found-in-Attribute c =
    ap founds.Attribute (c.number_of.ensures ∙ attribute-found c.args.doc.now _ _ _ _ c.as_str.ensures c.names.ensures c.in_ok-found-in-Attribute.ensures)
    ∙ ap (found_leaf c.args.doc.now) (sym c.in-Attribute.is)
