use Rattle.std.proofs.Common.{sym, ap, ◌∙◌}
use Rattle.node_arena.specs.Moves.{tree_nodes}
use Rattle.xpath_meaning.specs.Values.{then_}
use Rattle.xpath_meaning.specs.Steps.{path}
use Rattle.xpath_meaning.specs.Resolving.{all_inside}
use Rattle.xpath_parts.specs.Links.{turn}
use Rattle.xpath_parts.proofs.linking.at_all_inside.Goals as goal

pub returns-in-Ok-clause-ahead : goal.returns-in-Ok-clause-ahead
returns-in-Ok-clause-ahead g c = λ y d. let nodes = tree_nodes c.args.dynamic.now.doc.now in
    ap (λ v. then_ v (path nodes (turn nodes y d)))
    (ap (path nodes (turn nodes all_inside d)) (sym c.as_slice.ensures) ∙ c.in-Ok.ensures.stepped c.args.dynamic.now.names.now c.requires.numbered)

pub returns-in-Err-Error-clause-ahead : goal.returns-in-Err-Error-clause-ahead
returns-in-Err-Error-clause-ahead g c = λ y d. let nodes = tree_nodes c.args.dynamic.now.doc.now in
    ap (λ v. then_ v (path nodes (turn nodes y d)))
    (ap (path nodes (turn nodes all_inside d)) (sym c.as_slice.ensures) ∙
    rw c.in-Err-Error.field-0-is at (c.in-Err-Error.ensures.stepped c.args.dynamic.now.names.now c.requires.numbered))
