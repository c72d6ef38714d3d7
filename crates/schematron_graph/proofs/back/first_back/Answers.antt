use Rattle.schematron_graph.specs.Rules.{bodies_of}
use Rattle.schematron_graph.proofs.BackLemmas.{level-none, level-some}
use Rattle.schematron_graph.proofs.back.first_back.Goals as goal

pub confirmed-requires : goal.confirmed-requires
confirmed-requires c = λ back. level-some c.args.labels.now (bodies_of c.args.rules.now) c.in-Some.spot
    (c.never_rise.ensures c.if-not-never_rise.false) c.in-Some.ensures back

pub returns-in-None : goal.returns-in-None
returns-in-None c = level-none c.args.labels.now (bodies_of c.args.rules.now) (c.never_rise.ensures c.if-not-never_rise.false) _ c.in-None.ensures
