use Rattle.std.proofs.Common.{◌∙◌, sym, ap, length, arith}
use Rattle.schematron_graph.specs.Rules.{bodies_of}
use Rattle.schematron_graph.proofs.BackLemmas.{along-back, length_bodies}
use Rattle.schematron_graph.proofs.back.way_back.Goals as goal

pub returns : goal.returns
returns c = λ t.
    along-back (bodies_of c.args.rules.now) c.args.rule c.args.other (length c.args.rules.now) c.deref.result.now (sym (length_bodies c.args.rules.now))
    (omega (arith, c.if-len-rules.false, c.len.ensures, ap length c.deref.ensures.value)) (sym c.leads_along.ensures ∙ t)
