use Rattle.std.proofs.Common.{◌∙◌}
use Rattle.schematron_graph.proofs.BackLemmas.{row-first}
use Rattle.schematron_graph.proofs.back.back_in.Goals as goal

pub returns : goal.returns
returns c = row-first c.args.rules.now c.args.rule c.deref.result.now c.body.result.now c.leading_in.result
    (c.deref.ensures.value ∙ c.in_ok-row.ensures) c.body.ensures c.leading_in.ensures
