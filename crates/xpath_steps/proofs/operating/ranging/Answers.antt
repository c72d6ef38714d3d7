use Rattle.std.proofs.Common.{length}
use Rattle.xpath_steps.proofs.WithinLemmas.{gives_within}
use Rattle.xpath_steps.proofs.ValueLemmas.{range_within}
use Rattle.xpath_steps.proofs.operating.ranging.Goals as goal

pub returns-clause-within : goal.returns-clause-within
returns-clause-within c =
    gives_within (length c.args.doc.now.nodes) c.range.result _ c.range.ensures
    (range_within (length c.args.doc.now.nodes) c.deref.result.now c.deref-2.result.now)
