use Rattle.std.proofs.Common.{◌∙◌, arith}
use Rattle.xpath_types.proofs.HeightLemmas.{one-less}
use Rattle.xpath_types.proofs.heights.Heights.truncate.Goals as goal

pub inner-preserved : goal.inner-preserved
inner-preserved c = one-less c.args.height c.inner.self c.pop.new.self c.pop.ensures (omega (arith, c.len.ensures, c.inner-test.true)) ∙ c.inner.invariant
