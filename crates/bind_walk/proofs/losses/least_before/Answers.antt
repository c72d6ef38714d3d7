use Rattle.std.proofs.lemmas.List.{nil_from_length}
use Rattle.bind_walk.proofs.LossLemmas.{least_more, least_end}
use Rattle.bind_walk.proofs.losses.least_before.Goals as goal

pub spans-preserved : goal.spans-preserved
spans-preserved c = least_more _ _ _ _ _ _ _ _ c.spans.invariant c.in-Some.ensures.cases.0 c.place_of.ensures c.lesser-least.ensures

pub returns : goal.returns
returns c = least_end _ _ _ _ c.spans.invariant (nil_from_length _ c.in_default.ensures.cases)
