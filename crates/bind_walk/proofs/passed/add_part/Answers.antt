use Rattle.std.proofs.Common.{ap, ◌∙◌}
use Rattle.std.specs.Prelude.{get_or}
use Rattle.bind_walk.specs.Passing.{no_part}
use Rattle.bind_walk.proofs.PassLemmas.{naming_some, naming_more}
use Rattle.bind_walk.proofs.passed.add_part.Goals as goal

pub add_named-requires-clause-span : goal.add_named-requires-clause-span
add_named-requires-clause-span c =
    naming_some _ _ _ _ _ _ _ c.spans.invariant c.span_at-span.result c.spans-test.true c.requires.part
    (c.span_at-span.ensures ∙ ap (λ ss. get_or ss c.spans.at no_part) c.as_slice.ensures.value)

pub spans-preserved : goal.spans-preserved
spans-preserved c =
    naming_more _ _ _ _ _ _ _ c.spans.invariant c.span_at-span.result _ c.spans-test.true c.requires.part
    (c.span_at-span.ensures ∙ ap (λ ss. get_or ss c.spans.at no_part) c.as_slice.ensures.value) c.in_ok-add_named.ensures
