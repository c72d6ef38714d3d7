use Rattle.std.proofs.Common.{◌≡◌, ℕ, List, option_map, subst, ◌∙◌}
use Rattle.std.specs.Prelude.{IfOk}
use Rattle.held_rules.specs.Texts.{ready_in, seen_ready}
use Rattle.validation_jobs.specs.Validation.{built_in_rules}
use Rattle.validation_jobs.proofs.built_in.built_in_rules.Goals as goal

pub returns-clause-rules : goal.returns-clause-rules
unfolding built_in_rules
returns-clause-rules c =
    subst (λ (text : List ℕ). IfOk c.ready_rules.result (λ ready. option_map seen_ready ready ≡ ready_in text))
    (c.as_bytes.ensures.value ∙ c.rules_text.ensures)
    c.ready_rules.ensures.said
