use Rattle.std.proofs.Common.{◌≡◌, List, ℕ, option_map, subst, ◌∙◌}
use Rattle.std.specs.Prelude.{IfOk}
use Rattle.held_rules.specs.Texts.{ready_in, seen_ready}
use Rattle.trial_run.specs.Trials.{trial_rules}
use Rattle.trial_run.proofs.judging.trial_rules.Goals as goal

pub returns-clause-rules : goal.returns-clause-rules
unfolding trial_rules
returns-clause-rules c =
    subst (λ (text : List ℕ). IfOk c.ready_rules.result (λ rules. option_map seen_ready rules ≡ ready_in text)) (c.as_bytes.ensures.value ∙ c.rule_file.ensures)
    c.ready_rules.ensures.said
