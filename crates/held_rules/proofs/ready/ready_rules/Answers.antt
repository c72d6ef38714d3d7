use Rattle.std.proofs.Common.{◌≡◌, Some, option_map, subst, ap, sym, ◌∙◌}
use Rattle.std.specs.Prelude.{IfOk}
use Rattle.schematron_rules.specs.Seen.{seen_rules}
use Rattle.held_rules.specs.Texts.{rules_in, by_default, ready_in, seen_ready}
use Rattle.held_rules.proofs.ready.ready_rules.Goals as goal

pub returns-in-Ok-Some-clause-said : goal.returns-in-Ok-Some-clause-said
unfolding ready_in
returns-in-Ok-Some-clause-said c =
    subst (λ rules. IfOk c.by_default.result (λ ready. option_map seen_ready ready ≡ by_default rules)) ((rw c.in-Ok-Some.field-0-is at c.in-Ok-Some.ensures) ∙
    ap rules_in c.in_ok-doc.ensures) c.by_default.ensures.said

pub returns-in-Ok-None-clause-said : goal.returns-in-Ok-None-clause-said
unfolding ready_in
returns-in-Ok-None-clause-said c = ap by_default ((rw c.in-Ok-None.field-0-is at c.in-Ok-None.ensures) ∙ ap rules_in c.in_ok-doc.ensures)

pub returns-in-Ok-None-clause-ready : goal.returns-in-Ok-None-clause-ready
returns-in-Ok-None-clause-ready c = λ one e. cc
