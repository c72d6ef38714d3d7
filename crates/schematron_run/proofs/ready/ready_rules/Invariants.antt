use Rattle.std.proofs.Common.{◌≡◌, ◌++◌, map, drop}
use Rattle.std.specs.List.{All}
use Rattle.schematron_rules.specs.Seen.{seen_rule}
use Rattle.schematron_run.specs.Ready.{ready_rule, IsRuleFor}
use Rattle.schematron_run.proofs.ready.ready_rules.Given as goal

abbrev pub invariant-rules : goal.invariant-rules
invariant-rules l = record {
  seen : map ready_rule l.made.items ++ map seen_rule (drop l.rule-index l.rules) ≡ map seen_rule l.rules;
  ready : All (IsRuleFor l.input.doc.now) l.made.items;
}
