use Rattle.schematron_rules.specs.Seen.{seen_rule}
use Rattle.schematron_run.specs.Ready.{ready_rule, IsRuleFor}
use Rattle.schematron_run.proofs.ListLemmas.{made_next, made_end, all_pushed}
use Rattle.schematron_run.proofs.ready.ready_rules.Goals as goal

pub rules-preserved : goal.rules-preserved
rules-preserved c =
    let made = c.rules.made.items in
    let x = c.in_ok-rule_of.field-0 in
    record {
      seen = made_next ready_rule seen_rule c.args.rules.now c.rules.rule-index c.rule-item.result made c.push.new.self.items x c.rule-item.is c.rules-test.true
          c.in_ok-push.ensures.items c.in_ok-rule_of.ensures.seen c.rules.invariant.seen;
      ready = all_pushed (IsRuleFor c.args.input.now.doc.now) made c.push.new.self.items x c.in_ok-push.ensures.items c.rules.invariant.ready
          c.in_ok-rule_of.ensures.ready;
    }

pub returns-clause-seen : goal.returns-clause-seen
returns-clause-seen c = made_end ready_rule seen_rule c.args.rules.now c.rules.rule-index c.rules.made.items c.rules-test.false c.rules.invariant.seen
