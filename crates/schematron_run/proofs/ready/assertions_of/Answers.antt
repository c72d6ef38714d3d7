use Rattle.schematron_rules.specs.Seen.{seen_assertion}
use Rattle.schematron_run.specs.Ready.{ready_assertion, IsAssertionFor}
use Rattle.schematron_run.proofs.ListLemmas.{made_next, made_end, all_pushed}
use Rattle.schematron_run.proofs.ready.assertions_of.Goals as goal

pub assertions-preserved : goal.assertions-preserved
assertions-preserved c =
    let made = c.assertions.made.items in
    let x = c.in_ok-assertion_of.field-0 in
    record {
      seen = made_next ready_assertion seen_assertion c.args.assertions.now c.assertions.assertion-index c.assertion-item.result made c.push.new.self.items x
          c.assertion-item.is c.assertions-test.true
          c.in_ok-push.ensures.items c.in_ok-assertion_of.ensures.seen c.assertions.invariant.seen;
      ready = all_pushed (IsAssertionFor c.args.input.now.doc.now) made c.push.new.self.items x c.in_ok-push.ensures.items c.assertions.invariant.ready
          c.in_ok-assertion_of.ensures.ready;
    }

pub returns-clause-seen : goal.returns-clause-seen
returns-clause-seen c = made_end ready_assertion seen_assertion c.args.assertions.now c.assertions.assertion-index c.assertions.made.items
    c.assertions-test.false c.assertions.invariant.seen
