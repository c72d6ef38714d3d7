use Rattle.schematron_rules.specs.Seen.{seen_let}
use Rattle.schematron_run.specs.Ready.{ready_let, IsLetFor}
use Rattle.schematron_run.proofs.ListLemmas.{made_next, made_end, all_pushed}
use Rattle.schematron_run.proofs.ready.ready_lets.Goals as goal

pub lets-preserved : goal.lets-preserved
lets-preserved c =
    let made = c.lets.made.items in
    let x = c.in_ok-let_of.field-0 in
    record {
      seen = made_next ready_let seen_let c.args.lets.now c.lets.variable-index c.variable-item.result made c.push.new.self.items x c.variable-item.is
          c.lets-test.true
          c.in_ok-push.ensures.items c.in_ok-let_of.ensures.seen c.lets.invariant.seen;
      ready = all_pushed (IsLetFor c.args.input.now.doc.now) made c.push.new.self.items x c.in_ok-push.ensures.items c.lets.invariant.ready
          c.in_ok-let_of.ensures.ready;
    }

pub returns-clause-seen : goal.returns-clause-seen
returns-clause-seen c = made_end ready_let seen_let c.args.lets.now c.lets.variable-index c.lets.made.items c.lets-test.false c.lets.invariant.seen
