use Rattle.schematron_rules.specs.Seen.{seen_part}
use Rattle.schematron_run.specs.Ready.{ready_part, IsPartFor}
use Rattle.schematron_run.proofs.ListLemmas.{made_next, made_end, all_pushed}
use Rattle.schematron_run.proofs.ready.parts_of.Goals as goal

pub parts-preserved : goal.parts-preserved
parts-preserved c =
    let made = c.parts.made.items in
    let x = c.in_ok-part_of.field-0 in
    record {
      seen = made_next ready_part seen_part c.args.parts.now c.parts.part-index c.part-item.result made c.push.new.self.items x c.part-item.is c.parts-test.true
          c.in_ok-push.ensures.items c.in_ok-part_of.ensures.seen c.parts.invariant.seen;
      ready = all_pushed (IsPartFor c.args.input.now.doc.now) made c.push.new.self.items x c.in_ok-push.ensures.items c.parts.invariant.ready
          c.in_ok-part_of.ensures.ready;
    }

pub returns-clause-seen : goal.returns-clause-seen
returns-clause-seen c = made_end ready_part seen_part c.args.parts.now c.parts.part-index c.parts.made.items c.parts-test.false c.parts.invariant.seen
