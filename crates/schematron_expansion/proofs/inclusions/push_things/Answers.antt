use Rattle.schematron_expansion.proofs.PutLemmas.{things_on, put_all}
use Rattle.schematron_expansion.proofs.inclusions.push_things.Goals as goal

pub things-preserved : goal.things-preserved
things-preserved c = things_on c.args.file.now c.args.stand _ c.things.thing-index _ _ _ _ c.things-test.true c.things.invariant c.in_ok-push_at.ensures

pub returns : goal.returns
returns c = put_all c.args.file.now c.args.stand c.args.rule c.graph.result.now c.in_ok-things.things.items c.deref-thing-items.result.now c.things.thing-index
    _ _ c.graph.ensures c.in_ok-things.ensures
    c.deref-thing-items.ensures.value c.things-test.false c.things.invariant
