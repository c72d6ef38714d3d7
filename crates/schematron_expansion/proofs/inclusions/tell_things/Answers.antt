use Rattle.std.proofs.Common.{map}
use Rattle.schematron_expansion.specs.Seen.{seen_put}
use Rattle.schematron_expansion.proofs.PutLemmas.{tells_on, tells_rule}
use Rattle.schematron_expansion.proofs.inclusions.tell_things.Goals as goal

pub things-preserved : goal.things-preserved
things-preserved c = tells_on c.args.file.now c.args.stand c.deref-thing-items.result.now c.things.thing-index _ c.args.firsts.now.told.keys
    c.things.firsts.told.keys c.tell_at.new.firsts.told.keys
    (map seen_put c.args.firsts.now.found.items) (map seen_put c.things.firsts.found.items) (map seen_put c.tell_at.new.firsts.found.items) c.things-test.true
    c.things.invariant c.in_ok-tell_at.ensures

pub returns : goal.returns
returns c =
    tells_rule c.args.file.now c.args.stand c.args.rule c.graph.result.now c.in_ok-things.things.items c.deref-thing-items.result.now c.things.thing-index
    c.args.firsts.now.told.keys c.things.firsts.told.keys (map seen_put c.args.firsts.now.found.items) (map seen_put c.things.firsts.found.items)
    c.graph.ensures c.in_ok-things.ensures
    c.deref-thing-items.ensures.value c.things-test.false c.things.invariant
