use Rattle.std.proofs.Common.{◌≤◌, length, arith}
use Rattle.xml_state.proofs.FoundLemmas.{found-innermost, found-pop, front-popped}
use Rattle.xml_state.proofs.scopes.unbind_to.Goals as goal

pub unbind-requires : goal.unbind-requires
unbind-requires c = found-innermost c.bindings.shown c.bindings.bindings.items c.pop.new.self.items c.in-Some.bound c.bindings.invariant.found
    c.in-Some.ensures.items

pub bindings-preserved : goal.bindings-preserved
bindings-preserved c =
    let within : c.args.inside ≤ length c.pop.new.self.items = omega (arith, c.in-Some.ensures.cases, c.bindings-test.true) in
    record {
      front = front-popped c.args.inside c.bindings.bindings.items c.pop.new.self.items c.args.bindings.now.items c.in-Some.bound c.in-Some.ensures.items within
          c.bindings.invariant.front;
      found = found-pop c.bindings.shown c.unbind.new.shown c.bindings.bindings.items c.pop.new.self.items c.in-Some.bound c.bindings.invariant.found
          c.in-Some.ensures.items c.unbind.ensures;
    }
