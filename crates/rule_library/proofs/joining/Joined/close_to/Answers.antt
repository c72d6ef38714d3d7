use Rattle.std.proofs.Common.{◌-◌, length, ap, ◌∙◌, arith}
use Rattle.node_arena.specs.Document.{Built}
use Rattle.rule_library.specs.Readings.{Joined}
use Rattle.rule_library.specs.Joining.{ended_times}
use Rattle.rule_library.proofs.GrownLemmas.{ended_length, closes-one}
use Rattle.rule_library.proofs.joining.Joined.close_to.Goals as goal

pub ends-init : goal.ends-init
ends-init c = record {
  depth = c.self.invariant.0;
  some = c.self.invariant.1;
  names = ap (λ (j : Joined). j.names) c.self.view_is;
  same = ap (λ k. ended_times (k - c.args.n) c.self.inside.builder) c.self.invariant.0 ∙
      ap (λ (j : Joined). ended_times (length j.built.open_nodes - c.args.n) j.built) c.self.view_is;
}

pub ends-preserved : goal.ends-preserved
ends-preserved c =
    let b = c.ends.self-inside.builder in
    let e = c.in_ok-end_element.ensures in
    let less = ended_length b.open_nodes (omega (arith, c.requires, c.ends-test.true, c.ends.invariant.depth)) in
    let few = ap (λ (other : Built). length other.open_nodes) e in
    record {
      depth = omega (arith, less, few, c.ends.invariant.depth);
      some = omega (arith, c.requires, c.ends-test.true);
      names = c.ends.invariant.names;
      same = ap (λ (other : Built). ended_times (c.ends.self-inside.depth - 1 - c.args.n) other) e ∙
          closes-one c.args.n c.ends.self-inside.depth b _ c.ends-test.true c.ends.invariant.same;
    }
