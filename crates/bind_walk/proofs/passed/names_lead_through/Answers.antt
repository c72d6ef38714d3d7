use Rattle.std.proofs.Common.{◌≡◌, ℕ, ◌+◌, ◌-◌, ap, sym, ◌∙◌, subst, true, Option, Some, arith}
use Rattle.std.specs.Prelude.{nat_lt, nat_le}
use Rattle.std.proofs.lemmas.Bool.{ltb-true, and_parts}
use Rattle.std.proofs.lemmas.List.{length-map}
use Rattle.node_arena.specs.Moves.{node_of, tree_nodes, tree_node, parent, last_inside, is_between}
use Rattle.bind_meaning.specs.Elements.{is_element}
use Rattle.bind_walk.specs.Passing.{IsAround}
use Rattle.bind_walk.proofs.LinkLemmas.{IsRead, name-is}
use Rattle.bind_walk.proofs.PassLemmas.{kinds-are, on-is, passed-is}
use Rattle.bind_walk.proofs.PlaceLemmas.{least-is}
use Rattle.bind_walk.proofs.passed.names_lead_through.Goals as goal

same-parent : (o : Option ℕ) (p q : ℕ) → o ≡ Some p → o ≡ Some q → p ≡ q
same-parent o p q e f = cc

pub returns : goal.returns
returns c =
    let d = c.args.doc.now in
    let of = c.is_of_a_tree.ensures in
    let read : IsRead d = record {
      named = λ name n within. c.names_are_found_by_number.ensures d name n of.distinct of.named within;
      numbers = c.chains_lead_on.ensures.numbers;
    } in
    record {
      named = name-is d read;
      rooted = of.rooted;
      few = of.few;
      numbers = c.chains_lead_on.ensures.numbers;
      kinds_are = kinds-are d;
      outermost = ap (λ nodes. (tree_node nodes 0).above) of.tree.has_nodes;
      no_element = ap (λ nodes. is_element (tree_node nodes 0)) of.tree.has_nodes;
      inside_one = λ m p within is. (c.moves_lead_on.ensures d of.tree.tree of.tree.has_nodes m within).around p is;
      has_parent = λ m some within.
          let long = length-map d.nodes (node_of d.names) in
          let w = (c.moves_lead_on.ensures d of.tree.tree of.tree.has_nodes (m - 1) (omega (arith, some, within))).next_parent
          (omega (arith, some, within, long)) in
          (w.0, subst (λ k. parent (tree_nodes d) k ≡ Some w.0) (let e : m - 1 + 1 ≡ m = omega (arith, some) in e) w.1);
      next = λ n p within is.
          let long = length-map d.nodes (node_of d.names) in
          let w = (c.moves_lead_on.ensures d of.tree.tree of.tree.has_nodes n (omega (arith, within))).next_parent (omega (arith, within, long)) in
          let same : w.0 ≡ p = same-parent (parent (tree_nodes d) (n + 1)) w.0 p w.1 is in
          subst (λ k. IsAround d k n) same w.2;
      first = ap (λ nodes. (tree_node nodes 0).kind) of.tree.has_nodes;
      inner = λ q k below within is.
          let e : is_between q (last_inside (tree_nodes d) q) k ≡ true =
          sym (c.insides_are_intervals.ensures d of.tree.tree of.tree.has_nodes q k below within) ∙ is in
          ltb-true q k (and_parts (nat_lt q k) (nat_le k (last_inside (tree_nodes d) q)) e).0;
      on_a_way = on-is d c.same_steps_are_equal.ensures;
      least = least-is d c.same_steps_are_equal.ensures;
      passed_over = passed-is d c.same_steps_are_equal.ensures;
    }
