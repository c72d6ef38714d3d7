use Rattle.std.proofs.Common.{ap, ◌∙◌, sym}
use Rattle.node_arena.specs.Moves.{is_between}
use Rattle.rule_library.specs.Turns.{from}
use Rattle.rule_library.proofs.PartLemmas.{is_behind}
use Rattle.rule_library.proofs.parts.behind.Goals as goal

pub returns : goal.returns
returns c =
    let doc = c.args.doc.now in
    let of = c.is_of_a_tree.ensures in
    let n = c.args.n in
    let last = c.last_of.result in
    record {
      rest = is_behind doc n last (from c.next_of.result doc.nodes) c.requires c.last_of.ensures.low c.last_of.ensures.within of.numbers
          (λ k l. c.insides_are_intervals.ensures doc of.tree.tree of.tree.has_nodes n k c.requires l ∙ ap (λ m. is_between n m k) (sym c.last_of.ensures.node))
          c.next_of.ensures.rest;
      within = c.next_of.ensures.within;
    }
