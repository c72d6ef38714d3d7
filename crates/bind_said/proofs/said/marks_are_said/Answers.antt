use Rattle.std.proofs.Common.{arith}
use Rattle.bind_said.proofs.WholeLemmas.{marks-are-said}
use Rattle.bind_said.proofs.said.marks_are_said.Goals as goal

pub returns : goal.returns
returns c =
    let of = c.is_of_a_tree.ensures in
    marks-are-said c.args.doc.now (record {
      read = record {
        named = λ name n within. c.names_are_found_by_number.ensures c.args.doc.now name n of.distinct of.named within;
        numbers = c.chains_lead_on.ensures.numbers;
      };
      around = λ n p within is. (c.moves_lead_on.ensures c.args.doc.now of.tree.tree of.tree.has_nodes n within).around p is;
    }) (let some = of.rooted in omega arith)
