use Rattle.std.proofs.Common.{length, ap, arith}
use Rattle.node_arena.proofs.KeptLemmas.{kept_length}
use Rattle.node_arena.proofs.doc.Doc.new.Goals as goal

pub of-requires-clause-few : goal.of-requires-clause-few
of-requires-clause-few c =
    let seen = ap length c.deref.ensures.value in
    omega (arith, c.requires.numbered.few, kept_length c.args.nodes.items, seen)
