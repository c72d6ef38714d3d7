use Rattle.std.proofs.Common.{[], ◌∷◌}
use Rattle.node_arena.specs.Document.{node_at}
use Rattle.node_arena.specs.Moves.{has_found}
use Rattle.bind_said.proofs.MarkLemmas.{unmarked-by}
use Rattle.bind_said.proofs.attributes.mark_named.Goals as goal

pub returns-else-has_name : goal.returns-else-has_name
returns-else-has_name c = unmarked-by c.args.marks.now.items (has_found c.args.name (node_at c.args.doc.now.nodes c.args.n)) c.has_name.result
    (c.args.n ∷ []) c.has_name.ensures c.if-has_name.false
