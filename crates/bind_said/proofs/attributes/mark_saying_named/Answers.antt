use Rattle.std.proofs.Common.{chars}
use Rattle.node_arena.specs.Document.{node_at}
use Rattle.node_arena.specs.Moves.{has_found}
use Rattle.bind_said.specs.Saying.{saying}
use Rattle.bind_said.proofs.MarkLemmas.{unmarked-by}
use Rattle.bind_said.proofs.attributes.mark_saying_named.Goals as goal

pub returns-then-not-has_name : goal.returns-then-not-has_name
returns-then-not-has_name g c =
    unmarked-by c.args.marks.now.items (has_found c.args.name (node_at c.args.input.now.doc.now.nodes c.args.n)) c.has_name.result
    (saying c.args.input.now.doc.now (chars c.args.text.now) c.args.n) c.has_name.ensures c.if-not-has_name.true
