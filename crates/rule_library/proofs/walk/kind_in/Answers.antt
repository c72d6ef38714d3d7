use Rattle.std.proofs.Common.{ap, ◌∙◌}
use Rattle.node_arena.specs.Document.{Document, node_at}
use Rattle.rule_library.proofs.walk.kind_in.Goals as goal

pub returns : goal.returns
returns c = c.kind.ensures ∙ ap (λ (d : Document). (node_at d.nodes c.args.n).kind) c.top_doc.ensures
