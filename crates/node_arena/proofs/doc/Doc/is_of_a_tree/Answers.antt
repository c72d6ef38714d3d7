use Rattle.std.proofs.Common.{subst}
use Rattle.node_arena.specs.Document.{Document, AreNumbered}
use Rattle.node_arena.proofs.KeptLemmas.{kept_numbers}
use Rattle.node_arena.proofs.doc.Doc.is_of_a_tree.Goals as goal

pub returns-clause-numbers : goal.returns-clause-numbers
returns-clause-numbers c =
    subst (λ (document : Document). AreNumbered 0 document.nodes) c.self.view_is (kept_numbers c.self.inside.nodes.items)
