use Rattle.std.proofs.Common.{ap, sym, subst, ◌∙◌}
use Rattle.node_arena.specs.Document.{Document}
use Rattle.node_arena.specs.Moves.{tree_nodes}
use Rattle.schematron_meaning.specs.Rules.{rules_of}
use Rattle.schematron_compile.specs.Answers.{Tells}
use Rattle.document_jobs.proofs.checks.rules_in.Goals as goal

pub returns-in-Ok-clause-said : goal.returns-in-Ok-clause-said
returns-in-Ok-clause-said g c = ap (λ (d : Document). rules_of (tree_nodes d)) (sym c.doc.ensures) ∙ c.in-Ok.ensures

pub returns-in-Err-clause-refused : goal.returns-in-Err-clause-refused
returns-in-Err-clause-refused g c =
    (c.in-Err.fault, subst (λ (d : Document). Tells d c.in-Err.fault (rules_of (tree_nodes d))) c.doc.ensures c.in-Err.ensures, c.refuse_rules.ensures)
