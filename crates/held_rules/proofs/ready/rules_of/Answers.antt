use Rattle.node_arena.specs.Moves.{tree_nodes}
use Rattle.schematron_meaning.specs.Rules.{rules_of}
use Rattle.held_rules.proofs.RuleLemmas.{none-said}
use Rattle.held_rules.proofs.ready.rules_of.Goals as goal

pub returns-in-Err : goal.returns-in-Err
returns-in-Err c = none-said c.args.doc.now c.in-Err.fault (rules_of (tree_nodes c.args.doc.now)) c.no_rules.result c.in-Err.ensures c.no_rules.ensures.so
    c.no_rules.ensures.refused
