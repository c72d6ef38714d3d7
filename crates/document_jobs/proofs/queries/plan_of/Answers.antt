use Rattle.xpath_grammar.specs.View.{view}
use Rattle.document_jobs.proofs.QueryLemmas.{asks_refused, asks_tree}
use Rattle.document_jobs.proofs.queries.plan_of.Goals as goal

pub returns-in-Err : goal.returns-in-Err
returns-in-Err c = rw c.fault_of.ensures (asks_refused c.args.text.now c.in-Err.fault c.in-Err.ensures)

pub returns-in-Ok : goal.returns-in-Ok
returns-in-Ok c = asks_tree c.args.text.now (view c.in-Ok.tree) c.plan_of_tree-plan.result c.in-Ok.ensures c.plan_of_tree-plan.ensures

pub plan_of_tree-plan-requires : goal.plan_of_tree-plan-requires
plan_of_tree-plan-requires c = c.answers_are_grammatical.ensures.expression c.args.text.now (view c.in-Ok.tree) c.in-Ok.ensures
