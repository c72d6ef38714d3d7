use Rattle.std.proofs.Common.{length}
use Rattle.node_arena.specs.Moves.{tree_nodes}
use Rattle.xpath_plan.specs.Plans.{expression}
use Rattle.xpath_meaning.specs.Values.{value}
use Rattle.document_jobs.proofs.QueryLemmas.{value_within, value_at_top}
use Rattle.document_jobs.proofs.queries.value_of.Goals as goal

pub returns-in-Ok : goal.returns-in-Ok
returns-in-Ok g c = record {
  value = value_at_top (expression c.args.plan.now) (tree_nodes c.args.doc.now) c.document.result
      (value c.in-Ok.outcome) c.new-env.result c.document.ensures.number c.new-env.ensures
      (rw c.in_ok-run.ensures at c.in-Ok.ensures.value);
  within = value_within (length c.args.doc.now.nodes) (value c.in-Ok.outcome) (rw c.in_ok-run.ensures at c.in-Ok.ensures.within);
}
