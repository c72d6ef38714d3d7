use Rattle.std.proofs.Common.{◌≡◌, IfOk, [], sym, ap, ◌∙◌, subst, length}
use Rattle.node_arena.specs.Moves.{tree_nodes}
use Rattle.xpath_meaning.specs.Meaning.{mean}
use Rattle.xpath_meaning.specs.Values.{value}
use Rattle.xpath_plan.specs.declared.plan_node.StepTest.TheVariants as t
use Rattle.xpath_plan.specs.Plans.{seen, test_seen}
use Rattle.xpath_parts.specs.Named.{IsEmptyAt, walk_of}
use Rattle.xpath_parts.proofs.SlotLemmas as slots
use Rattle.xpath_walks.specs.Walks.{Bounds, chain_of}
use Rattle.xpath_run.proofs.run.Run.run_plan.Goals as goal

pub run_whole-requires-clause-placed : goal.run_whole-requires-clause-placed
run_whole-requires-clause-placed g c = slots.placed_plan _ c.work.result.now c.names.ensures c.work.ensures c.self.invariant.placed

pub invariant_of-self : goal.invariant_of-self
invariant_of-self g c = record {
  numbered = c.self.invariant.numbered;
  placed = c.self.invariant.placed;
  held = c.run_whole.ensures.held;
  long = slots.grows_long _ _ c.run_whole.ensures.grown ∙ c.self.invariant.long;
}

pub returns-clause-value : goal.returns-clause-value
returns-clause-value g c = rw (← c.self.view_is) (subst (λ x. IfOk c.run_whole.result
    (λ outcome. value outcome ≡ mean (tree_nodes c.self.inside.doc.now) x (record { focus = c.args.focus.now; bound = []; outer = c.args.env.now })))
    (λ j. seen (c.names.ensures j) (c.work.ensures j)) c.run_whole.ensures.value)

pub returns-clause-cost : goal.returns-clause-cost
returns-clause-cost g c = rw (← c.self.view_is) (λ walk is empty node.
    subst (λ names. Bounds (length (chain_of (tree_nodes c.self.inside.doc.now) (test_seen names (t.Named walk.name)))) walk.is_leading
    c.run_whole.result c.args.steps.now c.run_whole.new.steps) c.names.ensures
    (c.run_whole.ensures.cost walk (ap walk_of c.work.ensures ∙ is) (subst (λ work. IsEmptyAt work c.self.inside.slots) (sym c.work.ensures) empty) node))
