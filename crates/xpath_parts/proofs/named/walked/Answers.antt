use Rattle.std.proofs.Common.{◌∷◌, [], ◌∙◌, ap, sym, subst}
use Rattle.std.proofs.lemmas.Result.{err_from_is_err_and}
use Rattle.node_arena.specs.Moves.{tree_nodes}
use Rattle.xpath_items.specs.declared.item.Item.TheVariants as i
use Rattle.xpath_operators.specs.Nodes.{IsWithin}
use Rattle.xpath_plan.specs.declared.plan_node.StepTest.TheVariants as t
use Rattle.xpath_plan.specs.Plans.{test_seen}
use Rattle.xpath_steps.specs.Steps.{inside_seen}
use Rattle.xpath_parts.specs.Contexts.{count}
use Rattle.xpath_parts.proofs.NamedLemmas.{walk_begin, begin_leading}
use Rattle.xpath_parts.proofs.named.walked.Goals as goal

pub begin_at-from-requires : goal.begin_at-from-requires
begin_at-from-requires g c = subst (IsWithin (count c.args.dynamic.now)) c.requires.focus c.requires.ready.item

pub returns-clause-value : goal.returns-clause-value
returns-clause-value g c =
    let base = c.args.dynamic.now in
    sym (c.in_ok-found.ensures.value base.names.now c.requires.ready.numbered)
    ∙ (ap (λ m. inside_seen (tree_nodes base.doc.now) (test_seen base.names.now (t.Named c.args.walk.name)) (i.Node m ∷ [])) c.begin_at-from.ensures.begin
    ∙ sym (walk_begin base c.args.walk.is_leading c.args.walk.name c.args.n c.args.focus.now c.requires.focus))

pub returns-clause-within : goal.returns-clause-within
returns-clause-within g c = c.in_ok-found.ensures.within c.args.dynamic.now.names.now c.requires.ready.numbered

pub returns-clause-cost : goal.returns-clause-cost
returns-clause-cost g c =
    let bounds = c.in_ok-found.ensures.cost c.args.dynamic.now.names.now c.requires.ready.numbered in
    record {
      most = bounds.most;
      least = λ leading. bounds.least
          (begin_leading c.args.walk.is_leading c.args.n c.begin_at-from.result c.begin_at-from.ensures.begin leading);
    }

pub returns-in_err-found-clause-cost : goal.returns-in_err-found-clause-cost
returns-in_err-found-clause-cost g c =
    let bounds = c.in_err-found.ensures.cost c.args.dynamic.now.names.now c.requires.ready.numbered in
    rw (err_from_is_err_and c.from_residual.result c.from_residual.ensures.1).1 (record { most = bounds.most; least = λ leading. tt })
