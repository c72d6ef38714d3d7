use Rattle.std.proofs.Common.{◌≡◌, ap, ◌∙◌, ◌<◌, ◌+◌, subst, get_or, length}
use Rattle.xpath_meaning.specs.Patterns.{is_kept}
use Rattle.xpath_meaning.specs.Steps.{keeps}
use Rattle.xpath_meaning.specs.Values.{then_}
use Rattle.xpath_plan.specs.Plans.{seen}
use Rattle.xpath_marks.specs.Marking.{judged}
use Rattle.xpath_marks.proofs.TurnLemmas.{item_within, put_within, kept_next}
use Rattle.xpath_marks.proofs.predicates.kept_by.Goals as goal

pub holds-requires-clause-within : goal.holds-requires-clause-within
holds-requires-clause-within g c =
    item_within c.args.dynamic.now c.args.nodes.items c.nodes.k c.n-item.result c.n-item.is c.deref-n-items.ensures.value c.requires.within c.nodes-test.true

pub nodes-preserved : goal.nodes-preserved
nodes-preserved g c =
    let same = c.deref-n-items.ensures.value in record {
      held = c.in_ok-is_kept.ensures.held;
      within = put_within c.args.dynamic.now c.in_ok-is_kept.is_kept c.n-item.result c.nodes.kept.items c.put_if.new.kept.items c.nodes.invariant.within
          (item_within c.args.dynamic.now c.args.nodes.items c.nodes.k c.n-item.result c.n-item.is same c.requires.within c.nodes-test.true)
          c.in_ok-put_if.ensures;
      goes = kept_next (judged c.args.dynamic.now (seen c.args.dynamic.now.names.now c.args.predicate.now)) c.nodes.k c.args.nodes.items c.n-item.result
          c.nodes.kept.items c.put_if.new.kept.items c.in_ok-is_kept.is_kept
          (subst (λ xs. c.n-item.result ≡ get_or xs c.nodes.k c.n-item.result) same c.n-item.is) (subst (λ xs. c.nodes.k < length xs) same c.nodes-test.true)
          (c.in_ok-is_kept.ensures.kept ∙ ap (λ last. is_kept
          (then_ (judged c.args.dynamic.now (seen c.args.dynamic.now.names.now c.args.predicate.now) c.n-item.result (c.nodes.k + 1) last)
          (keeps (c.nodes.k + 1)))) (c.len-last.ensures ∙ c.args.nodes.ok.0))
          c.in_ok-put_if.ensures c.nodes.invariant.goes;
    }
