use Rattle.std.proofs.Common.{rules, List, ap, sym, subst, refl, ◌∙◌}
use Rattle.std.specs.Vec.Iter.{into_iter_items, into_iter_len}
use Rattle.schematron_entries.specs.Seen.{seen_entry}
use Rattle.schematron_meaning.specs.Entries.{Entry}
use Rattle.schematron_meaning.specs.Written.{written_items}
use Rattle.schematron_expansion.specs.Seen.{seen_instance}
use Rattle.schematron_faults.specs.Read.{AreItems}
use Rattle.schematron_faults.specs.Searching.{Goes}
use Rattle.schematron_faults.specs.Things.{with_entries}
use Rattle.schematron_faults.proofs.LoopLemmas.{items_turn, items_scope_turn, first_item}
use Rattle.schematron_faults.proofs.RuleLemmas.{items_inside}
use Rattle.schematron_faults.proofs.SearchLemmas.{goes_end, goes_turned}
use Rattle.schematron_faults.proofs.SeenLemmas.{seen_all, seen_items, seen_none, fewer}
use Rattle.schematron_faults.proofs.patterns.judge_items.Goals as goal

pub items-init : goal.items-init
items-init c = record {
  goes = λ is u g. subst (λ (es : List Entry). Goes c.args.search.now u
      (written_items c.args.file.now (seen_instance c.args.instance.now) c.args.scopes.now.all c.args.scopes.now.pattern es))
      (ap seen_all c.into_iter-e-iterator.ensures.into_iter_gives.0 ∙ c.in_ok-items.ensures) (goes_turned c.args.search.now u c.inside_within.new.left _ g);
  of_file = λ is. subst (AreItems c.args.file.now.entries) (sym (ap seen_all c.into_iter-e-iterator.ensures.into_iter_gives.0 ∙ c.in_ok-items.ensures))
      (items_inside c.args.file.now c.args.instance.now.body is);
  pattern = ap (with_entries c.args.instance.now.params c.args.scopes.now.pattern) (ap seen_all c.into_iter-e-iterator.ensures.into_iter_gives.0 ∙
      c.in_ok-items.ensures);
  rule = refl;
  all = refl;
  count = search rules;
}

pub items-preserved : goal.items-preserved
items-preserved c = record {
  goes = λ is. items_turn c.args.search.now c.items.search c.judge_item.new.search _ c.args.file.now
      (seen_instance c.args.instance.now) c.items.scopes.all c.judge_item.new.scopes.all c.items.scopes.pattern c.judge_item.new.scopes.pattern
      (seen_entry c.in-Some.e.now) _ _ (seen_items (into_iter_items c.items.e-iterator) (into_iter_items c.next.new.self) c.in-Some.e c.in-Some.ensures.steps.0)
      c.in_ok-judge_item.ensures.pattern c.in_ok-judge_item.ensures.all
      (c.in_ok-judge_item.ensures.goes is (first_item c.args.file.now.entries _ _ (seen_entry c.in-Some.e.now)
      (seen_items (into_iter_items c.items.e-iterator) (into_iter_items c.next.new.self) c.in-Some.e c.in-Some.ensures.steps.0)
      (c.items.invariant.of_file is)).0) (c.items.invariant.goes is);
  of_file = λ is. (first_item c.args.file.now.entries _ _ (seen_entry c.in-Some.e.now)
      (seen_items (into_iter_items c.items.e-iterator) (into_iter_items c.next.new.self) c.in-Some.e c.in-Some.ensures.steps.0)
      (c.items.invariant.of_file is)).1;
  pattern = items_scope_turn c.args.instance.now.params c.items.scopes.pattern c.judge_item.new.scopes.pattern _ (seen_entry c.in-Some.e.now) _ _
      (seen_items (into_iter_items c.items.e-iterator) (into_iter_items c.next.new.self) c.in-Some.e c.in-Some.ensures.steps.0)
      c.in_ok-judge_item.ensures.pattern c.items.invariant.pattern;
  rule = c.in_ok-judge_item.ensures.rule ∙ c.items.invariant.rule;
  all = c.in_ok-judge_item.ensures.all ∙ c.items.invariant.all;
  count = fewer (into_iter_items c.items.e-iterator) (into_iter_items c.next.new.self) c.in-Some.e (into_iter_len c.items.e-iterator)
      (into_iter_len c.next.new.self) c.in-Some.ensures.steps.0 c.in-Some.ensures.steps.1 c.items.invariant.count;
}

pub returns-clause-goes : goal.returns-clause-goes
returns-clause-goes c = λ is. goes_end c.args.search.now c.items.search _ _
    (ap (written_items c.args.file.now (seen_instance c.args.instance.now) c.items.scopes.all c.items.scopes.pattern)
    (seen_none (into_iter_items c.items.e-iterator) (into_iter_len c.items.e-iterator) c.items.invariant.count c.in-None.ensures.steps.0))
    (c.items.invariant.goes is)
