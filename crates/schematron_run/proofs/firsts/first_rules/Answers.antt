use Rattle.std.proofs.Common.{◌∙◌, ◌+◌, ap, map, refl, sym, subst}
use Rattle.schematron_rules.specs.Seen.{seen_rule}
use Rattle.schematron_run.specs.Contexts.{HasContext}
use Rattle.schematron_run.specs.Firsts.{MarkedBy}
use Rattle.schematron_run.specs.Inputs.{nodes_of}
use Rattle.schematron_run.proofs.ListLemmas.{all_at}
use Rattle.schematron_run.proofs.FirstLemmas.{coming_begin, coming_next, coming_end, untouched, are_numbers, kept_of}
use Rattle.schematron_run.proofs.firsts.first_rules.Goals as goal

pub rules-init : goal.rules-init
rules-init g c = record {
  long = refl;
  number = refl;
  touched = untouched c.args.table.now c.new-touched.result.items c.requires.clear c.new-touched.ensures.items;
  coming = coming_begin (nodes_of c.args.input.now) c.args.env.now (map seen_rule c.args.rules.now) c.args.table.now c.requires.clear;
}

pub mark_rule-requires-clause-context : goal.mark_rule-requires-clause-context
mark_rule-requires-clause-context g c = all_at HasContext seen_rule c.args.rules.now c.rules.rule-index c.rule-item.result c.requires.contexts c.rule-item.is
    c.rules-test.true

pub mark_rule-requires-clause-long : goal.mark_rule-requires-clause-long
mark_rule-requires-clause-long g c = c.rules.invariant.long ∙ c.requires.long

pub mark_rule-requires-clause-touched : goal.mark_rule-requires-clause-touched
mark_rule-requires-clause-touched g c = c.rules.invariant.touched

pub rules-preserved : goal.rules-preserved
rules-preserved g c =
    let nodes = nodes_of c.args.input.now in
    record {
      long = c.mark_rule.ensures.long ∙ c.rules.invariant.long;
      number = c.in_ok-number.ensures ∙ ap (λ k. k + 1) c.rules.invariant.number;
      touched = c.in_ok-mark_rule.ensures.touched;
      coming = coming_next nodes c.args.env.now c.args.rules.now c.rules.rule-index c.rule-item.result c.rules.table c.mark_rule.new.table c.rule-item.is
          c.rules-test.true
          (subst (λ k. MarkedBy nodes c.args.env.now (seen_rule c.rule-item.result) k c.rules.table c.mark_rule.new.table) c.rules.invariant.number
          c.in_ok-mark_rule.ensures.kept)
          c.rules.invariant.coming;
    }

pub returns-clause-firsts : goal.returns-clause-firsts
returns-clause-firsts g c = coming_end (nodes_of c.args.input.now) c.args.env.now c.args.rules.now c.rules.rule-index c.rules.table c.rules-test.false
    c.rules.invariant.coming

pub returns-clause-touched : goal.returns-clause-touched
returns-clause-touched g c =
    let nodes = nodes_of c.args.input.now in
    let walked = c.documents_are_walkable.ensures in
    c.in_order.ensures.numbers nodes (are_numbers nodes walked.walkable c.rules.table c.rules.touched.items
    (c.rules.invariant.long ∙ (c.requires.long ∙ sym walked.long)) c.rules.invariant.touched)
    ∙ kept_of nodes c.rules.table c.rules.touched.items c.rules.invariant.touched
