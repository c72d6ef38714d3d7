use Rattle.std.proofs.Common.{List, length, map, ap, sym, subst, ◌∙◌}
use Rattle.xpath_types.specs.Scopes.{Declared}
use Rattle.schematron_meaning.specs.Expansion.{inclusions}
use Rattle.schematron_meaning.specs.Written.{with_lets, lets_among, written_puts}
use Rattle.schematron_entries.specs.Seen.{seen_entry}
use Rattle.schematron_expansion.specs.declared.inclusions.Inclusion.{Inclusion}
use Rattle.schematron_expansion.specs.Seen.{seen_put, seen_instance, first_puts}
use Rattle.schematron_faults.specs.Searching.{Goes}
use Rattle.schematron_faults.proofs.AcceptLemmas.{keeps}
use Rattle.schematron_faults.proofs.RuleLemmas.{goes_rule, cut_lets}
use Rattle.schematron_faults.proofs.SearchLemmas.{goes_turned}
use Rattle.schematron_faults.proofs.rules.judge_rule.Goals as goal

pub returns-clause-goes : goal.returns-clause-goes
returns-clause-goes c = λ is own. goes_rule (keeps c.accepted_with_one_more.ensures) c.args.file.now
    (seen_instance c.args.instance.now) c.args.all.now c.declare_puts.new.scope c.args.before.now (seen_entry c.args.rule.now)
    (map seen_put c.in_ok-inclusions.inclusions.items)
    c.args.search.now c.declare_puts.new.search c.judge_context.new.search c.judge_puts.new.search
    (c.in_ok-inclusions.ensures ∙ ap (λ n. first_puts (inclusions c.args.file.now c.args.instance.now.stand n)) c.number-number.ensures)
    (c.in_ok-declare_puts.ensures.scope ∙ ap (λ (ps : List Inclusion). with_lets c.args.instance.now.params c.args.all.now (lets_among (map seen_put ps)))
    c.as_slice.ensures.value)
    c.requires (goes_turned c.args.search.now c.declare_puts.new.search c.first_puts.new.left _ c.in_ok-declare_puts.ensures.goes) c.in_ok-judge_context.ensures
    (subst (λ (ps : List Inclusion). Goes c.judge_context.new.search c.judge_puts.new.search
    (written_puts c.args.file.now.entries c.args.instance.now.params c.declare_puts.new.scope c.args.before.now (map seen_put ps)))
    c.as_slice-2.ensures.value c.in_ok-judge_puts.ensures.goes)
    is own

pub returns-clause-before : goal.returns-clause-before
returns-clause-before c = cut_lets c.args.before.now c.judge_puts.new.before c.truncate.new.self c.count-count.result c.args.instance.now.params
    (lets_among (map seen_put c.as_slice-2.result.now))
    (c.count-count.ensures ∙ ap (λ (d : Declared). length d.variables) (sym c.requires)) c.in_ok-judge_puts.ensures.before c.truncate.ensures

pub returns-clause-all : goal.returns-clause-all
returns-clause-all c = cut_lets c.args.all.now c.declare_puts.new.scope c.truncate-2.new.self c.count-count.result c.args.instance.now.params
    (lets_among (map seen_put c.as_slice.result.now))
    c.count-count.ensures c.in_ok-declare_puts.ensures.scope c.truncate-2.ensures
