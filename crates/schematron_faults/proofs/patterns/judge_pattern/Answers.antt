use Rattle.std.proofs.Common.{length, ap, ◌∙◌}
use Rattle.xpath_types.specs.Scopes.{Declared}
use Rattle.schematron_meaning.specs.Lookup.{is_let, inside}
use Rattle.schematron_meaning.specs.Written.{outer_scope, is_let_or_rule}
use Rattle.schematron_faults.specs.Things.{with_entries}
use Rattle.schematron_faults.proofs.RuleLemmas.{cut_lets, cut_entries}
use Rattle.schematron_faults.proofs.patterns.judge_pattern.Goals as goal

pub returns-clause-scopes : goal.returns-clause-scopes
returns-clause-scopes c = record {
  pattern = cut_entries (outer_scope c.args.file.now.entries) c.judge_items.new.scopes.pattern c.truncate.new.self c.count-count.result
      c.args.instance.now.params (inside is_let_or_rule c.args.file.now.entries c.args.instance.now.body)
      (c.count-count.ensures ∙ ap (λ (d : Declared). length d.variables) c.requires.pattern)
      (c.in_ok-judge_items.ensures.pattern ∙
      ap (λ (d : Declared). with_entries c.args.instance.now.params d (inside is_let_or_rule c.args.file.now.entries c.args.instance.now.body))
      c.in_ok-declare_pattern.ensures.scopes.pattern)
      c.truncate.ensures;
  rule = cut_lets (outer_scope c.args.file.now.entries) c.judge_items.new.scopes.rule c.truncate-2.new.self c.count-count.result c.args.instance.now.params
      (inside is_let c.args.file.now.entries c.args.instance.now.body)
      (c.count-count.ensures ∙ ap (λ (d : Declared). length d.variables) c.requires.pattern)
      (c.in_ok-judge_items.ensures.rule ∙ c.in_ok-declare_pattern.ensures.scopes.rule) c.truncate-2.ensures;
  all = cut_lets (outer_scope c.args.file.now.entries) c.judge_items.new.scopes.all c.truncate-3.new.self c.count-count.result c.args.instance.now.params
      (inside is_let c.args.file.now.entries c.args.instance.now.body)
      (c.count-count.ensures ∙ ap (λ (d : Declared). length d.variables) c.requires.pattern)
      (c.in_ok-judge_items.ensures.all ∙ c.in_ok-declare_pattern.ensures.scopes.all) c.truncate-3.ensures;
}
