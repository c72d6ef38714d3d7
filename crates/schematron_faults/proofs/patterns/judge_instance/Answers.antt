use Rattle.std.proofs.Common.{map, sym, refl, ◌∙◌}
use Rattle.schematron_meaning.specs.Written.{outer_scope}
use Rattle.schematron_expansion.specs.Seen.{seen_instance}
use Rattle.schematron_faults.proofs.RuleLemmas.{goes_past_pattern}
use Rattle.schematron_faults.proofs.AgainLemmas.{goes_instance}
use Rattle.schematron_faults.proofs.patterns.judge_instance.Goals as goal

pub returns-then-not-wants_at-clause-goes : goal.returns-then-not-wants_at-clause-goes
returns-then-not-wants_at-clause-goes c = λ first is behind. goes_past_pattern c.args.file.now (outer_scope c.args.file.now.entries)
    (seen_instance c.args.instance.now) c.args.search.now c.args.instance.now.stand refl
    (sym c.wants_at.ensures ∙ c.if-not-wants_at.true)

pub returns-clause-goes : goal.returns-clause-goes
returns-clause-goes c = λ first is behind. goes_instance c.args.file.now (seen_instance c.args.instance.now)
    (map seen_instance c.args.earlier.now) first c.args.search.now c.judge_pattern.new.search
    c.is_again-again.result c.is_again-again.ensures (sym c.wants_at.ensures ∙ c.if-not-wants_at.false) behind (c.in_ok-judge_pattern.ensures.goes is)
