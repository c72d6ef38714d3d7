use Rattle.std.proofs.Common.{sym, ap, subst, ◌∙◌, List, ℕ, Err, chars}
use Rattle.xsd_pattern.specs.declared.fault.PatternFault.{PatternFault}
use Rattle.xsd_pattern.specs.Matching.{Judges, fault_of}
use Rattle.xpath_plan.specs.declared.plan_node.Operation.TheVariants as m
use Rattle.xpath_plan.specs.Kinds.{pattern_kind, matches_kind}
use Rattle.xpath_plan.proofs.forms.matches_kind.Goals as goal

pub returns-in-Ok : goal.returns-in-Ok
unfolding matches_kind
returns-in-Ok c = ap m.Matches (c.in-Ok.ensures.pattern ∙ c.as_str.ensures) ∙
    sym (ap (pattern_kind c.args.text.now) (ap fault_of (sym c.as_str.ensures) ∙ c.in-Ok.ensures.fault))

pub returns-in-Err-Bad : goal.returns-in-Err-Bad
unfolding matches_kind
returns-in-Err-Bad c = sym (ap (pattern_kind c.args.text.now) (ap fault_of (sym c.as_str.ensures)
    ∙ subst (λ (e : PatternFault). Judges {T = List ℕ} (Err e) (fault_of (chars c.as_str.result.now))) c.in-Err-Bad.field-0-is c.in-Err-Bad.ensures.fault))

pub returns-in-Err-TooLarge : goal.returns-in-Err-TooLarge
unfolding matches_kind
returns-in-Err-TooLarge c = sym (ap (pattern_kind c.args.text.now) (ap fault_of (sym c.as_str.ensures)
    ∙ subst (λ (e : PatternFault). Judges {T = List ℕ} (Err e) (fault_of (chars c.as_str.result.now))) c.in-Err-TooLarge.field-0-is
    c.in-Err-TooLarge.ensures.fault))
