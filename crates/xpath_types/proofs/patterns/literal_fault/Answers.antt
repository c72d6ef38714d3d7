use Rattle.std.proofs.Common.{◌≡◌, sym, ap, subst, Result, Err, List, ℕ}
use Rattle.std.specs.Str.{chars}
use Rattle.xsd_pattern.specs.declared.fault.PatternFault.{PatternFault}
use Rattle.xsd_pattern.specs.Matching.{Judges, fault_of}
use Rattle.xpath_types.specs.Judging.{fault_refusals, literal_refusals}
use Rattle.xpath_types.proofs.patterns.literal_fault.Goals as goal

pub returns-in-Ok : goal.returns-in-Ok
unfolding literal_refusals
returns-in-Ok c = sym (ap fault_refusals c.in-Ok.ensures.fault)

pub returns-in-Err-Bad : goal.returns-in-Err-Bad
unfolding literal_refusals
returns-in-Err-Bad c =
    sym (ap fault_refusals (subst (λ (e : PatternFault). Judges {T = List ℕ} (Err e) (fault_of (chars c.args.text.now))) c.in-Err-Bad.field-0-is
    c.in-Err-Bad.ensures.fault))

pub returns-in-Err-TooLarge : goal.returns-in-Err-TooLarge
unfolding literal_refusals
returns-in-Err-TooLarge c =
    sym (ap fault_refusals (subst (λ (e : PatternFault). Judges {T = List ℕ} (Err e) (fault_of (chars c.args.text.now))) c.in-Err-TooLarge.field-0-is
    c.in-Err-TooLarge.ensures.fault))
