use Rattle.std.proofs.Common.{sym, ap, subst, ◌≡◌, ◌∙◌, List, ℕ, Err, chars}
use Rattle.std.proofs.lemmas.Result.{IfOk-weaker}
use Rattle.xsd_pattern.specs.declared.fault.PatternFault.{PatternFault}
use Rattle.xsd_pattern.specs.Matching.{Judges, fault_of, matches}
use Rattle.xpath_meaning.specs.Texts.{finds}
use Rattle.xpath_values.proofs.PatternLemmas.{found-nowhere}
use Rattle.xpath_values.proofs.patterns.is_found.Goals as goal

pub returns-in-Ok : goal.returns-in-Ok
unfolding finds
returns-in-Ok c = IfOk-weaker c.holds-found.result _ _ (λ b is. is ∙ ap (matches (chars c.args.text.now)) c.in-Ok.ensures.pattern) c.holds-found.ensures.value

pub returns-in-Err-Bad : goal.returns-in-Err-Bad
returns-in-Err-Bad c = sym (found-nowhere (chars c.args.pattern.now) (chars c.args.text.now) _
    (subst (λ (e : PatternFault). Judges {T = List ℕ} (Err e) (fault_of (chars c.args.pattern.now))) c.in-Err-Bad.field-0-is c.in-Err-Bad.ensures.fault))

pub returns-in-Err-TooLarge : goal.returns-in-Err-TooLarge
returns-in-Err-TooLarge c = sym (found-nowhere (chars c.args.pattern.now) (chars c.args.text.now) _
    (subst (λ (e : PatternFault). Judges {T = List ℕ} (Err e) (fault_of (chars c.args.pattern.now))) c.in-Err-TooLarge.field-0-is
    c.in-Err-TooLarge.ensures.fault))
