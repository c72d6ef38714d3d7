use Rattle.std.proofs.Common.{chars, ap, sym, subst, ◌∙◌}
use Rattle.xpath_tokens.specs.Tokens.{most_bytes}
use Rattle.schematron_texts.specs.Replacing.{replaced, IsWithin}
use Rattle.schematron_faults.proofs.TextLemmas.{stays_same}
use Rattle.schematron_faults.proofs.texts.made_stays.Goals as goal

pub returns-in-Some : goal.returns-in-Some
returns-in-Some c = λ h. stays_same c.args.blanks.now (chars c.as_str.result.now) (chars c.args.text.now)
    (ap chars c.as_str.ensures.value ∙ (subst (IsWithin most_bytes (replaced c.args.blanks.now (chars c.args.text.now))) c.in-Some.is c.in_ok-made.ensures).0)
    (sym c.is_same_text-same.ensures ∙ h)
