use Rattle.std.proofs.Common.{ap, ◌∙◌, subst}
use Rattle.std.specs.Str.{IsUtf8}
use Rattle.invoice_data.specs.Names.{Source, text_at}
use Rattle.invoice_data.proofs.TextLemmas.{text_is, no_text_is}
use Rattle.invoice_data.proofs.input.Input.text_of.Goals as goal

pub returns-in-Ok-Some : goal.returns-in-Ok-Some
returns-in-Ok-Some c =
    text_is _ c.args.span _ (rw c.in-Ok-Some.field-0-is at c.in-Ok-Some.ensures) (subst IsUtf8 c.as_str-lent.ensures.value c.as_str-lent.utf8)
    ∙ ap (λ (s : Source). text_at s.bytes c.args.span) c.self.view_is

pub returns-in-Ok-None : goal.returns-in-Ok-None
returns-in-Ok-None c =
    no_text_is _ c.args.span (rw c.in-Ok-None.field-0-is at c.in-Ok-None.ensures) ∙ ap (λ (s : Source). text_at s.bytes c.args.span) c.self.view_is
