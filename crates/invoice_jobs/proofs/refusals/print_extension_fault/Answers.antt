use Rattle.std.proofs.Common.{ap, sym, ◌∙◌}
use Rattle.std.specs.Prelude.{encode_utf8_all}
use Rattle.inv_base.proofs.TextLemmas.{encode-chars}
use Rattle.inv_base.proofs.PrintingLemmas.{Prints-append, Prints-same}
use Rattle.invoice_jobs.specs.Sources.{extension_fault_text}
use Rattle.invoice_jobs.proofs.refusals.print_extension_fault.Goals as goal

pub returns-in-NotAnExtension : goal.returns-in-NotAnExtension
returns-in-NotAnExtension g c =
    let key = c.as_bytes.ensures.value ∙ (sym (encode-chars c.as_str.result.now c.as_str.utf8) ∙ ap encode_utf8_all c.as_str.ensures) in
    let text = ap extension_fault_text (sym c.in-NotAnExtension.is) in
    Prints-same _ _ _ _ _ _ text (Prints-append _ _ _ _ _ _ _ _ c.put-in-NotAnExtension.ensures (Prints-same _ _ _ _ _ _ key c.put-in-NotAnExtension-2.ensures))

pub returns-in-BadTerm : goal.returns-in-BadTerm
returns-in-BadTerm g c =
    let place = c.as_bytes-in-BadTerm.ensures.value ∙ c.format.ensures.text in
    let text = ap extension_fault_text (sym c.in-BadTerm.is) in
    Prints-same _ _ _ _ _ _ text (Prints-append _ _ _ _ _ _ _ _ c.put-in-BadTerm.ensures (Prints-same _ _ _ _ _ _ place c.put-in-BadTerm-2.ensures))
