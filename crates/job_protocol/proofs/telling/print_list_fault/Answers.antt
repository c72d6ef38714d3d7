use Rattle.std.proofs.Common.{ap, sym, ◌∙◌}
use Rattle.std.specs.Prelude.{encode_utf8_all}
use Rattle.inv_base.proofs.TextLemmas.{encode-chars}
use Rattle.inv_base.proofs.PrintingLemmas.{Prints-append, Prints-same}
use Rattle.job_protocol.specs.Lines.{list_fault_text}
use Rattle.job_protocol.proofs.telling.print_list_fault.Goals as goal

pub returns-in-NotALists : goal.returns-in-NotALists
returns-in-NotALists g c =
    let key = c.as_bytes.ensures.value ∙ (sym (encode-chars c.as_str.result.now c.as_str.utf8) ∙ ap encode_utf8_all c.as_str.ensures) in
    let text = ap list_fault_text (sym c.in-NotALists.is) in
    Prints-same _ _ _ _ _ _ text (Prints-append _ _ _ _ _ _ _ _ c.put-in-NotALists.ensures (Prints-same _ _ _ _ _ _ key c.put-in-NotALists-2.ensures))

pub returns-in-BadCode : goal.returns-in-BadCode
returns-in-BadCode g c =
    let key = c.as_bytes-in-BadCode.ensures.value ∙ (sym (encode-chars c.as_str-in-BadCode.result.now c.as_str-in-BadCode.utf8) ∙
    ap encode_utf8_all c.as_str-in-BadCode.ensures) in
    let text = ap list_fault_text (sym c.in-BadCode.is) in
    Prints-same _ _ _ _ _ _ text (Prints-append _ _ _ _ _ _ _ _ c.put-in-BadCode.ensures (Prints-same _ _ _ _ _ _ key c.put-in-BadCode-2.ensures))
