use Rattle.std.proofs.Common.{ap, sym, ◌∙◌}
use Rattle.std.specs.Prelude.{encode_utf8_all}
use Rattle.inv_base.proofs.TextLemmas.{encode-chars}
use Rattle.inv_base.proofs.PrintingLemmas.{Prints-same}
use Rattle.svrl_report.proofs.plain.print_given_id.Goals as goal

pub returns : goal.returns
returns g c = Prints-same _ _ _ _ _ _ (c.as_bytes.ensures.value ∙ (sym (encode-chars c.as_str.result.now c.as_str.utf8) ∙ ap encode_utf8_all c.as_str.ensures))
    c.put.ensures
