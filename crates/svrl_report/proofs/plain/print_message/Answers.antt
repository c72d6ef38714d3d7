use Rattle.std.proofs.Common.{ap}
use Rattle.std.specs.Prelude.{encode_utf8_all}
use Rattle.inv_base.specs.Text.{quoted}
use Rattle.inv_base.proofs.PrintingLemmas.{Prints-same}
use Rattle.svrl_report.proofs.plain.print_message.Goals as goal

pub returns : goal.returns
returns g c = Prints-same _ _ _ _ _ _ (ap (λ t. encode_utf8_all (quoted t)) c.as_str.ensures) c.put_quoted.ensures
