use Rattle.std.proofs.Common.{ap, subst}
use Rattle.std.specs.Prelude.{chars, encode_utf8_all}
use Rattle.inv_base.specs.Printing.{Printed}
use Rattle.json_text.specs.Layout.{document}
use Rattle.validation_json.specs.ValidationJson.{validation_json}
use Rattle.validation_json.proofs.printing.print_validation.Goals as goal

pub returns : goal.returns
returns g c =
    subst (λ told. Printed c.print_parts.result (encode_utf8_all (document (validation_json (chars c.args.file.now) told)))
    (g.K.Sink.view c.args.out.now) (g.K.Sink.view c.print_parts.new.out)) c.parts.ensures c.print_parts.ensures
