use Rattle.std.proofs.Common.{◌∙◌, ap}
use Rattle.std.specs.List.{flat_map}
use Rattle.inv_base.proofs.PrintingLemmas.{Prints-same}
use Rattle.page_values.specs.Escapes.{escaped_character}
use Rattle.page_values.proofs.EscapeLemmas.{escaped-bytes}
use Rattle.page_values.proofs.escapes.put_escaped.Goals as goal

pub returns : goal.returns
returns g c = Prints-same _ _ _ _ _ _ (ap (flat_map escaped_character) c.as_bytes.ensures.value ∙
    escaped-bytes c.args.text.now c.utf8.text) c.put_escaped_bytes.ensures
