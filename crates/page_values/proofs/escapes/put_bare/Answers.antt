use Rattle.std.proofs.Common.{◌∙◌, ap}
use Rattle.std.specs.List.{flat_map}
use Rattle.inv_base.proofs.PrintingLemmas.{Prints-same}
use Rattle.page_values.specs.Seen.{squeezed}
use Rattle.page_values.proofs.EscapeLemmas.{squeezed-bytes}
use Rattle.page_values.proofs.escapes.put_bare.Goals as goal

pub returns : goal.returns
returns g c = Prints-same _ _ _ _ _ _ (ap (flat_map squeezed) c.as_bytes.ensures.value ∙ squeezed-bytes c.args.text.now c.utf8.text) c.put_bare_bytes.ensures
