use Rattle.std.proofs.Common.{◌∙◌}
use Rattle.inv_base.proofs.TextLemmas.{encode-chars}
use Rattle.schematron_expansion.proofs.abstracts.place_of_text.Goals as goal

pub returns : goal.returns
returns c = λ rules known. c.place_of_name.ensures ∙ known c.args.id.now (encode-chars c.args.id.now c.utf8.id)
