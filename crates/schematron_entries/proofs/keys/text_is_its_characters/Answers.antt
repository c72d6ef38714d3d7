use Rattle.inv_base.proofs.TextLemmas.{encode-chars}
use Rattle.schematron_entries.proofs.keys.text_is_its_characters.Goals as goal

pub returns : goal.returns
returns c = encode-chars c.args.text.now c.utf8.text
