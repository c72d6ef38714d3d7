use Rattle.schematron_entries.specs.Seen.{seen_entry}
use Rattle.schematron_compile.proofs.BuiltLemmas.{no_text}
use Rattle.schematron_compile.proofs.texts.text_or_empty.Goals as goal

pub returns-in-None : goal.returns-in-None
returns-in-None c = no_text c.of.result c.args.params.now c.args.name (seen_entry c.args.e.now) c.attribute.result c.attribute.ensures c.in-None.is c.of.ensures
