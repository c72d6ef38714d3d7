use Rattle.xml_tokens.proofs.NameLemmas.{ncname-nothing}
use Rattle.xml_tokens.proofs.names.is_ncname_of_characters.Goals as goal

pub returns-in-None : goal.returns-in-None
returns-in-None c = ncname-nothing c.args.name.now c.in-None.ensures
