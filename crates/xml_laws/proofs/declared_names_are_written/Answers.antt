use Rattle.xml_laws.proofs.DeclaredLemmas.{element-declared, attribute-declared}
use Rattle.xml_laws.proofs.declared_names_are_written.Goals as goal

pub returns-clause-elements : goal.returns-clause-elements
returns-clause-elements c = element-declared

pub returns-clause-attributes : goal.returns-clause-attributes
returns-clause-attributes c = attribute-declared
