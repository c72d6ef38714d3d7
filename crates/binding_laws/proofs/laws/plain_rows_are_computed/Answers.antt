use Rattle.binding_laws.proofs.PlacedLemmas.{plain-by-test, attribute-by-test}
use Rattle.binding_laws.proofs.laws.plain_rows_are_computed.Goals as goal

pub returns-clause-elements : goal.returns-clause-elements
returns-clause-elements c = plain-by-test

pub returns-clause-attributes : goal.returns-clause-attributes
returns-clause-attributes c = attribute-by-test
