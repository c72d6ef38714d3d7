use Rattle.page_laws.proofs.ReferenceLemmas.{value-references}
use Rattle.page_laws.proofs.no_value_ends_an_attribute.Goals as goal

pub returns : goal.returns
returns c = value-references
