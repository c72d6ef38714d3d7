use Rattle.std.proofs.Common.{◌∙◌}
use Rattle.page_laws.proofs.CountLemmas.{visits-length}
use Rattle.page_laws.proofs.PageLemmas.{page-values}
use Rattle.page_laws.proofs.values_are_as_many_as_entries.Goals as goal

pub returns : goal.returns
returns c = λ es passed_over invoice. page-values es passed_over invoice ∙ visits-length es invoice
