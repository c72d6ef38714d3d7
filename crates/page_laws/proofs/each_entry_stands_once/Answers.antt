use Rattle.page_laws.proofs.EnteredLemmas.{visits-entered}
use Rattle.page_laws.proofs.EntryLemmas.{visited-once}
use Rattle.page_laws.proofs.each_entry_stands_once.Goals as goal

pub returns : goal.returns
returns c = λ es invoice. (λ e member. visited-once es invoice e member, visits-entered es)
