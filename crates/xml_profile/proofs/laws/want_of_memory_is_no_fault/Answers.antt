use Rattle.xml_profile.proofs.MemoryLemmas.{settled-no-memory, first-no-memory}
use Rattle.xml_profile.proofs.laws.want_of_memory_is_no_fault.Goals as goal

pub returns-clause-settled : goal.returns-clause-settled
returns-clause-settled c = settled-no-memory

pub returns-clause-first : goal.returns-clause-first
returns-clause-first c = first-no-memory
