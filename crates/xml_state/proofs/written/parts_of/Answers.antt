use Rattle.std.proofs.Common.{lit<}
use Rattle.xml_state.proofs.WrittenLemmas.{prefix_of-none, local_of-none}
use Rattle.xml_state.proofs.written.parts_of.Goals as goal

pub returns-in-None-clause-prefix : goal.returns-in-None-clause-prefix
returns-in-None-clause-prefix c = prefix_of-none _ (c.in-None.ensures.byte (lit< tt) (λ w o h. h))

pub returns-in-None-clause-local : goal.returns-in-None-clause-local
returns-in-None-clause-local c = local_of-none _ (c.in-None.ensures.byte (lit< tt) (λ w o h. h))
