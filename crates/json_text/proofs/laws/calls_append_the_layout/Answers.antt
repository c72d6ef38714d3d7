use Rattle.json_text.proofs.CallsLemmas.{document_calls-append, document_calls-allowed, calls_of-layout, calls_of-state, calls_of-allowed}
use Rattle.json_text.proofs.laws.calls_append_the_layout.Goals as goal

pub returns-clause-document : goal.returns-clause-document
returns-clause-document c = document_calls-append

pub returns-clause-values : goal.returns-clause-values
returns-clause-values c = calls_of-layout

pub returns-clause-state : goal.returns-clause-state
returns-clause-state c = calls_of-state

pub returns-clause-allowed : goal.returns-clause-allowed
returns-clause-allowed c = calls_of-allowed

pub returns-clause-document_allowed : goal.returns-clause-document_allowed
returns-clause-document_allowed c = document_calls-allowed
