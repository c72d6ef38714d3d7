use Rattle.std.proofs.Common.{refl, rules}
use Rattle.code_lists.proofs.FileLemmas.{document_read, document_refused}
use Rattle.extension_files.proofs.file.read_document.Goals as goal

pub returns-in-Ok-clause-ok : goal.returns-in-Ok-clause-ok
returns-in-Ok-clause-ok c = document_read _ _ c.in-Ok.ensures.ok

pub returns-else-is_memory-clause-fault : goal.returns-else-is_memory-clause-fault
returns-else-is_memory-clause-fault c _ = (refl, document_refused _ (c.in-Err.ensures.refused (λ m. search (rules, c.is_memory.ensures.1 m))))
