use Rattle.document_jobs.proofs.QueryLemmas.{answer_text, is_answered, some_answered}
use Rattle.document_jobs.proofs.queries.write_by.Goals as goal

pub returns-in-Ok-write_items : goal.returns-in-Ok-write_items
returns-in-Ok-write_items g c = is_answered _ _ _ _ _ _ c.status_of.ensures (answer_text _ _ _ c.in-Ok.ensures.value) c.in-Ok-write_items.ensures.ok

pub returns : goal.returns
returns g c = some_answered _ _ _ _ (answer_text _ _ _ c.in-Ok.ensures.value) c.in-Err-write_items.ensures.err
