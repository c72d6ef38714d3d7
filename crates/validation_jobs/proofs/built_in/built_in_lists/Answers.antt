use Rattle.std.proofs.Common.{Ok, refl, ◌∙◌}
use Rattle.validation_jobs.proofs.ValidationLemmas.{built_in_is, lists_refused}
use Rattle.validation_jobs.proofs.built_in.built_in_lists.Goals as goal

pub returns-in-Ok-clause-lists : goal.returns-in-Ok-clause-lists
returns-in-Ok-clause-lists g c =
    record { are = built_in_is _ (Ok c.in-Ok.lists) (c.as_bytes.ensures.value ∙ c.code_lists_text.ensures) c.in-Ok.ensures.ok; quiet = refl }

pub returns-in-Err-clause-refused : goal.returns-in-Err-clause-refused
returns-in-Err-clause-refused g c =
    lists_refused _ c.in-Err.fault c.refuse_built_in-status.result _ _ (c.as_bytes.ensures.value ∙ c.code_lists_text.ensures) c.in-Err.ensures.fault
    c.refuse_built_in-status.ensures
