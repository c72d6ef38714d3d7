use Rattle.invoice_jobs.proofs.ConversionLemmas.{file-terms-good}
use Rattle.invoice_jobs.proofs.DoneLemmas.{convert-ended, convert-done, whole-ended}
use Rattle.invoice_jobs.proofs.conversions.done_conversions_are_documents.Goals as goal

pub returns-clause-told : goal.returns-clause-told
returns-clause-told c =
    convert-done (convert-ended c.converted_texts_are_documents.ensures c.no_terms_are_good.ensures (file-terms-good c.file_terms_are_extensions.ensures))

pub returns-clause-ended : goal.returns-clause-ended
returns-clause-ended c = convert-ended c.converted_texts_are_documents.ensures c.no_terms_are_good.ensures (file-terms-good c.file_terms_are_extensions.ensures)

pub returns-clause-whole : goal.returns-clause-whole
returns-clause-whole c = whole-ended c.converted_texts_are_documents.ensures c.no_terms_are_good.ensures (file-terms-good c.file_terms_are_extensions.ensures)
