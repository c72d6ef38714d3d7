use Rattle.invoice_cli.proofs.ConversionLemmas.{conversions-return}
use Rattle.invoice_cli.proofs.conversions.conversions_return.Goals as goal

pub returns : goal.returns
returns c =
    conversions-return c.carried_texts_are_read_exactly.ensures c.accepted_terms_are_good.ensures c.read_files_are_valid_invoices.ensures
    c.converted_texts_are_documents.ensures c.done_conversions_are_documents.ensures.told c.done_conversions_are_documents.ensures.ended
    c.done_conversions_are_documents.ensures.whole
