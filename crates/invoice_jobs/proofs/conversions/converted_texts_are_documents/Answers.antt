use Rattle.invoice_jobs.proofs.ConversionLemmas.{bytes-valid}
use Rattle.invoice_jobs.proofs.DoneLemmas.{text-of}
use Rattle.invoice_jobs.proofs.conversions.converted_texts_are_documents.Goals as goal

pub returns : goal.returns
returns c =
    text-of
    (bytes-valid c.read_invoices_are_valid.ensures.rows c.numbers_of_nodes_rise.ensures.tree c.read_tells_its_tree.ensures
    c.events_build_the_nodes_of_their_tree.ensures)
    c.good_extensions_are_open.ensures c.texts_are_documents.ensures c.round_trip.ensures.syntax
