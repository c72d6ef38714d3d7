use Rattle.invoice_jobs.proofs.ConversionLemmas.{read-valid}
use Rattle.invoice_jobs.proofs.conversions.read_files_are_valid_invoices.Goals as goal

pub returns : goal.returns
returns c = read-valid c.read_invoices_are_valid.ensures.rows c.numbers_of_nodes_rise.ensures.tree c.read_tells_its_tree.ensures
    c.events_build_the_nodes_of_their_tree.ensures
