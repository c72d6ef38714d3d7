use Rattle.std.proofs.Common.{◌≡◌, ℕ}
use Rattle.code_lists.specs.CodeFiles.{built_in_lists}
use Rattle.bind_rows.specs.declared.tables.DocumentType.TheVariants as document_type
use Rattle.bind_meaning.specs.Tables.{rows_of}
use Rattle.svrl_report.specs.Plain.{tally_of}
use Rattle.trial_invoice.specs.Generated.{trial_entries}
use Rattle.trial_run.specs.Trials.{trial_findings, trial_of, ubl_text}
use Rattle.trial_laws.proofs.Carried.{invoice-carried}
use Rattle.trial_laws.proofs.LastLine.{tally-is}
use Rattle.trial_laws.proofs.trials_find_one_report.Goals as goal

pub returns-clause-found : goal.returns-clause-found
returns-clause-found c lines some few =
    let shown = c.shown_terms_make_a_document.ensures.valid (rows_of document_type.Invoice) (trial_entries lines) built_in_lists
    (c.tables_are_readable.ensures.shows document_type.Invoice) (c.trial_entries_are_valid.ensures lines some) in
    let back = c.carried_invoices_are_read_back.ensures.valid document_type.Invoice (trial_entries lines) built_in_lists
    (c.trial_entries_are_an_invoice.ensures lines few)
    (c.trial_entries_are_valid.ensures lines some) (invoice-carried lines few) in
    tally-is c.printed_numbers_are_read.ensures.scaled lines some few shown back

tallied : (lines steps : ℕ) → tally_of (trial_findings (ubl_text lines)) ≡ record { failed = 0; reported = 1; errors = 0; minor = 0 } →
    (trial_of lines steps).tally ≡ record { failed = 0; reported = 1; errors = 0; minor = 0 }
unfolding trial_of
tallied lines steps h = h

pub returns-clause-tally : goal.returns-clause-tally
returns-clause-tally c lines steps some few = tallied lines steps (returns-clause-found c lines some few)
