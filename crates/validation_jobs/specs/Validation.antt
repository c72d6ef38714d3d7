-- What is answered to the job that validates an invoice: all that is wrong with it as an invoice of its table, the elements that the table passes over,
-- and what the built-in rules of EN 16931 find (CEN/TS 16931-3-2 and 16931-3-3; ISO/IEC 19757-3).
use Rattle.std.specs.Prelude.{◌≡◌, ℕ, Bool, true, false, List, [], chars, codes, encode_utf8_all, Option, Some, None, Result, Ok, Err}
use Rattle.std.proofs.Common.{◌⊎◌}
use Rattle.inv_base.specs.Outside.{SinkView}
use Rattle.code_lists.specs.declared.fault.ListFault.{ListFault}
use Rattle.code_lists.specs.declared.fault.ListFault.TheVariants as list_faults
use Rattle.code_lists.specs.CodeFiles.{Lists, file_lists}
use Rattle.xml_profile.specs.Profile as profile
use Rattle.node_arena.specs.Document.{Document}
use Rattle.node_arena.specs.Moves.{tree_nodes}
use Rattle.bind_rows.specs.declared.tables.DocumentType.{DocumentType}
use Rattle.bind_rows.specs.declared.tables.DocumentType.TheVariants as document_type
use Rattle.bind_meaning.specs.declared.fault.BindFault.{BindFault}
use Rattle.bind_run.specs.Extensions.{rows_for}
use Rattle.bind_run.specs.Reading.{ReadingReport, faults_by}
use Rattle.rule_texts.specs.Texts.{ubl_text, cii_text, code_lists_text}
use Rattle.held_rules.specs.Texts.{Ready, ready_in, found_by}
use Rattle.validation_report.specs.Validating.{Validated, Report, report_of}
use Rattle.json_text.specs.Layout as layout
use Rattle.validation_json.specs.ValidationJson.{validation_json}
use Rattle.job_protocol.specs.declared.formats.ReportFormat.{ReportFormat}
use Rattle.job_protocol.specs.declared.formats.ReportFormat.TheVariants as formats
use Rattle.validation_jobs.specs.declared.validating.Asked.{Asked}
use Rattle.job_protocol.specs.declared.status.Status.{Status}
use Rattle.job_protocol.specs.declared.status.Status.TheVariants as statuses
use Rattle.job_protocol.specs.Protocol.{Answer, Protocol, ends, refusal, by_result, lists_protocol, told_protocol}
use Rattle.job_protocol.specs.Outside.{TakesOrFails}
use Rattle.job_protocol.specs.Views.{document_read}
use Rattle.invoice_jobs.specs.Sources.{Sources, ReadingProfile, with_terms}
use Rattle.invoice_jobs.specs.Invoices.{invoice_line}

-- ---- what is built in

-- the rule file for the documents of a table
abbrev pub rules_text : DocumentType → List ℕ
rules_text document_type.Invoice = ubl_text
rules_text document_type.CreditNote = ubl_text
rules_text document_type.Cii = cii_text

unfoldable pub built_in_rules : DocumentType → Option Ready
built_in_rules table = ready_in (rules_text table)

unfoldable pub built_in_lists : Result Lists ListFault
built_in_lists = file_lists code_lists_text

-- what is told where what is built in can't be had: no job judges by less than that
abbrev pub not_built_in : Answer
not_built_in = refusal statuses.RulesRefused (codes "einv: the built-in rules are refused\n")

-- ---- what a document is validated by

-- the lists that are built in, and what follows by them
abbrev pub by_built_in : (Lists → Protocol) → Result Lists ListFault → Protocol
by_built_in next found = by_result (λ fault. ends not_built_in) next found

-- the lists of a file, or those that are built in
abbrev pub listed_protocol : Option (List ℕ) → (Lists → Protocol) → Protocol
listed_protocol None next = by_built_in next built_in_lists
listed_protocol (Some file) next = lists_protocol file next

-- the lists, and the extension terms
abbrev pub given_protocol : Sources → (ReadingProfile → Protocol) → Protocol
given_protocol sources next = with_terms (listed_protocol sources.codes_file) sources.extension_file next

-- ---- what is found

-- what validating a document comes to: its faults, what was passed over, is unread or misplaced, and what the rules find in it
abbrev pub validated : List ℕ → Document → ReadingReport → Ready → Validated
validated content document reading_report ready = record {
  content = content;
  document = document;
  faults = reading_report.faults;
  passed = reading_report.passed;
  unread = reading_report.unread;
  misplaced = reading_report.misplaced;
  lines = found_by ready (tree_nodes document);
}

-- Findings exactly where there is a fault, a fatal assertion that failed or one in error
abbrev pub status_by : Bool → Status
status_by true = statuses.Findings
status_by false = statuses.Done

-- the report in a format, by the name of the document's file
abbrev pub text_in : ReportFormat → List ℕ → Report → List ℕ
text_in formats.Plain file report = report.plain
text_in formats.Svrl file report = report.svrl
text_in formats.Json file report = encode_utf8_all (layout.document (validation_json (chars file) report.contents))

-- what is answered by the text of a report
abbrev pub told_by : (Report → List ℕ) → Report → Answer
told_by text report = record { status = status_by report.findings; out = text report; err = [] }

abbrev pub reported : (Report → List ℕ) → Validated → Answer
reported text v = told_by text (report_of v)

-- what follows by the built-in rules
abbrev pub by_rules : (Ready → Protocol) → Option Ready → Protocol
by_rules next None = ends not_built_in
by_rules next (Some ready) = next ready

-- what is wrong with a document by the table of its root, and what follows by that; or why no table is its own
abbrev pub by_faults : List ℕ → Document → (ReadingReport → Protocol) → Result ReadingReport BindFault → Protocol
by_faults file document next found = by_result (λ fault. ends (refusal statuses.DocumentRefused (invoice_line file document fault))) next found

-- what follows by what is wrong: the rules of the table, and the report
abbrev pub judged_next : (Report → List ℕ) → List ℕ → Document → ReadingReport → Protocol
judged_next text content document reading_report =
    by_rules (λ ready. ends (reported text (validated content document reading_report ready))) (built_in_rules reading_report.document_type)

-- what follows by a document and the bytes of its file
abbrev pub document_next : (Report → List ℕ) → List ℕ → ReadingProfile → List ℕ → Document → Protocol
document_next text file reading_profile content document =
    by_faults file document (judged_next text content document) (faults_by (rows_for reading_profile.terms) (tree_nodes document) reading_profile.lists)

abbrev pub found_next : (Report → List ℕ) → List ℕ → ReadingProfile → List ℕ → profile.Document → Protocol
found_next text file reading_profile content found = document_next text file reading_profile content (document_read found)

-- the files beside the document before it, as for the other jobs on an invoice
abbrev pub validate_protocol : ReportFormat → Sources → List ℕ → Protocol
validate_protocol format sources file =
    given_protocol sources (λ reading_profile. told_protocol file (found_next (text_in format file) file reading_profile))

-- ---- what the code has

-- the text of a report as it is asked for
abbrev pub text_asked : Asked → Report → List ℕ
text_asked asked report = text_in asked.format asked.file.now report

-- The built-in lists are these, and nothing was told.
pub record IsListed (lists : Lists) (before after : SinkView) : Type 0 where
  pub are : built_in_lists ≡ Ok lists
  pub quiet : after ≡ before

-- The status where a text of lists is refused, which was told; want of memory has none.
abbrev pub IsListRefusal : ListFault → Status → SinkView → SinkView → Type 0
IsListRefusal list_faults.Memory status before after = (status ≡ statuses.Memory) × (after ≡ before)
IsListRefusal fault status before after = (status ≡ statuses.RulesRefused) × TakesOrFails not_built_in.err before after

-- The built-in lists can't be had: memory ran out, or they are refused, and that was told.
abbrev pub IsUnlisted : Status → SinkView → SinkView → Type 0
IsUnlisted status before after =
    ((status ≡ statuses.Memory) × (after ≡ before))
    ⊎ (((fault : ListFault) × (built_in_lists ≡ Err fault)) × (status ≡ statuses.RulesRefused) × TakesOrFails not_built_in.err before after)
