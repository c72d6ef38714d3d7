-- How a validation goes on, or ends.
use Rattle.std.proofs.Common.{◌≡◌, ◌≢◌, ◌⊎◌, ℕ, Bool, true, false, List, Option, Some, None, Result, Ok, Err, inl, inr, refl, ap, sym, subst, ◌∙◌}
use Rattle.std.specs.Prelude.{IfOk, IfErr}
use Rattle.inv_base.specs.Outside.{ShelfView, SinkView}
use Rattle.inv_base.specs.Tree.{Node}
use Rattle.inv_base.specs.Writing.{WritesAll, WritesFront}
use Rattle.code_lists.specs.CodeFiles.{Lists, file_lists}
use Rattle.code_lists.specs.declared.fault.ListFault.{ListFault}
use Rattle.code_lists.specs.declared.fault.ListFault.TheVariants as list_faults
use Rattle.extension_files.specs.declared.terms.ExtTerm.{ExtTerm}
use Rattle.node_arena.specs.Document.{Document}
use Rattle.node_arena.specs.Moves.{tree_nodes}
use Rattle.bind_rows.specs.declared.rows.Row.{Row}
use Rattle.bind_rows.specs.declared.tables.DocumentType.{DocumentType}
use Rattle.bind_meaning.specs.declared.fault.BindFault.{BindFault}
use Rattle.bind_meaning.specs.declared.fault.BindKind.TheVariants as kinds
use Rattle.bind_run.specs.declared.tables.Tables.{Tables}
use Rattle.bind_run.specs.Extensions.{rows_for}
use Rattle.bind_run.specs.Reading.{AreTablesFor, ReadingReport, faults_by, faults_by_root, report_by, rows_in}
use Rattle.bind_run.specs.Roots.{document_type_of}
use Rattle.held_rules.specs.Texts.{Ready}
use Rattle.validation_report.specs.Validating.{Validated, Report, report_of}
use Rattle.job_protocol.specs.declared.status.Status.{Status}
use Rattle.job_protocol.specs.declared.status.Status.TheVariants as statuses
use Rattle.job_protocol.specs.Protocol.{Protocol, ends}
use Rattle.job_protocol.specs.Outside.{IsAccepted, TakesOrFails}
use Rattle.job_protocol.specs.Runs.{Runs, Continues, Fails}
use Rattle.job_protocol.proofs.Ends.{memory_here, written_here}
use Rattle.job_protocol.proofs.FileLemmas.{refused_here}
use Rattle.invoice_jobs.specs.Sources.{ReadingProfile}
use Rattle.invoice_jobs.specs.Invoices.{invoice_line, IsInvoiceRefusal}
use Rattle.rule_texts.specs.Texts.{code_lists_text}
use Rattle.validation_jobs.specs.Validation.{built_in_rules, built_in_lists, not_built_in, by_built_in, listed_protocol, validated, status_by, text_in, told_by}
use Rattle.validation_jobs.specs.Validation.{reported, by_rules, by_faults, judged_next, document_next, IsListed, IsListRefusal, IsUnlisted}

-- ---- the built-in lists

pub built_in_is : (bytes : List ℕ) (answer : Result Lists ListFault) → bytes ≡ code_lists_text → file_lists bytes ≡ answer → built_in_lists ≡ answer
unfolding built_in_lists
built_in_is bytes answer is found = ap file_lists (sym is) ∙ found

pub lists_refused : (bytes : List ℕ) (fault : ListFault) (status : Status) (before after : SinkView) → bytes ≡ code_lists_text
    → (fault ≢ list_faults.Memory → file_lists bytes ≡ Err fault) → IsListRefusal fault status before after → IsUnlisted status before after
lists_refused bytes list_faults.Memory status before after is fails refused = inl refused
lists_refused bytes list_faults.NotToml status before after is fails refused =
    inr ((list_faults.NotToml, built_in_is bytes (Err list_faults.NotToml) is (fails (λ e. cc))), refused.0, refused.1)
lists_refused bytes (list_faults.NotALists key) status before after is fails refused =
    inr ((list_faults.NotALists key, built_in_is bytes (Err (list_faults.NotALists key)) is (fails (λ e. cc))), refused.0, refused.1)
lists_refused bytes (list_faults.BadCode key) status before after is fails refused =
    inr ((list_faults.BadCode key, built_in_is bytes (Err (list_faults.BadCode key)) is (fails (λ e. cc))), refused.0, refused.1)

built_in_goes_on : (lists : Lists) (shelf : ShelfView) (err err' : SinkView) → IsListed lists err err' →
    Continues (listed_protocol None) lists shelf shelf err err'
built_in_goes_on lists shelf err err' is = λ next shelf' out out' err'' status further.
    subst (λ protocol. Runs protocol (record { shelf = shelf; out = out; err = err }) (record { shelf = shelf'; out = out'; err = err'' }) status)
    (sym (ap (by_built_in next) is.are))
    (subst (λ e. Runs (next lists) (record { shelf = shelf; out = out; err = e }) (record { shelf = shelf'; out = out'; err = err'' }) status) is.quiet further)

built_in_fails : (status : Status) (shelf : ShelfView) (err err' : SinkView) → IsUnlisted status err err' →
    Fails (listed_protocol None) status shelf shelf err err'
built_in_fails status shelf err err' (inl memory) = λ next out.
    rw (memory.0, memory.1) (memory_here (listed_protocol None next) shelf out err)
built_in_fails status shelf err err' (inr refused) = λ next out.
    rw refused.1
    (subst (λ protocol. Runs protocol (record { shelf = shelf; out = out; err = err }) (record { shelf = shelf; out = out; err = err' }) statuses.RulesRefused)
    (sym (ap (by_built_in next) refused.0.1))
    (refused_here statuses.RulesRefused not_built_in.err shelf out err err' tt refused.2))

pub built_in_if : (result : Result Lists Status) (shelf : ShelfView) (err err' : SinkView) → IfOk result (λ lists. IsListed lists err err')
    → IfOk result (λ lists. Continues (listed_protocol None) lists shelf shelf err err')
built_in_if (Ok lists) shelf err err' is = built_in_goes_on lists shelf err err' is
built_in_if (Err status) shelf err err' is = tt

pub built_in_if_not : (result : Result Lists Status) (shelf : ShelfView) (err err' : SinkView) → IfErr result (λ status. IsUnlisted status err err')
    → IfErr result (λ status. Fails (listed_protocol None) status shelf shelf err err')
built_in_if_not (Ok lists) shelf err err' is = tt
built_in_if_not (Err status) shelf err err' is = built_in_fails status shelf err err' is

-- ---- a document

-- what is wrong with a document by the same rows is the same
by_same_rows : (rows other : DocumentType → List Row) → ((table : DocumentType) → rows table ≡ other table)
    → (nodes : List Node) (lists : Lists) (table : Option DocumentType)
    → faults_by_root rows nodes lists table ≡ faults_by_root other nodes lists table
by_same_rows rows other same nodes lists None = refl
by_same_rows rows other same nodes lists (Some table) =
    ap (λ r. Ok (report_by nodes r lists table)) (same table)

pub same_faults : (terms : List ExtTerm) (tables : Tables) → AreTablesFor terms tables → (nodes : List Node) (lists : Lists)
    → faults_by (rows_for terms) nodes lists ≡ faults_by (rows_in tables) nodes lists
same_faults terms tables are nodes lists = sym (by_same_rows (rows_in tables) (rows_for terms) are nodes lists (document_type_of nodes))

module _ (text : Report → List ℕ) (file : List ℕ) (reading_profile : ReadingProfile) (content : List ℕ) (doc : Document) (shelf : ShelfView) where
  -- what follows by what is wrong
  abbrev follows : Result ReadingReport BindFault → Protocol
  follows found = by_faults file doc (judged_next text content doc) found

  pub document_faulted : (reading_report : ReadingReport) (out out' err err' : SinkView) (status : Status)
      → faults_by (rows_for reading_profile.terms) (tree_nodes doc) reading_profile.lists ≡ Ok reading_report
      → Runs (judged_next text content doc reading_report) (record { shelf = shelf; out = out; err = err }) (record { shelf = shelf; out = out'; err = err' })
      status
      → Runs (document_next text file reading_profile content doc) (record { shelf = shelf; out = out; err = err })
      (record { shelf = shelf; out = out'; err = err' }) status
  document_faulted reading_report out out' err err' status is further =
      subst (λ protocol. Runs protocol (record { shelf = shelf; out = out; err = err }) (record { shelf = shelf; out = out'; err = err' }) status)
      (sym (ap follows is)) further

  pub document_refused : (fault : BindFault) (out err err' : SinkView) (status : Status)
      → (fault.kind ≢ kinds.Memory → faults_by (rows_for reading_profile.terms) (tree_nodes doc) reading_profile.lists ≡ Err fault) →
      IsInvoiceRefusal doc file fault status err err'
      → Runs (document_next text file reading_profile content doc) (record { shelf = shelf; out = out; err = err })
      (record { shelf = shelf; out = out; err = err' }) status
  document_refused fault out err err' status fails (inl memory) =
      rw (memory.1, memory.2) (memory_here (document_next text file reading_profile content doc) shelf out err)
  document_refused fault out err err' status fails (inr told) =
      rw told.1
      (subst (λ protocol. Runs protocol (record { shelf = shelf; out = out; err = err }) (record { shelf = shelf; out = out; err = err' })
      statuses.DocumentRefused)
      (sym (ap follows (fails told.0)))
      (refused_here statuses.DocumentRefused (invoice_line file doc fault) shelf out err err' tt told.2))

module _ (text : Report → List ℕ) (content : List ℕ) (doc : Document) (shelf : ShelfView) where
  -- The rules can be had, or can't.
  pub document_judged : (reading_report : ReadingReport) (ready : Ready) (out out' err err' : SinkView) (status : Status)
      → built_in_rules reading_report.document_type ≡ Some ready
      → Runs (ends (reported text (validated content doc reading_report ready))) (record { shelf = shelf; out = out; err = err })
      (record { shelf = shelf; out = out'; err = err' }) status
      → Runs (judged_next text content doc reading_report) (record { shelf = shelf; out = out; err = err }) (record { shelf = shelf; out = out'; err = err' })
      status
  document_judged reading_report ready out out' err err' status is further =
      subst (λ protocol. Runs protocol (record { shelf = shelf; out = out; err = err }) (record { shelf = shelf; out = out'; err = err' }) status)
      (sym (ap (by_rules (λ r. ends (reported text (validated content doc reading_report r)))) is)) further

  pub document_unjudged : (reading_report : ReadingReport) (out err err' : SinkView) → built_in_rules reading_report.document_type ≡ None
      → TakesOrFails not_built_in.err err err'
      → Runs (judged_next text content doc reading_report) (record { shelf = shelf; out = out; err = err })
      (record { shelf = shelf; out = out; err = err' }) statuses.RulesRefused
  document_unjudged reading_report out err err' is takes =
      subst (λ protocol. Runs protocol (record { shelf = shelf; out = out; err = err }) (record { shelf = shelf; out = out; err = err' }) statuses.RulesRefused)
      (sym (ap (by_rules (λ r. ends (reported text (validated content doc reading_report r)))) is))
      (refused_here statuses.RulesRefused not_built_in.err shelf out err err' tt takes)

-- ---- a report

-- It was written, or a front of it where a write failed.
pub report_written : (text : Report → List ℕ) (report : Report) (status : Status) (shelf : ShelfView) (out out' err : SinkView)
    → ((status ≡ status_by report.findings) × WritesAll (text report) out out') ⊎
    ((status ≡ statuses.WriteFault) × WritesFront (text report) out out')
    → Runs (ends (told_by text report)) (record { shelf = shelf; out = out; err = err }) (record { shelf = shelf; out = out'; err = err }) status
report_written text report status shelf out out' err written =
    written_here (status_by report.findings) status (text report) shelf out out' err (accepted report.findings) written
  where
    accepted : (b : Bool) → IsAccepted (status_by b)
    accepted true = tt
    accepted false = tt

-- the same of the report that is defined
pub report_is_written : (text : Report → List ℕ) (v : Validated) (report : Report) (status : Status) (shelf : ShelfView) (out out' err : SinkView)
    → report ≡ report_of v
    → Runs (ends (told_by text report)) (record { shelf = shelf; out = out; err = err }) (record { shelf = shelf; out = out'; err = err }) status
    → Runs (ends (reported text v)) (record { shelf = shelf; out = out; err = err }) (record { shelf = shelf; out = out'; err = err }) status
report_is_written text v report status shelf out out' err is further =
    subst (λ (r : Report). Runs (ends (told_by text r)) (record { shelf = shelf; out = out; err = err })
    (record { shelf = shelf; out = out'; err = err }) status) is further
