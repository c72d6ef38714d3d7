-- How the jobs run that read an invoice.
use Rattle.std.proofs.Common.{◌≡◌, ◌≢◌, ℕ, List, [], Option, Some, None, Result, Ok, Err, inl, inr, refl, ap, sym, subst, ◌∙◌, arith, option_map, ◌⊎◌}
use Rattle.inv_base.specs.Files.{bytes_under}
use Rattle.inv_base.specs.Outside.{ShelfView, SinkView}
use Rattle.inv_base.specs.Tree.{Node}
use Rattle.inv_base.specs.Writing.{WritesAll, WritesFront}
use Rattle.std.specs.Prelude.{true, encode_utf8_all}
use Rattle.std.specs.List.{list_all}
use Rattle.code_lists.specs.CodeFiles.{Lists}
use Rattle.xml_document.specs.Loading.{IsLoaded}
use Rattle.node_arena.specs.Document.{Document}
use Rattle.node_arena.specs.Moves.{tree_nodes}
use Rattle.inv_terms.specs.declared.attachments.AttachFault.{AttachFault}
use Rattle.inv_terms.specs.Attachments.{attached}
use Rattle.extension_files.specs.declared.terms.ExtTerm.{ExtTerm}
use Rattle.bind_meaning.specs.declared.fault.BindFault.{BindFault}
use Rattle.bind_meaning.specs.declared.fault.BindKind.TheVariants as kinds
use Rattle.bind_meaning.specs.declared.tables.Syntax.{Syntax}
use Rattle.bind_meaning.specs.Terms.{Read, terms_of}
use Rattle.bind_rows.specs.declared.rows.Row.{Row}
use Rattle.bind_rows.specs.declared.tables.DocumentType.{DocumentType}
use Rattle.bind_table.specs.Laid.{is_writable}
use Rattle.bind_table.specs.WellFormed.{first_fault}
use Rattle.bind_write.specs.Documents.{document_text}
use Rattle.bind_write.specs.Sources.{has_plain_attribute}
use Rattle.bind_carrying.specs.declared.carrying.NotCarried.{NotCarried}
use Rattle.bind_carrying.specs.Carrying.{carrying}
use Rattle.bind_run.specs.declared.tables.Tables.{Tables}
use Rattle.bind_run.specs.Extensions.{rows_for, AreGood}
use Rattle.bind_meaning.specs.Losses.{lost_nodes}
use Rattle.bind_run.specs.Reading.{by_root, first_lost, first_of, invoice_by, lost_by_root, rows_in, AreFormed, AreTablesFor}
use Rattle.bind_run.specs.Roots.{document_type_of}
use Rattle.extension_laws.specs.Texts.{target_rows, text_by}
use Rattle.job_protocol.specs.declared.status.Status.{Status}
use Rattle.job_protocol.specs.declared.status.Status.TheVariants as statuses
use Rattle.job_protocol.specs.Protocol.{Protocol, ends, done, refusal, by_result, document_limits}
use Rattle.job_protocol.specs.Outside.{TakesOrFails, HasRead}
use Rattle.job_protocol.specs.Runs.{Runs, Continues, Fails}
use Rattle.job_protocol.proofs.Ends.{written_here, behind_document}
use Rattle.job_protocol.proofs.FileLemmas.{memory_in, refused_here}
use Rattle.job_protocol.specs.Views.{document_read}
use Rattle.invoice_jobs.specs.Sources.{Sources, ReadingProfile, profile_protocol}
use Rattle.invoice_jobs.specs.Invoices.{Given, invoice_line, by_invoice, invoice_protocol, read_protocol, condition_line, by_carrying, converted}
use Rattle.invoice_jobs.specs.Invoices.{attachment_line, by_loss, lost_line, whole_invoice_protocol, whole_protocol}
use Rattle.xml_profile.specs.Profile as profile
use Rattle.invoice_jobs.specs.Invoices.{extracted, IsInvoiceRefusal}

-- ---- the tables

-- Tables with the same rows read the same.
by_same_rows : (rows other : DocumentType → List Row) → ((table : DocumentType) → rows table ≡ other table)
    → (nodes : List Node) (lists : Lists) (document_type : Option DocumentType)
    → by_root rows nodes lists document_type ≡ by_root other nodes lists document_type
by_same_rows rows other same nodes lists None = refl
by_same_rows rows other same nodes lists (Some table) = ap (λ r. terms_of nodes r lists) (same table)

-- .. and lose the same.
same_losses : (rows other : DocumentType → List Row) → ((table : DocumentType) → rows table ≡ other table)
    → (nodes : List Node) (document_type : Option DocumentType) → lost_by_root rows nodes document_type ≡ lost_by_root other nodes document_type
same_losses rows other same nodes None = refl
same_losses rows other same nodes (Some table) = ap (λ r. first_of (lost_nodes nodes r)) (same table)

-- An invoice may be written by each of them.
module _ (terms : List ExtTerm) (good : AreGood terms) (table : DocumentType) (rows : List Row) (is : rows ≡ rows_for terms table) where
  pub table_laid : ((t : List ExtTerm) (table : DocumentType) → AreGood t → is_writable (rows_for t table) ≡ true) → is_writable rows ≡ true
  table_laid laid = ap is_writable is ∙ laid terms table good

  pub table_notes : ((t : List ExtTerm) (table : DocumentType) → AreGood t → list_all has_plain_attribute (rows_for t table) ≡ true)
      → list_all has_plain_attribute rows ≡ true
  table_notes notes = ap (list_all has_plain_attribute) is ∙ notes terms table good

pub without_terms_good : (tables : Tables) → AreTablesFor [] tables → AreFormed tables → AreGood []
without_terms_good tables are formed = record {
  fine = refl;
  formed = λ table. sym (ap first_fault (are table)) ∙ formed table;
}

-- ---- the document

module _ (file : List ℕ) (reading_profile : ReadingProfile) (tables : Tables) (are : AreTablesFor reading_profile.terms tables) (doc : Document) (shelf mid :
    ShelfView)
    (err mid_err : SinkView) (read_one : HasRead 1 shelf mid) (quiet : mid_err ≡ err)
    (found : IsLoaded document_limits (option_map (bytes_under file) shelf.held) doc) where
  of_found : invoice_by (rows_for reading_profile.terms) (tree_nodes (document_read found.found)) reading_profile.lists
      ≡ invoice_by (rows_in tables) (tree_nodes doc) reading_profile.lists
  of_found =
      ap (λ d. invoice_by (rows_for reading_profile.terms) (tree_nodes d) reading_profile.lists) (sym found.exactly)
      ∙ sym (by_same_rows (rows_in tables) (rows_for reading_profile.terms) are (tree_nodes doc) reading_profile.lists (document_type_of (tree_nodes doc)))

  pub behind_invoice : (read : Read) → invoice_by (rows_in tables) (tree_nodes doc) reading_profile.lists ≡ Ok read
      → Continues (invoice_protocol file reading_profile) read shelf mid err mid_err
  behind_invoice read is = λ next shelf' out out' err' status further.
      behind_document file shelf mid shelf' out out' err mid_err err' status read_one quiet
      (λ f. by_invoice file (document_read f) next (invoice_by (rows_for reading_profile.terms) (tree_nodes (document_read f)) reading_profile.lists)) doc found
      (subst (λ protocol. Runs protocol (record { shelf = mid; out = out; err = mid_err }) (record { shelf = shelf'; out = out'; err = err' }) status)
      (sym (ap (by_invoice file (document_read found.found) next) (of_found ∙ is))) further)

  pub invoice_refused : (fault : BindFault) (status : Status) (err' : SinkView)
      → (fault.kind ≢ kinds.Memory → invoice_by (rows_in tables) (tree_nodes doc) reading_profile.lists ≡ Err fault)
      → IsInvoiceRefusal doc file fault status mid_err err' → Fails (invoice_protocol file reading_profile) status shelf mid err err'
  invoice_refused fault status err' fails (inl memory) = λ next out.
      rw memory.1 (memory_in file shelf mid out err err' (invoice_protocol file reading_profile next) (λ files. omega arith) read_one (memory.2 ∙ quiet))
  invoice_refused fault status err' fails (inr told) = λ next out.
      let takes = subst (λ d. TakesOrFails (invoice_line file d fault) mid_err err') found.exactly told.2 in
      let refused = refused_here statuses.DocumentRefused (invoice_line file (document_read found.found) fault) mid out mid_err err' tt takes in
      rw told.1 (behind_document file shelf mid mid out out err mid_err err' statuses.DocumentRefused read_one quiet
      (λ f. by_invoice file (document_read f) next (invoice_by (rows_for reading_profile.terms) (tree_nodes (document_read f)) reading_profile.lists)) doc found
      (subst (λ protocol. Runs protocol (record { shelf = mid; out = out; err = mid_err }) (record { shelf = mid; out = out; err = err' })
      statuses.DocumentRefused)
      (sym (ap (by_invoice file (document_read found.found) next) (of_found ∙ fails told.0))) refused))

  -- ---- the same where nothing of the document may be lost

  lost_found : first_lost (rows_for reading_profile.terms) (tree_nodes (document_read found.found)) ≡ first_lost (rows_in tables) (tree_nodes doc)
  lost_found =
      ap (λ d. first_lost (rows_for reading_profile.terms) (tree_nodes d)) (sym found.exactly)
      ∙ sym (same_losses (rows_in tables) (rows_for reading_profile.terms) are (tree_nodes doc) (document_type_of (tree_nodes doc)))

  abbrev whole_next : (Read → Protocol) → Document → Read → Protocol
  whole_next next d read = by_loss d (next read) (first_lost (rows_for reading_profile.terms) (tree_nodes d))

  abbrev whole_protocol_of : (Read → Protocol) → profile.Document → Protocol
  whole_protocol_of next f = by_invoice file (document_read f) (whole_next next (document_read f))
      (invoice_by (rows_for reading_profile.terms) (tree_nodes (document_read f)) reading_profile.lists)

  whole_is : (next : Read → Protocol) (result : Result Read BindFault) → invoice_by (rows_in tables) (tree_nodes doc) reading_profile.lists ≡ result
      → by_invoice file (document_read found.found) (whole_next next (document_read found.found)) result ≡ whole_protocol_of next found.found
  whole_is next result is = sym (ap (by_invoice file (document_read found.found) (whole_next next (document_read found.found))) (of_found ∙ is))

  pub behind_whole : (read : Read) → invoice_by (rows_in tables) (tree_nodes doc) reading_profile.lists ≡ Ok read
      → first_lost (rows_in tables) (tree_nodes doc) ≡ None
      → Continues (whole_invoice_protocol file reading_profile) read shelf mid err mid_err
  behind_whole read is none = λ next shelf' out out' err' status further.
      behind_document file shelf mid shelf' out out' err mid_err err' status read_one quiet (whole_protocol_of next) doc found
      (subst (λ protocol. Runs protocol (record { shelf = mid; out = out; err = mid_err }) (record { shelf = shelf'; out = out'; err = err' }) status)
      (sym (ap (by_loss (document_read found.found) (next read)) (lost_found ∙ none)) ∙ whole_is next (Ok read) is) further)

  pub whole_lost : (read : Read) (n : ℕ) (err' : SinkView) → invoice_by (rows_in tables) (tree_nodes doc) reading_profile.lists ≡ Ok read
      → first_lost (rows_in tables) (tree_nodes doc) ≡ Some n → TakesOrFails (lost_line doc n) mid_err err'
      → Fails (whole_invoice_protocol file reading_profile) statuses.Unable shelf mid err err'
  whole_lost read n err' is some told = λ next out.
      let takes = subst (λ d. TakesOrFails (lost_line d n) mid_err err') found.exactly told in
      let refused = refused_here statuses.Unable (lost_line (document_read found.found) n) mid out mid_err err' tt takes in
      behind_document file shelf mid mid out out err mid_err err' statuses.Unable read_one quiet (whole_protocol_of next) doc found
      (subst (λ protocol. Runs protocol (record { shelf = mid; out = out; err = mid_err }) (record { shelf = mid; out = out; err = err' }) statuses.Unable)
      (sym (ap (by_loss (document_read found.found) (next read)) (lost_found ∙ some)) ∙ whole_is next (Ok read) is) refused)

  pub whole_refused : (fault : BindFault) (status : Status) (err' : SinkView)
      → (fault.kind ≢ kinds.Memory → invoice_by (rows_in tables) (tree_nodes doc) reading_profile.lists ≡ Err fault)
      → IsInvoiceRefusal doc file fault status mid_err err' → Fails (whole_invoice_protocol file reading_profile) status shelf mid err err'
  whole_refused fault status err' fails (inl memory) = λ next out.
      rw memory.1 (memory_in file shelf mid out err err' (whole_invoice_protocol file reading_profile next) (λ files. omega arith) read_one (memory.2 ∙ quiet))
  whole_refused fault status err' fails (inr told) = λ next out.
      let takes = subst (λ d. TakesOrFails (invoice_line file d fault) mid_err err') found.exactly told.2 in
      let refused = refused_here statuses.DocumentRefused (invoice_line file (document_read found.found) fault) mid out mid_err err' tt takes in
      rw told.1 (behind_document file shelf mid mid out out err mid_err err' statuses.DocumentRefused read_one quiet (whole_protocol_of next) doc found
      (subst (λ protocol. Runs protocol (record { shelf = mid; out = out; err = mid_err }) (record { shelf = mid; out = out; err = err' })
      statuses.DocumentRefused) (whole_is next (Err fault) (fails told.0)) refused))

-- ---- behind the files beside it

module _ (sources : Sources) (file : List ℕ) (reading_profile : ReadingProfile) (shelf mid shelf' : ShelfView) (err mid_err err' : SinkView)
    (based : Continues (profile_protocol sources) reading_profile shelf mid err mid_err) where
  pub read_goes_on : (read : Read) → Continues (invoice_protocol file reading_profile) read mid shelf' mid_err err'
      → Continues (read_protocol sources file) (record { reading_profile = reading_profile; read = read }) shelf shelf' err err'
  read_goes_on read reads = λ next shelf'' out out' err'' status further.
      based (λ b. invoice_protocol file b (λ r. next (record { reading_profile = b; read = r }))) shelf'' out out' err'' status
      (reads (λ r. next (record { reading_profile = reading_profile; read = r })) shelf'' out out' err'' status further)

  pub read_fails : (status : Status) → Fails (invoice_protocol file reading_profile) status mid shelf' mid_err err'
      → Fails (read_protocol sources file) status shelf shelf' err err'
  read_fails status fails = λ next out.
      based (λ b. invoice_protocol file b (λ r. next (record { reading_profile = b; read = r }))) shelf' out out err' status
      (fails (λ r. next (record { reading_profile = reading_profile; read = r })) out)

pub no_profile : (sources : Sources) (file : List ℕ) (status : Status) (shelf shelf' : ShelfView) (err err' : SinkView)
    → Fails (profile_protocol sources) status shelf shelf' err err'
    → Fails (read_protocol sources file) status shelf shelf' err err'
no_profile sources file status shelf shelf' err err' fails = λ next out. fails (λ b. invoice_protocol file b (λ r. next (record {
  reading_profile = b;
  read =
      r;
}))) out

-- ---- the same where nothing may be lost

module _ (sources : Sources) (file : List ℕ) (reading_profile : ReadingProfile) (shelf mid shelf' : ShelfView) (err mid_err err' : SinkView)
    (based : Continues (profile_protocol sources) reading_profile shelf mid err mid_err) where
  pub whole_goes_on : (read : Read) → Continues (whole_invoice_protocol file reading_profile) read mid shelf' mid_err err'
      → Continues (whole_protocol sources file) (record { reading_profile = reading_profile; read = read }) shelf shelf' err err'
  whole_goes_on read reads = λ next shelf'' out out' err'' status further.
      based (λ b. whole_invoice_protocol file b (λ r. next (record { reading_profile = b; read = r }))) shelf'' out out' err'' status
      (reads (λ r. next (record { reading_profile = reading_profile; read = r })) shelf'' out out' err'' status further)

  pub whole_fails : (status : Status) → Fails (whole_invoice_protocol file reading_profile) status mid shelf' mid_err err'
      → Fails (whole_protocol sources file) status shelf shelf' err err'
  whole_fails status fails = λ next out.
      based (λ b. whole_invoice_protocol file b (λ r. next (record { reading_profile = b; read = r }))) shelf' out out err' status
      (fails (λ r. next (record { reading_profile = reading_profile; read = r })) out)

pub no_whole_profile : (sources : Sources) (file : List ℕ) (status : Status) (shelf shelf' : ShelfView) (err err' : SinkView)
    → Fails (profile_protocol sources) status shelf shelf' err err'
    → Fails (whole_protocol sources file) status shelf shelf' err err'
no_whole_profile sources file status shelf shelf' err err' fails = λ next out. fails (λ b. whole_invoice_protocol file b (λ r. next (record {
  reading_profile = b;
  read =
      r;
}))) out

-- ---- the invoice in a syntax

module _ (syntax : Syntax) (given : Given) (rows : List Row) (is : rows ≡ target_rows (rows_for given.reading_profile.terms) syntax given.read.entries)
    (shelf : ShelfView) (out : SinkView) where
  abbrev document : List ℕ
  document = text_by (rows_for given.reading_profile.terms) syntax given.read.entries

  carried : (result : Result (Unit {0}) NotCarried) → result ≡ carrying rows given.read.entries → by_carrying document result ≡ converted syntax given
  carried result it_is = ap (by_carrying document) (it_is ∙ ap (λ r. carrying r given.read.entries) is)

  pub not_converted : (fault : NotCarried) (err err' : SinkView) → Err fault ≡ carrying rows given.read.entries → TakesOrFails (condition_line fault) err err'
      → Runs (converted syntax given) (record { shelf = shelf; out = out; err = err }) (record { shelf = shelf; out = out; err = err' }) statuses.Unable
  not_converted fault err err' fails takes =
      subst (λ protocol. Runs protocol (record { shelf = shelf; out = out; err = err }) (record { shelf = shelf; out = out; err = err' }) statuses.Unable)
      (carried (Err fault) fails) (refused_here statuses.Unable (condition_line fault) shelf out err err' tt takes)

  pub is_converted : (fitting : Unit {0}) (status : Status) (out' err : SinkView) → Ok fitting ≡ carrying rows given.read.entries
      → ((status ≡ statuses.Done) × WritesAll (encode_utf8_all (document_text rows given.read.entries)) out out')
      ⊎ ((status ≡ statuses.WriteFault) × WritesFront (encode_utf8_all (document_text rows given.read.entries)) out out')
      → Runs (converted syntax given) (record { shelf = shelf; out = out; err = err }) (record { shelf = shelf; out = out'; err = err }) status
  is_converted fitting status out' err fits written =
      subst (λ protocol. Runs protocol (record { shelf = shelf; out = out; err = err }) (record { shelf = shelf; out = out'; err = err }) status)
      (carried (Ok fitting) fits) (written_here statuses.Done status document shelf out out' err tt
      (subst (λ r. ((status ≡ statuses.Done) × WritesAll (encode_utf8_all (document_text r given.read.entries)) out out')
      ⊎ ((status ≡ statuses.WriteFault) × WritesFront (encode_utf8_all (document_text r given.read.entries)) out out')) is written))

-- ---- an attached document

module _ (number : ℕ) (read : Read) (shelf : ShelfView) (out : SinkView) where
  abbrev attach_protocol : Result (List ℕ) AttachFault → Protocol
  attach_protocol found = by_result (λ fault. ends (refusal statuses.Unable (attachment_line number fault))) (λ bytes. ends (done bytes)) found

  pub is_extracted : (bytes : List ℕ) (status : Status) (out' err : SinkView) → attached read.entries number ≡ Ok bytes
      → ((status ≡ statuses.Done) × WritesAll bytes out out') ⊎ ((status ≡ statuses.WriteFault) × WritesFront bytes out out')
      → Runs (extracted number read) (record { shelf = shelf; out = out; err = err }) (record { shelf = shelf; out = out'; err = err }) status
  is_extracted bytes status out' err is written =
      subst (λ protocol. Runs protocol (record { shelf = shelf; out = out; err = err }) (record { shelf = shelf; out = out'; err = err }) status)
      (sym (ap attach_protocol is)) (written_here statuses.Done status bytes shelf out out' err tt written)

  pub not_extracted : (fault : AttachFault) (err err' : SinkView) → attached read.entries number ≡ Err fault
      → TakesOrFails (attachment_line number fault) err err'
      → Runs (extracted number read) (record { shelf = shelf; out = out; err = err }) (record { shelf = shelf; out = out; err = err' }) statuses.Unable
  not_extracted fault err err' is takes =
      subst (λ protocol. Runs protocol (record { shelf = shelf; out = out; err = err }) (record { shelf = shelf; out = out; err = err' }) statuses.Unable)
      (sym (ap attach_protocol is)) (refused_here statuses.Unable (attachment_line number fault) shelf out err err' tt takes)
