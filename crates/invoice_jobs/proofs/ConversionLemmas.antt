-- What is read of files, and of what conversions write.
use Rattle.std.proofs.Common.{◌≡◌, ℕ, true, List, [], Option, Some, None, Ok, refl, sym, ap, subst, ◌∙◌}
use Rattle.inv_base.specs.Tree.{Name, Node, Forest, IsDocument, document_nodes}
use Rattle.inv_base.specs.Files.{Files, bytes_under}
use Rattle.code_lists.specs.CodeFiles.{Lists, file_lists}
use Rattle.inv_terms.specs.declared.entries.Entry.{Entry}
use Rattle.inv_terms.specs.Listing.{IsInvoice}
use Rattle.inv_terms.specs.Whole.{IsValid}
use Rattle.xml_state.specs.declared.limits.Limits.{Limits}
use Rattle.xml_events.specs.Events.{Event}
use Rattle.xml_events.specs.Documents.{Tells}
use Rattle.xml_profile.specs.Profile as profile
use Rattle.xml_laws.specs.Told as told
use Rattle.node_arena.specs.Document.{built}
use Rattle.node_arena.specs.Moves.{tree_nodes, HasNodesOf}
use Rattle.extension_files.specs.declared.terms.ExtTerm.{ExtTerm}
use Rattle.extension_files.specs.ExtensionFiles.{file_terms}
use Rattle.extension_files.specs.Extensions.{is_extension}
use Rattle.bind_meaning.specs.Terms.{Read, terms_of}
use Rattle.bind_rows.specs.declared.rows.Row.{Row}
use Rattle.bind_rows.specs.declared.tables.DocumentType.{DocumentType}
use Rattle.bind_rows.specs.declared.tables.DocumentType.TheVariants as document_type
use Rattle.bind_table.specs.WellFormed.{first_fault}
use Rattle.ubl_binding.specs.Tables.{invoice_rows, credit_note_rows}
use Rattle.cii_binding.specs.Table.{cii_rows}
use Rattle.bind_meaning.specs.declared.tables.Syntax.{Syntax}
use Rattle.bind_run.specs.Extensions.{rows_for, judged, AreGood}
use Rattle.bind_run.specs.Reading.{by_root, invoice_by}
use Rattle.bind_run.specs.Roots.{document_type_of}
use Rattle.reading_laws.specs.Nodes.{Rise}
use Rattle.written_laws.specs.Texts.{exactly}
use Rattle.extension_laws.specs.Texts.{AreOpen, AreReadBy, IsCarriedIn, text_by}
use Rattle.job_protocol.specs.Protocol.{Protocol, answer_of, by_result, by_test, done, document_limits, by_lists}
use Rattle.job_protocol.specs.Views.{document_read}
use Rattle.invoice_jobs.specs.Sources.{Sources, ReadingProfile, listed_protocol, extended_protocol, by_terms, by_good, profile_protocol}
use Rattle.invoice_jobs.specs.Invoices.{Given, by_invoice, invoice_protocol, read_protocol, by_carrying, converted}
use Rattle.invoice_jobs.specs.Conversions.{AreLists, built_in, of_file, AreTerms, none, of_a_file, IsProfile, IsReadAs, AreReadAs, IsCarriedBy, text_of_invoice}
use Rattle.invoice_jobs.specs.Conversions.{Holds}
use Rattle.invoice_jobs.proofs.SourceLemmas.{each_formed}

-- ---- what follows where something was read

lists-go : (files : Files) (codes_file : Option (List ℕ)) (lists : Lists) (next : Lists → Protocol) → AreLists files codes_file lists
    → answer_of (listed_protocol codes_file next) files ≡ answer_of (next lists) files
lists-go files None lists next built_in = refl
lists-go files (Some name) lists next (of_file name' lists' within are) =
    ap (by_test _ (answer_of (by_lists name next (file_lists (bytes_under name files))) files)) within ∙ ap
    (λ found. answer_of (by_lists name next found) files) are

terms-go : (files : Files) (extension_file : Option (List ℕ)) (terms : List ExtTerm) (next : List ExtTerm → Protocol) → AreTerms files extension_file terms
    → answer_of (extended_protocol extension_file next) files ≡ answer_of (next terms) files
terms-go files None terms next none = refl
terms-go files (Some name) terms next (of_a_file name' terms' within are good) =
    ap (by_test _ (answer_of (by_terms name next (file_terms (bytes_under name files))) files)) within
    ∙ (ap (λ found. answer_of (by_terms name next found) files) are ∙ ap (λ found. answer_of (by_good name terms next found) files) good)

reading_profile-goes : (files : Files) (sources : Sources) (reading_profile : ReadingProfile) (next : ReadingProfile → Protocol)
    → IsProfile files sources reading_profile
    → answer_of (profile_protocol sources next) files ≡ answer_of (next reading_profile) files
reading_profile-goes files sources reading_profile next is =
    lists-go files sources.codes_file reading_profile.lists (λ lists. extended_protocol sources.extension_file (λ terms. next (record {
      lists = lists;
      terms =
          terms;
    })))
    is.lists_are
    ∙ terms-go files sources.extension_file reading_profile.terms (λ terms. next (record { lists = reading_profile.lists; terms = terms })) is.terms_are

invoice-goes : (files : Files) (file : List ℕ) (reading_profile : ReadingProfile) (read : Read) (next : Read → Protocol)
    → IsReadAs files file reading_profile read
    → answer_of (invoice_protocol file reading_profile next) files ≡ answer_of (next read) files
invoice-goes files file reading_profile read next is =
    ap (by_result _ (λ found. answer_of (by_invoice file (document_read found) next
    (invoice_by (rows_for reading_profile.terms) (tree_nodes (document_read found)) reading_profile.lists)) files)) is.is
    ∙ ap (λ found. answer_of (by_invoice file (document_read is.found) next found) files) is.invoice

pub read-goes : (files : Files) (sources : Sources) (file : List ℕ) (reading_profile : ReadingProfile) (read : Read) (next : Given → Protocol)
    → IsProfile files sources reading_profile
    → IsReadAs files file reading_profile read
    → answer_of (read_protocol sources file next) files ≡ answer_of (next (record { reading_profile = reading_profile; read = read })) files
read-goes files sources file reading_profile read next are is =
    reading_profile-goes files sources reading_profile (λ found. invoice_protocol file found (λ r. next (record { reading_profile = found; read = r }))) are
    ∙ invoice-goes files file reading_profile read (λ r. next (record { reading_profile = reading_profile; read = r })) is

pub converted-done : (syntax : Syntax) (reading_profile : ReadingProfile) (read : Read) (files : Files) → IsCarriedBy syntax reading_profile read.entries
    → answer_of (converted syntax (record { reading_profile = reading_profile; read = read })) files
    ≡ done (text_of_invoice syntax reading_profile read.entries)
converted-done syntax reading_profile read files by = ap (λ carried. answer_of (by_carrying (text_of_invoice syntax reading_profile read.entries) carried)
    files) by

-- ---- the terms are good

pub none-good : first_fault invoice_rows ≡ Ok tt → first_fault credit_note_rows ≡ Ok tt → first_fault cii_rows ≡ Ok tt → AreGood []
none-good invoice credit_note cii = record { fine = refl; formed = each }
  where
    each : (table : DocumentType) → first_fault (rows_for [] table) ≡ Ok tt
    each document_type.Invoice = invoice
    each document_type.CreditNote = credit_note
    each document_type.Cii = cii

module _ (extensions : (bytes : List ℕ) (terms : List ExtTerm) → file_terms bytes ≡ Ok terms → is_extension terms ≡ true) where
  pub file-terms-good : (bytes : List ℕ) (terms : List ExtTerm) → file_terms bytes ≡ Ok terms → judged (rows_for terms) ≡ Ok tt → AreGood terms
  file-terms-good bytes terms are good = record { fine = extensions bytes terms are; formed = each_formed (rows_for terms) good }

  are-good : (no_terms : AreGood []) (files : Files) (extension_file : Option (List ℕ)) (terms : List ExtTerm) → AreTerms files extension_file terms
      → AreGood terms
  are-good no_terms files None terms none = no_terms
  are-good no_terms files (Some name) terms (of_a_file name' terms' within are good) = file-terms-good (bytes_under name files) terms are good

  pub reading_profile-good : AreGood [] → (files : Files) (sources : Sources) (reading_profile : ReadingProfile) → IsProfile files sources reading_profile
      → AreGood reading_profile.terms
  reading_profile-good no_terms files sources reading_profile is = are-good no_terms files sources.extension_file reading_profile.terms is.terms_are

-- ---- what is read is valid

module _
    (valid : (nodes : List Node) (rows : List Row) (lists : Lists) (read : Read) → Rise 0 nodes → first_fault rows ≡ Ok tt → terms_of nodes rows lists ≡ Ok read
    → IsInvoice read.entries × IsValid read.entries lists)
    (rises : (forest : Forest) → Rise 0 (document_nodes forest))
    (tells : (limits : Limits) (bytes : List ℕ) (found : profile.Document) → profile.document limits bytes ≡ Ok found → told.IsReadAs limits found
    (profile.tree_of found))
    (builds : (names : List Name) (tree : Forest) (events : List Event) → IsDocument tree → Tells names tree events → HasNodesOf
    (record { nodes = (built events).nodes; names = names }) tree)
  where
    found-rises : (limits : Limits) (bytes : List ℕ) (found : profile.Document) → profile.document limits bytes ≡ Ok found
        → Rise 0 (tree_nodes (document_read found))
    found-rises limits bytes found e =
        let t = tells limits bytes found e in
        subst (λ nodes. Rise 0 nodes) (sym (builds found.names (profile.tree_of found) found.events t.document t.tells)) (rises (profile.tree_of found))

    by-root : (terms : List ExtTerm) (nodes : List Node) (lists : Lists) (read : Read) (document_type : Option DocumentType) → AreGood terms → Rise 0 nodes
        → by_root (rows_for terms) nodes lists document_type ≡ Ok read
        → IsInvoice read.entries × IsValid read.entries lists
    by-root terms nodes lists read None good rise e = cc
    by-root terms nodes lists read (Some table) good rise e = valid nodes (rows_for terms table) lists read rise (good.formed table) e

    pub bytes-valid : (bytes : List ℕ) (reading_profile : ReadingProfile) (read : Read) → AreGood reading_profile.terms → AreReadAs bytes reading_profile read
        → IsInvoice read.entries × IsValid read.entries reading_profile.lists
    bytes-valid bytes reading_profile read good is =
        let nodes = tree_nodes (document_read is.found) in
        by-root reading_profile.terms nodes reading_profile.lists read (document_type_of nodes) good (found-rises document_limits bytes is.found is.is)
        is.invoice

    pub read-valid : (files : Files) (file : List ℕ) (reading_profile : ReadingProfile) (read : Read) → AreGood reading_profile.terms
        → IsReadAs files file reading_profile read
        → IsInvoice read.entries × IsValid read.entries reading_profile.lists
    read-valid files file reading_profile read good is = bytes-valid (bytes_under file files) reading_profile read good is

-- ---- what is written is read

pub written-read : ((files : Files) (sources : Sources) (reading_profile : ReadingProfile) → IsProfile files sources reading_profile
    → AreGood reading_profile.terms)
    → ((terms : List ExtTerm) → AreGood terms → AreOpen (rows_for terms))
    → ((tables : DocumentType → List Row) (syntax : Syntax) (es : List Entry) (lists : Lists) → AreOpen tables → IsInvoice es → IsValid es lists
    → IsCarriedIn tables
    syntax es
    → AreReadBy tables (text_by tables syntax es) lists (exactly es))
    → (files : Files) (file : List ℕ) (sources : Sources) (reading_profile : ReadingProfile) (syntax : Syntax) (es : List Entry) → IsInvoice es
    → IsValid es reading_profile.lists
    → IsCarriedBy syntax reading_profile es
    → Holds files file (text_of_invoice syntax reading_profile es) sources reading_profile → IsReadAs files file reading_profile (exactly es)
written-read good opened round files file sources reading_profile syntax es invoice valid by held =
    subst (λ bytes. AreReadAs bytes reading_profile (exactly es)) (sym held.same)
    (round (rows_for reading_profile.terms) syntax es reading_profile.lists (opened reading_profile.terms (good files sources reading_profile
    held.profile_is)) invoice valid by)
