-- Invoices as texts by any three tables, one for each syntax and kind of document, as those that a user extended: what an
-- invoice is written as, what a text is read as, and the text that it is converted to.
use Rattle.std.specs.Prelude.{◌≡◌, ℕ, List, encode_utf8_all, Option, Some, None, Result, Ok, Err}
use Rattle.inv_base.specs.Tree.{Forest}
use Rattle.code_lists.specs.CodeFiles.{Lists}
use Rattle.xml_state.specs.declared.fault.XmlFault.{XmlFault}
use Rattle.xml_profile.specs.Profile.{Document, document}
use Rattle.node_arena.specs.Document.{built}
use Rattle.node_arena.specs.Moves.{tree_nodes}
use Rattle.inv_terms.specs.declared.entries.Entry.{Entry}
use Rattle.bind_rows.specs.declared.rows.Row.{Row}
use Rattle.bind_rows.specs.declared.tables.DocumentType.{DocumentType}
use Rattle.bind_table.specs.WellFormed.{first_fault}
use Rattle.bind_meaning.specs.declared.fault.BindFault.{BindFault}
use Rattle.bind_meaning.specs.declared.tables.Syntax.{Syntax}
use Rattle.bind_meaning.specs.Terms.{Read}
use Rattle.bind_meaning.specs.Trees.{document_of}
use Rattle.bind_write.specs.Documents.{document_text}
use Rattle.bind_carrying.specs.declared.carrying.NotCarried.{NotCarried}
use Rattle.bind_carrying.specs.Tables.{target}
use Rattle.bind_carrying.specs.Carrying.{carrying}
use Rattle.bind_run.specs.Reading.{invoice_by}
use Rattle.written_laws.specs.Readable.{reading_limits}
use Rattle.extension_laws.specs.Open.{IsOpen}

-- ---- three tables

-- Each is open and well formed.
pub record AreOpen (tables : DocumentType → List Row) : Type 0 where
  pub open_each : (table : DocumentType) → IsOpen table (tables table)
  pub formed : (table : DocumentType) → first_fault (tables table) ≡ Ok tt

-- ---- what a text is read as

-- The bytes are read as this invoice.
pub record AreReadBy (tables : DocumentType → List Row) (bytes : List ℕ) (lists : Lists) (read : Read) : Type 0 where
  pub found : Document
  pub is : document reading_limits bytes ≡ Ok found
  pub invoice : invoice_by tables (tree_nodes (record { nodes = (built found.events).nodes; names = found.names })) lists ≡ Ok read

-- ---- what an invoice is written as

abbrev pub target_rows : (DocumentType → List Row) → Syntax → List Entry → List Row
target_rows tables syntax es = tables (target es syntax)

-- the tree of its document there
abbrev pub tree_by : (DocumentType → List Row) → Syntax → List Entry → Forest
tree_by tables syntax es = document_of (target_rows tables syntax es) es

-- and the text of that, in UTF-8
abbrev pub text_by : (DocumentType → List Row) → Syntax → List Entry → List ℕ
text_by tables syntax es = encode_utf8_all (document_text (target_rows tables syntax es) es)

abbrev pub IsCarriedIn : (DocumentType → List Row) → Syntax → List Entry → Type 0
IsCarriedIn tables syntax es = carrying (target_rows tables syntax es) es ≡ Ok tt

-- ---- what a text is converted to

abbrev pub if_carried : List ℕ → Result (Unit {0}) NotCarried → Option (List ℕ)
if_carried text (Ok fits) = Some text
if_carried text (Err fault) = None

abbrev pub if_invoice : (DocumentType → List Row) → Syntax → Result Read BindFault → Option (List ℕ)
if_invoice tables syntax (Ok read) = if_carried (text_by tables syntax read.entries) (carrying (target_rows tables syntax read.entries) read.entries)
if_invoice tables syntax (Err fault) = None

abbrev pub if_document : (DocumentType → List Row) → Syntax → Lists → Result Document XmlFault → Option (List ℕ)
if_document tables syntax lists (Ok found) =
    if_invoice tables syntax (invoice_by tables (tree_nodes (record { nodes = (built found.events).nodes; names = found.names })) lists)
if_document tables syntax lists (Err fault) = None

-- the text in a syntax of the invoice that the bytes are read as; none where they are none, or the syntax doesn't carry it
abbrev pub conversion_by : (DocumentType → List Row) → Syntax → Lists → List ℕ → Option (List ℕ)
conversion_by tables syntax lists bytes = if_document tables syntax lists (document reading_limits bytes)
