-- Invoices as texts: what an invoice is written as in a syntax, what a text is read as, and the text that it is converted to (CEN/TS 16931-3-2 and
-- 16931-3-3).
use Rattle.std.specs.Prelude.{◌≡◌, ℕ, List, encode_utf8_all, Option, Some, None, Result, Ok, Err}
use Rattle.inv_base.specs.Tree.{Forest}
use Rattle.code_lists.specs.CodeFiles.{Lists}
use Rattle.xml_state.specs.declared.fault.XmlFault.{XmlFault}
use Rattle.xml_profile.specs.Profile.{Document, document}
use Rattle.node_arena.specs.Document.{built}
use Rattle.node_arena.specs.Moves.{tree_nodes}
use Rattle.inv_terms.specs.declared.entries.Entry.{Entry}
use Rattle.bind_rows.specs.declared.rows.Row.{Row}
use Rattle.bind_meaning.specs.declared.fault.BindFault.{BindFault}
use Rattle.bind_meaning.specs.declared.tables.Syntax.{Syntax}
use Rattle.bind_meaning.specs.Tables.{rows_of}
use Rattle.bind_meaning.specs.Terms.{Read}
use Rattle.bind_meaning.specs.Trees.{document_of}
use Rattle.bind_write.specs.Documents.{document_text}
use Rattle.bind_carrying.specs.declared.carrying.NotCarried.{NotCarried}
use Rattle.bind_carrying.specs.Tables.{target}
use Rattle.bind_carrying.specs.Carrying.{carrying}
use Rattle.bind_run.specs.Reading.{invoice_of}
use Rattle.written_laws.specs.Readable.{reading_limits}

-- ---- what an invoice is written as

-- the table by which an invoice is written in a syntax
abbrev pub target_rows : Syntax → List Entry → List Row
target_rows syntax es = rows_of (target es syntax)

-- the tree of its document there
abbrev pub tree_in : Syntax → List Entry → Forest
tree_in syntax es = document_of (target_rows syntax es) es

-- and the text of that, in UTF-8
abbrev pub text_in : Syntax → List Entry → List ℕ
text_in syntax es = encode_utf8_all (document_text (target_rows syntax es) es)

-- The syntax carries the invoice.
abbrev pub IsCarriedBy : Syntax → List Entry → Type 0
IsCarriedBy syntax es = carrying (target_rows syntax es) es ≡ Ok tt

-- ---- what a text is read as

-- the invoice with all of these entries and nothing passed over
abbrev pub exactly : List Entry → Read
exactly es = record { entries = es; passed_over = 0 }

-- The bytes are read as this invoice.
pub record AreReadAs (bytes : List ℕ) (lists : Lists) (read : Read) : Type 0 where
  pub found : Document
  pub is : document reading_limits bytes ≡ Ok found
  pub invoice : invoice_of (tree_nodes (record { nodes = (built found.events).nodes; names = found.names })) lists ≡ Ok read

-- ---- what a text is converted to

abbrev pub if_carried : List ℕ → Result (Unit {0}) NotCarried → Option (List ℕ)
if_carried text (Ok fits) = Some text
if_carried text (Err fault) = None

abbrev pub if_invoice : Syntax → Result Read BindFault → Option (List ℕ)
if_invoice syntax (Ok read) = if_carried (text_in syntax read.entries) (carrying (target_rows syntax read.entries) read.entries)
if_invoice syntax (Err fault) = None

abbrev pub if_document : Syntax → Lists → Result Document XmlFault → Option (List ℕ)
if_document syntax lists (Ok found) = if_invoice syntax (invoice_of (tree_nodes (record { nodes = (built found.events).nodes; names = found.names })) lists)
if_document syntax lists (Err fault) = None

-- the text in a syntax of the invoice that the bytes are read as; none where they are none, or the syntax doesn't carry it
abbrev pub conversion : Syntax → Lists → List ℕ → Option (List ℕ)
conversion syntax lists bytes = if_document syntax lists (document reading_limits bytes)
