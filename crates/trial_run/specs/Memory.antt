-- Documents that are held in memory: what their bytes say. Bytes that are no document, or none of an invoice, say nothing.
use Rattle.std.specs.Prelude.{◌≡◌, ℕ, List, [], Option, Some, None, Result, Ok, Err, encode_utf8_all}
use Rattle.inv_base.specs.Tree.{Node}
use Rattle.held_rules.specs.Texts.{nodes_in}
use Rattle.code_lists.specs.CodeFiles.{built_in_lists}
use Rattle.inv_terms.specs.declared.entries.Entry.{Entry}
use Rattle.bind_meaning.specs.declared.fault.BindFault.{BindFault}
use Rattle.bind_meaning.specs.declared.tables.Syntax.{Syntax}
use Rattle.bind_meaning.specs.Tables.{rows_of}
use Rattle.bind_meaning.specs.Terms.{Read}
use Rattle.bind_write.specs.Documents.{document_text}
use Rattle.bind_carrying.specs.Tables.{target}
use Rattle.bind_run.specs.Reading.{AreTables, AreFormed, invoice_of}
use Rattle.trial_run.specs.declared.reading.Means.{Means}

-- ---- an invoice written, and read again

-- the bytes that an invoice is written as in a syntax
unfoldable pub written : Syntax → List Entry → List ℕ
written syntax es = encode_utf8_all (document_text (rows_of (target es syntax)) es)

abbrev pub entries_of : Result Read BindFault → List Entry
entries_of (Ok read) = read.entries
entries_of (Err fault) = []

-- the terms of the invoice that a document is
abbrev pub terms_in : Option (List Node) → List Entry
terms_in None = []
terms_in (Some nodes) = entries_of (invoice_of nodes built_in_lists)

-- the terms that the bytes say
unfoldable pub terms_read : List ℕ → List Entry
terms_read bytes = terms_in (nodes_in bytes)

-- ---- what the code has

-- The tables and the lists are the built-in ones, and each table is well formed.
pub record AreBuiltIn (means : Means) : Type 0 where
  pub tables : AreTables means.tables
  pub formed : AreFormed means.tables
  pub lists : means.lists ≡ built_in_lists
