-- What is read of the text that an invoice is written as.
use Rattle.std.specs.Prelude.{◌≡◌, ◌≤◌, length, List, Ok, encode_utf8_all}
use Rattle.inv_base.specs.Tree.{document_nodes}
use Rattle.xml_tokens.specs.Beginnings.{greatest_tag}
use Rattle.xml_state.specs.declared.limits.Limits.{Limits}
use Rattle.xml_profile.specs.Profile.{Document, document}
use Rattle.xml_write.specs.Sizes.{canonical_tags, longest}
use Rattle.node_arena.specs.Document.{built}
use Rattle.node_arena.specs.Moves.{tree_nodes}
use Rattle.code_lists.specs.CodeFiles.{Lists}
use Rattle.inv_terms.specs.declared.entries.Entry.{Entry}
use Rattle.bind_rows.specs.declared.rows.Row.{Row}
use Rattle.bind_rows.specs.declared.tables.DocumentType.{DocumentType}
use Rattle.bind_meaning.specs.Tables.{rows_of}
use Rattle.bind_meaning.specs.Terms.{terms_of}
use Rattle.bind_meaning.specs.Trees.{document_of}
use Rattle.bind_write.specs.Documents.{declarations_for, document_text, node_count}
use Rattle.bind_run.specs.Reading.{invoice_of}
use Rattle.written_laws.specs.Readable.{reading_limits}

-- The document keeps the limits on bytes, on tags and on nodes.
pub record IsSmall (limits : Limits) (rows : List Row) (es : List Entry) : Type 0 where
  pub bytes : length (encode_utf8_all (document_text rows es)) ≤ limits.bytes
  pub tags : longest (canonical_tags (declarations_for rows) (document_of rows es)) ≤ greatest_tag
  pub nodes : node_count (document_of rows es) ≤ limits.nodes

-- The text is read as a document, whose nodes are those of the tree that the table says.
pub record IsReadBack (limits : Limits) (rows : List Row) (es : List Entry) : Type 0 where
  pub found : Document
  pub is : document limits (encode_utf8_all (document_text rows es)) ≡ Ok found
  pub nodes : tree_nodes (record { nodes = (built found.events).nodes; names = found.names }) ≡ document_nodes (document_of rows es)

-- The text is read as a document, and that document as the invoice that the table reads in the tree that it says.
pub record IsReadByTable (table : DocumentType) (es : List Entry) (lists : Lists) : Type 0 where
  pub found : Document
  pub is : document reading_limits (encode_utf8_all (document_text (rows_of table) es)) ≡ Ok found
  pub invoice : invoice_of (tree_nodes (record { nodes = (built found.events).nodes; names = found.names })) lists
      ≡ terms_of (document_nodes (document_of (rows_of table) es)) (rows_of table) lists
