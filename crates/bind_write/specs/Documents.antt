-- The document that an invoice is written as by a table: the canonical text of its tree, with the declarations of the table's syntax.
use Rattle.std.specs.Prelude.{◌≡◌, ℕ, ◌+◌, List, [], length, encode_utf8_all, Option, Some, None}
use Rattle.inv_base.specs.Tree.{Forest, no_more, a_text, an_element, size}
use Rattle.inv_terms.specs.declared.entries.Entry.{Entry}
use Rattle.xml_write.specs.declared.gauge.Gauge.{Gauge}
use Rattle.xml_write.specs.Canonical.{Declaration, canonical_text}
use Rattle.xml_write.specs.Sizes.{stopped, tag_stopped, longest, canonical_tags}
use Rattle.bind_rows.specs.declared.names.Namespace.{Namespace}
use Rattle.bind_rows.specs.declared.rows.Row.{Row}
use Rattle.bind_table.specs.Lines.{Plan, nothing, a_line, plan_of}
use Rattle.bind_rows.specs.Namespaces.{declarations_of}
use Rattle.bind_meaning.specs.Trees.{document_of}

-- The namespace of the first line's element: in a laid table, which has one root, it says which syntax the table is of.
abbrev pub namespace_of : Plan → Option Namespace
namespace_of nothing = None
namespace_of (a_line s cells inside rest) = Some s.name.namespace

abbrev pub root_namespace : List Row → Option Namespace
root_namespace rows = namespace_of (plan_of rows)

abbrev pub declared_for : Option Namespace → List Declaration
declared_for None = []
declared_for (Some root) = declarations_of root

-- the declarations with which invoices are written by a table
abbrev pub declarations_for : List Row → List Declaration
declarations_for rows = declared_for (root_namespace rows)

-- the text that an invoice is written as
unfoldable pub document_text : List Row → List Entry → List ℕ
document_text rows es = canonical_text (declarations_for rows) (document_of rows es)

-- ---- how large the document is

-- the root alone: nothing that follows it belongs to the document
abbrev pub root_alone : Forest → Forest
root_alone no_more = no_more
root_alone (a_text characters rest) = no_more
root_alone (an_element name attributes inside rest) = an_element name attributes inside no_more

-- the nodes of the document as it is read again, itself among them
abbrev pub node_count : Forest → ℕ
node_count document = size (root_alone document) + 1

-- The numbers are those of the invoice's document, each up to where it stops, past the limits on documents.
pub record HasSizes (rows : List Row) (es : List Entry) (sizes : Gauge) : Type 0 where
  pub bytes : sizes.bytes ≡ stopped (length (encode_utf8_all (document_text rows es)))
  pub longest_tag : sizes.longest_tag ≡ tag_stopped (longest (canonical_tags (declarations_for rows) (document_of rows es)))
  pub nodes : sizes.nodes ≡ stopped (node_count (document_of rows es))
