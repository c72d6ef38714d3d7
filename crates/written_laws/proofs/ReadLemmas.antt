-- The text that an invoice is written as is read as the nodes of the invoice's document.
use Rattle.std.proofs.Common.{◌≡◌, ℕ, true, List, Ok, ap, sym, ◌∙◌, encode_utf8_all}
use Rattle.inv_base.specs.Tree.{Name, Forest, IsDocument, document_nodes}
use Rattle.xml_state.specs.declared.limits.Limits.{Limits}
use Rattle.xml_events.specs.Events.{Event}
use Rattle.xml_events.specs.Documents.{Tells}
use Rattle.xml_profile.specs.Profile.{Document, document, tree_of, IsXml}
use Rattle.xml_write.specs.Canonical.{Declaration, canonical_text}
use Rattle.xml_laws.specs.Told.{IsReadAs}
use Rattle.xml_laws.specs.Writable.{IsWritable}
use Rattle.node_arena.specs.Document.{built}
use Rattle.node_arena.specs.Moves.{HasNodesOf}
use Rattle.term_table.specs.Contexts.{root_context}
use Rattle.inv_terms.specs.declared.entries.Entry.{Entry}
use Rattle.inv_terms.specs.Listing.{IsInvoice}
use Rattle.bind_rows.specs.declared.rows.Row.{Row}
use Rattle.bind_table.specs.Lines.{plan_of}
use Rattle.bind_meaning.specs.Trees.{holds, document_of}
use Rattle.bind_write.specs.Documents.{declarations_for, document_text}
use Rattle.written_laws.specs.Readable.{is_readable}
use Rattle.written_laws.specs.Reading.{IsSmall, IsReadBack}
use Rattle.written_laws.proofs.ValueLemmas.{SpelledBack, invoice-chars}
use Rattle.written_laws.proofs.WritableLemmas.{document-writable}

-- the laws that this rests on
pub record Laws : Type 0 where
  pub spelled : SpelledBack
  pub canonical : (limits : Limits) (declarations : List Declaration) (tree : Forest) → IsWritable limits declarations tree
      → IsXml limits (encode_utf8_all (canonical_text declarations tree)) tree
  pub told : (limits : Limits) (bytes : List ℕ) (found : Document) → document limits bytes ≡ Ok found → IsReadAs limits found (tree_of found)
  pub nodes : (names : List Name) (tree : Forest) (events : List Event) → IsDocument tree → Tells names tree events
      → HasNodesOf (record { nodes = (built events).nodes; names = names }) tree

-- The document can be written within the limits.
pub writable : SpelledBack → (limits : Limits) (rows : List Row) (es : List Entry) → IsInvoice es → is_readable limits rows ≡ true →
    holds es (plan_of rows) root_context ≡ true → IsSmall limits rows es
    → IsWritable limits (declarations_for rows) (document_of rows es)
unfolding document_of document_text
writable back limits rows es invoice readable there small =
    document-writable limits (declarations_for rows) es (invoice-chars back es invoice) (plan_of rows) readable there
    (record { bytes = small.bytes; tags = small.tags; nodes = small.nodes })

-- Its text is XML of exactly that tree.
pub written-xml : SpelledBack → ((limits : Limits) (declarations : List Declaration) (tree : Forest) → IsWritable limits declarations tree →
    IsXml limits (encode_utf8_all (canonical_text declarations tree)) tree)
    → (limits : Limits) (rows : List Row) (es : List Entry) → IsInvoice es → is_readable limits rows ≡ true → holds es (plan_of rows) root_context ≡ true →
    IsSmall limits rows es
    → IsXml limits (encode_utf8_all (document_text rows es)) (document_of rows es)
unfolding document_text
written-xml spelled canonical limits rows es invoice readable there small =
    canonical limits (declarations_for rows) (document_of rows es) (writable spelled limits rows es invoice readable there small)

pub read-back : Laws → (limits : Limits) (rows : List Row) (es : List Entry) → IsInvoice es → is_readable limits rows ≡ true →
    holds es (plan_of rows) root_context ≡ true → IsSmall limits rows es
    → IsReadBack limits rows es
unfolding document_text
read-back laws limits rows es invoice readable there small =
    let x = laws.canonical limits (declarations_for rows) (document_of rows es) (writable laws.spelled limits rows es invoice readable there small) in
    let t = laws.told limits (encode_utf8_all (canonical_text (declarations_for rows) (document_of rows es))) x.found x.is in
    record {
      found = x.found;
      is = x.is;
      nodes = laws.nodes x.found.names (tree_of x.found) x.found.events t.document t.tells ∙
          ap document_nodes (sym x.tells);
    }
