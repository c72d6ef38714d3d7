-- What a document is by the table that its root selects.
use Rattle.std.proofs.Common.{◌≡◌, Option, Some, None, Result, Ok, Err}
use Rattle.code_lists.specs.CodeFiles.{Lists}
use Rattle.inv_terms.specs.Listing.{IsInvoice}
use Rattle.inv_terms.specs.Whole.{IsValid}
use Rattle.node_arena.specs.Document.{Document}
use Rattle.node_arena.specs.Moves.{tree_nodes, IsOfATree}
use Rattle.bind_rows.specs.declared.tables.DocumentType.{DocumentType}
use Rattle.bind_meaning.specs.declared.fault.BindFault.{BindFault}
use Rattle.bind_meaning.specs.Tables.{rows_of}
use Rattle.bind_meaning.specs.Terms.{Read, terms_of}
use Rattle.bind_run.specs.Reading.{by_root, invoice_of}
use Rattle.bind_run.specs.Roots.{document_type_of, unknown_root}

pub root-read : ((table : DocumentType) (document : Document) (lists : Lists) (read : Read) → IsOfATree document →
    terms_of (tree_nodes document) (rows_of table) lists ≡ Ok read
    → IsInvoice read.entries × IsValid read.entries lists)
    → (document : Document) (lists : Lists) (read : Read) → IsOfATree document → invoice_of (tree_nodes document) lists ≡ Ok read → IsInvoice read.entries ×
    IsValid read.entries lists
root-read valid document lists read tree h = go (document_type_of (tree_nodes document)) h
  where
    go : (o : Option DocumentType) → by_root rows_of (tree_nodes document) lists o ≡ Ok read → IsInvoice read.entries × IsValid read.entries lists
    go None k = absurd (let z : ◌≡◌ {A = Result Read BindFault} (Err unknown_root) (Ok read) = k in cc)
    go (Some table) k = valid table document lists read tree k
