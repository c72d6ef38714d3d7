-- What is read of a document by a well formed table is an invoice.
use Rattle.std.proofs.Common.{◌≡◌, true, List, All, Ok, sym, subst}
use Rattle.std.specs.List.{list_all, AllByRecursion}
use Rattle.inv_base.specs.Tree.{Node}
use Rattle.code_lists.specs.CodeFiles.{Lists}
use Rattle.inv_terms.specs.declared.entries.Entry.{Entry}
use Rattle.inv_terms.specs.Whole.{IsValid}
use Rattle.inv_terms.specs.Listing.{Fits, is_placed, is_listed, is_numbered, IsInvoice}
use Rattle.node_arena.specs.Document.{Document}
use Rattle.node_arena.specs.Moves.{tree_nodes, IsOfATree}
use Rattle.bind_rows.specs.declared.rows.Row.{Row}
use Rattle.bind_table.specs.WellFormed.{first_fault}
use Rattle.ubl_binding.specs.Tables.{invoice_rows, credit_note_rows}
use Rattle.cii_binding.specs.Table.{cii_rows}
use Rattle.bind_rows.specs.declared.tables.DocumentType.{DocumentType}
use Rattle.bind_rows.specs.declared.tables.DocumentType.TheVariants as document_type
use Rattle.bind_meaning.specs.Tables.{rows_of}
use Rattle.bind_meaning.specs.Currencies.{currencies}
use Rattle.bind_meaning.specs.Terms.{Read, told, term_picks, entries, terms_of}
use Rattle.reading_laws.specs.Nodes.{Rise}
use Rattle.reading_laws.proofs.ListLemmas.{each-weaker, all-of-each, tests-hold}
use Rattle.reading_laws.proofs.EntryLemmas.{HasValue, HasPlace, OfEntry, of-entries}
use Rattle.reading_laws.proofs.FaultLemmas.{IsFine, places_in, read-of}
use Rattle.bind_table.specs.Sound.{IsSoundRow}
use Rattle.bind_table.proofs.SoundLemmas.{sound-each}
use Rattle.reading_laws.proofs.RowLemmas.{IsPickOf, picks-of}
use Rattle.reading_laws.proofs.PlaceLemmas.{told-placed}
use Rattle.reading_laws.proofs.OrderLemmas.{entries-listed}
use Rattle.reading_laws.proofs.NumberLemmas.{entries-numbered}
use Rattle.reading_laws.proofs.NodeLemmas.{document-rises}

sound-picks : (nodes : List Node) (rows : List Row) → first_fault rows ≡ Ok tt
    → AllByRecursion (IsPickOf (IsSoundRow rows)) (term_picks nodes (currencies nodes rows) rows)
sound-picks nodes rows formed = picks-of nodes (IsSoundRow rows) rows (sound-each rows formed) (currencies nodes rows)

all-placed : (nodes : List Node) (rows : List Row) → first_fault rows ≡ Ok tt → AllByRecursion HasPlace (told nodes (places_in nodes rows))
all-placed nodes rows formed = told-placed rows nodes (term_picks nodes (currencies nodes rows) rows) (sound-picks nodes rows formed)

pub places-told : (nodes : List Node) (rows : List Row) → first_fault rows ≡ Ok tt → All HasPlace (told nodes (places_in nodes rows))
places-told nodes rows formed = all-of-each HasPlace (told nodes (places_in nodes rows)) (all-placed nodes rows formed)

pub read-placed : (nodes : List Node) (rows : List Row) (lists : Lists) (read : Read) → first_fault rows ≡ Ok tt → terms_of nodes rows lists ≡ Ok read
    → list_all is_placed read.entries ≡ true
read-placed nodes rows lists read formed h =
    let r = read-of nodes rows lists read h in
    let ts = told nodes (places_in nodes rows) in
    subst (λ es. list_all is_placed es ≡ true) (sym r.entries_are)
    (tests-hold is_placed (entries ts) (of-entries (λ e. is_placed e ≡ true) ts
    (each-weaker HasPlace (OfEntry (λ e. is_placed e ≡ true)) (λ t k value e. k) ts (all-placed nodes rows formed))))

pub read-listed : (nodes : List Node) (rows : List Row) (lists : Lists) (read : Read) → first_fault rows ≡ Ok tt → terms_of nodes rows lists ≡ Ok read
    → is_listed read.entries ≡ true
read-listed nodes rows lists read formed h =
    let r = read-of nodes rows lists read h in
    subst (λ es. is_listed es ≡ true) (sym r.entries_are) (entries-listed (told nodes (places_in nodes rows)) (all-placed nodes rows formed))

pub read-numbered : (nodes : List Node) (rows : List Row) (lists : Lists) (read : Read) → Rise 0 nodes → first_fault rows ≡ Ok tt
    → terms_of nodes rows lists ≡ Ok read → is_numbered read.entries ≡ true
read-numbered nodes rows lists read rise formed h =
    let r = read-of nodes rows lists read h in
    let picks = term_picks nodes (currencies nodes rows) rows in
    let ts = told nodes (places_in nodes rows) in
    subst (λ es. is_numbered es ≡ true) (sym r.entries_are)
    (entries-numbered nodes picks rows rise (sound-picks nodes rows formed) (each-weaker (IsFine lists) HasValue (λ t f. f.value) ts r.fine))

-- ---- so it is a valid invoice

module _ (fit : (nodes : List Node) (rows : List Row) (lists : Lists) (read : Read) → terms_of nodes rows lists ≡ Ok read
    → All (λ (e : Entry). Fits e.term e.value) read.entries)
    (whole : (nodes : List Node) (rows : List Row) (lists : Lists) (read : Read) → terms_of nodes rows lists ≡ Ok read → IsValid read.entries lists) where
  pub read-invoice : (nodes : List Node) (rows : List Row) (lists : Lists) (read : Read) → Rise 0 nodes → first_fault rows ≡ Ok tt
      → terms_of nodes rows lists ≡ Ok read
      → IsInvoice read.entries × IsValid read.entries lists
  read-invoice nodes rows lists read rise formed h = (
    record {
      placed = read-placed nodes rows lists read formed h;
      fit = fit nodes rows lists read h;
      listed = read-listed nodes rows lists read formed h;
      numbered = read-numbered nodes rows lists read rise formed h;
    },
    whole nodes rows lists read h,
  )

  module _ (invoice : first_fault invoice_rows ≡ Ok tt) (credit_note : first_fault credit_note_rows ≡ Ok tt) (cii : first_fault cii_rows ≡ Ok tt) where
    formed : (table : DocumentType) → first_fault (rows_of table) ≡ Ok tt
    formed document_type.Invoice = invoice
    formed document_type.CreditNote = credit_note
    formed document_type.Cii = cii

    pub table-read : (table : DocumentType) (nodes : List Node) (lists : Lists) (read : Read) → Rise 0 nodes → terms_of nodes (rows_of table) lists ≡ Ok read
        → IsInvoice read.entries × IsValid read.entries lists
    table-read table nodes lists read rise h = read-invoice nodes (rows_of table) lists read rise (formed table) h

    pub document-read : (table : DocumentType) (document : Document) (lists : Lists) (read : Read) → IsOfATree document
        → terms_of (tree_nodes document) (rows_of table) lists ≡ Ok read
        → IsInvoice read.entries × IsValid read.entries lists
    document-read table document lists read tree h = table-read table (tree_nodes document) lists read (document-rises document tree) h
