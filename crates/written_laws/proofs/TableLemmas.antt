-- The laws in each of the three tables.
use Rattle.std.proofs.Common.{◌≡◌, true, List, Ok, ◌∙◌}
use Rattle.inv_base.specs.Tree.{Node, document_nodes}
use Rattle.code_lists.specs.CodeFiles.{Lists}
use Rattle.xml_state.specs.declared.limits.Limits.{Limits}
use Rattle.inv_terms.specs.declared.entries.Entry.{Entry}
use Rattle.inv_terms.specs.Listing.{IsInvoice}
use Rattle.inv_terms.specs.Whole.{IsValid}
use Rattle.bind_rows.specs.declared.rows.Row.{Row}
use Rattle.bind_table.specs.Lines.{plan_of}
use Rattle.bind_rows.specs.declared.tables.DocumentType.{DocumentType}
use Rattle.bind_meaning.specs.Tables.{rows_of}
use Rattle.bind_meaning.specs.Terms.{Read, terms_of}
use Rattle.bind_meaning.specs.Trees.{document_of}
use Rattle.bind_carrying.specs.Carrying.{carrying}
use Rattle.bind_run.specs.Roots.{document_type_of}
use Rattle.bind_write.specs.Documents.{declarations_for}
use Rattle.written_laws.specs.Readable.{reading_limits, is_readable, invoice_number, holds_any}
use Rattle.written_laws.specs.Reading.{IsReadBack, IsReadByTable}
use Rattle.written_laws.specs.Roots.{root_table}
use Rattle.written_laws.proofs.RootLemmas.{lines-hold, number-stands}
use Rattle.written_laws.proofs.NumberLemmas.{number-read}
use Rattle.written_laws.proofs.WritableLemmas.{rooted-plan}
use Rattle.written_laws.proofs.ReadLemmas.{Laws, read-back}
use Rattle.written_laws.proofs.CarryLemmas.{small, carried, root-is, read-by-table}
use Rattle.written_laws.proofs.Rows.{all-readable, all-show, all-told}

pub valid-holds : (table : DocumentType) (es : List Entry) (lists : Lists) → IsValid es lists → holds_any (rows_of table) es ≡ true
valid-holds table es lists valid = lines-hold es invoice_number (number-stands es lists valid) (plan_of (rows_of table)) (all-show table)

pub read-holds : (table : DocumentType) (nodes : List Node) (rows : List Row) (lists : Lists) (read : Read) → terms_of nodes rows lists ≡ Ok read →
    holds_any (rows_of table) read.entries ≡ true
read-holds table nodes rows lists read h = lines-hold read.entries invoice_number (number-read nodes rows lists read h) (plan_of (rows_of table))
    (all-show table)

pub root-tells : (limits : Limits) (rows : List Row) (es : List Entry) → is_readable limits rows ≡ true → holds_any rows es ≡ true →
    document_type_of (document_nodes (document_of rows es)) ≡ root_table rows
root-tells limits rows es readable there = root-is rows es (rooted-plan limits (declarations_for rows) (plan_of rows) readable) there

module _ (laws : Laws) where
  pub table-back : (table : DocumentType) (es : List Entry) → IsInvoice es → holds_any (rows_of table) es ≡ true → carrying (rows_of table) es ≡ Ok tt →
      IsReadBack reading_limits (rows_of table) es
  table-back table es invoice there carries = read-back laws reading_limits (rows_of table) es invoice (all-readable table) there
      (small (rows_of table) es (carried (rows_of table) es carries))

  pub valid-back : (table : DocumentType) (es : List Entry) (lists : Lists) → IsInvoice es → IsValid es lists → carrying (rows_of table) es ≡ Ok tt →
      IsReadBack reading_limits (rows_of table) es
  valid-back table es lists invoice valid carries = table-back table es invoice (valid-holds table es lists valid) carries

  pub table-read : (table : DocumentType) (es : List Entry) (lists : Lists) → IsInvoice es → holds_any (rows_of table) es ≡ true → carrying (rows_of table) es
      ≡ Ok tt
      → IsReadByTable table es lists
  table-read table es lists invoice there carries =
      read-by-table table es lists (root-tells reading_limits (rows_of table) es (all-readable table) there ∙ all-told table)
      (table-back table es invoice there carries)

  pub valid-read : (table : DocumentType) (es : List Entry) (lists : Lists) → IsInvoice es → IsValid es lists → carrying (rows_of table) es ≡ Ok tt →
      IsReadByTable table es lists
  valid-read table es lists invoice valid carries = table-read table es lists invoice (valid-holds table es lists valid) carries

  -- of an invoice that was read
  pub read-again : (table : DocumentType) (nodes : List Node) (rows : List Row) (lists others : Lists) (read : Read) → terms_of nodes rows lists ≡ Ok read →
      IsInvoice read.entries → carrying (rows_of table) read.entries ≡ Ok tt → IsReadByTable table read.entries others
  read-again table nodes rows lists others read h invoice carries =
      table-read table read.entries others invoice (read-holds table nodes rows lists read h) carries
