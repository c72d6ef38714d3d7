-- The document of an invoice that a table carries keeps the limits, and its root is the one by which the table is told.
use Rattle.std.proofs.Common.{◌≡◌, ℕ, ◌≤◌, Bool, true, false, ◌||◌, List, length, Option, Some, None, option_and_then, Result, Ok, Err, nat_lt, refl, ap, sym}
use Rattle.std.proofs.Common.{◌∙◌, subst, arith, encode_utf8_all}
use Rattle.std.proofs.lemmas.Bool.Decides.{nat_tests}
use Rattle.inv_base.specs.Tree.{Node, Forest, document_nodes}
use Rattle.code_lists.specs.CodeFiles.{Lists}
use Rattle.xml_tokens.specs.Beginnings.{greatest_tag}
use Rattle.xml_state.specs.Sizes.{document_limits}
use Rattle.xml_write.specs.Sizes.{longest, canonical_tags}
use Rattle.term_table.specs.Contexts.{root_context}
use Rattle.inv_terms.specs.declared.entries.Entry.{Entry}
use Rattle.bind_rows.specs.declared.rows.Row.{Row}
use Rattle.bind_table.specs.Lines.{plan_of}
use Rattle.bind_rows.specs.declared.tables.DocumentType.{DocumentType}
use Rattle.bind_meaning.specs.Terms.{terms_of}
use Rattle.bind_meaning.specs.Tables.{rows_of}
use Rattle.bind_meaning.specs.Trees.{holds, document_of, written_lines}
use Rattle.bind_write.specs.Documents.{declarations_for, document_text, node_count}
use Rattle.bind_carrying.specs.declared.carrying.NotCarried.{NotCarried}
use Rattle.bind_carrying.specs.Carrying.{is_too_large, first_unplaced, entries_fail, answer, carrying}
use Rattle.bind_run.specs.Roots.{document_type_named, document_type_of}
use Rattle.bind_run.specs.Reading.{by_root, invoice_of}
use Rattle.written_laws.specs.Readable.{reading_limits, is_one_root}
use Rattle.written_laws.specs.Reading.{IsSmall, IsReadBack, IsReadByTable}
use Rattle.written_laws.specs.Roots.{root_name, root_table}
use Rattle.written_laws.proofs.ListLemmas.{neither}
use Rattle.written_laws.proofs.RootLemmas.{one-root, root-written}

not-more : (n limit : ℕ) → nat_lt limit n ≡ false → n ≤ limit
not-more n limit h = grind (arith, nat_tests)

-- ---- sizes

pub small : (rows : List Row) (es : List Entry) → is_too_large rows es ≡ false → IsSmall reading_limits rows es
small rows es h =
    let bytes = length (encode_utf8_all (document_text rows es)) in
    let tags = longest (canonical_tags (declarations_for rows) (document_of rows es)) in
    let nodes = node_count (document_of rows es) in
    let a = neither (nat_lt document_limits.bytes bytes) (nat_lt greatest_tag tags || nat_lt document_limits.nodes nodes) h in
    let b = neither (nat_lt greatest_tag tags) (nat_lt document_limits.nodes nodes) a.1 in
    record { bytes = not-more bytes document_limits.bytes a.0; tags = not-more tags greatest_tag b.0; nodes = not-more nodes document_limits.nodes b.1 }

pub carried : (rows : List Row) (es : List Entry) → carrying rows es ≡ Ok tt → is_too_large rows es ≡ false
carried rows es h = go (entries_fail rows es) (is_too_large rows es) (first_unplaced rows es) h
  where
    go : (o : Option NotCarried) (b : Bool) (u : Option NotCarried) → answer o b u ≡ Ok tt → b ≡ false
    go (Some fault) b u k = absurd (let z : ◌≡◌ {A = Result (Unit {0}) NotCarried} (Err fault) (Ok tt) = k in cc)
    go None true u k = absurd (let z : ◌≡◌ {A = Result (Unit {0}) NotCarried} (Err (record { condition = 8; term = None })) (Ok tt) = k in cc)
    go None false u k = refl

-- ---- the root

pub root-is : (rows : List Row) (es : List Entry) → is_one_root (plan_of rows) ≡ true → holds es (plan_of rows) root_context ≡ true →
    document_type_of (document_nodes (document_of rows es)) ≡ root_table rows
unfolding document_of
root-is rows es h there =
    let r = one-root (plan_of rows) h in
    let e = ap (λ q. written_lines es q false root_context) r.is ∙
    root-written es r.step r.cells r.inside r.once (subst (λ q. holds es q root_context ≡ true) r.is there) in
    ap (λ (f : Forest). document_type_of (document_nodes f)) e ∙ ap (λ q. option_and_then document_type_named (root_name q)) (sym r.is)

pub by-table : (table : DocumentType) (nodes : List Node) (lists : Lists) → document_type_of nodes ≡ Some table → invoice_of nodes lists
    ≡ terms_of nodes (rows_of table) lists
by-table table nodes lists e = ap (by_root rows_of nodes lists) e

pub read-by-table : (table : DocumentType) (es : List Entry) (lists : Lists) → document_type_of (document_nodes (document_of (rows_of table) es)) ≡ Some table →
    IsReadBack reading_limits (rows_of table) es → IsReadByTable table es lists
read-by-table table es lists e back =
    record {
      found = back.found;
      is = back.is;
      invoice = ap (λ nodes. invoice_of nodes lists) back.nodes ∙ by-table table (document_nodes (document_of (rows_of table) es)) lists e;
    }
