-- The generated invoice is carried by the tables of UBL's invoice and of CII: no entry fails a condition, and the document keeps the limits.
use Rattle.std.proofs.Common.{◌≡◌, ℕ, ◌+◌, ◌≤◌, Bool, true, false, not, ◌&&◌, ◌||◌, List, [], ◌∷◌, length, Option, Some, None, refl, sym, ap, ◌∙◌, subst, arith}
use Rattle.std.proofs.Common.{lit≤}
use Rattle.std.specs.Prelude.{Ok, nat_lt, find, option_map, encode_utf8_all}
use Rattle.std.specs.List.{list_all}
use Rattle.std.proofs.lemmas.Bool.Decides.{nat_tests}
use lib.Utf8.{encode}
use Rattle.inv_base.specs.Tree.{Forest, no_more, a_text, an_element, size}
use Rattle.xml_tokens.specs.Beginnings.{greatest_tag}
use Rattle.xml_state.specs.Sizes.{document_limits}
use Rattle.xml_write.specs.Escapes.{in_value, in_text}
use Rattle.xml_write.specs.Canonical.{Declaration, declaration_line, declarations_text, canonical_text}
use Rattle.xml_write.specs.Sizes.{canonical_tags, longest}
use Rattle.term_table.specs.SemanticModel.{terms}
use Rattle.inv_terms.specs.declared.entries.Entry.{Entry}
use Rattle.bind_rows.specs.declared.names.Namespace.TheVariants as spaces
use Rattle.bind_rows.specs.declared.rows.Row.{Row}
use Rattle.bind_rows.specs.declared.tables.DocumentType.{DocumentType}
use Rattle.bind_rows.specs.declared.tables.DocumentType.TheVariants as document_type
use Rattle.bind_rows.specs.Namespaces.{declarations_of}
use Rattle.bind_table.specs.Lines.{plan_of}
use Rattle.ubl_binding.specs.Tables.{invoice_listing, invoice_rows}
use Rattle.cii_binding.specs.Table.{cii_listing, cii_rows}
use Rattle.bind_meaning.specs.declared.tables.Syntax.{Syntax}
use Rattle.bind_meaning.specs.declared.tables.Syntax.TheVariants as syntaxes
use Rattle.bind_meaning.specs.Tables.{rows_of}
use Rattle.bind_meaning.specs.Trees.{document_of}
use Rattle.bind_write.specs.Documents.{declarations_for, document_text, root_alone, node_count}
use Rattle.bind_carrying.specs.declared.carrying.NotCarried.{NotCarried}
use Rattle.bind_carrying.specs.Tables.{document_type_of, target}
use Rattle.bind_carrying.specs.Carrying.{fails, all_conditions, first_term, told, first_failing, is_unplaced, first_unplaced, entries_fail, is_too_large}
use Rattle.bind_carrying.specs.Carrying.{answer, carrying}
use Rattle.trial_invoice.specs.Generated.{head, line, trial_entries}
use Rattle.trial_laws.proofs.Entries.{both, and-true, none-found, all-entries}
use Rattle.trial_laws.proofs.Weights.{bytes, around, by_bytes, by_tags, by_nodes, weight, bytes-scale, tags-scale, nodes-scale, document-bytes, document-tags}
use Rattle.trial_laws.proofs.Weights.{forest-nodes}
use Rattle.trial_laws.proofs.Rooms.{room, document-weighs}
use Rattle.trial_laws.proofs.Known.{known, trial-known}

-- ---- the conditions on entries

-- The entry fails none of them.
abbrev keeps : DocumentType → List Entry → Entry → Bool
keeps table es e = list_all (λ c. not (fails c table es e)) all_conditions

head-keeps-invoice : (es : List Entry) (sum : ℕ) → list_all (keeps document_type.Invoice es) (head sum) ≡ true
head-keeps-invoice es sum = refl

line-keeps-invoice : (es : List Entry) (i : ℕ) → list_all (keeps document_type.Invoice es) (line i) ≡ true
line-keeps-invoice es i = refl

head-keeps-cii : (es : List Entry) (sum : ℕ) → list_all (keeps document_type.Cii es) (head sum) ≡ true
head-keeps-cii es sum = refl

line-keeps-cii : (es : List Entry) (i : ℕ) → list_all (keeps document_type.Cii es) (line i) ≡ true
line-keeps-cii es i = refl

all-both : (p q : Entry → Bool) (xs : List Entry) → list_all (λ (e : Entry). p e && q e) xs ≡ true → (list_all p xs ≡ true) × (list_all q xs ≡ true)
all-both p q [] h = (refl, refl)
all-both p q (x ∷ xs) h =
    let w = both (p x && q x) (list_all (λ (e : Entry). p e && q e) xs) h in
    let now = both (p x) (q x) w.0 in
    let later = all-both p q xs w.1 in
    (and-true (p x) (list_all p xs) now.0 later.0, and-true (q x) (list_all q xs) now.1 later.1)

none-fails : (conditions : List _) (table : DocumentType) (es : List Entry) → list_all (λ (e : Entry). list_all (λ c. not (fails c table es e)) conditions) es
    ≡ true →
    first_failing conditions table es ≡ None
none-fails [] table es h = refl
none-fails (condition ∷ conditions) table es h =
    let w = all-both (λ (e : Entry). not (fails condition table es e)) (λ (e : Entry). list_all (λ c. not (fails c table es e)) conditions) es h in
    ap (λ (o : Option Entry). told condition (first_term o) (first_failing conditions table es)) (none-found (fails condition table es) es w.0) ∙
    none-fails conditions table es w.1

-- the conditions of one table
keep-all : (rows : List Row) (table : DocumentType) → document_type_of rows ≡ table → (n : ℕ) → ((sum : ℕ)
    → list_all (keeps table (trial_entries n)) (head sum) ≡ true)
    → ((i : ℕ) → list_all (keeps table (trial_entries n)) (line i) ≡ true) → entries_fail rows (trial_entries n) ≡ None
keep-all rows table is n h k =
    ap (λ (t : DocumentType). first_failing all_conditions t (trial_entries n)) is ∙
    none-fails all_conditions table (trial_entries n) (all-entries (keeps table (trial_entries n)) h k n)

-- ---- the ninth

head-placed : (rows : List Row) (sum : ℕ) → list_all (λ (e : Entry). not (is_unplaced rows e)) (head sum) ≡ true
head-placed rows sum = refl

line-placed : (rows : List Row) (i : ℕ) → list_all (λ (e : Entry). not (is_unplaced rows e)) (line i) ≡ true
line-placed rows i = refl

none-told : (o : Option Entry) → o ≡ None → ◌≡◌ {A = Option NotCarried} (option_map (λ (e : Entry). record { condition = 9; term = Some e.term }) o) None
none-told o h = λ i. option_map (λ (e : Entry). record { condition = 9; term = Some e.term }) (h i)

all-placed : (rows : List Row) (n : ℕ) → first_unplaced rows (trial_entries n) ≡ None
all-placed rows n =
    none-told (find (is_unplaced rows) (trial_entries n))
    (none-found (is_unplaced rows) (trial_entries n) (all-entries (λ (e : Entry). not (is_unplaced rows e)) (head-placed rows) (line-placed rows) n))

-- ---- the eighth

not-less : (m n : ℕ) → n ≤ m → nat_lt m n ≡ false
not-less m n h = grind (arith, nat_tests)

alone-nodes : (f : Forest) → size (root_alone f) ≤ size f
alone-nodes no_more = lit≤ tt
alone-nodes (a_text characters rest) = let z : 0 ≤ 1 + size rest = omega arith in z
alone-nodes (an_element name attributes inside rest) = fewer (length attributes) (size inside) (size rest)
  where
    fewer : (a b c : ℕ) → 1 + (a + (b + 0)) ≤ 1 + (a + (b + c))
    fewer a b c = omega arith

-- What the lines of a table write of generated invoices keeps the limits.
pub record IsRoomy (rows : List Row) (declarations : List Declaration) : Type 0 where
  pub declared : declarations_for rows ≡ declarations
  pub few_bytes : around declarations + room (by_bytes declarations) known (plan_of rows) None ≤ document_limits.bytes
  pub short_tags : bytes (declarations_text declarations) + room (by_tags declarations) known (plan_of rows) None ≤ greatest_tag
  pub few_nodes : room by_nodes known (plan_of rows) None + 1 ≤ document_limits.nodes

neither : (a b c : Bool) → a ≡ false → b ≡ false → c ≡ false → (a || (b || c)) ≡ false
neither a b c h k l = rw (h, k, l) refl

small : (rows : List Row) (declarations : List Declaration) → IsRoomy rows declarations → (n : ℕ) → n ≤ 10000 → is_too_large rows (trial_entries n) ≡ false
unfolding document_text
small rows declarations roomy n h =
    let es : List Entry = trial_entries n in
    let known_all = trial-known n h in
    let few_bytes : bytes (document_text rows es) ≤ document_limits.bytes =
    subst (λ (ds : List Declaration). bytes (canonical_text ds (document_of rows es)) ≤ document_limits.bytes) (sym roomy.declared)
    (sum (bytes (canonical_text declarations (document_of rows es))) (around declarations) (weight (by_bytes declarations) (document_of rows es))
    (room (by_bytes declarations) known (plan_of rows) None) document_limits.bytes
    (document-bytes declarations (document_of rows es)) (document-weighs known es known_all (by_bytes declarations) (bytes-scale declarations) rows)
    roomy.few_bytes) in
    let short_tags : longest (canonical_tags (declarations_for rows) (document_of rows es)) ≤ greatest_tag =
    subst (λ (ds : List Declaration). longest (canonical_tags ds (document_of rows es)) ≤ greatest_tag) (sym roomy.declared)
    (sum (longest (canonical_tags declarations (document_of rows es))) (bytes (declarations_text declarations))
    (weight (by_tags declarations) (document_of rows es)) (room (by_tags declarations) known (plan_of rows) None) greatest_tag
    (document-tags declarations (document_of rows es)) (document-weighs known es known_all (by_tags declarations) (tags-scale declarations) rows)
    roomy.short_tags) in
    let few_nodes : node_count (document_of rows es) ≤ document_limits.nodes =
    nodes (size (root_alone (document_of rows es))) (size (document_of rows es)) (weight by_nodes (document_of rows es))
    (room by_nodes known (plan_of rows) None) document_limits.nodes
    (alone-nodes (document_of rows es)) (forest-nodes (document_of rows es)) (document-weighs known es known_all by_nodes nodes-scale rows) roomy.few_nodes in
    neither (nat_lt document_limits.bytes (length (encode_utf8_all (document_text rows es))))
    (nat_lt greatest_tag (longest (canonical_tags (declarations_for rows) (document_of rows es))))
    (nat_lt document_limits.nodes (node_count (document_of rows es)))
    (not-less document_limits.bytes (bytes (document_text rows es)) few_bytes)
    (not-less greatest_tag (longest (canonical_tags (declarations_for rows) (document_of rows es))) short_tags)
    (not-less document_limits.nodes (node_count (document_of rows es)) few_nodes)
  where
    sum : (a b c d m : ℕ) → a ≤ b + c → c ≤ d → b + d ≤ m → a ≤ m
    sum a b c d m h k l = omega arith

    nodes : (a b c d m : ℕ) → a ≤ b → b ≤ c → c ≤ d → d + 1 ≤ m → a + 1 ≤ m
    nodes a b c d m h k l o = omega arith

carried : (rows : List Row) (es : List Entry) → entries_fail rows es ≡ None → is_too_large rows es ≡ false → first_unplaced rows es ≡ None →
    carrying rows es ≡ Ok tt
carried rows es h k l = λ i. answer (h i) (k i) (l i)

-- ---- the two tables

invoice-is : document_type_of invoice_rows ≡ document_type.Invoice
unfolding invoice_listing invoice_rows
invoice-is = refl

cii-is : document_type_of cii_rows ≡ document_type.Cii
unfolding cii_listing cii_rows
cii-is = refl

invoice-declared : declarations_for invoice_rows ≡ declarations_of spaces.UblInvoice
unfolding invoice_listing invoice_rows
invoice-declared = refl

cii-declared : declarations_for cii_rows ≡ declarations_of spaces.CiiInvoice
unfolding cii_listing cii_rows
cii-declared = refl

invoice-bytes : around (declarations_of spaces.UblInvoice) + room (by_bytes (declarations_of spaces.UblInvoice)) known
    (plan_of invoice_rows) None ≤ document_limits.bytes
unfolding encode in_value in_text declaration_line terms invoice_listing invoice_rows
invoice-bytes = lit≤ tt

invoice-tags : bytes (declarations_text (declarations_of spaces.UblInvoice)) + room (by_tags (declarations_of spaces.UblInvoice)) known
    (plan_of invoice_rows) None ≤ greatest_tag
unfolding encode in_value in_text terms invoice_listing invoice_rows
invoice-tags = lit≤ tt

invoice-nodes : room by_nodes known (plan_of invoice_rows) None + 1 ≤ document_limits.nodes
unfolding terms invoice_listing invoice_rows
invoice-nodes = lit≤ tt

cii-bytes : around (declarations_of spaces.CiiInvoice) + room (by_bytes (declarations_of spaces.CiiInvoice)) known
    (plan_of cii_rows) None ≤ document_limits.bytes
unfolding encode in_value in_text declaration_line terms cii_listing cii_rows
cii-bytes = lit≤ tt

cii-tags : bytes (declarations_text (declarations_of spaces.CiiInvoice)) + room (by_tags (declarations_of spaces.CiiInvoice)) known
    (plan_of cii_rows) None ≤ greatest_tag
unfolding encode in_value in_text terms cii_listing cii_rows
cii-tags = lit≤ tt

cii-nodes : room by_nodes known (plan_of cii_rows) None + 1 ≤ document_limits.nodes
unfolding terms cii_listing cii_rows
cii-nodes = lit≤ tt

pub invoice-carried : (n : ℕ) → n ≤ 10000 → carrying invoice_rows (trial_entries n) ≡ Ok tt
invoice-carried n h =
    carried invoice_rows (trial_entries n) (keep-all invoice_rows document_type.Invoice invoice-is n (head-keeps-invoice (trial_entries n))
    (line-keeps-invoice (trial_entries n)))
    (small invoice_rows (declarations_of spaces.UblInvoice)
    (record { declared = invoice-declared; few_bytes = invoice-bytes; short_tags = invoice-tags; few_nodes = invoice-nodes }) n h)
    (all-placed invoice_rows n)

pub cii-carried : (n : ℕ) → n ≤ 10000 → carrying cii_rows (trial_entries n) ≡ Ok tt
cii-carried n h =
    carried cii_rows (trial_entries n) (keep-all cii_rows document_type.Cii cii-is n (head-keeps-cii (trial_entries n)) (line-keeps-cii (trial_entries n)))
    (small cii_rows (declarations_of spaces.CiiInvoice)
    (record { declared = cii-declared; few_bytes = cii-bytes; short_tags = cii-tags; few_nodes = cii-nodes }) n h) (all-placed cii_rows n)

-- ---- by syntax

pub ubl-target : (n : ℕ) → target (trial_entries n) syntaxes.Ubl ≡ document_type.Invoice
unfolding trial_entries
ubl-target n = refl

pub trial-carried : (syntax : Syntax) (n : ℕ) → n ≤ 10000 → carrying (rows_of (target (trial_entries n) syntax)) (trial_entries n) ≡ Ok tt
trial-carried syntaxes.Ubl n h = ap (λ (t : DocumentType). carrying (rows_of t) (trial_entries n)) (ubl-target n) ∙ invoice-carried n h
trial-carried syntaxes.Cii n h = cii-carried n h
