-- In the UBL document of a trial there is one element for each generated line, in their order, so the built-in rules find the last one alone.
use Rattle.std.proofs.Common.{◌≡◌, ℕ, zero, suc, ◌+◌, ◌*◌, ◌^◌, ◌<◌, ◌≤◌, Bool, true, false, ◌||◌, List, [], ◌∷◌, length, map, filter, Some, None, Ok, pos}
use Rattle.std.proofs.Common.{refl, sym, ap, ◌∙◌, subst, arith}
use Rattle.std.specs.Prelude.{decimal, encode_utf8_all}
use Rattle.std.specs.List.{list_any}
use Rattle.std.proofs.lemmas.Bool.{false≢true}
use Rattle.inv_base.specs.Tree.{Forest, no_more, an_element, Name, Attribute, Node, size, document_nodes}
use Rattle.inv_decimal.specs.Arithmetic.{product_of}
use Rattle.term_table.specs.declared.groups.Group.TheVariants as groups
use Rattle.term_table.specs.declared.terms.Term.{Term}
use Rattle.term_table.specs.declared.contexts.Slot.{Slot}
use Rattle.term_table.specs.declared.contexts.Context.{Context}
use Rattle.term_table.specs.Contexts.{root_context}
use Rattle.inv_terms.specs.declared.values.Value.{Value}
use Rattle.inv_terms.specs.declared.entries.Entry.{Entry}
use Rattle.inv_terms.specs.Values.{spelled}
use Rattle.inv_terms.specs.Listing.{value_in}
use Rattle.bind_rows.specs.declared.tables.DocumentType.{DocumentType}
use Rattle.bind_rows.specs.declared.tables.DocumentType.TheVariants as document_type
use Rattle.bind_table.specs.Lines.{Cell, Plan, nothing, a_line, plan_of}
use Rattle.ubl_binding.specs.Tables.{invoice_rows}
use Rattle.bind_meaning.specs.Tables.{rows_of}
use Rattle.bind_meaning.specs.Trees.{cells_hold, either, holds, line_holds, holds_further, spots, with_text, element_text, written_lines, document_of}
use Rattle.binding_laws.proofs.TreeLemmas.{element_node, Lies}
use Rattle.binding_laws.proofs.NodeLemmas.{Holds, inside-holds, at-element}
use Rattle.bind_write.specs.Documents.{document_text}
use Rattle.written_laws.specs.Reading.{IsReadBack}
use Rattle.written_laws.specs.Readable.{reading_limits, holds_any}
use Rattle.held_rules.specs.Texts.{nodes_in, unless_refused, found_by}
use Rattle.svrl_report.specs.Plain.{tally_of}
use Rattle.trial_invoice.specs.Amounts.{quantity, price, net}
use Rattle.trial_invoice.specs.Generated.{trial_entries}
use Rattle.trial_invoice.proofs.SumLemmas.{quantity-le, price-le, net-le}
use Rattle.trial_run.specs.Memory.{written}
use Rattle.trial_run.specs.Trials.{found_in, trial_rules, trial_findings, ubl_text}
use Rattle.trial_laws.specs.Rules.{line_name, the_ready}
use Rattle.trial_laws.proofs.Compiled.{rules-ready}
use Rattle.trial_laws.proofs.Carried.{ubl-target}
use Rattle.trial_laws.proofs.Numbered.{document-numbered}
use Rattle.trial_laws.proofs.Finding.{is_called}
use Rattle.trial_laws.proofs.Standing.{document-stands}
use Rattle.trial_laws.proofs.Tests.{SaysOnce}
use Rattle.trial_laws.proofs.Walks.{is_line, group_at, cells_at, inside_at, rest_at, skip, is_step, either-first, either-true, first-holds, IsOnlyChild}
use Rattle.trial_laws.proofs.Walks.{only-child, leaf-string, child-holds}
use Rattle.trial_laws.proofs.Lines.{number, AreLines, document-lines}
use Rattle.trial_laws.proofs.Table.{IsLeafOf, tells-text, tells-hold, line_plan, invoice_plan, price_plan, inside_line, has-line, id_name, net_name}
use Rattle.trial_laws.proofs.Table.{quantity_name, price_name, amount_name, id-leaf, quantity-leaf, net-leaf, price-stands, price-untold, amount-leaf, id-first}
use Rattle.trial_laws.proofs.Table.{amount-first, line-untold}
use Rattle.trial_laws.proofs.LineTerms.{term, in_line, number-in, quantity-in, net-in, price-in, line-spots}
use Rattle.trial_laws.proofs.Figures.{AreRead, hundredths-read, ones-read, decimal-read, product-is, equal-itself, less-differs}
use Rattle.trial_laws.proofs.Findings.{IsLine, found-once}

-- ---- children of a line

-- The one child of a name says the value of its term.
child-says : (nodes : List Node) (es : List Entry) (slot : Slot) (name : Name) (t : Term) (value : Value) (plan : Plan) → IsLeafOf name t plan →
    value_in es t (record { outer = Some slot; inner = None }) ≡ Some value
    → (p : ℕ) (more : List ℕ) (n : ℕ) (held : Bool) → Holds nodes p more n (written_lines es plan held (record { outer = Some slot; inner = None })) →
    SaysOnce nodes p name (spelled value)
child-says nodes es slot name t value plan leaf there p more n held holding =
    let c : Context = record { outer = Some slot; inner = None } in
    let here : Plan = skip (is_step name) plan in
    let held-here : line_holds es (cells_at here) (inside_at here) c ≡ true =
    either-first (cells_hold es (cells_at here) c) (λ _. holds es (inside_at here) c) (tells-hold es slot t value there (cells_at here) leaf.tells) in
    let further : Bool = holds_further es (cells_at here) (inside_at here) held c in
    let one : IsOnlyChild nodes p more name (element_text es (cells_at here) c) (written_lines es (inside_at here) further c) =
    only-child nodes es p more name plan held c n leaf.stands.before leaf.stands.line leaf.stands.named leaf.stands.once held-here leaf.stands.behind holding in
    let plain : IsOnlyChild nodes p more name (spelled value) no_more =
    subst (λ (text : List ℕ). IsOnlyChild nodes p more name text no_more) (tells-text es slot t value there (cells_at here) leaf.tells)
    (subst (λ (inner : Plan). IsOnlyChild nodes p more name (element_text es (cells_at here) c) (written_lines es inner further c)) leaf.leaf one) in
    record { node = element_node (p ∷ more) plain.place plain.written; only = plain.only; said = leaf-string nodes p more name (spelled value) plain }

-- lines hold an entry where the first has a term that stands
first-there : (es : List Entry) (slot : Slot) (name : Name) (t : Term) (value : Value) (plan : Plan) → IsLeafOf name t plan → skip (is_step name) plan ≡ plan
    → value_in es t (record { outer = Some slot; inner = None }) ≡ Some value → holds es plan (record { outer = Some slot; inner = None }) ≡ true
first-there es slot name t value plan leaf first there =
    let c : Context = record { outer = Some slot; inner = None } in
    first-holds es plan c (sym (ap is_line first) ∙ leaf.stands.line) (sym (ap group_at first) ∙ leaf.stands.once)
    (sym (ap (λ (here : Plan). cells_hold es (cells_at here) c) first) ∙ tells-hold es slot t value there (cells_at (skip (is_step name) plan)) leaf.tells)

-- ---- the price

price-holds : (es : List Entry) (c : Context) → holds es price_plan c ≡ true → holds es (inside_at (skip (is_step price_name) inside_line)) c ≡ true
unfolding price_plan
price-holds es c h = h

price-child : (nodes : List Node) (es : List Entry) (p : ℕ) (more : List ℕ) (c : Context) (deeper : Bool)
    → IsOnlyChild nodes p more price_name (element_text es (cells_at (skip (is_step price_name) inside_line)) c)
    (written_lines es (inside_at (skip (is_step price_name) inside_line)) deeper c)
    → IsOnlyChild nodes p more price_name [] (written_lines es price_plan deeper c)
unfolding price_plan
price-child nodes es p more c deeper one =
    subst (λ (cells : List Cell). IsOnlyChild nodes p more price_name (element_text es cells c)
    (written_lines es (inside_at (skip (is_step price_name) inside_line)) deeper c)) price-untold one

multiplied : (i : ℕ) → product_of (pos (quantity i * 10 ^ 18)) (pos (100 * price i * 10 ^ 16)) ≡ Ok (pos (100 * net i * 10 ^ 16))
unfolding net
multiplied i = let h : quantity i * price i ≤ 9000 = net-le i in product-is (quantity i) (price i) (omega (arith, h))

-- ---- the lines

abbrev slot_of : ℕ → Slot
slot_of i = record { group = groups.InvoiceLine; index = i }

module _ (read : AreRead) (count : ℕ) (few : count ≤ 10000) where
  abbrev es : List Entry
  es = trial_entries count

  abbrev nodes : List Node
  nodes = document_nodes (document_of invoice_rows es)

  in-range : (m bound : ℕ) → m ≤ bound → bound < 10 ^ 18 → m < 10 ^ 18
  in-range m bound h k = omega (arith, h, k)

  line-is : (i n : ℕ) (name : Name) (attrs : List Attribute) (later : Forest) (further : Bool) → 1 ≤ i → i ≤ count
      → Lies nodes (1 ∷ (0 ∷ [])) n (an_element name attrs (written_lines es inside_line further (in_line i)) later) → IsLine nodes i n
  line-is i n name attrs later further low high lies =
      let inner : Forest = written_lines es inside_line further (in_line i) in
      let holding : Holds nodes n (1 ∷ (0 ∷ [])) (n + (1 + length attrs)) inner = inside-holds nodes (1 ∷ (0 ∷ [])) n name attrs inner later lies in
      let here : Plan = skip (is_step price_name) inside_line in
      let dear : value_in es (term 146) (in_line i) ≡ Some _ = price-in count i low high in
      let priced : holds es price_plan (in_line i) ≡ true = first-there es (slot_of i) amount_name (term 146) _ price_plan amount-leaf amount-first dear in
      let priced-here : line_holds es (cells_at here) (inside_at here) (in_line i) ≡ true =
      either-true (cells_hold es (cells_at here) (in_line i)) (λ _. holds es (inside_at here) (in_line i)) (price-holds es (in_line i) priced) in
      let deeper : Bool = holds_further es (cells_at here) (inside_at here) further (in_line i) in
      let one : IsOnlyChild nodes n (1 ∷ (0 ∷ [])) price_name [] (written_lines es price_plan deeper (in_line i)) =
      price-child nodes es n (1 ∷ (0 ∷ [])) (in_line i) deeper
      (only-child nodes es n (1 ∷ (0 ∷ [])) price_name inside_line further (in_line i)
      (n + (1 + length attrs)) price-stands.before price-stands.line price-stands.named price-stands.once priced-here price-stands.behind holding) in
      record {
        own = ap (λ (x : Node). x.number) (at-element nodes (1 ∷ (0 ∷ [])) n name attrs inner later lies);
        number_text = decimal i;
        number = child-says nodes es (slot_of i) id_name (term 126) _ inside_line id-leaf (number-in count i low high) n (1 ∷ (0 ∷ []))
            (n + (1 + length attrs)) further holding;
        number_read = decimal-read read i (omega (arith, high, few));
        net_text = _;
        net = child-says nodes es (slot_of i) net_name (term 131) _ inside_line net-leaf (net-in count i low high) n (1 ∷ (0 ∷ []))
            (n + (1 + length attrs)) further holding;
        quantity_text = _;
        quantity = child-says nodes es (slot_of i) quantity_name (term 129) _ inside_line quantity-leaf (quantity-in count i low high) n (1 ∷ (0 ∷ []))
            (n + (1 + length attrs)) further holding;
        price_node = element_node (n ∷ (1 ∷ (0 ∷ []))) one.place one.written;
        price_own = ap (λ (x : Node). x.number) (at-element nodes (n ∷ (1 ∷ (0 ∷ []))) one.place one.written one.attrs
            (written_lines es price_plan deeper (in_line i)) one.rest one.lies);
        price_only = one.only;
        price_text = _;
        price = child-says nodes es (slot_of i) amount_name (term 146) _ price_plan amount-leaf dear one.place (n ∷ (1 ∷ (0 ∷ [])))
            (one.place + (1 + length one.attrs)) deeper
            (child-holds nodes n (1 ∷ (0 ∷ [])) price_name (written_lines es price_plan deeper (in_line i)) one);
        a = pos (quantity i * 10 ^ 18);
        b = pos (100 * price i * 10 ^ 16);
        z = pos (100 * net i * 10 ^ 16);
        net_read = hundredths-read read (100 * net i) (omega (arith, net-le i));
        quantity_read = ones-read read (quantity i) (omega (arith, quantity-le i));
        price_read = hundredths-read read (100 * price i) (omega (arith, price-le i));
        product = multiplied i;
      }

  -- Each occurrence of the group holds an entry: its number.
  line-held : (i : ℕ) → 1 ≤ i → i < 1 + count → line_holds es (cells_at (skip (is_step line_name) (inside_at (plan_of invoice_rows))))
      (inside_at (skip (is_step line_name) (inside_at (plan_of invoice_rows)))) (in_line i) ≡ true
  unfolding line_plan invoice_plan
  line-held i low high =
      either-true (cells_hold es (cells_at line_plan) (in_line i)) (λ _. holds es inside_line (in_line i))
      (first-there es (slot_of i) id_name (term 126) _ inside_line id-leaf id-first (number-in count i low (omega (arith, high))))

  line-there : (i n : ℕ) (name : Name) (attrs : List Attribute) (later : Forest) (further : Bool) → 1 ≤ i → i < 1 + count
      → Lies nodes (1 ∷ (0 ∷ [])) n
      (an_element name attrs (with_text (element_text es (cells_at (skip (is_step line_name) (inside_at (plan_of invoice_rows)))) (in_line i))
      (written_lines es (inside_at (skip (is_step line_name) (inside_at (plan_of invoice_rows)))) further (in_line i))) later)
      → IsLine nodes i n
  unfolding line_plan invoice_plan
  line-there i n name attrs later further low high lies =
      line-is i n name attrs later further low (omega (arith, high))
      (subst (λ (cells : List Cell). Lies nodes (1 ∷ (0 ∷ [])) n
      (an_element name attrs (with_text (element_text es cells (in_line i)) (written_lines es inside_line further (in_line i))) later)) line-untold lies)

  pub lines-are : 1 ≤ count → line_holds es (cells_at (plan_of invoice_rows)) (inside_at (plan_of invoice_rows)) root_context ≡ true →
      AreLines (IsLine nodes) 1 count (map number (filter (is_called line_name) nodes))
  lines-are some held =
      document-lines es line_name in_line groups.InvoiceLine invoice_rows has-line held count (line-spots count some) line-held (IsLine nodes) line-there

-- ---- the document

root-holds : (entries : List Entry) (plan : Plan) (c : Context) → is_line plan ≡ true → group_at plan ≡ None → rest_at plan ≡ nothing →
    holds entries plan c ≡ true → line_holds entries (cells_at plan) (inside_at plan) c ≡ true
root-holds entries nothing c ok once alone h = absurd (false≢true ok)
root-holds entries (a_line s cells inside rest) c ok once alone h =
    within (line_holds entries cells inside c)
    (sym (ap (λ g. either (list_any (λ d. line_holds entries cells inside d) (spots entries c g)) (λ _. holds entries rest c)) once ∙
    ap (λ (behind : Plan). either (line_holds entries cells inside c || false) (λ _. holds entries behind c)) alone) ∙ h)
  where
    within : (b : Bool) → either (b || false) (λ _. false) ≡ true → b ≡ true
    within true k = refl
    within false k = k

lines-long : (L : ℕ → ℕ → Type 0) (k a : ℕ) (xs : List Node) → AreLines L a k (map number xs) → length xs ≡ k
lines-long L zero a [] are = refl
lines-long L zero a (x ∷ xs) are = absurd are
lines-long L (suc k) a [] are = absurd are
lines-long L (suc k) a (x ∷ xs) are = ap suc (lines-long L k (a + 1) xs are.1)

pub found-in-document : AreRead → (count : ℕ) → 1 ≤ count → count ≤ 10000 → holds_any invoice_rows (trial_entries count) ≡ true
    → tally_of (found_by the_ready (document_nodes (document_of invoice_rows (trial_entries count)))) ≡ record {
      failed = 0;
      reported = 1;
      errors = 0;
      minor =
          0;
    }
found-in-document read count some few held =
    let tree : Forest = document_of invoice_rows (trial_entries count) in
    let root : line_holds (trial_entries count) (cells_at (plan_of invoice_rows)) (inside_at (plan_of invoice_rows)) root_context ≡ true =
    root-holds (trial_entries count) (plan_of invoice_rows) root_context has-line.root has-line.once has-line.alone held in
    let are = lines-are read count few some root in
    let long : length (filter (is_called line_name) (document_nodes tree)) ≡ count =
    lines-long (IsLine (document_nodes tree)) count 1 (filter (is_called line_name) (document_nodes tree)) are in
    found-once (1 + size tree) (document_nodes tree) (document-numbered tree) (document-stands tree line_name) count
    (omega (arith, few)) long equal-itself less-differs some are

-- ---- what a trial finds

pub tally-is : AreRead → (count : ℕ) → 1 ≤ count → count ≤ 10000 → holds_any (rows_of document_type.Invoice) (trial_entries count) ≡ true →
    IsReadBack reading_limits (rows_of document_type.Invoice) (trial_entries count)
    → tally_of (trial_findings (ubl_text count)) ≡ record { failed = 0; reported = 1; errors = 0; minor = 0 }
unfolding trial_findings nodes_in written
tally-is read count some few held back =
    ap (λ (t : DocumentType). tally_of (found_in trial_rules (nodes_in (encode_utf8_all (document_text (rows_of t) (trial_entries count)))))) (ubl-target count)
    ∙ (ap (λ answer. tally_of (found_in trial_rules (unless_refused answer))) back.is
    ∙ (ap (λ (nodes : List Node). tally_of (found_in trial_rules (Some nodes))) back.nodes
    ∙ (ap (λ rules. tally_of (found_in rules (Some (document_nodes (document_of invoice_rows (trial_entries count)))))) rules-ready
    ∙ found-in-document read count some few held)))
