-- The currencies that stand beside amounts.
use Rattle.std.proofs.Common.{◌≡◌, ℕ, Bool, true, false, ◌&&◌, not, ◌||◌, List, [], ◌∷◌, ◌++◌, map, filter, flat_map, Option, Some, None, ◌⊎◌, inl, inr, refl}
use Rattle.std.proofs.Common.{sym, ap, ◌∙◌, subst}
use Rattle.std.specs.Prelude.{if◌then◌else◌, is_some, option_map}
use Rattle.std.specs.List.{list_all}
use Rattle.std.specs.Str.{bytes_eq}
use Rattle.std.proofs.lemmas.Bool.{false≢true}
use Rattle.std.proofs.lemmas.Option.{same_Some}
use Rattle.std.proofs.lemmas.Slice.Eq.{bytes_eq-Decides}
use Rattle.inv_base.specs.Characters.{is_white_space}
use Rattle.inv_base.specs.Tree.{Attribute}
use Rattle.term_table.specs.declared.contexts.Context.{Context}
use Rattle.term_table.specs.Contexts.{root_context}
use Rattle.inv_terms.specs.declared.values.Value.{Value}
use Rattle.inv_terms.specs.declared.entries.Entry.{Entry}
use Rattle.inv_terms.specs.Values.{is_blank, without_leading, without_trailing, trimmed, spelled}
use Rattle.inv_terms.specs.Listing.{value_in}
use Rattle.bind_rows.specs.declared.rows.Step.{Step}
use Rattle.bind_rows.specs.declared.rows.Row.{Row}
use Rattle.bind_rows.specs.declared.rows.Written.{Written}
use Rattle.bind_rows.specs.declared.rows.Written.TheVariants as written
use Rattle.bind_rows.specs.Same.{same_step}
use Rattle.bind_table.specs.Lines.{Cell, Plan, nothing, a_line}
use Rattle.bind_meaning.specs.Currencies.{Currencies, invoice_currency, accounting_currency, currency_id, first_full, is_some_text, is_accounting}
use Rattle.bind_meaning.specs.Writing.{row_text}
use Rattle.bind_meaning.specs.Trees.{is_ubl, is_vat_total, is_amount, attribute, currency_term, currency_attribute, currency_of_cell, attribute_of_cell}
use Rattle.bind_meaning.specs.Trees.{attributes, element_text, is_at_element, shows_currency, holds_further}
use Rattle.binding_laws.specs.Apart.{is_attribute_named, is_at_attribute, holds_none}
use Rattle.binding_laws.specs.Written.{Spot, emitted, at_end, spots_below, values_named}
use Rattle.binding_laws.specs.Plain.{rows_at}
use Rattle.binding_laws.specs.Covered.{accounting_terms, currency_text, is_text, is_other_text, is_own_currency, are_own_currencies}
use Rattle.binding_laws.specs.Faultless.{is_in_invoice_currency, is_no_row}
use Rattle.binding_laws.proofs.TreeLemmas.{Each, each-append}
use Rattle.binding_laws.proofs.ListLemmas.{append-nil, both-true, not-true}
use Rattle.binding_laws.proofs.CellLemmas.{own_strings, named-append, cells-values}
use Rattle.binding_laws.proofs.ContextLemmas.{each-flat_map, all-each}

-- The string is the currency of the invoice.
abbrev pub IsCurrency : List Entry → List ℕ → Type 0
IsCurrency es string = (v : Value) × ((value_in es invoice_currency root_context ≡ Some v) × (string ≡ spelled v))

currency-of : (rule : Written) → is_in_invoice_currency rule ≡ true → currency_term rule ≡ invoice_currency
currency-of written.Always h = refl
currency-of written.Never h = refl
currency-of written.IfIban h = refl
currency-of written.IfNotIban h = refl
currency-of written.IfScheme h = refl
currency-of written.IfNoScheme h = refl
currency-of (written.OrPlaceholder placeholder) h = refl
currency-of written.VatTotal h = refl
currency-of written.AccountingVatTotal h = absurd (false≢true h)

-- The currency is named, and is that of the invoice, or isn't.
abbrev pub IsOwnCurrency : List Entry → Option (List ℕ) → Type 0
IsOwnCurrency es o = (o ≡ None) ⊎ ((v : Value) × ((value_in es invoice_currency root_context ≡ Some v) × (o ≡ Some (trimmed (spelled v)))))

pub own-by-test : (es : List Entry) (o : Option (List ℕ)) → is_own_currency es o ≡ true → IsOwnCurrency es o
own-by-test es None h = inl refl
own-by-test es (Some text) h = go (value_in es invoice_currency root_context) refl h
  where
    go : (x : Option Value) → value_in es invoice_currency root_context ≡ x →
        (elim x [ None ↦ false | Some value ↦ bytes_eq text (trimmed (spelled value)) ]) ≡ true → IsOwnCurrency es (Some text)
    go None e k = absurd (false≢true k)
    go (Some v) e k = inr (v, (e, ap Some ((bytes_eq-Decides text (trimmed (spelled v))).0 k)))

pub test-of-own : (es : List Entry) (o : Option (List ℕ)) → IsOwnCurrency es o → is_own_currency es o ≡ true
test-of-own es o (inl e) = ap (is_own_currency es) e
test-of-own es o (inr x) =
    ap (is_own_currency es) x.1.1
    ∙ (ap (λ y. elim y [ None ↦ false | Some value ↦ bytes_eq (trimmed (spelled x.0)) (trimmed (spelled value)) ]) x.1.0 ∙
    (bytes_eq-Decides (trimmed (spelled x.0)) (trimmed (spelled x.0))).1 refl)

-- an amount in the currency of the invoice, or in none, isn't in the accounting currency
pub not-accounting : (es : List Entry) (c : Currencies) → IsOwnCurrency es c.invoice → (o : Option (List ℕ)) → IsOwnCurrency es o → is_accounting c o ≡ false
not-accounting es c own o (inl e) = ap (is_accounting c) e
not-accounting es c (inl e) o (inr y) =
    ap (is_accounting c) y.1.1
    ∙ ap (λ x. elim x [
      | None ↦ false
      | Some invoice ↦ elim (bytes_eq invoice (trimmed (spelled y.0))) [
        | true ↦ false
        | false ↦ is_some_text c.accounting (trimmed (spelled y.0))
      ]
    ]) e
not-accounting es c (inr x) o (inr y) =
    let same : bytes_eq (trimmed (spelled x.0)) (trimmed (spelled y.0)) ≡ true =
    ap (λ v. bytes_eq (trimmed (spelled x.0)) (trimmed (spelled v))) (same_Some _ _ (sym y.1.0 ∙ x.1.0)) ∙
    (bytes_eq-Decides (trimmed (spelled x.0)) (trimmed (spelled x.0))).1 refl in
    ap (is_accounting c) y.1.1
    ∙ (ap (λ z. elim z [
      | None ↦ false
      | Some invoice ↦ elim (bytes_eq invoice (trimmed (spelled y.0))) [
        | true ↦ false
        | false ↦ is_some_text c.accounting (trimmed (spelled y.0))
      ]
    ]) x.1.1
    ∙ ap (λ b. elim b [ true ↦ false | false ↦ is_some_text c.accounting (trimmed (spelled y.0)) ]) same)

-- the currency beside an amount, of an element that is written
abbrev pub currency_at : Spot → Option (List ℕ)
currency_at spot = first_full (map trimmed (values_named currency_id spot.attributes))

-- An amount with the currency is one that a row of the rule picks.
abbrev pub is_in : Currencies → Written → Option (List ℕ) → Bool
is_in c rule o = elim rule [ written.VatTotal ↦ not (is_accounting c o) | written.AccountingVatTotal ↦ is_accounting c o | _ ↦ true ]

-- The two currencies stand in the invoice, and are those that are read.
pub record AreNamed (es : List Entry) (c : Currencies) : Type 0 where
  pub first : List ℕ
  pub second : List ℕ
  pub first_is : currency_text es invoice_currency ≡ Some first
  pub second_is : currency_text es accounting_currency ≡ Some second
  pub first_read : c.invoice ≡ Some first
  pub second_read : c.accounting ≡ Some second

-- So they are, where a VAT total in accounting currency stands.
abbrev pub AreOwn : List Row → List Entry → Currencies → Type 0
AreOwn rows es c = IsOwnCurrency es c.invoice × ((holds_none (accounting_terms rows) es ≡ true) ⊎ AreNamed es c)

either-true : (a b : Bool) → (a || b) ≡ true → (a ≡ true) ⊎ (b ≡ true)
either-true true b h = inl refl
either-true false b h = inr h

or-true : (b : Bool) → (b || true) ≡ true
or-true true = refl
or-true false = refl

same-text : (text : List ℕ) → bytes_eq text text ≡ true
same-text text = (bytes_eq-Decides text text).1 refl

text-is : (a b : Option (List ℕ)) → is_text a b ≡ true → (t : List ℕ) × ((a ≡ Some t) × (b ≡ Some t))
text-is None b h = absurd (false≢true h)
text-is (Some a) None h = absurd (false≢true h)
text-is (Some a) (Some b) h = (a, (refl, ap Some (sym ((bytes_eq-Decides a b).0 h))))

pub own-currencies-by-test : (rows : List Row) (es : List Entry) (c : Currencies) → are_own_currencies rows es c ≡ true → AreOwn rows es c
own-currencies-by-test rows es c h =
    let w = both-true (is_own_currency es c.invoice) _ h in (
      own-by-test es c.invoice w.0,
      elim (either-true (holds_none (accounting_terms rows) es) (is_text c.invoice (currency_text es invoice_currency) &&
          is_text c.accounting (currency_text es accounting_currency)) w.1) [ inl k ↦ inl k | inr k ↦ inr (named k) ],
    )
  where
    named : (is_text c.invoice (currency_text es invoice_currency) && is_text c.accounting (currency_text es accounting_currency)) ≡ true → AreNamed es c
    named k =
        let v = both-true (is_text c.invoice (currency_text es invoice_currency)) (is_text c.accounting (currency_text es accounting_currency)) k in
        let a = text-is c.invoice (currency_text es invoice_currency) v.0 in
        let b = text-is c.accounting (currency_text es accounting_currency) v.1 in
        record { first = a.0; second = b.0; first_is = a.1.1; second_is = b.1.1; first_read = a.1.0; second_read = b.1.0 }

pub test-of-own-currencies : (rows : List Row) (es : List Entry) (c : Currencies) → AreOwn rows es c → are_own_currencies rows es c ≡ true
test-of-own-currencies rows es c own = λ i. test-of-own es c.invoice own.0 i && named own.1 i
  where
    named : (holds_none (accounting_terms rows) es ≡ true) ⊎ AreNamed es c
        → (holds_none (accounting_terms rows) es ||
        (is_text c.invoice (currency_text es invoice_currency) && is_text c.accounting (currency_text es accounting_currency))) ≡ true
    named (inl k) = ap (λ b. b || (is_text c.invoice (currency_text es invoice_currency) && is_text c.accounting (currency_text es accounting_currency))) k
    named (inr n) =
        (λ i. holds_none (accounting_terms rows) es || (is_text (n.first_read i) (n.first_is i) && is_text (n.second_read i) (n.second_is i)))
        ∙ ((λ i. holds_none (accounting_terms rows) es || (same-text n.first i && same-text n.second i)) ∙ or-true (holds_none (accounting_terms rows) es))

-- an amount in the second currency is in the accounting currency, where they differ
pub in-accounting : (es : List Entry) (c : Currencies) → AreNamed es c →
    is_other_text (currency_text es invoice_currency) (currency_text es accounting_currency) ≡ true → (o : Option (List ℕ)) →
    o ≡ currency_text es accounting_currency
    → is_accounting c o ≡ true
in-accounting es c n other o e =
    let differ : not (bytes_eq n.first n.second) ≡ true = sym (λ i. is_other_text (n.first_is i) (n.second_is i)) ∙ other in
    ap (is_accounting c) (e ∙ n.second_is)
    ∙ (ap (λ x. elim x [ None ↦ false | Some invoice ↦ elim (bytes_eq invoice n.second) [ true ↦ false | false ↦ is_some_text c.accounting n.second ] ])
    n.first_read
    ∙ (ap (λ b. elim b [ true ↦ false | false ↦ is_some_text c.accounting n.second ]) (not-true (bytes_eq n.first n.second) differ)
    ∙ (ap (λ x. is_some_text x n.second) n.second_read ∙ same-text n.second)))

-- ---- texts without the white space around them

blank-leading : (text : List ℕ) → is_blank (without_leading text) ≡ is_blank text
blank-leading [] = refl
blank-leading (c ∷ text) = go (is_white_space c) refl (blank-leading text)
  where
    go : (b : Bool) → is_white_space c ≡ b → is_blank (without_leading text) ≡ is_blank text →
        is_blank (if b then without_leading text else c ∷ text) ≡ (b && is_blank text)
    go true e later = later
    go false e later = ap (λ b. b && is_blank text) e

blank-trailing : (text : List ℕ) → is_blank (without_trailing text) ≡ is_blank text
blank-trailing [] = refl
blank-trailing (c ∷ text) = go (is_white_space c && is_blank text) refl (blank-trailing text)
  where
    go : (b : Bool) → (is_white_space c && is_blank text) ≡ b → is_blank (without_trailing text) ≡ is_blank text →
        is_blank (if b then [] else c ∷ without_trailing text) ≡ b
    go true e later = refl
    go false e later = ap (λ b. is_white_space c && b) later ∙ e

blank-trimmed : (text : List ℕ) → is_blank (trimmed text) ≡ is_blank text
blank-trimmed text = blank-trailing (without_leading text) ∙ blank-leading text

-- the one string beside an amount in accounting currency is that currency
pub accounting-first : (es : List Entry) (strings : List (List ℕ)) (v : Value) → value_in es accounting_currency root_context ≡ Some v →
    is_blank (spelled v) ≡ false → strings ≡ spelled v ∷ []
    → first_full (map trimmed strings) ≡ currency_text es accounting_currency
accounting-first es strings v is full e =
    ap (λ l. first_full (map trimmed l)) e
    ∙ (ap (λ b. elim b [ true ↦ None | false ↦ Some (trimmed (spelled v)) ]) (blank-trimmed (spelled v) ∙ full) ∙
    sym (ap (option_map (λ (value : Value). trimmed (spelled value))) is))

-- ---- beside the one amount of an element

no-row : (rows : List Row) → is_no_row rows ≡ true → rows ≡ []
no-row [] h = refl
no-row (row ∷ rows) h = absurd (false≢true h)

module _ (es : List Entry) (row : Row) (rule : row.written ≡ written.AccountingVatTotal) (amount : is_amount row ≡ true) where
  abbrev currency_of_row : Step → Context → Row → List Attribute
  currency_of_row t d r = elim (shows_currency t r && is_some (row_text r es d)) [ true ↦ currency_attribute es r | false ↦ [] ]

  currencies-by-rows : (t : Step) (d : Context) (cells : List Cell) →
      flat_map (currency_of_cell es t d) cells ≡ flat_map (currency_of_row t d) (map (λ (cell : Cell). cell.row) (filter is_at_element cells))
  currencies-by-rows t d [] = refl
  currencies-by-rows t d (cell ∷ cells) = go (is_at_element cell) (currencies-by-rows t d cells)
    where
      go : (b : Bool) → flat_map (currency_of_cell es t d) cells ≡ flat_map (currency_of_row t d) (map (λ (x : Cell). x.row) (filter is_at_element cells))
          → (elim (b && (shows_currency t cell.row && is_some (row_text cell.row es d))) [ true ↦ currency_attribute es cell.row | false ↦ [] ]) ++
          flat_map (currency_of_cell es t d) cells
          ≡ flat_map (currency_of_row t d) (map (λ (x : Cell). x.row) (if b then cell ∷ filter is_at_element cells else filter is_at_element cells))
      go true e = ap (λ l. currency_of_row t d cell.row ++ l) e
      go false e = e

  abbrev the_currency : List Attribute
  the_currency = elim (value_in es accounting_currency root_context) [ None ↦ [] | Some value ↦ attribute currency_id (spelled value) ∷ [] ]

  -- where the row writes its value, the accounting currency stands beside it
  abbrev ShowsIt : Spot → Type 0
  ShowsIt spot = is_some (row_text row es spot.context) ≡ true → values_named currency_id spot.attributes ≡ values_named currency_id the_currency

  own-row : (t : Step) (d : Context) → is_some (row_text row es d) ≡ true → currency_of_row t d row ≡ the_currency
  own-row t d some =
      let shown : (shows_currency t row && is_some (row_text row es d)) ≡ true =
      (λ i. (amount i && (is_ubl t.name.namespace || is_vat_total (rule i))) && some i) ∙ ap (λ b. b && true) (or-true (is_ubl t.name.namespace)) in
      ap (λ b. elim b [ true ↦ currency_attribute es row | false ↦ [] ]) shown
      ∙ ap (λ x. elim (value_in es (currency_term x) root_context) [ None ↦ [] | Some value ↦ attribute currency_id (spelled value) ∷ [] ]) rule

  alone : (t : Step) (d : Context) (cells : List Cell) → map (λ (cell : Cell). cell.row) (filter is_at_element cells) ≡ row ∷ []
      → is_no_row (map (λ (cell : Cell). cell.row) (filter (λ (cell : Cell). is_attribute_named currency_id cell.row.leaf) cells)) ≡ true
      → is_some (row_text row es d) ≡ true → values_named currency_id (attributes es t cells d) ≡ values_named currency_id the_currency
  alone t d cells own none some =
      let others : values_named currency_id (flat_map (attribute_of_cell es d) cells) ≡ [] =
      cells-values currency_id es d cells ∙ ap (flat_map (own_strings es d))
      (no-row (map (λ (cell : Cell). cell.row) (filter (λ (cell : Cell). is_attribute_named currency_id cell.row.leaf) cells)) none) in
      named-append currency_id (flat_map (currency_of_cell es t d) cells) (flat_map (attribute_of_cell es d) cells)
      ∙ (ap (λ l. values_named currency_id (flat_map (currency_of_cell es t d) cells) ++ l) others
      ∙ (append-nil (values_named currency_id (flat_map (currency_of_cell es t d) cells))
      ∙ ap (values_named currency_id) (currencies-by-rows t d cells ∙
      (ap (flat_map (currency_of_row t d)) own ∙ (append-nil (currency_of_row t d row) ∙ own-row t d some)))))

  pub accounting-shown : (plan : Plan) (path : List Step) (held : Bool) (c : Context) → rows_at is_at_element plan path ≡ row ∷ [] →
      is_no_row (rows_at (is_at_attribute currency_id) plan path) ≡ true
      → Each (λ (spot : Spot). is_some (row_text row es spot.context) ≡ true → values_named currency_id spot.attributes ≡ values_named currency_id the_currency)
      (spots_below es plan path held c)
  accounting-shown nothing path held c h k = tt
  accounting-shown (a_line t cells inside rest) [] held c h k = tt
  accounting-shown (a_line t cells inside rest) (s ∷ path) held c h k =
      go (λ q d. accounting-shown inside q (holds_further es cells inside held d) d) (accounting-shown rest (s ∷ path) held c) (same_step s t) h k
    where
      here : ((q : List Step) (d : Context) → rows_at is_at_element inside q ≡ row ∷ [] → is_no_row (rows_at (is_at_attribute currency_id) inside q) ≡ true →
          Each ShowsIt (spots_below es inside q (holds_further es cells inside held d) d))
          → (path : List Step) → (elim path [
            | [] ↦ map (λ (cell : Cell). cell.row) (filter is_at_element cells)
            | (u ∷ further) ↦ rows_at is_at_element inside (u ∷ further)
          ]) ≡ row ∷ []
          → is_no_row (elim path [
            | [] ↦ map (λ (cell : Cell). cell.row) (filter (λ (cell : Cell). is_attribute_named currency_id cell.row.leaf) cells)
            | (u ∷ further) ↦ rows_at (is_at_attribute currency_id) inside (u ∷ further)
          ]) ≡ true
          → (d : Context) → Each ShowsIt (at_end path (record { context = d; attributes = attributes es t cells d; text = element_text es cells d })
          (spots_below es inside path (holds_further es cells inside held d) d))
      here inner [] m n d = (alone t d cells m n, tt)
      here inner (u ∷ us) m n d = inner (u ∷ us) d m n

      go : ((q : List Step) (d : Context) → rows_at is_at_element inside q ≡ row ∷ [] → is_no_row (rows_at (is_at_attribute currency_id) inside q) ≡ true →
          Each ShowsIt (spots_below es inside q (holds_further es cells inside held d) d))
          → (rows_at is_at_element rest (s ∷ path) ≡ row ∷ [] → is_no_row (rows_at (is_at_attribute currency_id) rest (s ∷ path)) ≡ true →
          Each ShowsIt (spots_below es rest (s ∷ path) held c))
          → (b : Bool) → (elim b [
            | true ↦ elim path [
              | [] ↦ map (λ (cell : Cell). cell.row) (filter is_at_element cells)
              | (u ∷ further) ↦ rows_at is_at_element inside (u ∷ further)
            ]
            | false ↦ rows_at is_at_element rest (s ∷ path)
          ]) ≡ row ∷ []
          → is_no_row (elim b [
            | true ↦ elim path [
              | [] ↦ map (λ (cell : Cell). cell.row) (filter (λ (cell : Cell). is_attribute_named currency_id cell.row.leaf) cells)
              | (u ∷ further) ↦ rows_at (is_at_attribute currency_id) inside (u ∷ further)
            ]
            | false ↦ rows_at (is_at_attribute currency_id) rest (s ∷ path)
          ]) ≡ true
          → Each ShowsIt (elim b [
            | true ↦ flat_map (λ d. at_end path (record { context = d; attributes = attributes es t cells d; text = element_text es cells d })
                (spots_below es inside path (holds_further es cells inside held d) d)) (emitted es t cells inside held c)
            | false ↦ spots_below es rest (s ∷ path) held c
          ])
      go inner later true m n =
          each-flat_map ShowsIt (λ d. at_end path (record { context = d; attributes = attributes es t cells d; text = element_text es cells d })
          (spots_below es inside path (holds_further es cells inside held d) d))
          (emitted es t cells inside held c) (all-each _ (emitted es t cells inside held c) (here inner path m n))
      go inner later false m n = later m n

module _ (es : List Entry) where
  abbrev currency_strings : Option Value → List (List ℕ)
  currency_strings o = values_named currency_id (elim o [ None ↦ [] | Some value ↦ attribute currency_id (spelled value) ∷ [] ])

  shown : (o : Option Value) → value_in es invoice_currency root_context ≡ o → Each (IsCurrency es) (currency_strings o)
  shown None e = tt
  shown (Some v) e = ((v, (e, refl)), tt)

  of-rule : (rule : Written) → is_in_invoice_currency rule ≡ true → (b : Bool)
      → Each (IsCurrency es) (values_named currency_id
      (elim b [
        | true ↦ elim (value_in es (currency_term rule) root_context) [ None ↦ [] | Some value ↦ attribute currency_id (spelled value) ∷ [] ]
        | false ↦ []
      ]))
  of-rule rule h true = subst (λ term. Each (IsCurrency es) (currency_strings (value_in es term root_context))) (sym (currency-of rule h))
      (shown (value_in es invoice_currency root_context) refl)
  of-rule rule h false = tt

  -- the cells at an element whose rows' currencies are that of the invoice
  of-cells : (t : Step) (d : Context) (cells : List Cell) →
      list_all (λ (r : Row). is_in_invoice_currency r.written) (map (λ (cell : Cell). cell.row) (filter is_at_element cells)) ≡ true
      → Each (IsCurrency es) (values_named currency_id (flat_map (currency_of_cell es t d) cells))
  of-cells t d [] h = tt
  of-cells t d (cell ∷ cells) h =
      subst (Each (IsCurrency es)) (sym (named-append currency_id (currency_of_cell es t d cell) (flat_map (currency_of_cell es t d) cells)))
      (go (of-cells t d cells) (is_at_element cell) h)
    where
      go : (list_all (λ (r : Row). is_in_invoice_currency r.written) (map (λ (x : Cell). x.row) (filter is_at_element cells)) ≡ true →
          Each (IsCurrency es) (values_named currency_id (flat_map (currency_of_cell es t d) cells)))
          → (b : Bool) → list_all (λ (r : Row). is_in_invoice_currency r.written)
          (map (λ (x : Cell). x.row) (if b then cell ∷ filter is_at_element cells else filter is_at_element cells)) ≡ true
          → Each (IsCurrency es) (values_named currency_id
          (elim (b && (shows_currency t cell.row && is_some (row_text cell.row es d))) [ true ↦ currency_attribute es cell.row | false ↦ [] ])
          ++ values_named currency_id (flat_map (currency_of_cell es t d) cells))
      go later true k =
          let w = both-true (is_in_invoice_currency cell.row.written)
          (list_all (λ (r : Row). is_in_invoice_currency r.written) (map (λ (x : Cell). x.row) (filter is_at_element cells))) k in
          each-append (IsCurrency es) _ _ (of-rule cell.row.written w.0 (shows_currency t cell.row && is_some (row_text cell.row es d))) (later w.1)
      go later false k = later k

  of-line : (t : Step) (d : Context) (cells : List Cell) →
      list_all (λ (r : Row). is_in_invoice_currency r.written) (map (λ (cell : Cell). cell.row) (filter is_at_element cells)) ≡ true
      → is_no_row (map (λ (cell : Cell). cell.row) (filter (λ (cell : Cell). is_attribute_named currency_id cell.row.leaf) cells)) ≡ true
      → Each (IsCurrency es) (values_named currency_id (attributes es t cells d))
  of-line t d cells h k =
      let none : values_named currency_id (flat_map (attribute_of_cell es d) cells) ≡ [] =
      cells-values currency_id es d cells ∙ ap (flat_map (own_strings es d))
      (no-row (map (λ (cell : Cell). cell.row) (filter (λ (cell : Cell). is_attribute_named currency_id cell.row.leaf) cells)) k) in
      subst (Each (IsCurrency es)) (sym (named-append currency_id (flat_map (currency_of_cell es t d) cells) (flat_map (attribute_of_cell es d) cells)))
      (each-append (IsCurrency es) (values_named currency_id (flat_map (currency_of_cell es t d) cells))
      (values_named currency_id (flat_map (attribute_of_cell es d) cells)) (of-cells t d cells h)
      (subst (Each (IsCurrency es)) (sym none) tt))

  abbrev AreCurrencies : Spot → Type 0
  AreCurrencies spot = Each (IsCurrency es) (values_named currency_id spot.attributes)

  pub currencies-shown : (plan : Plan) (path : List Step) (held : Bool) (c : Context) →
      list_all (λ (r : Row). is_in_invoice_currency r.written) (rows_at is_at_element plan path) ≡ true
      → is_no_row (rows_at (is_at_attribute currency_id) plan path) ≡ true →
      Each (λ (spot : Spot). Each (IsCurrency es) (values_named currency_id spot.attributes)) (spots_below es plan path held c)
  currencies-shown nothing path held c h k = tt
  currencies-shown (a_line t cells inside rest) [] held c h k = tt
  currencies-shown (a_line t cells inside rest) (s ∷ path) held c h k =
      go (λ q d. currencies-shown inside q (holds_further es cells inside held d) d) (currencies-shown rest (s ∷ path) held c) (same_step s t) h k
    where
      here : ((q : List Step) (d : Context) → list_all (λ (r : Row). is_in_invoice_currency r.written) (rows_at is_at_element inside q) ≡ true →
          is_no_row (rows_at (is_at_attribute currency_id) inside q) ≡ true
          → Each AreCurrencies (spots_below es inside q (holds_further es cells inside held d) d))
          → (path : List Step)
          → list_all (λ (r : Row). is_in_invoice_currency r.written)
          (elim path [
            | [] ↦ map (λ (cell : Cell). cell.row) (filter is_at_element cells)
            | (u ∷ further) ↦ rows_at is_at_element inside (u ∷ further)
          ]) ≡ true
          → is_no_row (elim path [
            | [] ↦ map (λ (cell : Cell). cell.row) (filter (λ (cell : Cell). is_attribute_named currency_id cell.row.leaf) cells)
            | (u ∷ further) ↦ rows_at (is_at_attribute currency_id) inside (u ∷ further)
          ]) ≡ true
          → (d : Context)
          → Each AreCurrencies (at_end path (record { context = d; attributes = attributes es t cells d; text = element_text es cells d })
          (spots_below es inside path (holds_further es cells inside held d) d))
      here inner [] m n d = (of-line t d cells m n, tt)
      here inner (u ∷ us) m n d = inner (u ∷ us) d m n

      go : ((q : List Step) (d : Context) → list_all (λ (r : Row). is_in_invoice_currency r.written) (rows_at is_at_element inside q) ≡ true →
          is_no_row (rows_at (is_at_attribute currency_id) inside q) ≡ true
          → Each AreCurrencies (spots_below es inside q (holds_further es cells inside held d) d))
          → (list_all (λ (r : Row). is_in_invoice_currency r.written) (rows_at is_at_element rest (s ∷ path)) ≡ true →
          is_no_row (rows_at (is_at_attribute currency_id) rest (s ∷ path)) ≡ true → Each AreCurrencies (spots_below es rest (s ∷ path) held c))
          → (b : Bool)
          → list_all (λ (r : Row). is_in_invoice_currency r.written) (elim b [
            | true ↦ elim path [
              | [] ↦ map (λ (cell : Cell). cell.row) (filter is_at_element cells)
              | (u ∷ further) ↦ rows_at is_at_element inside (u ∷ further)
            ]
            | false ↦ rows_at is_at_element rest (s ∷ path)
          ]) ≡ true
          → is_no_row (elim b [
            | true ↦ elim path [
              | [] ↦ map (λ (cell : Cell). cell.row) (filter (λ (cell : Cell). is_attribute_named currency_id cell.row.leaf) cells)
              | (u ∷ further) ↦ rows_at (is_at_attribute currency_id) inside (u ∷ further)
            ]
            | false ↦ rows_at (is_at_attribute currency_id) rest (s ∷ path)
          ]) ≡ true
          → Each AreCurrencies (elim b [
            | true ↦ flat_map (λ d. at_end path (record { context = d; attributes = attributes es t cells d; text = element_text es cells d })
                (spots_below es inside path (holds_further es cells inside held d) d)) (emitted es t cells inside held c)
            | false ↦ spots_below es rest (s ∷ path) held c
          ])
      go inner later true m n =
          each-flat_map AreCurrencies
          (λ d. at_end path (record { context = d; attributes = attributes es t cells d; text = element_text es cells d })
          (spots_below es inside path (holds_further es cells inside held d) d))
          (emitted es t cells inside held c) (all-each _ (emitted es t cells inside held c) (here inner path m n))
      go inner later false m n = later m n

  -- the first currency that isn't blank is that of the invoice, if there is one
  pub first-currency : (strings : List (List ℕ)) → Each (IsCurrency es) strings
      → (first_full (map trimmed strings) ≡ None) ⊎ ((v : Value) ×
      ((value_in es invoice_currency root_context ≡ Some v) × (first_full (map trimmed strings) ≡ Some (trimmed (spelled v)))))
  first-currency [] h = inl refl
  first-currency (string ∷ strings) h = go (is_blank (trimmed string)) (first-currency strings h.1)
    where
      go : (b : Bool) → (first_full (map trimmed strings) ≡ None) ⊎
          ((v : Value) × ((value_in es invoice_currency root_context ≡ Some v) × (first_full (map trimmed strings) ≡ Some (trimmed (spelled v)))))
          → ((elim b [ true ↦ first_full (map trimmed strings) | false ↦ Some (trimmed string) ]) ≡ None)
          ⊎ ((v : Value) × ((value_in es invoice_currency root_context ≡ Some v) ×
          ((elim b [ true ↦ first_full (map trimmed strings) | false ↦ Some (trimmed string) ]) ≡ Some (trimmed (spelled v)))))
      go true later = later
      go false later = inr (h.0.0, (h.0.1.0, ap (λ s. Some (trimmed s)) h.0.1.1))
