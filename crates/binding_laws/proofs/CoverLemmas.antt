-- Which rows pick values of their term alone, and those that they write: each pick says an entry, and each entry that is
-- written is picked.
use Rattle.std.proofs.Common.{◌≡◌, ℕ, suc, ◌+◌, Bool, true, false, ◌&&◌, ◌||◌, List, [], ◌∷◌, ◌++◌, map, filter, flat_map, Option, Some, None, ◌⊎◌, inl, inr}
use Rattle.std.proofs.Common.{refl, sym, ap, ◌∙◌, subst, arith}
use Rattle.std.specs.Prelude.{if◌then◌else◌, slice_get, is_some, is_none, option_map, find}
use Rattle.std.specs.List.{list_any, range_with_len}
use Rattle.std.specs.Str.{bytes_eq}
use Rattle.std.proofs.lemmas.Bool.{false≢true}
use Rattle.inv_base.specs.Tree.{Node, size, document_nodes}
use Rattle.term_table.specs.declared.groups.Group.{Group}
use Rattle.term_table.specs.declared.terms.Term.{Term}
use Rattle.term_table.specs.declared.contexts.Context.{Context}
use Rattle.term_table.specs.Contexts.{root_context, slot_group}
use Rattle.term_table.specs.SemanticModel.{same_term}
use Rattle.inv_terms.specs.declared.values.Value.{Value}
use Rattle.inv_terms.specs.declared.entries.Entry.{Entry}
use Rattle.inv_terms.specs.Values.{trimmed}
use Rattle.inv_terms.specs.Listing.{IsInvoice, Fits, value_in, is_at}
use Rattle.bind_rows.specs.declared.names.Leaf.{Leaf}
use Rattle.bind_rows.specs.declared.names.Leaf.TheVariants as leaves
use Rattle.bind_rows.specs.declared.rows.Content.TheVariants as contents
use Rattle.bind_rows.specs.declared.rows.Form.TheVariants as forms
use Rattle.bind_rows.specs.declared.rows.Step.{Step}
use Rattle.bind_rows.specs.declared.rows.Row.{Row}
use Rattle.bind_rows.specs.declared.rows.Placeholder.{Placeholder}
use Rattle.bind_rows.specs.declared.rows.Written.{Written}
use Rattle.bind_rows.specs.declared.rows.Written.TheVariants as written
use Rattle.bind_table.specs.Lines.{Plan, nothing, a_line, plan_of}
use Rattle.bind_meaning.specs.Values.{parsed, subject_code, form_for}
use Rattle.bind_meaning.specs.Elements.{number, string_at, is_full, attributes_named}
use Rattle.bind_meaning.specs.Picks.{Pick, has_term, has_any_term, rows_where, all_picked, is_placeholder, last_of, filled, leaves_of, picks_of_way, ways}
use Rattle.bind_meaning.specs.Picks.{nodes_picked}
use Rattle.bind_meaning.specs.Currencies.{Currencies, invoice_currency, accounting_currency, is_in_its_currency}
use Rattle.bind_meaning.specs.Writing.{slot_for, context_for, formed, if_so, if_due, value_for, writes_entry, term_text, filled as filled_text}
use Rattle.bind_meaning.specs.Trees.{spots, spots_of, or_here, written_lines, document_of, is_at_element, is_vat_total}
use Rattle.binding_laws.specs.Apart.{Known, unknown, stands_apart}
use Rattle.binding_laws.specs.Plain as plain
use Rattle.binding_laws.specs.Plain.{is_in_groups, groups_of, is_of_one_term, is_by_value, IsPlainThere, IsPlainAttributeThere, IsSpreadWith, IsSpread}
use Rattle.binding_laws.specs.Plain.{IsSpreadAttribute, rows_at, is_written_by}
use Rattle.binding_laws.specs.Covered.{beside_placeholder, is_accounting_rule}
use Rattle.binding_laws.specs.Written.{Spot, written_at, values_named}
use Rattle.binding_laws.proofs.TreeLemmas.{Each}
use Rattle.binding_laws.proofs.ListLemmas.{append-nil, both-true}
use Rattle.binding_laws.proofs.CellLemmas.{own_text, own_strings}
use Rattle.binding_laws.proofs.ReachLemmas.{Among, among-front, among-back, among-split, among-flat_map, among-filter, among-map, own-texts, Leads, reached}
use Rattle.binding_laws.proofs.KnownLemmas.{Knows, knows-nothing}
use Rattle.binding_laws.proofs.FormLemmas.{Laws, IsRead, code_said, IsBack, whole-back, back-as, back-full}
use Rattle.binding_laws.proofs.TakenLemmas.{one-untyped, as-modelled}
use Rattle.binding_laws.proofs.RowLemmas.{Place, places_at, places-spots, IsAt, ArePlaced, placed-known, placed-at, ends_at, spot-strings, string-ends}
use Rattle.binding_laws.proofs.ValueLemmas as values
use Rattle.binding_laws.proofs.PlainLemmas as plain_rows
use Rattle.binding_laws.proofs.PlainLemmas.{IsReachable, reaches, written-groups, no-slot, groups-are, fits-among, at-value, own-value, contexts, value_text}
use Rattle.binding_laws.proofs.PlainLemmas.{text-as, written-some, written-spot}
use Rattle.binding_laws.proofs.PartLemmas.{own-values, strings-as, full-texts}
use Rattle.binding_laws.proofs.CountLemmas.{each-among, to-range}
use Rattle.binding_laws.proofs.PlaceLemmas.{of-flat_map, of-map, of-filter-any, IsBetween, between}
use Rattle.binding_laws.proofs.SeatLemmas.{document-numbers}
use Rattle.binding_laws.proofs.SeatingLemmas.{IsPicked}
use Rattle.binding_laws.proofs.CurrencyLemmas.{IsOwnCurrency, AreOwn, currency_at, is_in}
use Rattle.binding_laws.proofs.TotalLemmas.{amount-of}

-- ---- lists

pub among-one : {X : Type 0} (x : X) (p : X → Bool) (y : X) → Among y (if p x then x ∷ [] else []) → (x ≡ y) × (p x ≡ true)
among-one x p y a = go (p x) refl a
  where
    go : (b : Bool) → p x ≡ b → Among y (if b then x ∷ [] else []) → (x ≡ y) × (p x ≡ true)
    go true e (inl s) = (s, e)
    go true e (inr z) = absurd z
    go false e a = absurd a

-- ---- terms that don't stand in the invoice

abbrev pub Absent : List Entry → Term → Type 0
Absent es term = (e : Entry) → Among e es → same_term e.term term ≡ false

find-none : (p : Entry → Bool) (xs : List Entry) → ((e : Entry) → Among e xs → p e ≡ false) → find p xs ≡ None
find-none p [] f = refl
find-none p (e ∷ xs) f = rw (f e (inl refl)) (find-none p xs (λ x a. f x (inr a)))

pub no-value : (es : List Entry) (term : Term) → Absent es term → (c : Context) → value_in es term c ≡ None
no-value es term f c = ap (option_map (λ (e : Entry). e.value))
    (find-none (is_at term c) es (λ e a. ap (λ b. b && Rattle.term_table.specs.Contexts.same_context e.context c) (f e a)))

-- ---- rules on the value and its scheme alone

no-total : (rule : Written) → is_by_value rule ≡ true → is_vat_total rule ≡ false
no-total written.Always h = refl
no-total written.Never h = refl
no-total written.IfIban h = refl
no-total written.IfNotIban h = refl
no-total written.IfScheme h = refl
no-total written.IfNoScheme h = refl
no-total (written.OrPlaceholder placeholder) h = refl
no-total written.VatTotal h = absurd (false≢true h)
no-total written.AccountingVatTotal h = absurd (false≢true h)

no-placeholder : (rule : Written) → is_by_value rule ≡ true → (placeholder : Placeholder) → rule ≡ written.OrPlaceholder placeholder → ⊥
no-placeholder rule h placeholder e = false≢true (sym (ap is_by_value e) ∙ h)

-- The list has at most one element.
abbrev pub is_short : {X : Type 0} → List X → Bool
is_short [] = true
is_short (x ∷ []) = true
is_short (x ∷ (y ∷ xs)) = false

short-filter : {X : Type 0} (p : X → Bool) (x : X) → is_short (filter p (x ∷ [])) ≡ true
short-filter {X = X} p x = go (p x)
  where
    go : (b : Bool) → is_short {X = X} (if b then x ∷ [] else []) ≡ true
    go true = refl
    go false = refl

module _ (law : Laws) (rows : List Row) (es : List Entry) (invoice : IsInvoice es) where
  abbrev pub nodes : List Node
  nodes = document_nodes (document_of rows es)

  -- the entry is what the string says, in the form of the row
  pub record SaysEntry (row : Row) (term : Term) (c : Context) (string : List ℕ) : Type 0 where
    pub e : Entry
    pub known : Among e es
    pub term_is : e.term ≡ term
    pub there : (g : Group) → row.outer ≡ Some g → e.context ≡ c
    pub string_is : string ≡ formed (form_for row.form term) es e.context e.value
    pub due : is_some (if_due row.written es term e.context (formed (form_for row.form term) es e.context e.value)) ≡ true
    pub outer : slot_group e.context.outer ≡ row.outer
    pub inner : slot_group e.context.inner ≡ row.inner

  pub record IsReached (row : Row) (term : Term) (e : Entry) : Type 0 where
    pub place : Place
    pub among : Among place (places_at rows es row.path)
    pub there : (g : Group) → row.outer ≡ Some g → e.context ≡ place.spot.context
    pub string : Among (formed (form_for row.form term) es e.context e.value) (spot-strings row.leaf place.spot)
    pub outer : slot_group e.context.outer ≡ row.outer
    pub inner : slot_group e.context.inner ≡ row.inner

  -- the row of a VAT total, whose amounts are in its currency
  pub record IsTotal (row : Row) : Type 0 where
    pub leaf : row.leaf ≡ leaves.Element
    pub own : (c : Currencies) → AreOwn rows es c → (place : Place) → Among place (places_at rows es row.path) → is_full place.spot.text ≡ true →
        is_in c row.written (currency_at place.spot) ≡ true
    pub shown : is_accounting_rule row.written ≡ false → (place : Place) → Among place (places_at rows es row.path) → IsOwnCurrency es (currency_at place.spot)

  -- an element at the end of the path of such a row, of which the other row writes an amount in its own currency
  pub record IsStrange (row : Row) (place : Place) : Type 0 where
    pub leaf : row.leaf ≡ leaves.Element
    pub out : (c : Currencies) → AreOwn rows es c → is_full place.spot.text ≡ true → is_in c row.written (currency_at place.spot) ≡ false
    pub no_money : (has_term invoice_currency row || has_term accounting_currency row) ≡ false
    pub beside : (term : Term) → Among term (flat_map beside_placeholder rows) → has_term term row ≡ false

  pub no-strange : (row : Row) (place : Place) → Among place [] ⊎ Among place [] → IsStrange row place
  no-strange row place (inl a) = absurd a
  no-strange row place (inr a) = absurd a

  -- a path that leads to its own elements alone
  pub only-own : (path : List Step) (them : List Place) → ArePlaced nodes es path them → ArePlaced nodes es path ([] ++ (them ++ []))
  only-own path them h = subst (ArePlaced nodes es path) (sym (append-nil them)) h

  pub own-among : (front own back : List Place) (place : Place) → Among place own → Among place (front ++ (own ++ back))
  own-among front own back place a = among-back place front (own ++ back) (among-front place own back a)

  -- the value stands, and no value of the term is the placeholder
  pub record IsKept (row : Row) (term : Term) (placeholder : Placeholder) : Type 0 where
    pub stands : is_some (value_in es term root_context) ≡ true
    pub other : (e : Entry) → Among e es → e.term ≡ term → bytes_eq (trimmed (formed (form_for row.form term) es e.context e.value)) placeholder.text ≡ false

  -- a spread row of the term, whose placeholder doesn't stand if it has one
  pub record IsSpreadHere (row : Row) (term : Term) : Type 0 where
    pub front : List Place
    pub back : List Place
    pub placed : ArePlaced nodes es row.path (front ++ (places_at rows es row.path ++ back))
    pub strange : (place : Place) → Among place front ⊎ Among place back → IsStrange row place
    pub own : rows_at is_at_element (plan_of rows) row.path ≡ row ∷ []
    pub leaf : row.leaf ≡ leaves.Element
    pub content : row.content ≡ contents.Term term
    pub form : is_of_one_term (form_for row.form term) ≡ true
    pub total : (is_vat_total row.written ≡ false) ⊎ IsTotal row
    pub unfilled : (placeholder : Placeholder) → row.written ≡ written.OrPlaceholder placeholder → Absent es placeholder.beside ⊎ IsKept row term placeholder
    pub outer : row.outer ≡ None
    pub inner : row.inner ≡ None
    pub context : plain.stands_there term None None ≡ true

  -- Where the row writes subject codes in front of its values, no row has their term.
  abbrev pub HasCodes : Row → Term → Type 0
  HasCodes row term = form_for row.form term ≡ forms.CodedNote → list_any (has_term subject_code) rows ≡ false

  -- a row that picks values of its term alone, and those that it writes; its path may lead to the elements of another row
  -- too, before its own or behind them
  pub record Covers (row : Row) (term : Term) : Type 0 where
    pub front : List Place
    pub back : List Place
    pub placed : ArePlaced nodes es row.path (front ++ (places_at rows es row.path ++ back))
    pub strange : (place : Place) → Among place front ⊎ Among place back → IsStrange row place
    pub content : row.content ≡ contents.Term term
    pub total : (is_vat_total row.written ≡ false) ⊎ IsTotal row
    pub unfilled : (placeholder : Placeholder) → row.written ≡ written.OrPlaceholder placeholder → Absent es placeholder.beside ⊎ IsKept row term placeholder
    pub through : (g : Group) → row.outer ≡ Some g → groups_of row.path ≡ plain.listed row.outer ++ plain.listed row.inner
    pub nested : (is_some row.outer || is_none row.inner) ≡ true
    pub single : (place : Place) → Among place (places_at rows es row.path) → is_short (spot-strings row.leaf place.spot) ≡ true
    pub codes : HasCodes row term
    pub writes : Context → Bool
    pub says : (place : Place) → Among place (places_at rows es row.path) → (string : List ℕ) → Among string (spot-strings row.leaf place.spot) →
        SaysEntry row term place.spot.context string
    pub reaches : (e : Entry) → Among e es → e.term ≡ term → IsBack es (form_for row.form term) e.context e.value → writes e.context ≡ true →
        IsReached row term e

  -- what is written of a value is what the row's rule lets pass
  due-of : (row : Row) (term : Term) (content : row.content ≡ contents.Term term) (unfilled : (x : Context) → values.IsUnfilled es row term (context_for row x))
      (d c : Context) (v : Value) → context_for row d ≡ c → value_in es term c ≡ Some v
      → writes_entry row es d ≡ true → is_some (if_due row.written es term c (formed (form_for row.form term) es c v)) ≡ true
  due-of row term content unfilled d c v at is w =
      subst (λ x. is_some (if_due row.written es term x (formed (form_for row.form term) es x v)) ≡ true) at
      (values.due-as es row term content unfilled d v (ap (value_in es term) at ∙ is) w)

  -- a row that is always written lets each value pass
  due-always : (row : Row) (term : Term) → row.written ≡ written.Always → (c : Context) (v : Value) →
      is_some (if_due row.written es term c (formed (form_for row.form term) es c v)) ≡ true
  due-always row term always c v = ap (λ rule. is_some (if_due rule es term c (formed (form_for row.form term) es c v))) always

  pub fact-at : (path : List Step) (P : Spot → Type 0) → Each P (written_at rows es path) → (place : Place) → Among place (places_at rows es path) →
      P place.spot
  fact-at path P h place a =
      each-among P place.spot (written_at rows es path) h
      (subst (Among place.spot) (places-spots es (plan_of rows) path false root_context 1) (among-map (λ (q : Place). q.spot) place (places_at rows es path) a))

  -- the place at an element of a context
  place-in : (path : List Step) (c : Context) → Among c (map (λ (spot : Spot). spot.context) (written_at rows es path)) → (place : Place) ×
      (Among place (places_at rows es path) × (place.spot.context ≡ c))
  place-in path c a =
      let w = of-map (λ (spot : Spot). spot.context) c (written_at rows es path) a in
      let v = of-map (λ (q : Place). q.spot) w.0 (places_at rows es path)
      (subst (Among w.0) (sym (places-spots es (plan_of rows) path false root_context 1)) w.1.0) in
      (v.0, (v.1.0, ap (λ (spot : Spot). spot.context) v.1.1 ∙ w.1.1))

  pub full-string : (row : Row) (term : Term) (e : Entry) → Among e es → e.term ≡ term → IsBack es (form_for row.form term) e.context e.value →
      is_full (formed (form_for row.form term) es e.context e.value) ≡ true
  full-string row term e a t back =
      back-full law row.form term es e.context e.value back (subst (λ x. Fits x e.value) t (fits-among law es invoice term e es invoice.fit a))

  -- ---- at elements

  -- an element has one string, unless it is blank
  short-at : (row : Row) → row.leaf ≡ leaves.Element → (place : Place) → is_short (spot-strings row.leaf place.spot) ≡ true
  unfolding spot-strings
  short-at row leaf place = ap (λ l. is_short (spot-strings l place.spot)) leaf ∙ short-filter is_full place.spot.text

  pub plain-covers : (row : Row) (term : Term) → IsPlainThere rows row term → ArePlaced nodes es row.path (places_at rows es row.path) → HasCodes row term →
      Covers row term
  unfolding spot-strings
  plain-covers row term p placed codes = record {
    front = [];
    back = [];
    placed = only-own row.path (places_at rows es row.path) placed;
    strange = no-strange row;
    content = p.content;
    total = inl (no-total row.written p.by_value);
    unfilled = λ placeholder e. absurd (no-placeholder row.written p.by_value placeholder e);
    through = λ g o. p.through;
    nested = p.nested;
    single = λ place a. short-at row p.leaf place;
    codes = codes;
    writes = λ c. is_written_by row term es c;
    says = says_so;
    reaches = reaches_it;
  }
    where
      text-at : (place : Place) → Among place (places_at rows es row.path)
          → place.spot.text ≡ (elim (is_written_by row term es place.spot.context) [
            | true ↦ value_text law rows es invoice row term p place.spot.context
                (value_in es term place.spot.context)
            | false ↦ []
          ])
      text-at place a =
          fact-at row.path (λ (spot : Spot). spot.text ≡ own_text es spot.context row)
          (own-texts es row (plan_of rows) row.path false root_context p.own) place a
          ∙ text-as law rows es invoice row term p place.spot.context
          (fact-at row.path (λ (spot : Spot). context_for row spot.context ≡ spot.context) (contexts law rows es invoice row term p).own place a)
          (fact-at row.path (λ (spot : Spot). IsReachable row.outer row.inner spot.context) (reaches law rows es invoice row term p) place a)

      element-strings : (spot : Spot) (string : List ℕ) → Among string (spot-strings row.leaf spot) → (spot.text ≡ string) × (is_full spot.text ≡ true)
      element-strings spot string a = among-one spot.text is_full string (subst (λ leaf. Among string (spot-strings leaf spot)) p.leaf a)

      strings-element : (spot : Spot) → is_full spot.text ≡ true → Among spot.text (spot-strings row.leaf spot)
      strings-element spot full = subst (λ leaf. Among spot.text (spot-strings leaf spot)) (sym p.leaf)
          (subst (λ b. Among spot.text (if b then spot.text ∷ [] else [])) (sym full) (inl refl))

      says_so : (place : Place) → Among place (places_at rows es row.path) → (string : List ℕ) → Among string (spot-strings row.leaf place.spot) →
          SaysEntry row term place.spot.context string
      says_so place a string b = go (is_written_by row term es place.spot.context) refl (text-at place a) (element-strings place.spot string b)
        where
          go : (x : Bool) → is_written_by row term es place.spot.context ≡ x
              → place.spot.text ≡ (elim x [
                | true ↦ value_text law rows es invoice row term p place.spot.context (value_in es term place.spot.context)
                | false ↦ []
              ])
              → (place.spot.text ≡ string) × (is_full place.spot.text ≡ true) → SaysEntry row term place.spot.context string
          go true k text w =
              let v = written-some law rows es invoice row term p place.spot.context k in
              let e : Entry = record { context = place.spot.context; term = term; value = v.0 } in
              let known : Among e es = at-value law es invoice term place.spot.context v.0 v.1 in
              let at = written-groups law rows es invoice row term p place.spot.context k in
              record {
                e = e;
                known = known;
                term_is = refl;
                there = λ g o. refl;
                string_is = sym w.0 ∙ (text ∙ ap (value_text law rows es invoice row term p place.spot.context) v.1);
                due = due-of row term p.content (values.by-value es row term p.by_value) place.spot.context place.spot.context v.0
                    (fact-at row.path (λ (spot : Spot). context_for row spot.context ≡ spot.context) (contexts law rows es invoice row term p).own place a) v.1
                    (both-true (is_some (value_in es term place.spot.context)) (writes_entry row es place.spot.context)
                    (both-true (is_in_groups row place.spot.context) _ k).1).1;
                outer = at.0;
                inner = at.1;
              }
          go false k text w = absurd (false≢true (sym (ap is_full text) ∙ w.1))

      reaches_it : (e : Entry) → Among e es → e.term ≡ term → IsBack es (form_for row.form term) e.context e.value → is_written_by row term es e.context ≡ true
          → IsReached row term e
      reaches_it e a t back w =
          let q = place-in row.path e.context (written-spot law rows es invoice row term p e.context w) in
          let value : value_in es term e.context ≡ Some e.value = ap (λ x. value_in es x e.context) (sym t) ∙ own-value es e invoice.listed a in
          let text : q.0.spot.text ≡ formed (form_for row.form term) es e.context e.value =
          text-at q.0 q.1.0
          ∙ (ap (λ c. elim (is_written_by row term es c) [ true ↦ value_text law rows es invoice row term p c (value_in es term c) | false ↦ [] ]) q.1.1
          ∙ (ap (λ b. elim b [ true ↦ value_text law rows es invoice row term p e.context (value_in es term e.context) | false ↦ [] ]) w ∙
          ap (value_text law rows es invoice row term p e.context) value)) in
          let at = written-groups law rows es invoice row term p e.context w in
          record {
            place = q.0;
            among = q.1.0;
            there = λ g o. sym q.1.1;
            string = subst (λ s. Among s (spot-strings row.leaf q.0.spot)) text (strings-element q.0.spot (ap is_full text ∙ full-string row term e a t back));
            outer = at.0;
            inner = at.1;
          }

  pub plain-writes : (row : Row) (term : Term) (p : IsPlainThere rows row term) (placed : ArePlaced nodes es row.path (places_at rows es row.path))
      (codes : HasCodes row term) (c : Context) → is_written_by row term es c ≡ true → (plain-covers row term p placed codes).writes c ≡ true
  unfolding plain-covers
  plain-writes row term p placed codes c h = h

  -- ---- at elements in which a value of the whole invoice is written

  -- the context of such a row lies in no group
  pub cut-at-root : (row : Row) → row.outer ≡ None → row.inner ≡ None → (d : Context) → context_for row d ≡ root_context
  cut-at-root row o i d = λ z. record { outer = slot_for (o z) d.outer; inner = slot_for (i z) d.inner }

  some-value : (o : Option Value) → is_some o ≡ true → (v : Value) × (o ≡ Some v)
  some-value None h = absurd (false≢true h)
  some-value (Some v) h = (v, refl)

  -- the context to which one comes first
  first-of : (c : Context) (ds : List Context) → (d : Context) × Among d (or_here c ds)
  first-of c [] = (c, inl refl)
  first-of c (d ∷ ds) = (d, inl refl)

  first-spot : (o : Option Group) (c : Context) → (d : Context) × Among d (spots es c o)
  first-spot None c = (c, inl refl)
  first-spot (Some g) c = first-of c (spots_of es c g)

  first-way : (path : List Step) (c : Context) → (d : Context) × Leads es path c d
  first-way [] c = (c, refl)
  first-way (s ∷ path) c =
      let b = first-spot s.group c in
      let w = first-way path b.0 in
      (w.0, (b.0, b.1, w.1))

  -- no placeholder stands in place of its value
  spread-unfilled : (row : Row) (term : Term) → IsSpreadHere row term → (d : Context) → values.IsUnfilled es row term (context_for row d)
  spread-unfilled row term p d = go row.written refl
    where
      go : (rule : Written) → row.written ≡ rule → (filled_text rule es (context_for row d) ≡ None) ⊎
          (is_some (value_for row es term (context_for row d)) ≡ true)
      go written.Always e = inl refl
      go written.Never e = inl refl
      go written.IfIban e = inl refl
      go written.IfNotIban e = inl refl
      go written.IfScheme e = inl refl
      go written.IfNoScheme e = inl refl
      go (written.OrPlaceholder placeholder) e = elim (p.unfilled placeholder e) [
        | inl absent ↦ inl (ap (λ o. if_so (is_some o) placeholder.text) (no-value es placeholder.beside absent (context_for row d)))
        | inr kept ↦ inr (ap is_some (as-modelled row es term (context_for row d) (one-untyped (form_for row.form term) p.form))
            ∙ (ap (λ c. is_some (value_in es term c)) (cut-at-root row p.outer p.inner d) ∙ kept.stands))
      ]
      go written.VatTotal e = inl refl
      go written.AccountingVatTotal e = inl refl

  pub spread-known : (known : Known) → Knows known es root_context → (row : Row) (term : Term) → IsSpreadWith known rows row term → IsSpreadHere row term
  spread-known known knows row term p = record {
    front = [];
    back = [];
    placed = only-own row.path (places_at rows es row.path) (placed-known known rows es row.path knows p.apart);
    strange = no-strange row;
    own = p.own;
    leaf = p.leaf;
    content = p.content;
    form = p.form;
    total = inl (no-total row.written p.by_value);
    unfilled = λ placeholder e. absurd (no-placeholder row.written p.by_value placeholder e);
    outer = p.outer;
    inner = p.inner;
    context = p.context;
  }

  pub spread-here : (row : Row) (term : Term) → IsSpread rows row term → IsSpreadHere row term
  spread-here row term p = spread-known unknown (knows-nothing es root_context) row term p

  -- what a spread row writes at its elements
  spread-text : (row : Row) (term : Term) (p : IsSpreadHere row term) (place : Place) → Among place (places_at rows es row.path)
      → place.spot.text
      ≡ (elim (is_some (value_in es term root_context) && writes_entry row es place.spot.context) [
        | true ↦ values.value_text es row term p.content (spread-unfilled row term p) root_context (value_in es term root_context)
        | false ↦ []
      ])
  spread-text row term p place a =
      fact-at row.path (λ (spot : Spot). spot.text ≡ own_text es spot.context row) (own-texts es row (plan_of rows) row.path false root_context p.own) place a
      ∙ (values.text-as es row term p.content (spread-unfilled row term p) place.spot.context
      ∙ ap (λ c. elim (is_some (value_in es term c) && writes_entry row es place.spot.context) [
        | true ↦ values.value_text es row term p.content
            (spread-unfilled row term p) c (value_in es term c)
        | false ↦ []
      ])
      (cut-at-root row p.outer p.inner place.spot.context))

  -- an element at which it writes its value
  record IsWrittenAt (row : Row) (c : Context) : Type 0 where
    place : Place
    among : Among place (places_at rows es row.path)
    writes : writes_entry row es place.spot.context ≡ true

  spread-place : (row : Row) (term : Term) → IsSpreadHere row term → (c : Context) → writes_entry row es c ≡ true → IsWrittenAt row c
  spread-place row term p c w =
      let way = first-way row.path root_context in
      let same : writes_entry row es way.0 ≡ writes_entry row es c =
      ap (λ x. is_some (row_text_in x)) (cut-at-root row p.outer p.inner way.0 ∙ sym (cut-at-root row p.outer p.inner c)) in
      let q = place-in row.path way.0 (there row.path p.own way.0 way.1 (same ∙ w)) in
      record { place = q.0; among = q.1.0; writes = ap (writes_entry row es) q.1.1 ∙ (same ∙ w) }
    where
      row_text_in : Context → Option (List ℕ)
      row_text_in x = elim row.content [ (contents.Term t) ↦ term_text row es t x | (contents.Constant text) ↦ None ]

      there : (path : List Step) → rows_at is_at_element (plan_of rows) path ≡ row ∷ [] → (d : Context) → Leads es path root_context d →
          writes_entry row es d ≡ true → Among d (map (λ (spot : Spot). spot.context) (written_at rows es path))
      there [] own d l k = absurd (nothing-at (plan_of rows) own)
        where
          nothing-at : (plan : Plan) → rows_at is_at_element plan [] ≡ row ∷ [] → ⊥
          nothing-at nothing z = let y : ◌≡◌ {A = List Row} [] (row ∷ []) = z in cc
          nothing-at (a_line t cells inside rest) z = let y : ◌≡◌ {A = List Row} [] (row ∷ []) = z in cc
      there (s ∷ path) own d l k = (reached es row (plan_of rows) s path false root_context d own l k).1

  -- a value of the invoice itself
  pub root-entry : (term : Term) → plain.stands_there term None None ≡ true → (e : Entry) → Among e es → e.term ≡ term → e.context ≡ root_context
  root-entry term stands e a t =
      let at = groups-are e term None None t (plain_rows.placed-at law es invoice term e a) stands in
      (λ i. record { outer = (no-slot e.context.outer at.0) i; inner = (no-slot e.context.inner at.1) i })

  pub root-value : (e : Entry) → Among e es → e.context ≡ root_context → (term : Term) → e.term ≡ term → value_in es term root_context ≡ Some e.value
  root-value e a root term t = ap (value_in es term) (sym root) ∙ (ap (λ x. value_in es x e.context) (sym t) ∙ own-value es e invoice.listed a)

  pair-of : {x y : Bool} → x ≡ true → y ≡ true → (x && y) ≡ true
  pair-of e f = rw (e, f) refl

  pub spread-covers : (row : Row) (term : Term) → IsSpreadHere row term → Covers row term
  unfolding spot-strings
  spread-covers row term p = record {
    front = p.front;
    back = p.back;
    placed = p.placed;
    strange = p.strange;
    content = p.content;
    total = p.total;
    unfilled = p.unfilled;
    through = λ g o. absurd (let z : ◌≡◌ {A = Option Group} None (Some g) = sym p.outer ∙ o in cc);
    nested = (λ i. is_some (p.outer i) || is_none (p.inner i));
    single = λ place a. short-at row p.leaf place;
    codes = λ e. absurd (false≢true (sym (ap is_of_one_term e) ∙ p.form));
    writes = λ c. is_written_by row term es c;
    says = says_so;
    reaches = reaches_it;
  }
    where
      element-strings : (spot : Spot) (string : List ℕ) → Among string (spot-strings row.leaf spot) → (spot.text ≡ string) × (is_full spot.text ≡ true)
      element-strings spot string a = among-one spot.text is_full string (subst (λ leaf. Among string (spot-strings leaf spot)) p.leaf a)

      strings-element : (spot : Spot) → is_full spot.text ≡ true → Among spot.text (spot-strings row.leaf spot)
      strings-element spot full = subst (λ leaf. Among spot.text (spot-strings leaf spot)) (sym p.leaf)
          (subst (λ b. Among spot.text (if b then spot.text ∷ [] else [])) (sym full) (inl refl))

      says_so : (place : Place) → Among place (places_at rows es row.path) → (string : List ℕ) → Among string (spot-strings row.leaf place.spot) →
          SaysEntry row term place.spot.context string
      says_so place a string b = go (is_some (value_in es term root_context) && writes_entry row es place.spot.context) refl (spread-text row term p place a)
          (element-strings place.spot string b)
        where
          go : (x : Bool) → (is_some (value_in es term root_context) && writes_entry row es place.spot.context) ≡ x
              → place.spot.text ≡ (elim x [
                | true ↦ values.value_text es row term p.content (spread-unfilled row term p) root_context
                    (value_in es term root_context)
                | false ↦ []
              ])
              → (place.spot.text ≡ string) × (is_full place.spot.text ≡ true) → SaysEntry row term place.spot.context string
          go true k text w =
              let both = both-true (is_some (value_in es term root_context)) (writes_entry row es place.spot.context) k in
              let v = some-value (value_in es term root_context) both.0 in
              let e : Entry = record { context = root_context; term = term; value = v.0 } in
              record {
                e = e;
                known = at-value law es invoice term root_context v.0 v.1;
                term_is = refl;
                there = λ g o. absurd (let z : ◌≡◌ {A = Option Group} None (Some g) = sym p.outer ∙ o in cc);
                string_is = sym w.0 ∙ (text ∙ ap (values.value_text es row term p.content (spread-unfilled row term p) root_context) v.1);
                due = due-of row term p.content (spread-unfilled row term p) place.spot.context root_context v.0
                    (cut-at-root row p.outer p.inner place.spot.context) v.1 both.1;
                outer = sym p.outer;
                inner = sym p.inner;
              }
          go false k text w = absurd (false≢true (sym (ap is_full text) ∙ w.1))

      reaches_it : (e : Entry) → Among e es → e.term ≡ term → IsBack es (form_for row.form term) e.context e.value → is_written_by row term es e.context ≡ true
          → IsReached row term e
      reaches_it e a t back w =
          let root : e.context ≡ root_context = root-entry term p.context e a t in
          let value : value_in es term root_context ≡ Some e.value = root-value e a root term t in
          let q = spread-place row term p e.context (both-true (is_some (value_in es term e.context)) (writes_entry row es e.context)
          (both-true (is_in_groups row e.context) _ w).1).1 in
          let text : q.place.spot.text ≡ formed (form_for row.form term) es e.context e.value =
          spread-text row term p q.place q.among
          ∙ (ap (λ b. elim b [
            | true ↦ values.value_text es row term p.content (spread-unfilled row term p) root_context (value_in es term root_context)
            | false ↦ []
          ]) (pair-of (ap is_some value) q.writes)
          ∙ (ap (values.value_text es row term p.content (spread-unfilled row term p) root_context) value ∙
          ap (λ c. formed (form_for row.form term) es c e.value) (sym root))) in
          record {
            place = q.place;
            among = q.among;
            there = λ g o. absurd (let z : ◌≡◌ {A = Option Group} None (Some g) = sym p.outer ∙ o in cc);
            string = subst (λ s. Among s (spot-strings row.leaf q.place.spot)) text
                (strings-element q.place.spot (ap is_full text ∙ full-string row term e a t back));
            outer = ap (λ (c : Context). slot_group c.outer) root ∙ sym p.outer;
            inner = ap (λ (c : Context). slot_group c.inner) root ∙ sym p.inner;
          }

  pub spread-writes : (row : Row) (term : Term) (p : IsSpreadHere row term) (c : Context) → is_written_by row term es c ≡ true →
      (spread-covers row term p).writes c ≡ true
  unfolding spread-covers
  spread-writes row term p c h = h

  -- ---- at attributes

  abbrev pub value_strings_of : Row → Term → Context → Option Value → List (List ℕ)
  value_strings_of row term c o = elim o [ None ↦ [] | Some value ↦ formed (form_for row.form term) es c value ∷ [] ]

  -- an attribute that one row writes has one string
  short-beside : (row : Row) (term : Term) (local : List ℕ) → row.leaf ≡ leaves.Attribute local → (place : Place) (c : Context) →
      values_named local place.spot.attributes ≡ value_strings_of row term c (value_in es term c)
      → is_short (spot-strings row.leaf place.spot) ≡ true
  unfolding spot-strings
  short-beside row term local leaf place c values_are =
      ap (λ l. is_short (spot-strings l place.spot)) leaf
      ∙ (ap (λ l. is_short (elim (is_full place.spot.text) [ true ↦ filter is_full l | false ↦ [] ])) values_are ∙
      go (is_full place.spot.text) (value_in es term c))
    where
      go : (b : Bool) (o : Option Value) → is_short (elim b [ true ↦ filter is_full (value_strings_of row term c o) | false ↦ [] ]) ≡ true
      go true None = refl
      go true (Some v) = short-filter is_full (formed (form_for row.form term) es c v)
      go false o = refl

  pub part-values : (row : Row) (term : Term) (main : Row) (main_term : Term) (p : IsPlainAttributeThere rows row term main main_term) (place : Place) →
      Among place (places_at rows es main.path)
      → values_named p.local place.spot.attributes ≡ value_strings_of row term place.spot.context (value_in es term place.spot.context)
  part-values row term main main_term p place a =
      fact-at main.path (λ (spot : Spot). values_named p.local spot.attributes ≡ own_strings es spot.context row)
      (own-values p.local p.other es row (plan_of rows) main.path false root_context p.own) place a
      ∙ (strings-as law rows es invoice row term main main_term p place.spot.context
      ∙ ap (λ c. value_strings_of row term c (value_in es term c))
      (fact-at main.path (λ (spot : Spot). context_for main spot.context ≡ spot.context) (contexts law rows es invoice main main_term p.beside).own place a))

  pub attribute-covers : (row : Row) (term : Term) (main : Row) (main_term : Term) → IsPlainAttributeThere rows row term main main_term →
      ArePlaced nodes es main.path (places_at rows es main.path) → Covers row term
  unfolding spot-strings
  attribute-covers row term main main_term p placed = record {
    front = [];
    back = [];
    placed = only-own row.path (places_at rows es row.path) (subst (λ path. ArePlaced nodes es path (places_at rows es path)) (sym p.path) placed);
    strange = no-strange row;
    content = p.content;
    total = inl (ap is_vat_total p.written);
    unfilled = λ placeholder e. absurd (no-placeholder row.written (ap is_by_value p.written) placeholder e);
    through = λ g o. ap groups_of p.path ∙ (p.beside.through ∙ (λ i. plain.listed ((sym p.outer) i) ++ plain.listed ((sym p.inner) i)));
    nested = (λ i. is_some (p.outer i) || is_none (p.inner i)) ∙ p.beside.nested;
    single = λ place a. short-beside row term p.local p.leaf place place.spot.context (values-at place a);
    codes = λ e. absurd (false≢true (sym (ap plain.is_whole e) ∙ p.form));
    writes = λ c. is_written_by main main_term es c;
    says = says_so;
    reaches = reaches_it;
  }
    where
      at-main : (place : Place) → Among place (places_at rows es row.path) → Among place (places_at rows es main.path)
      at-main place a = subst (λ q. Among place (places_at rows es q)) p.path a

      full-at : (place : Place) → Among place (places_at rows es row.path) → is_full place.spot.text ≡ is_written_by main main_term es place.spot.context
      full-at place a = fact-at main.path (λ (spot : Spot). is_full spot.text ≡ is_written_by main main_term es spot.context)
          (full-texts law rows es invoice row term main main_term p) place (at-main place a)

      values-at : (place : Place) → Among place (places_at rows es row.path) →
          values_named p.local place.spot.attributes ≡ value_strings_of row term place.spot.context (value_in es term place.spot.context)
      values-at place a = part-values row term main main_term p place (at-main place a)

      of-strings : (spot : Spot) (string : List ℕ) → Among string (spot-strings row.leaf spot) → (is_full spot.text ≡ true) ×
          Among string (values_named p.local spot.attributes)
      of-strings spot string a = go (is_full spot.text) refl (subst (λ leaf. Among string (spot-strings leaf spot)) p.leaf a)
        where
          go : (b : Bool) → is_full spot.text ≡ b → Among string (elim b [ true ↦ filter is_full (values_named p.local spot.attributes) | false ↦ [] ]) →
              (is_full spot.text ≡ true) × Among string (values_named p.local spot.attributes)
          go true e m = (e, (of-filter-any is_full string (values_named p.local spot.attributes) m).0)
          go false e m = absurd m

      to-strings : (spot : Spot) (string : List ℕ) → is_full spot.text ≡ true → is_full string ≡ true → Among string (values_named p.local spot.attributes) →
          Among string (spot-strings row.leaf spot)
      to-strings spot string full whole a =
          subst (λ leaf. Among string (spot-strings leaf spot)) (sym p.leaf)
          (subst (λ b. Among string (elim b [ true ↦ filter is_full (values_named p.local spot.attributes) | false ↦ [] ])) (sym full)
          (among-filter is_full string (values_named p.local spot.attributes) whole a))

      main-groups : (c : Context) → is_written_by main main_term es c ≡ true → (slot_group c.outer ≡ row.outer) × (slot_group c.inner ≡ row.inner)
      main-groups c w =
          let at = written-groups law rows es invoice main main_term p.beside c w in
          (at.0 ∙ sym p.outer, at.1 ∙ sym p.inner)

      says_so : (place : Place) → Among place (places_at rows es row.path) → (string : List ℕ) → Among string (spot-strings row.leaf place.spot) →
          SaysEntry row term place.spot.context string
      says_so place a string b =
          let w = of-strings place.spot string b in
          let at = main-groups place.spot.context (sym (full-at place a) ∙ w.0) in
          go at (value_in es term place.spot.context) refl (subst (Among string) (values-at place a) w.1)
        where
          go : (slot_group place.spot.context.outer ≡ row.outer) × (slot_group place.spot.context.inner ≡ row.inner) → (o : Option Value) →
              value_in es term place.spot.context ≡ o → Among string (value_strings_of row term place.spot.context o)
              → SaysEntry row term place.spot.context string
          go at None k m = absurd m
          go at (Some v) k (inl s) = record {
            e = record { context = place.spot.context; term = term; value = v };
            known = at-value law es invoice term place.spot.context v k;
            term_is = refl;
            there = λ g o. refl;
            string_is = sym s;
            due = due-always row term p.written place.spot.context v;
            outer = at.0;
            inner = at.1;
          }
          go at (Some v) k (inr m) = absurd m

      reaches_it : (e : Entry) → Among e es → e.term ≡ term → IsBack es (form_for row.form term) e.context e.value →
          is_written_by main main_term es e.context ≡ true → IsReached row term e
      reaches_it e a t back w =
          let q = place-in main.path e.context (written-spot law rows es invoice main main_term p.beside e.context w) in
          let there : Among q.0 (places_at rows es row.path) = subst (λ x. Among q.0 (places_at rows es x)) (sym p.path) q.1.0 in
          let value : value_in es term e.context ≡ Some e.value = ap (λ x. value_in es x e.context) (sym t) ∙ own-value es e invoice.listed a in
          let values : values_named p.local q.0.spot.attributes ≡ formed (form_for row.form term) es e.context e.value ∷ [] =
          values-at q.0 there ∙ (ap (λ c. value_strings_of row term c (value_in es term c)) q.1.1 ∙ ap (value_strings_of row term e.context) value) in
          let at = main-groups e.context w in
          record {
            place = q.0;
            among = there;
            there = λ g o. sym q.1.1;
            string = to-strings q.0.spot (formed (form_for row.form term) es e.context e.value)
                (full-at q.0 there ∙ (ap (λ c. is_written_by main main_term es c) q.1.1 ∙ w)) (full-string row term e a t back)
                (subst (Among (formed (form_for row.form term) es e.context e.value)) (sym values) (inl refl));
            outer = at.0;
            inner = at.1;
          }

  pub attribute-writes : (row : Row) (term : Term) (main : Row) (main_term : Term) (p : IsPlainAttributeThere rows row term main main_term)
      (placed : ArePlaced nodes es main.path (places_at rows es main.path)) (c : Context)
      → is_written_by main main_term es c ≡ true → (attribute-covers row term main main_term p placed).writes c ≡ true
  unfolding attribute-covers
  attribute-writes row term main main_term p placed c h = h

  -- ---- at attributes of elements in which a value of the whole invoice is written

  pub spread-attribute-covers : (row : Row) (term : Term) (main : Row) (main_term : Term) → IsSpreadAttribute rows row term main main_term → Covers row term
  unfolding spot-strings
  spread-attribute-covers row term main main_term p = record {
    front = [];
    back = [];
    placed = only-own row.path (places_at rows es row.path) (placed-at rows es row.path (ap (stands_apart rows) p.path ∙ p.beside.apart));
    strange = no-strange row;
    content = p.content;
    total = inl (ap is_vat_total p.written);
    unfilled = λ placeholder e. absurd (no-placeholder row.written (ap is_by_value p.written) placeholder e);
    through = λ g o. absurd (let z : ◌≡◌ {A = Option Group} None (Some g) = sym p.outer ∙ o in cc);
    nested = (λ i. is_some (p.outer i) || is_none (p.inner i));
    single = λ place a. short-beside row term p.local p.leaf place root_context (values-at place a);
    codes = λ e. absurd (false≢true (sym (ap plain.is_whole e) ∙ p.form));
    writes = λ c. is_written_by main main_term es c;
    says = says_so;
    reaches = reaches_it;
  }
    where
      at-main : (place : Place) → Among place (places_at rows es row.path) → Among place (places_at rows es main.path)
      at-main place a = subst (λ q. Among place (places_at rows es q)) p.path a

      values-at : (place : Place) → Among place (places_at rows es row.path) →
          values_named p.local place.spot.attributes ≡ value_strings_of row term root_context (value_in es term root_context)
      values-at place a =
          fact-at main.path (λ (spot : Spot). values_named p.local spot.attributes ≡ own_strings es spot.context row)
          (own-values p.local p.other es row (plan_of rows) main.path false root_context p.own) place (at-main place a)
          ∙ (values.strings-as es row term p.content (values.by-value es row term (ap is_by_value p.written)) p.written
          (one-untyped (form_for row.form term) p.one_term) place.spot.context
          ∙ ap (λ c. value_strings_of row term c (value_in es term c)) (cut-at-root row p.outer p.inner place.spot.context))

      full-main : (place : Place) → Among place (places_at rows es row.path) → (v : Value) → value_in es main_term root_context ≡ Some v →
          writes_entry main es place.spot.context ≡ true → is_full place.spot.text ≡ true
      full-main place a v e w =
          let x : Entry = record { context = root_context; term = main_term; value = v } in
          ap is_full (spread-text main main_term (spread-here main main_term p.beside) place (at-main place a)
          ∙ (ap (λ b. elim b [
            | true ↦ values.value_text es main main_term p.beside.content (values.by-value es main main_term p.beside.by_value) root_context
                (value_in es main_term root_context)
            | false ↦ []
          ]) (pair-of (ap is_some e) w)
          ∙ ap (values.value_text es main main_term p.beside.content (values.by-value es main main_term p.beside.by_value) root_context) e))
          ∙ full-string main main_term x (at-value law es invoice main_term root_context v e) refl
          (whole-back es (form_for main.form main_term) root_context v p.main_form p.beside.form)

      of-strings : (spot : Spot) (string : List ℕ) → Among string (spot-strings row.leaf spot) → Among string (values_named p.local spot.attributes)
      of-strings spot string a = go (is_full spot.text) (subst (λ leaf. Among string (spot-strings leaf spot)) p.leaf a)
        where
          go : (b : Bool) → Among string (elim b [ true ↦ filter is_full (values_named p.local spot.attributes) | false ↦ [] ]) →
              Among string (values_named p.local spot.attributes)
          go true m = (of-filter-any is_full string (values_named p.local spot.attributes) m).0
          go false m = absurd m

      to-strings : (spot : Spot) (string : List ℕ) → is_full spot.text ≡ true → is_full string ≡ true → Among string (values_named p.local spot.attributes) →
          Among string (spot-strings row.leaf spot)
      to-strings spot string full whole a =
          subst (λ leaf. Among string (spot-strings leaf spot)) (sym p.leaf)
          (subst (λ b. Among string (elim b [ true ↦ filter is_full (values_named p.local spot.attributes) | false ↦ [] ])) (sym full)
          (among-filter is_full string (values_named p.local spot.attributes) whole a))

      says_so : (place : Place) → Among place (places_at rows es row.path) → (string : List ℕ) → Among string (spot-strings row.leaf place.spot) →
          SaysEntry row term place.spot.context string
      says_so place a string b = go (value_in es term root_context) refl (subst (Among string) (values-at place a) (of-strings place.spot string b))
        where
          go : (o : Option Value) → value_in es term root_context ≡ o → Among string (value_strings_of row term root_context o) →
              SaysEntry row term place.spot.context string
          go None k m = absurd m
          go (Some v) k (inl s) = record {
            e = record { context = root_context; term = term; value = v };
            known = at-value law es invoice term root_context v k;
            term_is = refl;
            there = λ g o. absurd (let z : ◌≡◌ {A = Option Group} None (Some g) = sym p.outer ∙ o in cc);
            string_is = sym s;
            due = due-always row term p.written root_context v;
            outer = sym p.outer;
            inner = sym p.inner;
          }
          go (Some v) k (inr m) = absurd m

      reaches_it : (e : Entry) → Among e es → e.term ≡ term → IsBack es (form_for row.form term) e.context e.value →
          is_written_by main main_term es e.context ≡ true → IsReached row term e
      reaches_it e a t back w =
          let both = both-true (is_some (value_in es main_term e.context)) (writes_entry main es e.context) (both-true (is_in_groups main e.context) _ w).1 in
          let v = some-value (value_in es main_term e.context) both.0 in
          let x : Entry = record { context = e.context; term = main_term; value = v.0 } in
          let root : e.context ≡ root_context = root-entry main_term p.beside.context x (at-value law es invoice main_term e.context v.0 v.1) refl in
          let value : value_in es term root_context ≡ Some e.value = root-value e a root term t in
          let q = spread-place main main_term (spread-here main main_term p.beside) e.context both.1 in
          let there : Among q.place (places_at rows es row.path) = subst (λ y. Among q.place (places_at rows es y)) (sym p.path) q.among in
          let values_are : values_named p.local q.place.spot.attributes ≡ formed (form_for row.form term) es e.context e.value ∷ [] =
          values-at q.place there ∙ (ap (value_strings_of row term root_context) value ∙ ap (λ c. formed (form_for row.form term) es c e.value ∷ []) (sym root))
          in
          record {
            place = q.place;
            among = there;
            there = λ g o. absurd (let z : ◌≡◌ {A = Option Group} None (Some g) = sym p.outer ∙ o in cc);
            string = to-strings q.place.spot (formed (form_for row.form term) es e.context e.value)
                (full-main q.place there v.0 (ap (value_in es main_term) (sym root) ∙ v.1) q.writes) (full-string row term e a t back)
                (subst (Among (formed (form_for row.form term) es e.context e.value)) (sym values_are) (inl refl));
            outer = ap (λ (c : Context). slot_group c.outer) root ∙ sym p.outer;
            inner = ap (λ (c : Context). slot_group c.inner) root ∙ sym p.inner;
          }

  pub spread-attribute-writes : (row : Row) (term : Term) (main : Row) (main_term : Term) (p : IsSpreadAttribute rows row term main main_term) (c : Context) →
      is_written_by main main_term es c ≡ true
      → (spread-attribute-covers row term main main_term p).writes c ≡ true
  unfolding spread-attribute-covers
  spread-attribute-writes row term main main_term p c h = h

  -- ---- picks

  pub long : ℕ
  long = 1 + size (written_lines es (plan_of rows) false root_context)

  pub numbers : map number nodes ≡ range_with_len 0 long
  unfolding document_of long
  numbers = document-numbers (document_of rows es)

  -- a pick with the entry that it says
  pub record IsTold (pick : Pick) (row : Row) (term : Term) : Type 0 where
    pub row_is : pick.row ≡ row
    pub picked : IsPicked rows es invoice pick
    pub e : Entry
    pub known : Among e es
    pub term_is : e.term ≡ term
    pub context : picked.entry.context ≡ e.context
    pub string_is : string_at nodes pick.node ≡ formed (form_for row.form term) es e.context e.value
    pub due : is_some (if_due row.written es term e.context (formed (form_for row.form term) es e.context e.value)) ≡ true
    pub says : parsed row.form term (string_at nodes pick.node) ≡ record { term = term; value = Some e.value } ∷ code_said (form_for row.form term) es e.context
    pub at : IsAt nodes es picked.place
    pub leaf : Among pick.node (leaves_of nodes row.leaf (last_of picked.place.way))

  -- a pick of a VAT total that isn't in the currency of its row, or one of a placeholder
  pub record IsNotTold (pick : Pick) : Type 0 where
    pub out : ((c : Currencies) → AreOwn rows es c → is_in_its_currency nodes c pick ≡ false) ⊎
        (is_placeholder nodes (all_picked nodes (rows_where has_any_term rows)) pick ≡ true)
    pub no_money : (has_term invoice_currency pick.row || has_term accounting_currency pick.row) ≡ false
    pub beside : (term : Term) → Among term (flat_map beside_placeholder rows) → has_term term pick.row ≡ false

  pub strange-pick : (k : ℕ) (row : Row) (way : List ℕ) (place : Place) → IsAt nodes es place → (n : ℕ) → Among n (leaves_of nodes row.leaf (last_of place.way))
      → IsStrange row place
      → IsNotTold (record { place = k; row = row; elements = way; node = n })
  strange-pick k row way place at n leaf s =
      let m = amount-of nodes es place at n (subst (λ l. Among n (leaves_of nodes l (last_of place.way))) s.leaf leaf) in
      record { out = inl (λ c own. ap (is_in c row.written) m.0 ∙ s.out c own m.1); no_money = s.no_money; beside = s.beside }

  pub parsed-as : (row : Row) (term : Term) (e : Entry) → Among e es → e.term ≡ term → IsRead row.form term
      → IsBack es (form_for row.form term) e.context e.value
      → (string : List ℕ) → string ≡ formed (form_for row.form term) es e.context e.value
      → parsed row.form term string ≡ record { term = term; value = Some e.value } ∷ code_said (form_for row.form term) es e.context
  parsed-as row term e a t read back string is =
      ap (parsed row.form term) is ∙ (back-as law row.form term es e.context e.value back read
      (subst (λ x. Fits x e.value) t (fits-among law es invoice term e es invoice.fit a))).parsed

  pub strings-at : (row : Row) (place : Place) → IsAt nodes es place → ends_at nodes row.leaf (last_of place.way) ≡ spot-strings row.leaf place.spot
  strings-at row place at =
      string-ends nodes row.leaf at.above (last_of place.way) at.name place.spot.attributes place.spot.text at.more at.lies place.spot refl refl

  pub of-picked : (k : ℕ) (row : Row) (term : Term) → Covers row term → IsRead row.form term →
      ((e : Entry) → Among e es → e.term ≡ term → IsBack es (form_for row.form term) e.context e.value) → (pick : Pick) → Among pick (nodes_picked nodes k row)
      → IsTold pick row term ⊎ IsNotTold pick
  unfolding ends_at
  of-picked k row term cover read good pick a =
      let w = of-flat_map (picks_of_way nodes k row) pick (ways nodes row.path 0) a in
      let v = of-map (λ (q : Place). q.way) w.0 (cover.front ++ (places_at rows es row.path ++ cover.back)) (subst (Among w.0) cover.placed.ways_are w.1.0) in
      let place : Place = v.0 in
      let at = each-among (IsAt nodes es) place (cover.front ++ (places_at rows es row.path ++ cover.back)) cover.placed.each v.1.0 in
      let u = of-map (λ n. record { place = k; row = row; elements = w.0; node = n }) pick (leaves_of nodes row.leaf (last_of w.0)) w.1.1 in
      let leaf : Among u.0 (leaves_of nodes row.leaf (last_of place.way)) =
      subst (λ way. Among u.0 (leaves_of nodes row.leaf (last_of way))) (sym v.1.1) u.1.0 in
      elim (among-split place cover.front (places_at rows es row.path ++ cover.back) v.1.0) [
        | inl f ↦ inr (subst IsNotTold u.1.1 (strange-pick k row w.0 place at u.0 leaf (cover.strange place (inl f))))
        | inr m ↦ elim (among-split place (places_at rows es row.path) cover.back m) [
          | inl own ↦ inl (subst (λ (x : Pick). IsTold x row term) u.1.1 (told w.0 u.0 place at own v.1.1 leaf))
          | inr b ↦ inr (subst IsNotTold u.1.1 (strange-pick k row w.0 place at u.0 leaf (cover.strange place (inr b))))
        ]
      ]
    where
      told : (way : List ℕ) (n : ℕ) (place : Place) → IsAt nodes es place → Among place (places_at rows es row.path) → place.way ≡ way →
          Among n (leaves_of nodes row.leaf (last_of place.way))
          → IsTold (record { place = k; row = row; elements = way; node = n }) row term
      told way n place at own way_is leaf =
          let string : Among (string_at nodes n) (spot-strings row.leaf place.spot) =
          subst (Among (string_at nodes n)) (strings-at row place at) (among-map (string_at nodes) n (leaves_of nodes row.leaf (last_of place.way)) leaf) in
          let said_it = cover.says place own (string_at nodes n) string in
          record {
            row_is = refl;
            picked = record {
              place = place;
              among = own;
              elements = sym way_is;
              entry = said_it.e;
              known = said_it.known;
              outer = said_it.outer;
              inner = said_it.inner;
              there = said_it.there;
              through = cover.through;
            };
            e = said_it.e;
            known = said_it.known;
            term_is = said_it.term_is;
            context = refl;
            string_is = said_it.string_is;
            due = said_it.due;
            says = parsed-as row term said_it.e said_it.known said_it.term_is read (good said_it.e said_it.known said_it.term_is)
                (string_at nodes n) said_it.string_is;
            at = at;
            leaf = leaf;
          }

  -- a pick that has the string of the entry
  pub record Reached (e : Entry) (row : Row) (term : Term) (k : ℕ) : Type 0 where
    pub pick : Pick
    pub among : Among pick (nodes_picked nodes k row)
    pub row_is : pick.row ≡ row
    pub place : Place
    pub own : Among place (places_at rows es row.path)
    pub at : IsAt nodes es place
    pub leaf : Among pick.node (leaves_of nodes row.leaf (last_of place.way))
    pub node : Among pick.node (map number nodes)
    pub picked : IsPicked rows es invoice pick
    pub context : picked.entry.context ≡ e.context
    pub string_is : string_at nodes pick.node ≡ formed (form_for row.form term) es e.context e.value

  node-there : (path : List Step) (place : Place) → Among place (places_at rows es path) → Among (last_of place.way) (map number nodes)
  unfolding long
  node-there path place a =
      let at = each-among (IsBetween es 1 (1 + size (written_lines es (plan_of rows) false root_context))) place (places_at rows es path)
      (between es (plan_of rows) path false root_context 1).each a in
      let most = at.most in
      subst (Among (last_of place.way)) (sym numbers) (to-range 0 long (last_of place.way) (omega arith) (omega (arith, most)))

  leaf-there : (leaf : Leaf) (m n : ℕ) → Among m (map number nodes) → Among n (leaves_of nodes leaf m) → Among n (map number nodes)
  leaf-there leaves.Element m n there a = subst (λ x. Among x (map number nodes)) (one (of-filter-any (λ x. is_full (string_at nodes x)) n (m ∷ []) a).0) there
    where
      one : Among n (m ∷ []) → m ≡ n
      one (inl s) = s
      one (inr z) = absurd z
  leaf-there (leaves.Attribute local) m n there a =
      let w = of-flat_map (λ x. filled nodes (attributes_named nodes local x)) n (filled nodes (m ∷ [])) a in
      let v = of-filter-any (λ x. is_full (string_at nodes x)) n (attributes_named nodes local w.0) w.1.1 in
      among-number w.0 n v.0
    where
      among-number : (x k : ℕ) → Among k (attributes_named nodes local x) → Among k (map number nodes)
      among-number x k b = let w = of-map number k
          (filter (Rattle.bind_meaning.specs.Elements.both (Rattle.node_arena.specs.Moves.is_attribute_of x)
          (Rattle.bind_meaning.specs.Names.has_plain_name local)) nodes) b in
          subst (λ y. Among y (map number nodes)) w.1.1
          (among-map number w.0 nodes
          (of-filter-any (Rattle.bind_meaning.specs.Elements.both (Rattle.node_arena.specs.Moves.is_attribute_of x)
          (Rattle.bind_meaning.specs.Names.has_plain_name local)) w.0 nodes w.1.0).0)

  pub to-picked : (k : ℕ) (row : Row) (term : Term) (cover : Covers row term) (e : Entry) → Among e es → e.term ≡ term →
      IsBack es (form_for row.form term) e.context e.value → cover.writes e.context ≡ true → Reached e row term k
  unfolding ends_at
  to-picked k row term cover e a t back w =
      let r = cover.reaches e a t back w in
      let text : List ℕ = formed (form_for row.form term) es e.context e.value in
      let there : Among r.place (cover.front ++ (places_at rows es row.path ++ cover.back)) =
      own-among cover.front (places_at rows es row.path) cover.back r.place r.among in
      let at = each-among (IsAt nodes es) r.place (cover.front ++ (places_at rows es row.path ++ cover.back)) cover.placed.each there in
      let v = of-map (string_at nodes) text (leaves_of nodes row.leaf (last_of r.place.way)) (subst (Among text) (sym (strings-at row r.place at)) r.string) in
      let pick : Pick = record { place = k; row = row; elements = r.place.way; node = v.0 } in
      record {
        pick = pick;
        among = among-flat_map (picks_of_way nodes k row) r.place.way pick (ways nodes row.path 0)
            (subst (Among r.place.way) (sym cover.placed.ways_are)
            (among-map (λ (q : Place). q.way) r.place (cover.front ++ (places_at rows es row.path ++ cover.back)) there))
            (among-map (λ n. record { place = k; row = row; elements = r.place.way; node = n }) v.0 (leaves_of nodes row.leaf (last_of r.place.way)) v.1.0);
        row_is = refl;
        place = r.place;
        own = r.among;
        at = at;
        leaf = v.1.0;
        node = leaf-there row.leaf (last_of r.place.way) v.0 (node-there row.path r.place r.among) v.1.0;
        picked = record {
          place = r.place;
          among = r.among;
          elements = refl;
          entry = e;
          known = a;
          outer = r.outer;
          inner = r.inner;
          there = r.there;
          through = cover.through;
        };
        context = refl;
        string_is = v.1.1;
      }

-- ---- rows of a table

pub row-at : (rs : List Row) (row : Row) → Among row rs → (j : ℕ) × (slice_get rs j ≡ Some row)
row-at [] row a = absurd a
row-at (r ∷ rs) row (inl s) = (0, ap Some s)
row-at (r ∷ rs) row (inr a) = let w = row-at rs row a in (suc w.0, w.1)
