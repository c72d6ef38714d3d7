-- What rows by themselves write at an element: its text, and the values of its attributes.
use Rattle.std.proofs.Common.{◌≡◌, ℕ, Bool, true, false, ◌&&◌, List, [], ◌∷◌, ◌++◌, map, filter, flat_map, Option, Some, None, refl, ap, ◌∙◌}
use Rattle.std.specs.Prelude.{if◌then◌else◌, is_some}
use Rattle.std.specs.Str.{bytes_eq}
use Rattle.inv_base.specs.Tree.{Attribute}
use Rattle.term_table.specs.declared.contexts.Context.{Context}
use Rattle.term_table.specs.Contexts.{root_context}
use Rattle.inv_terms.specs.declared.values.Value.{Value}
use Rattle.inv_terms.specs.declared.entries.Entry.{Entry}
use Rattle.inv_terms.specs.Values.{spelled}
use Rattle.inv_terms.specs.Listing.{value_in}
use Rattle.bind_rows.specs.declared.names.Leaf.{Leaf}
use Rattle.bind_rows.specs.declared.names.Leaf.TheVariants as leaves
use Rattle.bind_rows.specs.declared.rows.Step.{Step}
use Rattle.bind_rows.specs.declared.rows.Row.{Row}
use Rattle.bind_table.specs.Lines.{Cell}
use Rattle.bind_meaning.specs.Names.{is_spelled}
use Rattle.bind_meaning.specs.Currencies.{currency_id}
use Rattle.bind_meaning.specs.Writing.{row_text}
use Rattle.bind_meaning.specs.Trees.{attribute, currency_term, currency_attribute, currency_of_cell, constant_or_text, attribute_of_cell, attributes}
use Rattle.bind_meaning.specs.Trees.{element_text, is_at_element, shows_currency}
use Rattle.binding_laws.specs.Apart.{is_attribute_named}
use Rattle.binding_laws.specs.Written.{values_named}

-- ---- the text of an element

-- the text of the element of which the row alone says the text
abbrev pub own_text : List Entry → Context → Row → List ℕ
own_text es c row = elim (constant_or_text es c row) [ None ↦ [] | Some text ↦ text ]

pub text-by-rows : (es : List Entry) (c : Context) (cells : List Cell) →
    element_text es cells c ≡ flat_map (own_text es c) (map (λ (cell : Cell). cell.row) (filter is_at_element cells))
text-by-rows es c [] = refl
text-by-rows es c (cell ∷ cells) = go (is_at_element cell) (text-by-rows es c cells)
  where
    go : (b : Bool) → element_text es cells c ≡ flat_map (own_text es c) (map (λ (x : Cell). x.row) (filter is_at_element cells))
        → (elim b [ true ↦ elim (constant_or_text es c cell.row) [ None ↦ [] | Some text ↦ text ] | false ↦ [] ]) ++ element_text es cells c
        ≡ flat_map (own_text es c) (map (λ (x : Cell). x.row) (if b then cell ∷ filter is_at_element cells else filter is_at_element cells))
    go true e = ap (λ l. (elim (constant_or_text es c cell.row) [ None ↦ [] | Some text ↦ text ]) ++ l) e
    go false e = e

-- ---- the attributes of an element

-- the string that a row writes by itself, if any
abbrev pub own_strings : List Entry → Context → Row → List (List ℕ)
own_strings es d row = elim (constant_or_text es d row) [ None ↦ [] | Some text ↦ text ∷ [] ]

abbrev pub in_a_list : Option (List ℕ) → List (List ℕ)
in_a_list o = elim o [ None ↦ [] | Some text ↦ text ∷ [] ]

pub named-append : (local : List ℕ) (xs ys : List Attribute) → values_named local (xs ++ ys) ≡ values_named local xs ++ values_named local ys
named-append local [] ys = refl
named-append local (a ∷ xs) ys = go (named-append local xs ys) (is_spelled [] local a.name)
  where
    go : values_named local (xs ++ ys) ≡ values_named local xs ++ values_named local ys → (b : Bool) →
        (elim b [ true ↦ a.value ∷ values_named local (xs ++ ys) | false ↦ values_named local (xs ++ ys) ])
        ≡ (elim b [ true ↦ a.value ∷ values_named local xs | false ↦ values_named local xs ]) ++ values_named local ys
    go later true = ap (λ l. a.value ∷ l) later
    go later false = later

abbrev truth : Bool → Bool
truth b = elim b [ true ↦ true | false ↦ false ]

abbrev kept_value : Bool → List ℕ → List (List ℕ)
kept_value b value = elim b [ true ↦ value ∷ [] | false ↦ [] ]

-- no currency has the name
no-currency : (local : List ℕ) → bytes_eq local currency_id ≡ false → (value : List ℕ) → values_named local (attribute currency_id value ∷ []) ≡ []
no-currency local h value = ap (λ b. kept_value (truth b) value) h

no-currencies : (local : List ℕ) → bytes_eq local currency_id ≡ false → (es : List Entry) (t : Step) (d : Context) (cells : List Cell) →
    values_named local (flat_map (currency_of_cell es t d) cells) ≡ []
no-currencies local h es t d [] = refl
no-currencies local h es t d (cell ∷ cells) =
    named-append local (currency_of_cell es t d cell) (flat_map (currency_of_cell es t d) cells)
    ∙ (ap (λ l. l ++ values_named local (flat_map (currency_of_cell es t d) cells))
    (one (is_at_element cell && (shows_currency t cell.row && is_some (row_text cell.row es d)))) ∙ no-currencies local h es t d cells)
  where
    shown : (o : Option Value) → values_named local (elim o [ None ↦ [] | Some value ↦ attribute currency_id (spelled value) ∷ [] ]) ≡ []
    shown None = refl
    shown (Some value) = no-currency local h (spelled value)

    one : (b : Bool) → values_named local (elim b [ true ↦ currency_attribute es cell.row | false ↦ [] ]) ≡ []
    one true = shown (value_in es (currency_term cell.row.written) root_context)
    one false = refl

cell-values : (local : List ℕ) (es : List Entry) (d : Context) (row : Row) (leaf : Leaf)
    → values_named local (elim leaf [
      | leaves.Element ↦ []
      | (leaves.Attribute other) ↦ elim (constant_or_text es d row) [ None ↦ [] | Some text ↦ attribute other text ∷ [] ]
    ])
    ≡ (if is_attribute_named local leaf then own_strings es d row else [])
cell-values local es d row leaves.Element = refl
cell-values local es d row (leaves.Attribute other) = go (constant_or_text es d row)
  where
    choice : (b : Bool) (text : List ℕ) → ◌≡◌ {A = List (List ℕ)} (elim (truth b) [ true ↦ text ∷ [] | false ↦ [] ]) (if b then text ∷ [] else [])
    choice true text = refl
    choice false text = refl

    none : (b : Bool) → ◌≡◌ {A = List (List ℕ)} [] (if b then [] else [])
    none true = refl
    none false = refl

    go : (o : Option (List ℕ)) → values_named local (elim o [ None ↦ [] | Some text ↦ attribute other text ∷ [] ]) ≡ (if bytes_eq local other then
        (elim o [ None ↦ [] | Some text ↦ text ∷ [] ]) else [])
    go None = none (bytes_eq local other)
    go (Some text) = choice (bytes_eq local other) text

pub cells-values : (local : List ℕ) (es : List Entry) (d : Context) (cells : List Cell)
    → values_named local (flat_map (attribute_of_cell es d) cells)
    ≡ flat_map (own_strings es d) (map (λ (cell : Cell). cell.row) (filter (λ (cell : Cell). is_attribute_named local cell.row.leaf) cells))
cells-values local es d [] = refl
cells-values local es d (cell ∷ cells) =
    named-append local (attribute_of_cell es d cell) (flat_map (attribute_of_cell es d) cells)
    ∙ (ap (λ l. l ++ values_named local (flat_map (attribute_of_cell es d) cells)) (cell-values local es d cell.row cell.row.leaf)
    ∙ go (is_attribute_named local cell.row.leaf) (cells-values local es d cells))
  where
    go : (b : Bool) → values_named local (flat_map (attribute_of_cell es d) cells) ≡ flat_map (own_strings es d)
        (map (λ (x : Cell). x.row) (filter (λ (x : Cell). is_attribute_named local x.row.leaf) cells))
        → (if b then own_strings es d cell.row else []) ++ values_named local (flat_map (attribute_of_cell es d) cells)
        ≡ flat_map (own_strings es d) (map (λ (x : Cell). x.row)
        (if b then cell ∷ filter (λ (x : Cell). is_attribute_named local x.row.leaf) cells else filter
        (λ (x : Cell). is_attribute_named local x.row.leaf) cells))
    go true e = ap (λ l. own_strings es d cell.row ++ l) e
    go false e = e

pub line-values : (local : List ℕ) → bytes_eq local currency_id ≡ false → (es : List Entry) (t : Step) (cells : List Cell) (d : Context)
    → values_named local (attributes es t cells d) ≡ flat_map (own_strings es d)
    (map (λ (cell : Cell). cell.row) (filter (λ (cell : Cell). is_attribute_named local cell.row.leaf) cells))
line-values local h es t cells d =
    named-append local (flat_map (currency_of_cell es t d) cells) (flat_map (attribute_of_cell es d) cells)
    ∙ (ap (λ l. l ++ values_named local (flat_map (attribute_of_cell es d) cells)) (no-currencies local h es t d cells) ∙ cells-values local es d cells)
