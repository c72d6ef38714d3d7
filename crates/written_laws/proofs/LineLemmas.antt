-- What is written at an element of a line: attributes whose names are some of the line's, in their order, and a text;
-- all of Chars.
use Rattle.std.proofs.Common.{◌≡◌, ℕ, ◌≤◌, Bool, true, false, ◌&&◌, ◌||◌, List, [], ◌∷◌, ◌++◌, map, filter, flat_map, length, Option, Some, None, inl, refl, ap}
use Rattle.std.proofs.Common.{sym, ◌∙◌, subst, suc, arith, if◌then◌else◌, is_some}
use Rattle.std.specs.Str.{bytes_eq}
use Rattle.std.specs.List.{list_all, list_any}
use Rattle.inv_base.specs.Characters.{is_char}
use Rattle.inv_base.specs.Tree.{Attribute}
use Rattle.xml_events.specs.Names.{same_name}
use Rattle.xml_state.specs.Admission.{has_twice}
use Rattle.term_table.specs.declared.contexts.Context.{Context}
use Rattle.term_table.specs.Contexts.{root_context}
use Rattle.inv_terms.specs.declared.values.Value.{Value}
use Rattle.inv_terms.specs.declared.entries.Entry.{Entry}
use Rattle.inv_terms.specs.Values.{spelled}
use Rattle.inv_terms.specs.Listing.{value_in}
use Rattle.bind_rows.specs.declared.names.Leaf.{Leaf}
use Rattle.bind_rows.specs.declared.names.Leaf.TheVariants as leaves
use Rattle.bind_rows.specs.declared.rows.Row.{Row}
use Rattle.bind_rows.specs.declared.rows.Step.{Step}
use Rattle.bind_table.specs.Lines.{Cell}
use Rattle.bind_meaning.specs.Currencies.{currency_id}
use Rattle.bind_meaning.specs.Writing.{row_text}
use Rattle.bind_meaning.specs.Trees.{shows_currency, currency_term, attribute, currency_attribute, currency_of_cell, is_at_element, constant_or_text}
use Rattle.bind_meaning.specs.Trees.{attribute_of_cell, attributes, text_of_cell, element_text}
use Rattle.written_laws.specs.Readable.{local_of, locals, unspaced, constant_of, placeholder_of, has_chars}
use Rattle.written_laws.proofs.ListLemmas.{both, and-true, neither, all-append, one-longer, no-longer, Within, within-more}
use Rattle.written_laws.proofs.ValueLemmas.{IsChars, AreChars, ValueChars, TextChars, row-chars, currency-chars}

-- The attributes have some of these local names, in their order, and values of Chars.
pub data Has : List Attribute → List (List ℕ) → Type 0 where
  has_none : Has [] []
  has_not : (local : List ℕ) {given : List Attribute} {names : List (List ℕ)} → Has given names → Has given (local ∷ names)
  has_one : (local value : List ℕ) {given : List Attribute} {names : List (List ℕ)} → IsChars value → Has given names →
      Has (attribute local value ∷ given) (local ∷ names)

has-append : (given : List Attribute) (names : List (List ℕ)) (others : List Attribute) (more : List (List ℕ)) → Has given names → Has others more →
    Has (given ++ others) (names ++ more)
has-append given names others more has_none k = k
has-append given names others more (has_not local {given = g} {names = n} h) k = has_not local (has-append g n others more h k)
has-append given names others more (has_one local value {given = g} {names = n} c h) k = has_one local value c (has-append g n others more h k)

-- ---- what follows of the attributes

pub has-few : (given : List Attribute) (names : List (List ℕ)) → Has given names → length given ≤ length names
has-few given names has_none = let z : 0 ≤ 0 = omega arith in z
has-few given names (has_not local {given = g} {names = n} h) = no-longer (length g) (length n) (has-few g n h)
has-few given names (has_one local value {given = g} {names = n} c h) = one-longer (length g) (length n) (has-few g n h)

-- A test passes the attributes where it passes all names.
pub has-all : (named : List ℕ → Bool) (test : Attribute → Bool) →
    ((local value : List ℕ) → IsChars value → named local ≡ true → test (attribute local value) ≡ true)
    → (given : List Attribute) (names : List (List ℕ)) → list_all named names ≡ true → Has given names → list_all test given ≡ true
has-all named test f given names h has_none = refl
has-all named test f given names h (has_not local {given = g} {names = n} k) = has-all named test f g n (both (named local) (list_all named n) h).1 k
has-all named test f given names h (has_one local value {given = g} {names = n} c k) =
    let w = both (named local) (list_all named n) h in
    and-true (test (attribute local value)) (list_all test g) (f local value c w.0) (has-all named test f g n w.1 k)

has-other : (local : List ℕ) (given : List Attribute) (names : List (List ℕ)) → list_any (bytes_eq local) names ≡ false → Has given names
    → list_any (λ (a : Attribute). same_name (unspaced local) a.name) given ≡ false
has-other local given names h has_none = refl
has-other local given names h (has_not other {given = g} {names = n} k) =
    has-other local g n (neither (bytes_eq local other) (list_any (bytes_eq local) n) h).1 k
has-other local given names h (has_one other value {given = g} {names = n} c k) =
    let w = neither (bytes_eq local other) (list_any (bytes_eq local) n) h in
    ap (λ t. t || list_any (λ (a : Attribute). same_name (unspaced local) a.name) g) w.0 ∙ has-other local g n w.1 k

-- Where no name is there twice, no two attributes have one name.
pub has-apart : (given : List Attribute) (names : List (List ℕ)) → has_twice bytes_eq names ≡ false → Has given names →
    has_twice (λ (a b : Attribute). same_name a.name b.name) given ≡ false
has-apart given names h has_none = refl
has-apart given names h (has_not local {given = g} {names = n} k) = has-apart g n (neither (list_any (bytes_eq local) n) (has_twice bytes_eq n) h).1 k
has-apart given names h (has_one local value {given = g} {names = n} c k) =
    let w = neither (list_any (bytes_eq local) n) (has_twice bytes_eq n) h in
    ap (λ t. t || has_twice (λ (a b : Attribute). same_name a.name b.name) g) (has-other local g n w.0 k) ∙ has-apart g n w.1 k

-- The names of the attributes are among all names.
pub has-within : (given : List Attribute) (names : List (List ℕ)) → Has given names → Within (map (λ (a : Attribute). a.name) given) (map unspaced names)
has-within given names has_none = tt
has-within given names (has_not local {given = g} {names = n} h) = within-more (unspaced local) (map (λ (a : Attribute). a.name) g) (map unspaced n)
    (has-within g n h)
has-within given names (has_one local value {given = g} {names = n} c h) =
    (inl refl, within-more (unspaced local) (map (λ (a : Attribute). a.name) g) (map unspaced n) (has-within g n h))

-- ---- what is written at an element

module _ (es : List Entry) (chars : AreChars es) (s : Step) (c : Context) where
  cell-attribute : (cell : Cell) → has_chars cell ≡ true → Has (attribute_of_cell es c cell) (local_of cell)
  cell-attribute cell h = go cell.row.leaf
    where
      w : IsChars (constant_of cell.row.content) × IsChars (placeholder_of cell.row.written)
      w = both (list_all is_char (constant_of cell.row.content)) (list_all is_char (placeholder_of cell.row.written)) h

      by-text : (local : List ℕ) (o : Option (List ℕ)) → TextChars o → Has (elim o [ None ↦ [] | Some text ↦ attribute local text ∷ [] ]) (local ∷ [])
      by-text local None k = has_not local has_none
      by-text local (Some text) k = has_one local text k has_none

      go : (leaf : Leaf) → Has (elim leaf [
        | leaves.Element ↦ []
        | (leaves.Attribute local) ↦ elim (constant_or_text es c cell.row) [ None ↦ [] | Some text ↦ attribute local text ∷ [] ]
      ]) (elim leaf [ leaves.Element ↦ [] | (leaves.Attribute local) ↦ local ∷ [] ])
      go leaves.Element = has_none
      go (leaves.Attribute local) = by-text local (constant_or_text es c cell.row) (row-chars es chars cell.row c w.0 w.1)

  cell-attributes : (cells : List Cell) → list_all has_chars cells ≡ true → Has (flat_map (attribute_of_cell es c) cells) (flat_map local_of cells)
  cell-attributes [] h = has_none
  cell-attributes (cell ∷ cells) h =
      let w = both (has_chars cell) (list_all has_chars cells) h in
      has-append (attribute_of_cell es c cell) (local_of cell) (flat_map (attribute_of_cell es c) cells) (flat_map local_of cells) (cell-attribute cell w.0)
      (cell-attributes cells w.1)

  row-currency : (row : Row) → Has (currency_attribute es row) (currency_id ∷ [])
  row-currency row = go (value_in es (currency_term row.written) root_context) (currency-chars es chars (currency_term row.written))
    where
      go : (o : Option Value) → ValueChars o → Has (elim o [ None ↦ [] | Some value ↦ attribute currency_id (spelled value) ∷ [] ]) (currency_id ∷ [])
      go None h = has_not currency_id has_none
      go (Some value) h = has_one currency_id (spelled value) h has_none

  no-currency : (cell : Cell) → is_at_element cell ≡ false → currency_of_cell es s c cell ≡ []
  no-currency cell h = ap (λ b. elim (b && (shows_currency s cell.row && is_some (row_text cell.row es c))) [
    | true ↦ currency_attribute es cell.row
    | false ↦ []
  ]) h

  no-currencies : (cells : List Cell) → length (filter is_at_element cells) ≤ 0 → flat_map (currency_of_cell es s c) cells ≡ []
  no-currencies [] h = refl
  no-currencies (cell ∷ cells) h = go (is_at_element cell) refl h (no-currencies cells)
    where
      go : (b : Bool) → is_at_element cell ≡ b → length (if b then cell ∷ filter is_at_element cells else filter is_at_element cells) ≤ 0
          → (length (filter is_at_element cells) ≤ 0 → flat_map (currency_of_cell es s c) cells ≡ [])
          → currency_of_cell es s c cell ++ flat_map (currency_of_cell es s c) cells ≡ []
      go true e k f = absurd (let z : suc (length (filter is_at_element cells)) ≤ 0 = k in omega arith)
      go false e k f = ap (λ l. l ++ flat_map (currency_of_cell es s c) cells) (no-currency cell e) ∙ f k

  one-currency : (cells : List Cell) → length (filter is_at_element cells) ≤ 1 → Has (flat_map (currency_of_cell es s c) cells) (currency_id ∷ [])
  one-currency [] h = has_not currency_id has_none
  one-currency (cell ∷ cells) h = go (is_at_element cell) refl h (one-currency cells)
    where
      shown : (b : Bool) → Has (elim b [ true ↦ currency_attribute es cell.row | false ↦ [] ]) (currency_id ∷ [])
      shown true = row-currency cell.row
      shown false = has_not currency_id has_none

      go : (b : Bool) → is_at_element cell ≡ b → length (if b then cell ∷ filter is_at_element cells else filter is_at_element cells) ≤ 1
          → (length (filter is_at_element cells) ≤ 1 → Has (flat_map (currency_of_cell es s c) cells) (currency_id ∷ []))
          → Has (currency_of_cell es s c cell ++ flat_map (currency_of_cell es s c) cells) (currency_id ∷ [])
      go true e k f =
          subst (λ l. Has (currency_of_cell es s c cell ++ l) (currency_id ∷ []))
          (sym (no-currencies cells (let z : suc (length (filter is_at_element cells)) ≤ 1 = k in omega arith)))
          (has-append (currency_of_cell es s c cell) (currency_id ∷ []) [] []
          (shown (is_at_element cell && (shows_currency s cell.row && is_some (row_text cell.row es c)))) has_none)
      go false e k f = subst (λ l. Has (l ++ flat_map (currency_of_cell es s c) cells) (currency_id ∷ [])) (sym (no-currency cell e)) (f k)

  -- the attributes of an element
  pub line-attributes : (cells : List Cell) → list_all has_chars cells ≡ true → length (filter is_at_element cells) ≤ 1 →
      Has (attributes es s cells c) (locals cells)
  line-attributes cells h few =
      has-append (flat_map (currency_of_cell es s c) cells) (currency_id ∷ []) (flat_map (attribute_of_cell es c) cells) (flat_map local_of cells)
      (one-currency cells few) (cell-attributes cells h)

  cell-text : (cell : Cell) → has_chars cell ≡ true → IsChars (text_of_cell es c cell)
  cell-text cell h = go (is_at_element cell)
    where
      w : IsChars (constant_of cell.row.content) × IsChars (placeholder_of cell.row.written)
      w = both (list_all is_char (constant_of cell.row.content)) (list_all is_char (placeholder_of cell.row.written)) h

      by-text : (o : Option (List ℕ)) → TextChars o → IsChars (elim o [ None ↦ [] | Some text ↦ text ])
      by-text None k = refl
      by-text (Some text) k = k

      go : (b : Bool) → IsChars (elim b [ true ↦ elim (constant_or_text es c cell.row) [ None ↦ [] | Some text ↦ text ] | false ↦ [] ])
      go true = by-text (constant_or_text es c cell.row) (row-chars es chars cell.row c w.0 w.1)
      go false = refl

  -- its text
  pub line-text : (cells : List Cell) → list_all has_chars cells ≡ true → IsChars (element_text es cells c)
  line-text [] h = refl
  line-text (cell ∷ cells) h =
      let w = both (has_chars cell) (list_all has_chars cells) h in
      all-append is_char (text_of_cell es c cell) (element_text es cells c) (cell-text cell w.0) (line-text cells w.1)
