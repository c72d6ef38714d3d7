-- An element that is written of a line and its attributes are said, where they aren't blank.
use Rattle.std.proofs.Common.{◌≡◌, ℕ, ◌+◌, Bool, true, false, not, ◌&&◌, ◌||◌, List, [], ◌∷◌, ◌++◌, length, filter, flat_map, Option, Some, None, ◌⊎◌, inl}
use Rattle.std.proofs.Common.{inr, refl, sym, ap, ◌∙◌, subst, append_assoc, arith, length-append}
use Rattle.std.specs.Prelude.{is_some}
use Rattle.std.specs.List.{list_all, list_any}
use Rattle.std.specs.Str.{bytes_eq}
use Rattle.std.specs.Cmp.Lexicographic.{pointwise}
use Rattle.std.proofs.lemmas.Bool.{false≢true}
use Rattle.std.proofs.lemmas.Option.{same_Some}
use Rattle.std.proofs.lemmas.Slice.Eq.{bytes_eq-Decides}
use Rattle.inv_base.specs.Characters.{is_white_space}
use Rattle.inv_base.specs.Tree.{Forest, an_element, Attribute, Node, nodes_of_attributes, is_among}
use Rattle.term_table.specs.declared.contexts.Context.{Context}
use Rattle.term_table.specs.Contexts.{root_context}
use Rattle.term_table.specs.declared.terms.Term.{Term}
use Rattle.inv_terms.specs.declared.values.Value.{Value}
use Rattle.inv_terms.specs.declared.entries.Entry.{Entry}
use Rattle.inv_terms.specs.Values.{is_blank, trimmed, spelled}
use Rattle.inv_terms.specs.Listing.{value_in}
use Rattle.bind_rows.specs.declared.names.Leaf.{Leaf}
use Rattle.bind_rows.specs.declared.names.Leaf.TheVariants as leaves
use Rattle.bind_rows.specs.declared.rows.Content.{Content}
use Rattle.bind_rows.specs.declared.rows.Content.TheVariants as contents
use Rattle.bind_rows.specs.declared.rows.Row.{Row}
use Rattle.bind_rows.specs.declared.rows.Step.{Step}
use Rattle.bind_rows.specs.Same.{same_step}
use Rattle.bind_table.specs.Lines.{Cell, Plan}
use Rattle.bind_table.proofs.PathLemmas.{step-itself}
use Rattle.bind_meaning.specs.Names.{is_spelled, has_plain_name}
use Rattle.bind_meaning.specs.Currencies.{currency_id}
use Rattle.bind_meaning.specs.Elements.{number, attributes_named, string_at, is_blank_at, is_full, is_one_of, leaves_at}
use Rattle.bind_meaning.specs.Losses.{own_text}
use Rattle.bind_meaning.specs.Picks.{has_any_term, has_term, term_in, last_of, filled, leaves_of}
use Rattle.bind_meaning.specs.Writing.{row_text}
use Rattle.bind_meaning.specs.Said.{words, constant_in, reached, is_of_amount, is_said}
use Rattle.bind_meaning.specs.Trees.{name_of, holds_further, attribute, currency_term, currency_attribute, currency_of_cell, constant_or_text}
use Rattle.bind_meaning.specs.Trees.{attribute_of_cell, attributes, text_of_cell, element_text, is_at_element, shows_currency, is_amount}
use Rattle.bind_meaning.specs.Trees.{with_text, written_lines}
use Rattle.binding_laws.specs.Apart.{is_nothing, rows_so}
use Rattle.binding_laws.specs.Plain.{is_one, is_element, is_always}
use Rattle.binding_laws.proofs.TreeLemmas.{Each, each-append, element_node, Lies}
use Rattle.binding_laws.proofs.NodeLemmas.{texts, string-is}
use Rattle.binding_laws.proofs.AttributeLemmas.{named-are}
use Rattle.binding_laws.proofs.ListLemmas.{append-nil, both-true}
use Rattle.binding_laws.proofs.CellLemmas.{own_text as text_of_row, text-by-rows}
use Rattle.binding_laws.proofs.ContextLemmas.{each-flat_map}
use Rattle.binding_laws.proofs.GuardLemmas.{at-nothing}
use Rattle.binding_laws.proofs.ReachLemmas.{Among, among-flat_map, among-filter, among-map, any-among, any-is, all-is, none-is}
use Rattle.whole_laws.specs.Whole.{shows_constant, says_alone, shows_part, has_mains, is_full_rule, ends_at, is_only, is_told}
use Rattle.whole_laws.proofs.OwnLemmas.{own-text-is, lines-no-text, text-at-top, texts-behind, attribute_node, attribute-string}
use Rattle.whole_laws.proofs.WayLemmas.{IsWay, is-among, Picks, row-picks, row-reaches, said-picked, said-constant, said-currency, IsRead, blank-read}
use Rattle.whole_laws.proofs.WayLemmas.{said-read}

-- ---- texts that aren't blank

and-assoc : (a b c : Bool) → (a && (b && c)) ≡ ((a && b) && c)
and-assoc true b c = refl
and-assoc false b c = refl

blank-append : (xs ys : List ℕ) → is_blank (xs ++ ys) ≡ (is_blank xs && is_blank ys)
blank-append [] ys = refl
blank-append (x ∷ xs) ys = ap (λ b. is_white_space x && b) (blank-append xs ys) ∙ and-assoc (is_white_space x) (is_blank xs) (is_blank ys)

not-first : (a b : Bool) → not a ≡ true → not (a && b) ≡ true
not-first true b h = absurd (false≢true h)
not-first false b h = refl

not-second : (a b : Bool) → not b ≡ true → not (a && b) ≡ true
not-second true b h = h
not-second false b h = refl

pub full-front : (xs ys : List ℕ) → is_full xs ≡ true → is_full (xs ++ ys) ≡ true
full-front xs ys h = ap not (blank-append xs ys) ∙ not-first (is_blank xs) (is_blank ys) h

pub full-back : (xs ys : List ℕ) → is_full ys ≡ true → is_full (xs ++ ys) ≡ true
full-back xs ys h = ap not (blank-append xs ys) ∙ not-second (is_blank xs) (is_blank ys) h

full-part : {X : Type 0} (f : X → List ℕ) (x : X) (xs : List X) → Among x xs → is_full (f x) ≡ true → is_full (flat_map f xs) ≡ true
full-part f x [] a h = absurd a
full-part f x (y ∷ xs) (inl e) h = full-front (f y) (flat_map f xs) (subst (λ z. is_full (f z) ≡ true) (sym e) h)
full-part f x (y ∷ xs) (inr a) h = full-back (f y) (flat_map f xs) (full-part f x xs a h)

none-text : {X : Type 0} (p : X → Bool) (g : X → List ℕ) (xs : List X) → list_any p xs ≡ false
    → flat_map (λ x. elim (p x) [ true ↦ g x | false ↦ [] ]) xs ≡ []
none-text p g [] h = refl
none-text p g (x ∷ xs) h = go (p x) h (none-text p g xs)
  where
    go : (b : Bool) → (b || list_any p xs) ≡ false → (list_any p xs ≡ false → flat_map (λ y. elim (p y) [ true ↦ g y | false ↦ [] ]) xs ≡ [])
        → (elim b [ true ↦ g x | false ↦ [] ]) ++ flat_map (λ y. elim (p y) [ true ↦ g y | false ↦ [] ]) xs ≡ []
    go true k f = absurd (false≢true (sym k))
    go false k f = f k

-- ---- lists of one

one-is : (x : Row) (xs : List Row) → is_one xs ≡ true → Among x xs → xs ≡ x ∷ []
one-is x [] h a = absurd a
one-is x (y ∷ []) h (inl e) = ap (λ z. z ∷ []) e
one-is x (y ∷ []) h (inr a) = absurd a
one-is x (y ∷ (z ∷ xs)) h a = absurd (false≢true h)

pub one-same : (x y : Row) (xs : List Row) → is_one xs ≡ true → Among x xs → Among y xs → x ≡ y
one-same x y [] h a b = absurd a
one-same x y (z ∷ []) h (inl e) (inl f) = sym e ∙ f
one-same x y (z ∷ []) h (inl e) (inr b) = absurd b
one-same x y (z ∷ []) h (inr a) b = absurd a
one-same x y (z ∷ (w ∷ xs)) h a b = absurd (false≢true h)

pub way-itself : (path : List Step) → pointwise same_step path path ≡ true
way-itself [] = refl
way-itself (s ∷ path) = ap (λ b. b && pointwise same_step path path) (step-itself s) ∙ way-itself path

same-texts : (a : List ℕ) → bytes_eq a a ≡ true
same-texts a = (bytes_eq-Decides a a).1 refl

plain-name : (local : List ℕ) → is_spelled [] local (record { uri = []; local = local }) ≡ true
plain-name local = ap (λ b. elim b [ true ↦ true | false ↦ false ]) (same-texts local)

-- ---- what rows write

abbrev pub Front : List Row → List Step → List Cell → Type 0
Front rows front cells = (cell : Cell) → Among cell cells → (Among cell.row rows) × (cell.row.path ≡ front)

-- What rows with a term write isn't blank.
abbrev pub AreFull : List Row → List Entry → Type 0
AreFull rows es = (row : Row) → Among row rows → (term : Term) → row.content ≡ contents.Term term → (d : Context) (text : List ℕ)
    → row_text row es d ≡ Some text → is_full text ≡ true

-- The row of another term that stands at the element writes something there.
pub record HasMain (rows : List Row) (es : List Entry) (row : Row) (d : Context) : Type 0 where
  pub main : Row
  pub among : Among main rows
  pub path : main.path ≡ row.path
  pub leaf : main.leaf ≡ leaves.Element
  pub term : Term
  pub content : main.content ≡ contents.Term term
  pub text : List ℕ
  pub writes : row_text main es d ≡ Some text

-- So it is for each row at an attribute, where that writes a term.
abbrev pub HaveMains : List Row → List Entry → Type 0
HaveMains rows es = (row : Row) → Among row rows → (term : Term) → row.content ≡ contents.Term term → (local : List ℕ) → row.leaf ≡ leaves.Attribute local
    → (d : Context) (text : List ℕ) → row_text row es d ≡ Some text → HasMain rows es row d

at-element : (cell : Cell) → is_at_element cell ≡ true → cell.row.leaf ≡ leaves.Element
at-element cell h = go cell.row.leaf h
  where
    go : (leaf : Leaf) → elim leaf [ leaves.Element ↦ true | (leaves.Attribute local) ↦ false ] ≡ true → leaf ≡ leaves.Element
    go leaves.Element k = refl
    go (leaves.Attribute local) k = absurd (false≢true k)

leaf-there : (cell : Cell) → cell.row.leaf ≡ leaves.Element → is_at_element cell ≡ true
leaf-there cell e = ap (λ (leaf : Leaf). elim leaf [ leaves.Element ↦ true | (leaves.Attribute local) ↦ false ]) e

leaf-elsewhere : (cell : Cell) (local : List ℕ) → cell.row.leaf ≡ leaves.Attribute local → is_at_element cell ≡ false
leaf-elsewhere cell local e = ap (λ (leaf : Leaf). elim leaf [ leaves.Element ↦ true | (leaves.Attribute other) ↦ false ]) e

some-there : (o : Option (List ℕ)) → is_some o ≡ true → (text : List ℕ) × (o ≡ Some text)
some-there None h = absurd (false≢true h)
some-there (Some text) h = (text, refl)

-- the row has a constant or a term
abbrev IsOf : Row → Type 0
IsOf row = ((text : List ℕ) × (row.content ≡ contents.Constant text)) ⊎ ((term : Term) × (row.content ≡ contents.Term term))

content-of : (row : Row) → IsOf row
content-of row = go row.content refl
  where
    go : (content : Content) → row.content ≡ content → IsOf row
    go (contents.Constant text) e = inl (text, e)
    go (contents.Term term) e = inr (term, e)

of-term : (row : Row) (term : Term) → row.content ≡ contents.Term term → has_any_term row ≡ true
of-term row term e = ap (λ c. is_some (term_in c)) e

of-constant : (row : Row) (text : List ℕ) → row.content ≡ contents.Constant text → has_any_term row ≡ false
of-constant row text e = ap (λ c. is_some (term_in c)) e

module _ (rows : List Row) (told : list_all (is_told rows) rows ≡ true) where
  told-row : (row : Row) → Among row rows → is_told rows row ≡ true
  told-row row a = all-is (is_told rows) rows row told a

  constant-told : (row : Row) → Among row rows → (text : List ℕ) → row.content ≡ contents.Constant text → is_one_of (words text) (trimmed text) ≡ true
  constant-told row a text e = sym (ap (λ (c : Content). elim c [
    | (contents.Term term) ↦ is_full_rule row.written && elim row.leaf [ leaves.Element ↦ true | (leaves.Attribute local) ↦ is_only rows row term ]
    | (contents.Constant t) ↦ is_one_of (words t) (trimmed t)
  ]) e) ∙ told-row row a

  pub term-told : (row : Row) → Among row rows → (term : Term) → row.content ≡ contents.Term term
      → (is_full_rule row.written && elim row.leaf [ leaves.Element ↦ true | (leaves.Attribute local) ↦ is_only rows row term ]) ≡ true
  term-told row a term e = sym (ap (λ (c : Content). elim c [
    | (contents.Term u) ↦ is_full_rule row.written && elim row.leaf [ leaves.Element ↦ true | (leaves.Attribute local) ↦ is_only rows row u ]
    | (contents.Constant t) ↦ is_one_of (words t) (trimmed t)
  ]) e) ∙ told-row row a

  pub part-told : (row : Row) → Among row rows → (term : Term) → row.content ≡ contents.Term term → (local : List ℕ) → row.leaf ≡ leaves.Attribute local
      → is_only rows row term ≡ true
  part-told row a term e local l =
      sym (ap (λ (leaf : Leaf). elim leaf [ leaves.Element ↦ true | (leaves.Attribute other) ↦ is_only rows row term ]) l)
      ∙ (both-true (is_full_rule row.written) _ (term-told row a term e)).1

each-from : {X : Type 0} (P : X → Type 0) (xs : List X) → ((x : X) → Among x xs → P x) → Each P xs
each-from P [] f = tt
each-from P (x ∷ xs) f = (f x (inl refl), each-from P xs (λ y a. f y (inr a)))

among-at : (above : List ℕ) (k : ℕ) (done : List Attribute) (a : Attribute) (todo : List Attribute) (m : ℕ) → m ≡ k + length done
    → Among (attribute_node above m a) (nodes_of_attributes above k (done ++ (a ∷ todo)))
among-at above k [] a todo m e = inl (ap (λ j. attribute_node above j a) (let z : k ≡ m = omega (arith, e) in z))
among-at above k (x ∷ done) a todo m e = inr (among-at above (k + 1) done a todo m (omega (arith, e)))

-- ---- an element of a line

module _ (rows : List Row) (told : list_all (is_told rows) rows ≡ true) (es : List Entry) (full : AreFull rows es) (mains : HaveMains rows es)
    (nodes : List Node) (front : List Step) (t : Step) (cells : List Cell) (inside : Plan) (held : Bool) (d : Context) (own : Front rows front cells)
    (alone : says_alone cells inside ≡ true) (beside : has_mains cells ≡ true) (way : List ℕ) (along : IsWay nodes front 0 way)
    (above : List ℕ) (n : ℕ) (at : last_of way ≡ n) (rest : Forest)
    (lies : Lies nodes above n (an_element (name_of t.name) (attributes es t cells d)
    (with_text (element_text es cells d) (written_lines es inside (holds_further es cells inside held d) d)) rest)) where
  abbrev text : List ℕ
  text = element_text es cells d

  abbrev further : Forest
  further = written_lines es inside (holds_further es cells inside held d) d

  abbrev attrs : List Attribute
  attrs = attributes es t cells d

  own-is : own_text nodes (element_node above n (name_of t.name)) ≡ text
  own-is = own-text-is nodes above n (name_of t.name) attrs (with_text text further) rest lies
      ∙ text-at-top text further (lines-no-text es inside (holds_further es cells inside held d) d)

  string-there : string_at nodes n ≡ text ++ texts further
  string-there = string-is nodes above n (name_of t.name) attrs (with_text text further) rest lies ∙ texts-behind text further

  full-there : is_full text ≡ true → is_full (string_at nodes n) ≡ true
  full-there h = ap is_full string-there ∙ full-front text (texts further) h

  row-along : (cell : Cell) → Among cell cells → IsWay nodes cell.row.path 0 way
  row-along cell a = subst (λ path. IsWay nodes path 0 way) (sym (own cell a).1) along

  -- a row with a term picks the element, where that isn't blank
  cell-picks : (cell : Cell) → Among cell cells → is_at_element cell ≡ true → has_any_term cell.row ≡ true → is_full text ≡ true
      → Picks nodes rows cell.row n
  cell-picks cell a e term h =
      row-picks nodes rows cell.row way n n (own cell a).0 term (row-along cell a) at
      (subst (λ leaf. Among n (leaves_of nodes leaf n)) (sym (at-element cell e))
      (among-filter (λ m. not (is_blank_at nodes m)) n (n ∷ []) (full-there h) (inl refl)))

  -- a cell's text is part of the element's
  cell-fills : (cell : Cell) → Among cell cells → is_at_element cell ≡ true → (piece : List ℕ) → constant_or_text es d cell.row ≡ Some piece
      → is_full piece ≡ true → is_full text ≡ true
  cell-fills cell a e piece is h =
      full-part (text_of_cell es d) cell cells a
      ((λ i. is_full (elim (e i) [ true ↦ elim (is i) [ None ↦ [] | Some x ↦ x ] | false ↦ [] ])) ∙ h)

  written-term : (row : Row) (term : Term) → row.content ≡ contents.Term term → constant_or_text es d row ≡ row_text row es d
  written-term row term e = ap (λ (c : Content). elim c [ (contents.Constant x) ↦ Some x | (contents.Term u) ↦ row_text row es d ]) e

  written-constant : (row : Row) (x : List ℕ) → row.content ≡ contents.Constant x → constant_or_text es d row ≡ Some x
  written-constant row x e = ap (λ (c : Content). elim c [ (contents.Constant y) ↦ Some y | (contents.Term u) ↦ row_text row es d ]) e

  -- ---- constants

  constant-says : (row : Row) → Among row rows → IsWay nodes row.path 0 way → (x : List ℕ) → row.content ≡ contents.Constant x → (m : ℕ)
      → string_at nodes m ≡ x → Among m (leaves_at nodes row.leaf n) → is_said nodes rows m ≡ true
  constant-says row a w x e m is leaf =
      said-constant nodes rows row m a
      (ap (λ (c : Content). elim (constant_in c) [
        | None ↦ false
        | Some y ↦ is_one_of (words y) (trimmed (string_at nodes m)) && is_among m (reached nodes row)
      ]) e
      ∙ ((λ i. is_one_of (words x) (trimmed (is i)) && is_among m (reached nodes row))
      ∙ (ap (λ b. b && is_among m (reached nodes row)) (constant-told rows told row a x e)
      ∙ is-among m (reached nodes row) (row-reaches nodes row way n m w at leaf))))

  -- ---- the element

  constant-read : (cell : Cell) → Among cell cells → shows_constant cell ≡ true → is_said nodes rows n ≡ true
  constant-read cell a h = go (content-of cell.row)
    where
      two : (is_at_element cell ≡ true) × (not (has_any_term cell.row) ≡ true)
      two = both-true (is_at_element cell) (not (has_any_term cell.row)) h

      ends : (is_nothing inside ≡ true) × (is_one (rows_so is_at_element cells) ≡ true)
      ends = both-true (is_nothing inside) (is_one (rows_so is_at_element cells))
          (ap (λ b. not b || (is_nothing inside && is_one (rows_so is_at_element cells))) (sym (any-among shows_constant cell cells h a)) ∙ alone)

      one : rows_so is_at_element cells ≡ cell.row ∷ []
      one = one-is cell.row (rows_so is_at_element cells) ends.1
          (among-map (λ (x : Cell). x.row) cell (filter is_at_element cells) (among-filter is_at_element cell cells two.0 a))

      go : IsOf cell.row → is_said nodes rows n ≡ true
      go (inr w) = absurd (false≢true (ap not (sym (of-term cell.row w.0 w.1)) ∙ two.1))
      go (inl w) =
          let is : text ≡ w.0 =
          text-by-rows es d cells
          ∙ (ap (flat_map (text_of_row es d)) one
          ∙ (append-nil (text_of_row es d cell.row) ∙ ap (λ (o : Option (List ℕ)). elim o [ None ↦ [] | Some x ↦ x ]) (written-constant cell.row w.0 w.1))) in
          let none : texts further ≡ [] = ap texts (at-nothing es inside (holds_further es cells inside held d) d ends.0) in
          constant-says cell.row (own cell a).0 (row-along cell a) w.0 w.1 n (string-there ∙ (ap (λ x. text ++ x) none ∙ (append-nil text ∙ is)))
          (subst (λ leaf. Among n (leaves_at nodes leaf n)) (sym (at-element cell two.0)) (inl refl))

  term-read : list_any shows_constant cells ≡ false → is_full text ≡ true → is_said nodes rows n ≡ true
  term-read none h = go (list_any is_at_element cells) refl
    where
      there : (cell : Cell) → Among cell cells → is_at_element cell ≡ true → (b : Bool) → has_any_term cell.row ≡ b → b ≡ true
      there cell a e true k = refl
      there cell a e false k =
          absurd (false≢true (sym (none-is shows_constant cells cell none a) ∙ (λ i. e i && not (k i))))

      go : (b : Bool) → list_any is_at_element cells ≡ b → is_said nodes rows n ≡ true
      go true e =
          let w = any-is is_at_element cells e in
          said-picked nodes rows w.0.row n
          (cell-picks w.0 w.1.0 w.1.1 (there w.0 w.1.0 w.1.1 (has_any_term w.0.row) refl) h)
      go false e =
          let blank : text ≡ [] = none-text is_at_element (λ (x : Cell). elim (constant_or_text es d x.row) [ None ↦ [] | Some y ↦ y ]) cells e in
          absurd (false≢true (ap is_full (sym blank) ∙ h))

  pub element-read : IsRead nodes rows (element_node above n (name_of t.name))
  element-read = go (is_blank text) refl
    where
      constants : (b : Bool) → list_any shows_constant cells ≡ b → is_full text ≡ true → is_said nodes rows n ≡ true
      constants true e h = let w = any-is shows_constant cells e in constant-read w.0 w.1.0 w.1.1
      constants false e h = term-read e h

      go : (b : Bool) → is_blank text ≡ b → IsRead nodes rows (element_node above n (name_of t.name))
      go true e = blank-read nodes rows (element_node above n (name_of t.name)) (ap is_blank own-is ∙ e)
      go false e = said-read nodes rows (element_node above n (name_of t.name)) (constants (list_any shows_constant cells) refl (ap not e))

  -- ---- its attributes

  record IsTold (a : Attribute) : Type 0 where
    local : List ℕ
    spelled_so : is_spelled [] local a.name ≡ true
    said : (m : ℕ) → Among m (attributes_named nodes local n) → string_at nodes m ≡ a.value → is_full a.value ≡ true → is_said nodes rows m ≡ true

  -- the currency of an amount
  currency-told : (cell : Cell) → Among cell cells → Each IsTold (currency_of_cell es t d cell)
  currency-told cell a = go (is_at_element cell && (shows_currency t cell.row && is_some (row_text cell.row es d))) refl
    where
      one : Picks nodes rows cell.row n → is_of_amount cell.row ≡ true → (o : Option Value)
          → Each IsTold (elim o [ None ↦ [] | Some value ↦ attribute currency_id (spelled value) ∷ [] ])
      one picks amount None = tt
      one picks amount (Some value) = (
        record {
          local = currency_id;
          spelled_so = plain-name currency_id;
          said = λ m b is h. said-currency nodes rows cell.row m n picks amount b;
        },
        tt,
      )

      by : IsOf cell.row → (x : List ℕ) → row_text cell.row es d ≡ Some x → is_at_element cell ≡ true → Picks nodes rows cell.row n
      by (inl w) x is e =
          let none : row_text cell.row es d ≡ None = ap (λ (c : Content). elim c [
            | (contents.Term u) ↦ row_text (record cell.row { content = contents.Term u }) es d
            | (contents.Constant y) ↦ None
          ]) w.1 in
          absurd (let z : ◌≡◌ {A = Option (List ℕ)} None (Some x) = sym none ∙ is in cc)
      by (inr w) x is e =
          cell-picks cell a e (of-term cell.row w.0 w.1)
          (cell-fills cell a e x (written-term cell.row w.0 w.1 ∙ is) (full cell.row (own cell a).0 w.0 w.1 d x is))

      go : (b : Bool) → (is_at_element cell && (shows_currency t cell.row && is_some (row_text cell.row es d))) ≡ b
          → Each IsTold (elim b [ true ↦ currency_attribute es cell.row | false ↦ [] ])
      go false e = tt
      go true e =
          let v = both-true (is_at_element cell) _ e in
          let w = both-true (shows_currency t cell.row) _ v.1 in
          let x = some-there (row_text cell.row es d) w.1 in
          one (by (content-of cell.row) x.0 x.1 v.0) (both-true (is_amount cell.row) _ w.0).0 (value_in es (currency_term cell.row.written) root_context)

  -- the element in which a term stands at an attribute isn't blank
  main-full : (cell : Cell) → Among cell cells → (term : Term) → cell.row.content ≡ contents.Term term → (local : List ℕ)
      → cell.row.leaf ≡ leaves.Attribute local → (x : List ℕ) → row_text cell.row es d ≡ Some x → is_full text ≡ true
  main-full cell a term e local l x is =
      let row : Row = cell.row in
      let m = mains row (own cell a).0 term e local l d x is in
      let part : shows_part cell ≡ true = λ i. not (leaf-elsewhere cell local l i) && of-term row term e i in
      let some : list_any is_at_element cells ≡ true =
      ap (λ b. not b || list_any is_at_element cells) (sym (any-among shows_part cell cells part a)) ∙ beside in
      let w = any-is is_at_element cells some in
      let only = both-true (is_always row.written) _ (part-told rows told row (own cell a).0 term e local l) in
      let one = both-true (is_one (filter (has_term term) rows)) (is_one (filter (ends_at row.path) rows)) only.1 in
      let same : m.main ≡ w.0.row =
      one-same m.main w.0.row (filter (ends_at row.path) rows) one.1
      (among-filter (ends_at row.path) m.main rows (ends m.main m.leaf m.path) m.among)
      (among-filter (ends_at row.path) w.0.row rows (ends w.0.row (at-element w.0 w.1.1) ((own w.0 w.1.0).1 ∙ sym (own cell a).1)) (own w.0 w.1.0).0) in
      cell-fills w.0 w.1.0 w.1.1 m.text
      (written-term w.0.row m.term (ap (λ (r : Row). r.content) (sym same) ∙ m.content) ∙ (ap (λ (r : Row). row_text r es d) (sym same) ∙ m.writes))
      (full m.main m.among m.term m.content d m.text m.writes)
    where
      ends : (r : Row) → r.leaf ≡ leaves.Element → r.path ≡ cell.row.path → ends_at cell.row.path r ≡ true
      ends r leaf path = (λ i. is_element (leaf i) && pointwise same_step (path i) cell.row.path) ∙ way-itself cell.row.path

  -- an attribute of its own
  attribute-told : (cell : Cell) → Among cell cells → Each IsTold (attribute_of_cell es d cell)
  attribute-told cell a = by-leaf cell.row.leaf refl
    where
      term-said : (local : List ℕ) → cell.row.leaf ≡ leaves.Attribute local → (x : List ℕ) → (term : Term) → cell.row.content ≡ contents.Term term
          → row_text cell.row es d ≡ Some x
          → (m : ℕ) → Among m (attributes_named nodes local n) → string_at nodes m ≡ x → is_full x ≡ true → is_said nodes rows m ≡ true
      term-said local l x term e is m b string h =
          said-picked nodes rows cell.row m
          (row-picks nodes rows cell.row way n m (own cell a).0 (of-term cell.row term e) (row-along cell a) at
          (subst (λ leaf. Among m (leaves_of nodes leaf n)) (sym l)
          (among-flat_map (λ k. filled nodes (attributes_named nodes local k)) n m (filled nodes (n ∷ []))
          (among-filter (λ k. not (is_blank_at nodes k)) n (n ∷ []) (full-there (main-full cell a term e local l x is)) (inl refl))
          (among-filter (λ k. not (is_blank_at nodes k)) m (attributes_named nodes local n) (ap is_full string ∙ h) b))))

      said-by : IsOf cell.row → (local : List ℕ) → cell.row.leaf ≡ leaves.Attribute local → (x : List ℕ) → constant_or_text es d cell.row ≡ Some x
          → (m : ℕ) → Among m (attributes_named nodes local n) → string_at nodes m ≡ x → is_full x ≡ true → is_said nodes rows m ≡ true
      said-by (inl w) local l x is m b string h =
          constant-says cell.row (own cell a).0 (row-along cell a) w.0 w.1 m (string ∙ same_Some _ _ (sym is ∙ written-constant cell.row w.0 w.1))
          (subst (λ leaf. Among m (leaves_at nodes leaf n)) (sym l) b)
      said-by (inr w) local l x is m b string h =
          term-said local l x w.0 w.1 (sym (written-term cell.row w.0 w.1) ∙ is) m b string h

      by-text : (local : List ℕ) → cell.row.leaf ≡ leaves.Attribute local → (o : Option (List ℕ)) → constant_or_text es d cell.row ≡ o
          → Each IsTold (elim o [ None ↦ [] | Some x ↦ attribute local x ∷ [] ])
      by-text local l None is = tt
      by-text local l (Some x) is = (
        record {
          local = local;
          spelled_so = plain-name local;
          said = said-by (content-of cell.row) local l x is;
        },
        tt,
      )

      by-leaf : (leaf : Leaf) → cell.row.leaf ≡ leaf → Each IsTold (elim leaf [
        | leaves.Element ↦ []
        | (leaves.Attribute local) ↦ elim (constant_or_text es d cell.row) [ None ↦ [] | Some x ↦ attribute local x ∷ [] ]
      ])
      by-leaf leaves.Element l = tt
      by-leaf (leaves.Attribute local) l = by-text local l (constant_or_text es d cell.row) refl

  all-told : Each IsTold attrs
  all-told =
      each-append IsTold (flat_map (currency_of_cell es t d) cells) (flat_map (attribute_of_cell es d) cells)
      (each-flat_map IsTold (currency_of_cell es t d) cells (each-from (λ cell. Each IsTold (currency_of_cell es t d cell)) cells currency-told))
      (each-flat_map IsTold (attribute_of_cell es d) cells (each-from (λ cell. Each IsTold (attribute_of_cell es d cell)) cells attribute-told))

  each-read : (done todo : List Attribute) → attrs ≡ done ++ todo → Each IsTold todo
      → Each (IsRead nodes rows) (nodes_of_attributes (n ∷ above) (n + 1 + length done) todo)
  each-read done [] e h = tt
  each-read done (a ∷ todo) e h = (
    by (is_blank a.value) refl,
    subst (λ k. Each (IsRead nodes rows) (nodes_of_attributes (n ∷ above) k todo)) place (each-read (done ++ (a ∷ [])) todo next h.1),
  )
    where
      place : n + 1 + length (done ++ (a ∷ [])) ≡ n + 1 + length done + 1
      place = omega (arith, length-append done (a ∷ []))

      next : attrs ≡ (done ++ (a ∷ [])) ++ todo
      next = e ∙ sym (append_assoc done (a ∷ []) todo)

      named : Among (n + 1 + length done) (attributes_named nodes h.0.local n)
      named =
          subst (Among (n + 1 + length done)) (sym (named-are nodes above n (name_of t.name) attrs (with_text text further) rest lies h.0.local))
          (among-map number (attribute_node (n ∷ above) (n + 1 + length done) a)
          (filter (has_plain_name h.0.local) (nodes_of_attributes (n ∷ above) (n + 1) attrs))
          (among-filter (has_plain_name h.0.local) (attribute_node (n ∷ above) (n + 1 + length done) a) (nodes_of_attributes (n ∷ above) (n + 1) attrs)
          h.0.spelled_so
          (subst (λ l. Among (attribute_node (n ∷ above) (n + 1 + length done) a) (nodes_of_attributes (n ∷ above) (n + 1) l)) (sym e)
          (among-at (n ∷ above) (n + 1) done a todo (n + 1 + length done) refl))))

      by : (b : Bool) → is_blank a.value ≡ b → IsRead nodes rows (attribute_node (n ∷ above) (n + 1 + length done) a)
      by true k = blank-read nodes rows (attribute_node (n ∷ above) (n + 1 + length done) a) k
      by false k =
          said-read nodes rows (attribute_node (n ∷ above) (n + 1 + length done) a)
          (h.0.said (n + 1 + length done) named
          (attribute-string nodes above n (name_of t.name) attrs (with_text text further) rest lies done a todo e) (ap not k))

  pub attributes-read : Each (IsRead nodes rows) (nodes_of_attributes (n ∷ above) (n + 1) attrs)
  attributes-read =
      subst (λ k. Each (IsRead nodes rows) (nodes_of_attributes (n ∷ above) k attrs)) (let z : n + 1 + 0 ≡ n + 1 = omega arith in z)
      (each-read [] attrs refl all-told)
