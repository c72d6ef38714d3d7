-- The element of a line is written where its leaves call for it, and has what they say.
use Rattle.std.proofs.Common.{◌≡◌, ℕ, Bool, true, false, ◌&&◌, ◌||◌, not, Option, Some, None, List, [], ◌∷◌, ◌++◌, flat_map, map, inl, inr, refl, sym, ap, ◌∙◌}
use Rattle.std.specs.Prelude.{is_some}
use Rattle.std.specs.List.{list_any}
use Rattle.std.proofs.lemmas.Bool.{false≢true}
use Rattle.inv_base.specs.Tree.{Attribute}
use Rattle.term_table.specs.declared.groups.Group.{Group}
use Rattle.term_table.specs.declared.contexts.Context.{Context}
use Rattle.inv_terms.specs.declared.entries.Entry.{Entry}
use Rattle.bind_rows.specs.declared.names.Leaf.{Leaf as End}
use Rattle.bind_rows.specs.declared.names.Leaf.TheVariants as leaves
use Rattle.bind_rows.specs.declared.rows.Step.{Step}
use Rattle.bind_rows.specs.declared.rows.Row.{Row}
use Rattle.bind_rows.specs.declared.rows.Content.{Content}
use Rattle.bind_rows.specs.declared.rows.Content.TheVariants as contents
use Rattle.bind_rows.specs.declared.rows.Form.{Form}
use Rattle.bind_rows.specs.declared.rows.Repeats.{Repeats}
use Rattle.bind_rows.specs.declared.rows.Written.{Written}
use Rattle.bind_rows.specs.declared.rows.Check.{Check}
use Rattle.bind_table.specs.Lines.{Plan, Cell}
use Rattle.bind_table.specs.Laid.{element_numbers, are_distinct}
use Rattle.bind_meaning.specs.Picks.{has_any_term}
use Rattle.bind_meaning.specs.Writing.{row_text}
use Rattle.bind_meaning.specs.Trees.{has_constant, is_constant, is_emitted, holds_further, either, attribute, attributes, currency_of_cell, attribute_of_cell}
use Rattle.bind_meaning.specs.Trees.{text_of_cell, element_text, shows_currency, currency_attribute, is_at_element, spots}
use Rattle.binding_laws.proofs.TreeLemmas.{Each, each-weaker}
use Rattle.binding_laws.proofs.ListLemmas.{append-nil, flat_map-each, flat_map-same}
use Rattle.address_laws.specs.AddressTrees.{Said, a_string, an_attribute, a_currency, text_in, attribute_in, currency_in, where_so}
use Rattle.address_laws.specs.Addresses.{Turn, said_with, currencies_at, holder, is_some_of}
use Rattle.address_laws.specs.Addressed.{is_constant_element, is_constant_attribute}
use Rattle.address_laws.proofs.Orders.{In, each-in}
use Rattle.address_laws.proofs.Items.{Item, ends_of, end_of, end_at, plan_from}
use Rattle.address_laws.proofs.Holding.{is_term, any-append, any-flat_map, any-same, writes_below, line-holds, line-terms, or-false, or-true}
use Rattle.address_laws.proofs.Walks.{own_along, own_said, own, all_leaves, all_marked, told-some, told_along-some, further, due, calls, own-calls}
use Rattle.address_laws.proofs.Walks.{all_marked-calls, cell_says, some-map}
use Rattle.address_laws.proofs.Constants.{IsConstant, writes_item, unheld, unheld-below, held, own-told, constant-writes, any-each, any-alike, each-of_in}
use Rattle.address_laws.proofs.Constants.{constant-says}

-- ---- what a cell says

no-texts : (b : Bool) (leaf : End) (xs : List Attribute) → flat_map text_in (currencies_at b leaf xs) ≡ []
no-texts true leaves.Element [] = refl
no-texts true leaves.Element (x ∷ xs) = no-texts true leaves.Element xs
no-texts true (leaves.Attribute local) xs = refl
no-texts false leaf xs = refl

no-attributes : (b : Bool) (leaf : End) (xs : List Attribute) → flat_map attribute_in (currencies_at b leaf xs) ≡ []
no-attributes true leaves.Element [] = refl
no-attributes true leaves.Element (x ∷ xs) = no-attributes true leaves.Element xs
no-attributes true (leaves.Attribute local) xs = refl
no-attributes false leaf xs = refl

all-currencies : (xs : List Attribute) → flat_map currency_in (map a_currency xs) ≡ xs
all-currencies [] = refl
all-currencies (x ∷ xs) = ap (λ l. x ∷ l) (all-currencies xs)

no-currencies : (b : Bool) (local : List ℕ) (xs : List Attribute) → flat_map currency_in (currencies_at b (leaves.Attribute local) xs) ≡ []
no-currencies true local xs = refl
no-currencies false local xs = refl

none-said : {A : Type 0} (of : Said → List A) (b : Bool) (said : Said) → of said ≡ [] → flat_map of (where_so b said) ≡ []
none-said of true said e = append-nil (of said) ∙ e
none-said of false said e = refl

one-said : {A : Type 0} (of : Said → List A) (b : Bool) (said : Said) → b ≡ true → flat_map of (where_so b said) ≡ of said
one-said of true said e = append-nil (of said)
one-said of false said e = absurd (false≢true e)

module _ (es : List Entry) (s : Step) (d : Context) (above here : Bool) (n : ℕ) (path : List Step) (outer inner : Option Group) (form : Form)
    (repeats : Repeats) (written : Written) (check : Check) where
  abbrev one_row : End → Content → Row
  one_row leaf content = record {
    path = path;
    leaf = leaf;
    outer = outer;
    inner = inner;
    content = content;
    form = form;
    repeats = repeats;
    written = written;
    check = check;
  }

  abbrev one_cell : End → Content → Cell
  one_cell leaf content = record { number = n; row = one_row leaf content }

  text-said : (leaf : End) (content : Content) → (has_any_term (one_row leaf content) ≡ false → due leaf above here ≡ true)
      → flat_map text_in (own_said es content above here (Some s) d (one_row leaf content)) ≡ text_of_cell es d (one_cell leaf content)
  text-said leaves.Element (contents.Term term) h = go (row_text (one_row leaves.Element (contents.Term term)) es d)
    where
      go : (o : Option (List ℕ)) → flat_map text_in
          (said_with es (one_row leaves.Element (contents.Term term)) (Some s) o) ≡ (elim o [ None ↦ [] | Some text ↦ text ])
      go None = refl
      go (Some text) = ap (λ l. text ++ l) (no-texts (shows_currency s (one_row leaves.Element (contents.Term term))) leaves.Element
          (currency_attribute es (one_row leaves.Element (contents.Term term)))) ∙ append-nil text
  text-said (leaves.Attribute local) (contents.Term term) h = go (row_text (one_row (leaves.Attribute local) (contents.Term term)) es d)
    where
      go : (o : Option (List ℕ)) → flat_map text_in (said_with es (one_row (leaves.Attribute local) (contents.Term term)) (Some s) o) ≡ []
      go None = refl
      go (Some text) = no-texts (shows_currency s (one_row (leaves.Attribute local) (contents.Term term))) (leaves.Attribute local)
          (currency_attribute es (one_row (leaves.Attribute local) (contents.Term term)))
  text-said leaves.Element (contents.Constant text) h = one-said text_in above (a_string text) (h refl)
  text-said (leaves.Attribute local) (contents.Constant text) h = none-said text_in here (an_attribute (attribute local text)) refl

  attribute-said : (leaf : End) (content : Content) → (has_any_term (one_row leaf content) ≡ false → due leaf above here ≡ true)
      → flat_map attribute_in (own_said es content above here (Some s) d (one_row leaf content)) ≡ attribute_of_cell es d (one_cell leaf content)
  attribute-said leaves.Element (contents.Term term) h = go (row_text (one_row leaves.Element (contents.Term term)) es d)
    where
      go : (o : Option (List ℕ)) → flat_map attribute_in (said_with es (one_row leaves.Element (contents.Term term)) (Some s) o) ≡ []
      go None = refl
      go (Some text) = no-attributes (shows_currency s (one_row leaves.Element (contents.Term term))) leaves.Element
          (currency_attribute es (one_row leaves.Element (contents.Term term)))
  attribute-said (leaves.Attribute local) (contents.Term term) h = go (row_text (one_row (leaves.Attribute local) (contents.Term term)) es d)
    where
      go : (o : Option (List ℕ)) → flat_map attribute_in (said_with es (one_row (leaves.Attribute local) (contents.Term term)) (Some s) o)
          ≡ (elim o [ None ↦ [] | Some text ↦ attribute local text ∷ [] ])
      go None = refl
      go (Some text) = ap (λ l. attribute local text ∷ l)
          (no-attributes (shows_currency s (one_row (leaves.Attribute local) (contents.Term term))) (leaves.Attribute local)
          (currency_attribute es (one_row (leaves.Attribute local) (contents.Term term))))
  attribute-said leaves.Element (contents.Constant text) h = none-said attribute_in above (a_string text) refl
  attribute-said (leaves.Attribute local) (contents.Constant text) h = one-said attribute_in here (an_attribute (attribute local text)) (h refl)

  currency-said : (leaf : End) (content : Content) → flat_map currency_in (own_said es content above here (Some s) d (one_row leaf content)) ≡ currency_of_cell
      es s d (one_cell leaf content)
  currency-said leaves.Element (contents.Term term) =
      go (shows_currency s (one_row leaves.Element (contents.Term term))) (row_text (one_row leaves.Element (contents.Term term)) es d)
      (currency_attribute es (one_row leaves.Element (contents.Term term)))
    where
      said-as : Bool → List Attribute → Option (List ℕ) → List Said
      said-as b xs None = []
      said-as b xs (Some text) = a_string text ∷ currencies_at b leaves.Element xs

      go : (b : Bool) (o : Option (List ℕ)) (xs : List Attribute) → flat_map currency_in (said-as b xs o) ≡ (elim (b && is_some o) [ true ↦ xs | false ↦ [] ])
      go true None xs = refl
      go true (Some text) xs = all-currencies xs
      go false None xs = refl
      go false (Some text) xs = refl
  currency-said (leaves.Attribute local) (contents.Term term) = go (row_text (one_row (leaves.Attribute local) (contents.Term term)) es d)
    where
      go : (o : Option (List ℕ)) → flat_map currency_in (said_with es (one_row (leaves.Attribute local) (contents.Term term)) (Some s) o) ≡ []
      go None = refl
      go (Some text) = no-currencies (shows_currency s (one_row (leaves.Attribute local) (contents.Term term))) local
          (currency_attribute es (one_row (leaves.Attribute local) (contents.Term term)))
  currency-said leaves.Element (contents.Constant text) = none-said currency_in above (a_string text) refl
  currency-said (leaves.Attribute local) (contents.Constant text) = none-said currency_in here (an_attribute (attribute local text)) refl

-- ---- what the cells of a line say

module _ (es : List Entry) (s : Step) (d : Context) (above here : Bool) (items : List Item) where
  one-text : (cell : Cell) → (has_any_term cell.row ≡ false → due cell.row.leaf above here ≡ true) →
      cell_says text_in es items above here (Some s) d cell ≡ text_of_cell es d cell
  one-text cell h =
      text-said es s d above here cell.number cell.row.path cell.row.outer cell.row.inner cell.row.form cell.row.repeats cell.row.written cell.row.check
      cell.row.leaf cell.row.content h

  one-attribute : (cell : Cell) → (has_any_term cell.row ≡ false → due cell.row.leaf above here ≡ true) →
      cell_says attribute_in es items above here (Some s) d cell ≡ attribute_of_cell es d cell
  one-attribute cell h =
      attribute-said es s d above here cell.number cell.row.path cell.row.outer cell.row.inner cell.row.form cell.row.repeats cell.row.written cell.row.check
      cell.row.leaf cell.row.content h

  one-currency : (cell : Cell) → cell_says currency_in es items above here (Some s) d cell ≡ currency_of_cell es s d cell
  one-currency cell =
      currency-said es s d above here cell.number cell.row.path cell.row.outer cell.row.inner cell.row.form cell.row.repeats cell.row.written cell.row.check
      cell.row.leaf cell.row.content

  abbrev pub AreDue : List Cell → Type 0
  AreDue cells = Each (λ (cell : Cell). has_any_term cell.row ≡ false → due cell.row.leaf above here ≡ true) cells

  pub texts-said : (cells : List Cell) → AreDue cells → flat_map (cell_says text_in es items above here (Some s) d) cells ≡ element_text es cells d
  texts-said cells h =
      flat_map-each (cell_says text_in es items above here (Some s) d) (text_of_cell es d) cells
      (each-weaker (λ (cell : Cell). has_any_term cell.row ≡ false → due cell.row.leaf above here ≡ true)
      (λ cell. cell_says text_in es items above here (Some s) d cell ≡ text_of_cell es d cell) cells one-text h)

  pub attributes-said : (cells : List Cell) → AreDue cells
      → flat_map (cell_says currency_in es items above here (Some s) d) cells ++
      flat_map (cell_says attribute_in es items above here (Some s) d) cells ≡ attributes es s cells d
  attributes-said cells h =
      ap (λ l. l ++ flat_map (cell_says attribute_in es items above here (Some s) d) cells)
      (flat_map-same (cell_says currency_in es items above here (Some s) d) (currency_of_cell es s d) one-currency cells)
      ∙ ap (λ l. flat_map (currency_of_cell es s d) cells ++ l)
      (flat_map-each (cell_says attribute_in es items above here (Some s) d) (attribute_of_cell es d) cells
      (each-weaker (λ (cell : Cell). has_any_term cell.row ≡ false → due cell.row.leaf above here ≡ true)
      (λ cell. cell_says attribute_in es items above here (Some s) d cell ≡ attribute_of_cell es d cell) cells
      one-attribute h))

-- ---- where an element is written

pub any-implies : {A : Type 0} (p q : A → Bool) → ((x : A) → p x ≡ true → q x ≡ true) → (xs : List A) → list_any p xs ≡ true → list_any q xs ≡ true
any-implies p q h [] e = absurd (false≢true e)
any-implies p q h (x ∷ xs) e = go (p x) refl (any-implies p q h xs)
  where
    go : (b : Bool) → p x ≡ b → (list_any p xs ≡ true → list_any q xs ≡ true) → (q x || list_any q xs) ≡ true
    go true f k = ap (λ b. b || list_any q xs) (h x f)
    go false f k = ap (λ b. q x || b) (k (sym (ap (λ b. b || list_any p xs) f) ∙ e)) ∙ or-true (q x)

pub any-has : {A : Type 0} (p : A → Bool) (x : A) (xs : List A) → In x xs → p x ≡ true → list_any p xs ≡ true
any-has p x [] k e = elim k [ ]
any-has p x (y ∷ ys) (inl f) e = ap (λ b. b || list_any p ys) (ap p (sym f) ∙ e)
any-has p x (y ∷ ys) (inr k) e = ap (λ b. p y || b) (any-has p x ys k e) ∙ or-true (p y)

pub any-never : {A : Type 0} (xs : List A) → list_any (λ x. false) xs ≡ false
any-never [] = refl
any-never (x ∷ xs) = any-never xs

pub constant-below : (es : List Entry) (path : List Step) (row : Row) (c : Context) → IsConstant row → writes_below es path row c ≡ false
constant-below es [] row c e = constant-writes es row c e
constant-below es (u ∷ path) row c e = any-same (writes_below es path row) (λ d. false) (λ d. constant-below es path row d e) (spots es c u.group) ∙
    any-never (spots es c u.group)

pub has-either : (cells : List Cell) → has_constant cells ≡ (list_any is_constant_element cells || list_any is_constant_attribute cells)
has-either [] = refl
has-either (cell ∷ cells) = ap (λ b. not (has_any_term cell.row) || b) (has-either cells)
    ∙ go (not (has_any_term cell.row)) (is_at_element cell) (list_any is_constant_element cells) (list_any is_constant_attribute cells)
  where
    go : (c e x y : Bool) → (c || (x || y)) ≡ (((c && e) || x) || ((c && not e) || y))
    go true true x y = refl
    go true false x y = sym (or-true x)
    go false e x y = refl

module _ (es : List Entry) (s : Step) (cells : List Cell) (within : Plan) (ts : List Item) (t : Turn) (h : Bool)
    (distinct : are_distinct (element_numbers (plan_from ts)) ≡ true) (cells-are : cells ≡ ends_of ts) (within-is : within ≡ plan_from ts)
    (some : ts ≡ [] → ⊥) where
  abbrev pub writing : Bool
  writing = list_any (writes_item es t.context) ts

  abbrev pub termed : Bool
  termed = list_any is_term ts

  abbrev pub here : Bool
  here = further es ts h s t

  -- what is asked of the line's constants
  pub record Fits : Type 0 where
    pub marked : has_constant cells ≡ true → s.always ≡ false
    pub texts : list_any is_constant_element cells ≡ true → writing ≡ true → h ≡ true
    pub alone : list_any is_constant_attribute cells ≡ true → termed ≡ true → h ≡ true → writing ≡ true

  pub here-is : here ≡ holder termed writing h
  here-is = ap (λ b. holder termed b h) (told-some es (Some s) t.context ts)

  writes-term : (i : Item) → writes_item es t.context i ≡ true → is_term i ≡ true
  writes-term i w = go (is_term i) refl
    where
      go : (b : Bool) → is_term i ≡ b → is_term i ≡ true
      go true e = e
      go false e = absurd (false≢true (sym (constant-below es i.path i.cell.row t.context e) ∙ w))

  pub writing-termed : writing ≡ true → termed ≡ true
  writing-termed e = any-implies (writes_item es t.context) is_term writes-term ts e

  abbrev own_some : Bool → Bool → Item → Bool
  own_some x b i = is_some_of (own_along es ts x b (Some s) t.context i.path i.cell.row)

  term-some : (x b : Bool) (i : Item) → is_term i ≡ true → own_some x b i ≡ writes_item es t.context i
  term-some x b i e = ap is_some_of (own-told es ts x b (Some s) t.context i.path i.cell.row e) ∙ told_along-some es (Some s) t.context i.path i.cell.row

  any-written : (x b : Bool) → writing ≡ true → list_any (own_some x b) ts ≡ true
  any-written x b e = any-implies (writes_item es t.context) (own_some x b) (λ i w. term-some x b i (writes-term i w) ∙ w) ts e

  silent-item : writing ≡ false → (i : Item) → In i ts → writes_item es t.context i ≡ false
  silent-item e i k = each-in (λ j. writes_item es t.context j ≡ false) ts i (any-each (writes_item es t.context) ts e) k

  none-held : writing ≡ false → list_any (own_some false false) ts ≡ false
  none-held e = any-alike (own_some false false) (λ i. false) ts (each-of_in (λ i. own_some false false i ≡ false) ts one) ∙ any-never ts
    where
      one : (i : Item) → In i ts → own_some false false i ≡ false
      one i k = go (is_term i) refl
        where
          go : (b : Bool) → is_term i ≡ b → own_some false false i ≡ false
          go true f = term-some false false i f ∙ silent-item e i k
          go false f = ap is_some_of (unheld es ts (Some s) t.context i.path i.cell distinct k e f)

  texts-held : writing ≡ false → list_any (own_some true false) ts ≡ list_any is_constant_element (ends_of ts)
  texts-held e =
      any-alike (own_some true false) (λ i. list_any is_constant_element (end_of i)) ts
      (each-of_in (λ i. own_some true false i ≡ list_any is_constant_element (end_of i)) ts (λ i k. one i.path i.cell k))
      ∙ sym (any-flat_map is_constant_element end_of ts)
    where
      term-ends : (path : List Step) (cell : Cell) → has_any_term cell.row ≡ true → list_any is_constant_element (end_at path cell) ≡ false
      term-ends [] cell f = ap (λ b. (not b && is_at_element cell) || false) f
      term-ends (u ∷ path) cell f = refl

      at-leaf : (cell : Cell) (leaf : End) → cell.row.leaf ≡ leaf → due leaf true false ≡ is_at_element cell
      at-leaf cell leaves.Element f = sym (ap at_end f)
        where
          at_end : End → Bool
          at_end leaves.Element = true
          at_end (leaves.Attribute local) = false
      at-leaf cell (leaves.Attribute local) f = sym (ap at_end f)
        where
          at_end : End → Bool
          at_end leaves.Element = true
          at_end (leaves.Attribute local) = false

      constant-ends : (path : List Step) (cell : Cell) → In (record { path = path; cell = cell }) ts → IsConstant cell.row
          → is_some_of (own_along es ts true false (Some s) t.context path cell.row) ≡ list_any is_constant_element (end_at path cell)
      constant-ends [] cell k f =
          some-map _ (own_said es cell.row.content true false (Some s) t.context cell.row)
          ∙ (constant-says es true false (Some s) t.context cell.row f ∙
          (at-leaf cell cell.row.leaf refl ∙ (sym (or-false (is_at_element cell)) ∙ ap (λ b. (not b && is_at_element cell) || false) (sym f))))
      constant-ends (u ∷ path) cell k f = ap is_some_of (unheld-below es ts true (Some s) t.context u path cell distinct k e f)

      one : (path : List Step) (cell : Cell) → In (record { path = path; cell = cell }) ts
          → is_some_of (own_along es ts true false (Some s) t.context path cell.row) ≡ list_any is_constant_element (end_at path cell)
      one path cell k = go (has_any_term cell.row) refl
        where
          go : (b : Bool) → has_any_term cell.row ≡ b → is_some_of (own_along es ts true false (Some s) t.context path cell.row) ≡ list_any is_constant_element
              (end_at path cell)
          go true f = term-some true false (record { path = path; cell = cell }) f ∙
              (silent-item e (record { path = path; cell = cell }) k ∙ sym (term-ends path cell f))
          go false f = constant-ends path cell k f

  all-held : termed ≡ false → list_any (own_some true true) ts ≡ true
  all-held e = go ts some (any-each is_term ts e)
    where
      go : (is : List Item) → (is ≡ [] → ⊥) → Each (λ i. is_term i ≡ false) is → list_any (own_some true true) is ≡ true
      go [] k f = absurd (k refl)
      go (i ∷ is) k f = ap (λ b. b || list_any (own_some true true) is) (held es ts (Some s) t.context i.path i.cell e f.0)

  -- what the definition of the document asks
  abbrev asked : Bool → Bool → Bool → Bool
  asked w x m = either w (λ _. s.always || (x && (has_constant cells || not m)))

  emitted-asked : is_emitted es s cells within h t.context ≡ asked writing h termed
  emitted-asked =
      ap (λ b. either b (λ _. s.always || (h && (has_constant cells || is_constant cells within))))
      (line-holds es cells within ts t.context cells-are within-is)
      ∙ ap (λ b. either writing (λ _. s.always || (h && (has_constant cells || not b)))) (line-terms cells within ts cells-are within-is)

  own-asked : Fits → (list_any (own_some h here) ts || s.always) ≡ asked writing h termed
  own-asked f = go writing h termed refl refl refl
    where
      end : (x y b : Bool) → h ≡ x → here ≡ y → list_any (own_some x y) ts ≡ b → (list_any (own_some h here) ts || s.always) ≡ (b || s.always)
      end x y b e k g = ap (λ z. list_any (own_some z here) ts || s.always) e ∙ (ap (λ z. list_any (own_some x z) ts || s.always) k ∙ ap (λ z. z || s.always) g)

      arrived : (w x m r : Bool) → writing ≡ w → h ≡ x → termed ≡ m → asked w x m ≡ r → r ≡ asked writing h termed
      arrived w x m r e g k q = sym q ∙ (ap (λ z. asked z x m) (sym e) ∙ (ap (λ z. asked writing z m) (sym g) ∙ ap (λ z. asked writing h z) (sym k)))

      holder-none : (m : Bool) → holder m false false ≡ false
      holder-none true = refl
      holder-none false = refl

      no-attributes-here : writing ≡ false → h ≡ true → termed ≡ true → list_any is_constant_attribute cells ≡ false
      no-attributes-here e g k = by (list_any is_constant_attribute cells) refl
        where
          by : (b : Bool) → list_any is_constant_attribute cells ≡ b → list_any is_constant_attribute cells ≡ false
          by true q = absurd (false≢true (sym e ∙ f.alone q k g))
          by false q = q

      shuffle : (a b c : Bool) → c ≡ (a || false) → (a || b) ≡ (b || (c || false))
      shuffle true true c q = refl
      shuffle true false c q = sym (ap (λ x. x || false) q)
      shuffle false true c q = refl
      shuffle false false c q = sym (ap (λ x. x || false) q)

      hid : (b c : Bool) → true ≡ (b || (c || true))
      hid true c = refl
      hid false c = sym (or-true c)

      go : (w x m : Bool) → writing ≡ w → h ≡ x → termed ≡ m → (list_any (own_some h here) ts || s.always) ≡ asked writing h termed
      go true x m e g k = ap (λ z. z || s.always) (any-written h here e) ∙ arrived true x m true e g k refl
      go false false m e g k =
          end false false false g (here-is ∙ (ap (λ z. holder termed z h) e ∙ (ap (λ z. holder termed false z) g ∙ holder-none termed))) (none-held e)
          ∙ arrived false false m s.always e g k (or-false s.always)
      go false true true e g k =
          end true false (list_any is_constant_element cells) g (here-is ∙ (ap (λ z. holder z writing h) k ∙ e))
          (texts-held e ∙ ap (list_any is_constant_element) (sym cells-are))
          ∙ arrived false true true (list_any is_constant_element cells || s.always) e g k
          (sym (shuffle (list_any is_constant_element cells) s.always (has_constant cells)
          (has-either cells ∙ ap (λ z. list_any is_constant_element cells || z) (no-attributes-here e g k))))
      go false true false e g k =
          end true true true g (here-is ∙ (ap (λ z. holder z writing h) k ∙ g)) (all-held k)
          ∙ arrived false true false true e g k (sym (hid s.always (has_constant cells)))

  -- The element is called for exactly where it is written.
  pub called-emitted : Fits → list_any calls (all_leaves es ts h here (Some s) t.context) ≡ is_emitted es s cells within h t.context
  called-emitted f =
      any-append calls (own es ts h here (Some s) t.context) (all_marked es ts (Some s) t.context)
      ∙ (ap (λ b. b || list_any calls (all_marked es ts (Some s) t.context)) (own-calls es ts h here (Some s) t.context)
      ∙ (ap (λ b. list_any (own_some h here) ts || b) (all_marked-calls es s t.context ts some) ∙ (own-asked f ∙ sym emitted-asked)))

  -- The holder of what is in it holds an entry exactly where the definition of the document says so.
  pub holds-further : holds_further es cells within h t.context ≡ here
  holds-further =
      ap (λ b. either b (λ _. h && is_constant cells within)) (line-holds es cells within ts t.context cells-are within-is)
      ∙ (ap (λ b. either writing (λ _. h && not b)) (line-terms cells within ts cells-are within-is)
      ∙ (go writing termed h writing-termed ∙ sym here-is))
    where
      go : (w m x : Bool) → (w ≡ true → m ≡ true) → either w (λ _. x && not m) ≡ holder m w x
      go true true x f = refl
      go true false x f = absurd (false≢true (f refl))
      go false true true f = refl
      go false true false f = refl
      go false false true f = refl
      go false false false f = refl

  -- In an element that is written all its constants stand.
  pub constants-due : Fits → is_emitted es s cells within h t.context ≡ true →
      Each (λ (cell : Cell). has_any_term cell.row ≡ false → due cell.row.leaf h here ≡ true) cells
  constants-due f e = each-of_in (λ (cell : Cell). has_any_term cell.row ≡ false → due cell.row.leaf h here ≡ true) cells one
    where
      held-else : (w a x c : Bool) → either w (λ _. a || (x && c)) ≡ true → a ≡ false → w ≡ false → x ≡ true
      held-else true a x c q r k = absurd (false≢true (sym k))
      held-else false true x c q r k = absurd (false≢true (sym r))
      held-else false false true c q r k = refl
      held-else false false false c q r k = absurd (false≢true q)

      one : (cell : Cell) → In cell cells → has_any_term cell.row ≡ false → due cell.row.leaf h here ≡ true
      one cell k q = by cell.row.leaf refl
        where
          has : has_constant cells ≡ true
          has = any-has (λ (x : Cell). not (has_any_term x.row)) cell cells k (ap not q)

          unwritten : writing ≡ false → h ≡ true
          unwritten w = held-else writing s.always h (has_constant cells || not termed) (sym emitted-asked ∙ e) (f.marked has) w

          text-held : list_any is_constant_element cells ≡ true → h ≡ true
          text-held r = go writing refl
            where
              go : (w : Bool) → writing ≡ w → h ≡ true
              go true p = f.texts r p
              go false p = unwritten p

          attribute-held : list_any is_constant_attribute cells ≡ true → here ≡ true
          attribute-held r = here-is ∙ go writing termed refl refl
            where
              go : (w m : Bool) → writing ≡ w → termed ≡ m → holder termed writing h ≡ true
              go true m p o = ap (λ z. holder z writing h) (writing-termed p) ∙ p
              go false true p o = absurd (false≢true (sym p ∙ f.alone r o (unwritten p)))
              go false false p o = ap (λ z. holder z writing h) o ∙ unwritten p

          by : (leaf : End) → cell.row.leaf ≡ leaf → due leaf h here ≡ true
          by leaves.Element r = text-held (any-has is_constant_element cell cells k (ap (λ b. not b && is_at_element cell) q ∙ ap at_end r))
            where
              at_end : End → Bool
              at_end leaves.Element = true
              at_end (leaves.Attribute local) = false
          by (leaves.Attribute local) r = attribute-held
              (any-has is_constant_attribute cell cells k (ap (λ b. not b && not (is_at_element cell)) q ∙ ap (λ z. not (at_end z)) r))
            where
              at_end : End → Bool
              at_end leaves.Element = true
              at_end (leaves.Attribute local) = false
