-- The leaves of rows from an element on, by the steps that are left of their paths: those of terms, those of constants, by what is known of their
-- holders, and marks.
use Rattle.std.proofs.Common.{◌≡◌, ℕ, Bool, true, false, ◌||◌, Option, Some, None, List, [], ◌∷◌, ◌++◌, flat_map, map, refl, sym, ap, ◌∙◌}
use Rattle.std.specs.Prelude.{is_some}
use Rattle.std.specs.List.{list_any}
use Rattle.std.proofs.lemmas.List.Concat.{flat_map-append}
use Rattle.term_table.specs.declared.contexts.Context.{Context}
use Rattle.inv_terms.specs.declared.entries.Entry.{Entry}
use Rattle.inv_base.specs.Tree.{Attribute}
use Rattle.bind_rows.specs.declared.names.Leaf.{Leaf as End}
use Rattle.bind_rows.specs.declared.names.Leaf.TheVariants as leaves
use Rattle.bind_rows.specs.declared.rows.Step.{Step}
use Rattle.bind_rows.specs.declared.rows.Row.{Row}
use Rattle.bind_rows.specs.declared.rows.Content.{Content}
use Rattle.bind_rows.specs.declared.rows.Content.TheVariants as contents
use Rattle.bind_table.specs.Lines.{Plan, Cell}
use Rattle.bind_table.specs.Laid.{element_numbers, are_distinct}
use Rattle.bind_meaning.specs.Writing.{row_text, term_text, context_for, writes_entry}
use Rattle.binding_laws.proofs.TreeLemmas.{Each, each-append}
use Rattle.binding_laws.proofs.ListLemmas.{append-nil, flat_map-flat_map}
use Rattle.address_laws.specs.AddressTrees.{Place, Leaf, Said, a_currency, a_mark, same_place, inside, behind_at, firsts, first_at, first_of, calls_for}
use Rattle.address_laws.specs.AddressTrees.{where_so, said_here, said_at_end}
use Rattle.address_laws.specs.Addresses.{Turn, turns, leaf_at, under, said_of_row, said_with, said_by, currencies_of, currencies_at, holder, is_some_of}
use Rattle.address_laws.proofs.Orders.{In}
use Rattle.address_laws.proofs.Items.{Item, tails, HasLine, HasFirst, ends_of, end_of, end_at}
use Rattle.address_laws.proofs.Turns.{place_of, turn-contexts}
use Rattle.address_laws.proofs.Narrowing.{items-inside, inside-here, inside-append}
use Rattle.address_laws.proofs.Holding.{is_term, any-append, any-same, any-map, any-flat_map, writes_below, or-false}

-- ---- the leaves

abbrev pub due : End → Bool → Bool → Bool
due leaves.Element above here = above
due (leaves.Attribute local) above here = here

abbrev pub mark_of : Option Step → List Leaf
mark_of None = []
mark_of (Some s) = where_so s.always (leaf_at [] a_mark)

module _ (es : List Entry) where
  abbrev pub told_said : Content → Option Step → Context → Row → List Said
  told_said (contents.Term term) last c row = said_of_row es row c last
  told_said (contents.Constant text) last c row = []

  abbrev pub own_said : Content → Bool → Bool → Option Step → Context → Row → List Said
  own_said (contents.Term term) above here last c row = said_of_row es row c last
  own_said (contents.Constant text) above here last c row = where_so (due row.leaf above here) (said_by row.leaf text)

  abbrev pub told_along : Option Step → Context → List Step → Row → List Leaf
  told_along last c [] row = map (leaf_at []) (told_said row.content last c row)
  told_along last c (s ∷ path) row = flat_map (λ (t : Turn). map (under s t) (told_along (Some s) t.context path row)) (turns es c s.group)

  abbrev pub told : Option Step → Context → List Item → List Leaf
  told last c items = flat_map (λ (i : Item). told_along last c i.path i.cell.row) items

  -- whether the holder of what is in an element holds an entry, by the rows that go on in it and the holder above
  abbrev pub further : List Item → Bool → Step → Turn → Bool
  further items here s t = holder (list_any is_term items) (is_some_of (told (Some s) t.context items)) here

  abbrev pub own_along : List Item → Bool → Bool → Option Step → Context → List Step → Row → List Leaf
  own_along items above here last c [] row = map (leaf_at []) (own_said row.content above here last c row)
  own_along items above here last c (s ∷ path) row =
      flat_map (λ (t : Turn). map (under s t) (own_along (tails s.number items) here (further (tails s.number items) here s t) (Some s) t.context path row))
      (turns es c s.group)

  abbrev pub marked : Option Step → Context → List Step → List Leaf
  marked last c [] = mark_of last
  marked last c (s ∷ path) = mark_of last ++ flat_map (λ (t : Turn). map (under s t) (marked (Some s) t.context path)) (turns es c s.group)

  abbrev pub own : List Item → Bool → Bool → Option Step → Context → List Leaf
  own items above here last c = flat_map (λ (i : Item). own_along items above here last c i.path i.cell.row) items

  abbrev pub all_marked : List Item → Option Step → Context → List Leaf
  all_marked items last c = flat_map (λ (i : Item). marked last c i.path) items

  abbrev pub all_leaves : List Item → Bool → Bool → Option Step → Context → List Leaf
  all_leaves items above here last c = own items above here last c ++ all_marked items last c

  -- ---- in an element

  abbrev told_front : Option Step → Context → List Step → Cell → List Leaf
  told_front last c [] cell = map (leaf_at []) (told_said cell.row.content last c cell.row)
  told_front last c (s ∷ path) cell = []

  abbrev own_front : Bool → Bool → Option Step → Context → List Step → Cell → List Leaf
  own_front above here last c [] cell = map (leaf_at []) (own_said cell.row.content above here last c cell.row)
  own_front above here last c (s ∷ path) cell = []

  mark-outside : (p : Place) (last : Option Step) → inside p (mark_of last) ≡ []
  mark-outside p None = refl
  mark-outside p (Some s) = go s.always
    where
      go : (b : Bool) → inside p (where_so b (leaf_at [] a_mark)) ≡ []
      go true = refl
      go false = refl

  module _ (c : Context) (plan : Plan) (distinct : are_distinct (element_numbers plan) ≡ true) (s : Step) (has : HasLine s plan) (t : Turn)
      (among : In t (turns es c s.group)) where
    pub told-inside : (last : Option Step) (items : List Item) → Each (HasFirst plan) items →
        inside (place_of s t) (told last c items) ≡ told (Some s) t.context (tails s.number items)
    told-inside last items first = items-inside es c plan distinct s has t among (told_front last c)
        (λ v r path cell. told_along (Some v) r.context path cell.row)
        (λ path cell. told_along last c path cell.row) (λ path cell. empty path cell) (λ cell. refl) (λ u path cell. refl) items first
      where
        empty : (path : List Step) (cell : Cell) → inside (place_of s t) (told_front last c path cell) ≡ []
        empty [] cell = inside-here (place_of s t) (told_said cell.row.content last c cell.row)
        empty (u ∷ path) cell = refl

    own-inside : (above here : Bool) (last : Option Step) (items : List Item) → Each (HasFirst plan) items
        → inside (place_of s t) (own items above here last c) ≡ own (tails s.number items) here (further (tails s.number items) here s t) (Some s) t.context
    own-inside above here last items first = items-inside es c plan distinct s has t among (own_front above here last c)
        (λ v r path cell. own_along (tails v.number items) here (further (tails v.number items) here v r) (Some v) r.context path cell.row)
        (λ path cell. own_along items above here last c path cell.row) (λ path cell. empty path cell) (λ cell. refl) (λ u path cell. refl) items first
      where
        empty : (path : List Step) (cell : Cell) → inside (place_of s t) (own_front above here last c path cell) ≡ []
        empty [] cell = inside-here (place_of s t) (own_said cell.row.content above here last c cell.row)
        empty (u ∷ path) cell = refl

    marked-inside : (last : Option Step) (items : List Item) → Each (HasFirst plan) items →
        inside (place_of s t) (all_marked items last c) ≡ all_marked (tails s.number items) (Some s) t.context
    marked-inside last items first = items-inside es c plan distinct s has t among (λ path cell. mark_of last) (λ v r path cell. marked (Some v) r.context path)
        (λ path cell. marked last c path) (λ path cell. mark-outside (place_of s t) last) (λ cell. refl) (λ u path cell. refl) items first

    pub all-inside : (above here : Bool) (last : Option Step) (items : List Item) → Each (HasFirst plan) items
        → inside (place_of s t) (all_leaves items above here last c) ≡ all_leaves (tails s.number items) here (further (tails s.number items) here s t)
        (Some s) t.context
    all-inside above here last items first =
        inside-append (place_of s t) (own items above here last c) (all_marked items last c)
        ∙ (ap (λ l. l ++ inside (place_of s t) (all_marked items last c)) (own-inside above here last items first)
        ∙ ap (λ l. own (tails s.number items) here (further (tails s.number items) here s t) (Some s) t.context ++ l) (marked-inside last items first))

-- ---- at the element itself

module _ {A : Type 0} (of : Said → List A) where
  said-append : (xs ys : List Leaf) → said_here of (xs ++ ys) ≡ said_here of xs ++ said_here of ys
  said-append xs ys = flat_map-append (λ (leaf : Leaf). said_at_end of leaf.address leaf.said) xs ys

  said-each : {X : Type 0} (f : X → List Leaf) (xs : List X) → said_here of (flat_map f xs) ≡ flat_map (λ x. said_here of (f x)) xs
  said-each f xs = flat_map-flat_map (λ (leaf : Leaf). said_at_end of leaf.address leaf.said) f xs

  said-under : (s : Step) (t : Turn) (ls : List Leaf) → said_here of (map (under s t) ls) ≡ []
  said-under s t [] = refl
  said-under s t (leaf ∷ ls) = said-under s t ls

  said-turns : (s : Step) (f : Turn → List Leaf) (ts : List Turn) → said_here of (flat_map (λ t. map (under s t) (f t)) ts) ≡ []
  said-turns s f [] = refl
  said-turns s f (t ∷ ts) =
      said-append (map (under s t) (f t)) (flat_map (λ t. map (under s t) (f t)) ts)
      ∙ (ap (λ l. l ++ said_here of (flat_map (λ t. map (under s t) (f t)) ts)) (said-under s t (f t)) ∙ said-turns s f ts)

  said-leaves : (says : List Said) → said_here of (map (leaf_at []) says) ≡ flat_map of says
  said-leaves [] = refl
  said-leaves (said ∷ says) = ap (λ l. of said ++ l) (said-leaves says)

  module _ (es : List Entry) (items : List Item) (above here : Bool) (last : Option Step) (c : Context) where
    abbrev pub cell_says : Cell → List A
    cell_says cell = flat_map of (own_said es cell.row.content above here last c cell.row)

    own-says : (is : List Item) → said_here of (flat_map (λ (i : Item). own_along es items above here last c i.path i.cell.row) is) ≡ flat_map cell_says
        (ends_of is)
    own-says [] = refl
    own-says (i ∷ is) =
        said-append (own_along es items above here last c i.path i.cell.row)
        (flat_map (λ (j : Item). own_along es items above here last c j.path j.cell.row) is)
        ∙ (ap (λ l. l ++ said_here of (flat_map (λ (j : Item). own_along es items above here last c j.path j.cell.row) is)) (one i.path i.cell)
        ∙ (ap (λ l. flat_map cell_says (end_of i) ++ l) (own-says is) ∙ sym (flat_map-append cell_says (end_of i) (ends_of is))))
      where
        one : (path : List Step) (cell : Cell) → said_here of (own_along es items above here last c path cell.row) ≡ flat_map cell_says (end_at path cell)
        one [] cell = said-leaves (own_said es cell.row.content above here last c cell.row) ∙ sym (append-nil (cell_says cell))
        one (s ∷ path) cell = said-turns s (λ t. own_along es (tails s.number items) here (further es (tails s.number items) here s t)
            (Some s) t.context path cell.row) (turns es c s.group)

    mark-says : of a_mark ≡ [] → (last' : Option Step) → said_here of (mark_of last') ≡ []
    mark-says e None = refl
    mark-says e (Some s) = go s.always
      where
        go : (b : Bool) → said_here of (where_so b (leaf_at [] a_mark)) ≡ []
        go true = append-nil (of a_mark) ∙ e
        go false = refl

    marked-says : of a_mark ≡ [] → (path : List Step) → said_here of (marked es last c path) ≡ []
    marked-says e [] = mark-says e last
    marked-says e (s ∷ path) =
        said-append (mark_of last) (flat_map (λ (t : Turn). map (under s t) (marked es (Some s) t.context path)) (turns es c s.group))
        ∙ (ap (λ l. l ++ said_here of (flat_map (λ (t : Turn). map (under s t) (marked es (Some s) t.context path)) (turns es c s.group))) (mark-says e last)
        ∙ said-turns s (λ t. marked es (Some s) t.context path) (turns es c s.group))

    all_marked-says : of a_mark ≡ [] → (is : List Item) → said_here of (flat_map (λ (i : Item). marked es last c i.path) is) ≡ []
    all_marked-says e [] = refl
    all_marked-says e (i ∷ is) =
        said-append (marked es last c i.path) (flat_map (λ (j : Item). marked es last c j.path) is)
        ∙ (ap (λ l. l ++ said_here of (flat_map (λ (j : Item). marked es last c j.path) is)) (marked-says e i.path) ∙ all_marked-says e is)

    pub all-says : of a_mark ≡ [] → said_here of (all_leaves es items above here last c) ≡ flat_map cell_says (ends_of items)
    all-says e =
        said-append (own es items above here last c) (all_marked es items last c)
        ∙ (ap (λ l. said_here of (own es items above here last c) ++ l) (all_marked-says e items) ∙
        (append-nil (said_here of (own es items above here last c)) ∙ own-says items))

-- ---- which elements are called for

abbrev pub calls : Leaf → Bool
calls leaf = calls_for leaf.said leaf.address

pub present-is : (p : Place) (ls : List Leaf) → list_any (same_place p) (firsts ls) ≡ list_any calls (inside p ls)
present-is p [] = refl
present-is p (leaf ∷ ls) =
    any-append (same_place p) (first_of leaf) (firsts ls)
    ∙ (ap (λ b. b || list_any (same_place p) (firsts ls)) (one leaf.address leaf.said)
    ∙ (ap (λ b. list_any calls (behind_at p leaf.address leaf.said) || b) (present-is p ls) ∙
    sym (any-append calls (behind_at p leaf.address leaf.said) (inside p ls))))
  where
    both : (a b : Bool) (q : Place) (rest : List Place) (said : Said) → calls_for said rest ≡ a → same_place p q ≡ b →
        list_any (same_place p) (where_so a q) ≡ list_any calls (where_so b (record { address = rest; said = said }))
    both true true q rest said e f = ap (λ x. x || false) (f ∙ sym e)
    both true false q rest said e f = ap (λ x. x || false) f
    both false true q rest said e f = sym (ap (λ x. x || false) e)
    both false false q rest said e f = refl

    one : (address : List Place) (said : Said) → list_any (same_place p) (first_at address said) ≡ list_any calls (behind_at p address said)
    one [] said = refl
    one (q ∷ rest) said = both (calls_for said rest) (same_place p q) q rest said refl refl

pub some-append : {A : Type 0} (xs ys : List A) → is_some_of (xs ++ ys) ≡ (is_some_of xs || is_some_of ys)
some-append [] ys = refl
some-append (x ∷ xs) ys = refl

pub some-each : {A B : Type 0} (f : A → List B) (xs : List A) → is_some_of (flat_map f xs) ≡ list_any (λ x. is_some_of (f x)) xs
some-each f [] = refl
some-each f (x ∷ xs) = some-append (f x) (flat_map f xs) ∙ ap (λ b. is_some_of (f x) || b) (some-each f xs)

pub some-map : {A B : Type 0} (f : A → B) (xs : List A) → is_some_of (map f xs) ≡ is_some_of xs
some-map f [] = refl
some-map f (x ∷ xs) = refl

each-flat_map : {A B : Type 0} (P : B → Type 0) (f : A → List B) (xs : List A) → ((x : A) → Each P (f x)) → Each P (flat_map f xs)
each-flat_map P f [] h = tt
each-flat_map P f (x ∷ xs) h = each-append P (f x) (flat_map f xs) (h x) (each-flat_map P f xs h)

each-under : (P : Said → Type 0) (s : Step) (t : Turn) (ls : List Leaf) → Each (λ (leaf : Leaf). P leaf.said) ls →
    Each (λ (leaf : Leaf). P leaf.said) (map (under s t) ls)
each-under P s t [] h = tt
each-under P s t (leaf ∷ ls) h = (h.0, each-under P s t ls h.1)

each-here : (P : Said → Type 0) (says : List Said) → Each P says → Each (λ (leaf : Leaf). P leaf.said) (map (leaf_at []) says)
each-here P [] h = tt
each-here P (said ∷ says) h = (h.0, each-here P says h.1)

-- a leaf that calls for all elements above it
abbrev Firm : Said → Type 0
Firm said = (rest : List Place) → calls_for said rest ≡ true

calls-firm : (ls : List Leaf) → Each (λ (leaf : Leaf). Firm leaf.said) ls → list_any calls ls ≡ is_some_of ls
calls-firm [] h = refl
calls-firm (leaf ∷ ls) h = ap (λ b. b || list_any calls ls) (h.0 leaf.address)

by-firm : (leaf : End) (text : List ℕ) → Firm (said_by leaf text)
by-firm leaves.Element text rest = refl
by-firm (leaves.Attribute local) text rest = refl

amounts-firm : (attributes : List Attribute) → Each Firm (map a_currency attributes)
amounts-firm [] = tt
amounts-firm (a ∷ attributes) = (λ rest. refl, amounts-firm attributes)

currencies-firm : (b : Bool) (leaf : End) (attributes : List Attribute) → Each Firm (currencies_at b leaf attributes)
currencies-firm true leaves.Element attributes = amounts-firm attributes
currencies-firm true (leaves.Attribute local) attributes = tt
currencies-firm false leaf attributes = tt

module _ (es : List Entry) where
  of-firm : (last : Option Step) (row : Row) → Each Firm (currencies_of es last row)
  of-firm None row = tt
  of-firm (Some s) row = currencies-firm _ row.leaf _

  with-firm : (row : Row) (last : Option Step) (text : Option (List ℕ)) → Each Firm (said_with es row last text)
  with-firm row last None = tt
  with-firm row last (Some text) = (by-firm row.leaf text, of-firm last row)

  said-firm : (content : Content) (above here : Bool) (last : Option Step) (c : Context) (row : Row) → Each Firm (own_said es content above here last c row)
  said-firm (contents.Term term) above here last c row = with-firm row last (row_text row es c)
  said-firm (contents.Constant text) above here last c row = go (due row.leaf above here)
    where
      go : (b : Bool) → Each Firm (where_so b (said_by row.leaf text))
      go true = (by-firm row.leaf text, tt)
      go false = tt

  own-firm : (items : List Item) (above here : Bool) (last : Option Step) (c : Context) (path : List Step) (row : Row) →
      Each (λ (leaf : Leaf). Firm leaf.said) (own_along es items above here last c path row)
  own-firm items above here last c [] row = each-here Firm (own_said es row.content above here last c row) (said-firm row.content above here last c row)
  own-firm items above here last c (s ∷ path) row =
      each-flat_map (λ (leaf : Leaf). Firm leaf.said)
      (λ (t : Turn). map (under s t) (own_along es (tails s.number items) here (further es (tails s.number items) here s t) (Some s) t.context path row))
      (turns es c s.group) (λ t. each-under Firm s t _ (own-firm (tails s.number items) here (further es (tails s.number items) here s t)
      (Some s) t.context path row))

  pub own-calls : (items : List Item) (above here : Bool) (last : Option Step) (c : Context)
      → list_any calls (own es items above here last c) ≡ list_any (λ (i : Item). is_some_of (own_along es items above here last c i.path i.cell.row)) items
  own-calls items above here last c =
      any-flat_map calls (λ (i : Item). own_along es items above here last c i.path i.cell.row) items
      ∙ any-same (λ (i : Item). list_any calls (own_along es items above here last c i.path i.cell.row))
      (λ (i : Item). is_some_of (own_along es items above here last c i.path i.cell.row))
      (λ i. calls-firm (own_along es items above here last c i.path i.cell.row) (own-firm items above here last c i.path i.cell.row)) items

  -- marks

  IsMark : Said → Type 0
  IsMark said = said ≡ a_mark

  each-mark : (last : Option Step) → Each (λ (leaf : Leaf). leaf.said ≡ a_mark) (mark_of last)
  each-mark None = tt
  each-mark (Some s) = go s.always
    where
      go : (b : Bool) → Each (λ (leaf : Leaf). leaf.said ≡ a_mark) (where_so b (leaf_at [] a_mark))
      go true = (refl, tt)
      go false = tt

  marked-marks : (last : Option Step) (c : Context) (path : List Step) → Each (λ (leaf : Leaf). leaf.said ≡ a_mark) (marked es last c path)
  marked-marks last c [] = each-mark last
  marked-marks last c (s ∷ path) =
      each-append (λ (leaf : Leaf). leaf.said ≡ a_mark) (mark_of last) _ (each-mark last)
      (each-flat_map (λ (leaf : Leaf). leaf.said ≡ a_mark) (λ (t : Turn). map (under s t) (marked es (Some s) t.context path)) (turns es c s.group)
      (λ t. each-under (λ said. said ≡ a_mark) s t (marked es (Some s) t.context path) (marked-marks (Some s) t.context path)))

  under-silent : (s : Step) (t : Turn) (ls : List Leaf) → Each (λ (leaf : Leaf). leaf.said ≡ a_mark) ls → list_any calls (map (under s t) ls) ≡ false
  under-silent s t [] h = refl
  under-silent s t (leaf ∷ ls) h = ap (λ x. calls_for x (place_of s t ∷ leaf.address) || list_any calls (map (under s t) ls)) h.0 ∙ under-silent s t ls h.1

  turns-silent : (s : Step) (f : Turn → List Leaf) (ts : List Turn) → ((t : Turn) → Each (λ (leaf : Leaf). leaf.said ≡ a_mark) (f t)) →
      list_any calls (flat_map (λ t. map (under s t) (f t)) ts) ≡ false
  turns-silent s f [] h = refl
  turns-silent s f (t ∷ ts) h =
      any-append calls (map (under s t) (f t)) (flat_map (λ t. map (under s t) (f t)) ts)
      ∙ (ap (λ b. b || list_any calls (flat_map (λ t. map (under s t) (f t)) ts)) (under-silent s t (f t) (h t)) ∙ turns-silent s f ts h)

  marked-calls : (last : Option Step) (c : Context) (path : List Step) → list_any calls (marked es last c path) ≡ list_any calls (mark_of last)
  marked-calls last c [] = refl
  marked-calls last c (s ∷ path) =
      any-append calls (mark_of last) (flat_map (λ (t : Turn). map (under s t) (marked es (Some s) t.context path)) (turns es c s.group))
      ∙ (ap (λ b. list_any calls (mark_of last) || b) (turns-silent s (λ t. marked es (Some s) t.context path) (turns es c s.group)
      (λ t. marked-marks (Some s) t.context path))
      ∙ or-false (list_any calls (mark_of last)))

  one-mark : (s : Step) → list_any calls (mark_of (Some s)) ≡ s.always
  one-mark s = go s.always
    where
      go : (b : Bool) → list_any calls (where_so b (leaf_at [] a_mark)) ≡ b
      go true = refl
      go false = refl

  any-never : {A : Type 0} (xs : List A) → list_any (λ x. false) xs ≡ false
  any-never [] = refl
  any-never (x ∷ xs) = any-never xs

  all_of : {A : Type 0} (b : Bool) (xs : List A) → (xs ≡ [] → ⊥) → list_any (λ x. b) xs ≡ b
  all_of b [] h = absurd (h refl)
  all_of true (x ∷ xs) h = refl
  all_of false (x ∷ xs) h = any-never xs

  pub all_marked-calls : (s : Step) (c : Context) (items : List Item) → (items ≡ [] → ⊥) → list_any calls (all_marked es items (Some s) c) ≡ s.always
  all_marked-calls s c items h =
      any-flat_map calls (λ (i : Item). marked es (Some s) c i.path) items
      ∙ (any-same (λ (i : Item). list_any calls (marked es (Some s) c i.path)) (λ (i : Item). s.always) (λ i. marked-calls (Some s) c i.path ∙ one-mark s) items
      ∙ all_of s.always items h)

  -- ---- leaves of terms

  text_by : Row → Context → Content → Option (List ℕ)
  text_by row c (contents.Term term) = term_text row es term (context_for row c)
  text_by row c (contents.Constant text) = None

  with-some : (row : Row) (last : Option Step) (text : Option (List ℕ)) → is_some_of (said_with es row last text) ≡ is_some text
  with-some row last None = refl
  with-some row last (Some text) = refl

  pub constant-silent : (row : Row) (text : List ℕ) (c : Context) → row.content ≡ contents.Constant text → writes_entry row es c ≡ false
  constant-silent row text c e = ap (λ content. is_some (by_content content)) e
    where
      by_content : Content → Option (List ℕ)
      by_content (contents.Term term) = term_text row es term (context_for row c)
      by_content (contents.Constant text) = None

  said-some : (last : Option Step) (c : Context) (row : Row) → is_some_of (told_said es row.content last c row) ≡ writes_entry row es c
  said-some last c row = go row.content refl
    where
      go : (content : Content) → row.content ≡ content → is_some_of (told_said es content last c row) ≡ writes_entry row es c
      go (contents.Term term) e = with-some row last (row_text row es c)
      go (contents.Constant text) e = sym (constant-silent row text c e)

  pub told_along-some : (last : Option Step) (c : Context) (path : List Step) (row : Row) →
      is_some_of (told_along es last c path row) ≡ writes_below es path row c
  told_along-some last c [] row = some-map (leaf_at []) (told_said es row.content last c row) ∙ said-some last c row
  told_along-some last c (s ∷ path) row =
      some-each (λ (t : Turn). map (under s t) (told_along es (Some s) t.context path row)) (turns es c s.group)
      ∙ (any-same (λ (t : Turn). is_some_of (map (under s t) (told_along es (Some s) t.context path row))) (λ (t : Turn). writes_below es path row t.context)
      (λ t. some-map (under s t) (told_along es (Some s) t.context path row) ∙ told_along-some (Some s) t.context path row) (turns es c s.group)
      ∙ (sym (any-map (writes_below es path row) (λ (t : Turn). t.context) (turns es c s.group)) ∙
      ap (list_any (writes_below es path row)) (turn-contexts es c s.group)))

  pub told-some : (last : Option Step) (c : Context) (items : List Item) →
      is_some_of (told es last c items) ≡ list_any (λ (i : Item). writes_below es i.path i.cell.row c) items
  told-some last c items =
      some-each (λ (i : Item). told_along es last c i.path i.cell.row) items
      ∙ any-same (λ (i : Item). is_some_of (told_along es last c i.path i.cell.row)) (λ (i : Item). writes_below es i.path i.cell.row c)
      (λ i. told_along-some last c i.path i.cell.row) items
