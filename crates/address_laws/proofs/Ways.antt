-- Leaves along the steps that are left of a path are those of the ways along it.
use Rattle.std.proofs.Common.{◌≡◌, ℕ, Bool, true, false, ◌||◌, Option, Some, List, [], ◌∷◌, ◌++◌, flat_map, map, refl, sym, ap, ◌∙◌}
use Rattle.std.specs.Prelude.{◌==◌}
use Rattle.std.specs.List.{list_any}
use Rattle.term_table.specs.declared.contexts.Context.{Context}
use Rattle.inv_terms.specs.declared.entries.Entry.{Entry}
use Rattle.bind_rows.specs.declared.names.Leaf.{Leaf as End}
use Rattle.bind_rows.specs.declared.names.Leaf.TheVariants as leaves
use Rattle.bind_rows.specs.declared.rows.Step.{Step}
use Rattle.bind_rows.specs.declared.rows.Row.{Row}
use Rattle.bind_rows.specs.declared.rows.Content.TheVariants as contents
use Rattle.bind_table.specs.Lines.{Cell}
use Rattle.bind_table.specs.Laid.{element_numbers, are_distinct}
use Rattle.bind_meaning.specs.Picks.{has_any_term}
use Rattle.binding_laws.proofs.ListLemmas.{append-nil, flat_map-flat_map, flat_map-map, flat_map-same, flat_map-each, map-flat_map}
use Rattle.address_laws.specs.AddressTrees.{Place, Leaf, Said, a_mark, where_so, inside}
use Rattle.address_laws.specs.Addresses.{Turn, turns, Way, through, ways, leaf_at, under, said_by, holder, is_some_of, beyond, beyond_one, is_held, but_last}
use Rattle.address_laws.specs.Addresses.{held_up_to, marks, constant_leaf}
use Rattle.address_laws.proofs.Orders.{In, each-in}
use Rattle.address_laws.proofs.Items.{Item, tails, tail_of, tail_at, tail_by, plan_from, HasLine, HasFirst, made}
use Rattle.address_laws.proofs.Turns.{place_of}
use Rattle.address_laws.proofs.Holding.{is_term}
use Rattle.address_laws.proofs.Walks.{told, told-inside, own_along, own_said, further, due, marked, mark_of}
use Rattle.address_laws.proofs.Constants.{in-tails, tails-distinct, each-of_in}

-- ---- marks

pub marked-is : (es : List Entry) (last : Option Step) (c : Context) (path : List Step) → marked es last c path ≡ mark_of last ++ marks es c path
marked-is es last c [] = sym (append-nil (mark_of last))
marked-is es last c (s ∷ path) =
    ap (λ l. mark_of last ++ l) (flat_map-same (λ (t : Turn). map (under s t) (marked es (Some s) t.context path))
    (λ (t : Turn). map (under s t) (where_so s.always (leaf_at [] a_mark) ++ marks es t.context path))
    (λ t. ap (map (under s t)) (marked-is es (Some s) t.context path)) (turns es c s.group))

-- ---- a step of a way

pub ways-step : (f : Way → List Leaf) (s : Step) (w : Turn → List Way) → ((t : Turn) (x : Way) → f (through s t x) ≡ map (under s t) (f x)) → (ts : List Turn)
    → flat_map f (flat_map (λ t. map (through s t) (w t)) ts) ≡ flat_map (λ t. map (under s t) (flat_map f (w t))) ts
ways-step f s w h ts =
    flat_map-flat_map f (λ t. map (through s t) (w t)) ts
    ∙ flat_map-same (λ t. flat_map f (map (through s t) (w t))) (λ t. map (under s t) (flat_map f (w t)))
    (λ t. flat_map-map f (through s t) (w t) ∙ (flat_map-same (λ x. f (through s t x)) (λ x. map (under s t) (f x)) (h t) (w t) ∙
    sym (map-flat_map (under s t) f (w t)))) ts

-- ---- paths of rows with a term

abbrev path_of_term : Item → List (List Step)
path_of_term i = where_so (is_term i) i.path

abbrev pub term_paths : List Item → List (List Step)
term_paths items = flat_map path_of_term items

one-beyond : (n : ℕ) (b : Bool) (path : List Step) (cell : Cell) → has_any_term cell.row ≡ b →
    flat_map (beyond_one n) (where_so b path) ≡ flat_map path_of_term (tail_at n path cell)
one-beyond n true [] cell e = refl
one-beyond n false [] cell e = refl
one-beyond n true (s ∷ path) cell e = go (s.number == n)
  where
    go : (x : Bool) → where_so x path ++ [] ≡ flat_map path_of_term (tail_by x path cell)
    go true = ap (λ b. where_so b path ++ []) (sym e)
    go false = refl
one-beyond n false (s ∷ path) cell e = go (s.number == n)
  where
    go : (x : Bool) → [] ≡ flat_map path_of_term (tail_by x path cell)
    go true = ap (λ b. where_so b path ++ []) (sym e)
    go false = refl

pub beyond-tails : (n : ℕ) (items : List Item) → beyond n (term_paths items) ≡ term_paths (tails n items)
beyond-tails n items =
    flat_map-flat_map (beyond_one n) path_of_term items
    ∙ (flat_map-same (λ i. flat_map (beyond_one n) (path_of_term i)) (λ i. flat_map path_of_term (tail_of n i))
    (λ i. one-beyond n (is_term i) i.path i.cell refl) items
    ∙ sym (flat_map-flat_map path_of_term (tail_of n) items))

pub some-paths : (items : List Item) → is_some_of (term_paths items) ≡ list_any is_term items
some-paths [] = refl
some-paths (i ∷ is) = go (is_term i) (some-paths is)
  where
    go : (b : Bool) → is_some_of (term_paths is) ≡ list_any is_term is → is_some_of (where_so b i.path ++ term_paths is) ≡ (b || list_any is_term is)
    go true e = refl
    go false e = e

-- ---- constants

-- whether a holder of a constant holds an entry: that of the element in which it stands, and that of what is in it, at the end of an address
abbrev stands : End → Bool → Bool → List (List Step) → List Leaf → List Place → Bool
stands leaf above here paths ls [] = due leaf above here
stands leaf above here paths ls (p ∷ rest) = stands leaf here (holder (is_some_of (beyond p.step.number paths)) (is_some_of (inside p ls)) here)
    (beyond p.step.number paths) (inside p ls) rest

stands-attribute : (local : List ℕ) (above here : Bool) (paths : List (List Step)) (ls : List Leaf) (address : List Place) →
    stands (leaves.Attribute local) above here paths ls address ≡ is_held paths ls here address
stands-attribute local above here paths ls [] = refl
stands-attribute local above here paths ls (p ∷ rest) =
    stands-attribute local here (holder (is_some_of (beyond p.step.number paths)) (is_some_of (inside p ls)) here) (beyond p.step.number paths)
    (inside p ls) rest

stands-element : (above here : Bool) (paths : List (List Step)) (ls : List Leaf) (p : Place) (rest : List Place) →
    stands leaves.Element above here paths ls (p ∷ rest) ≡ is_held paths ls here (but_last (p ∷ rest))
stands-element above here paths ls p [] = refl
stands-element above here paths ls p (q ∷ rest) =
    stands-element here (holder (is_some_of (beyond p.step.number paths)) (is_some_of (inside p ls)) here) (beyond p.step.number paths) (inside p ls) q rest

stands-held : (leaf : End) (paths : List (List Step)) (ls : List Leaf) (address : List Place) →
    stands leaf false false paths ls address ≡ is_held paths ls false (held_up_to leaf address)
stands-held leaves.Element paths ls [] = refl
stands-held leaves.Element paths ls (p ∷ rest) = stands-element false false paths ls p rest
stands-held (leaves.Attribute local) paths ls address = stands-attribute local false false paths ls address

module _ (es : List Entry) (row : Row) (text : List ℕ) (content : row.content ≡ contents.Constant text) where
  abbrev constant_at : Bool → Bool → List (List Step) → List Leaf → Way → List Leaf
  constant_at above here paths ls w = where_so (stands row.leaf above here paths ls w.address) (leaf_at w.address (said_by row.leaf text))

  said-here : (b : Bool) (address : List Place) (said : Said) → map (leaf_at address) (where_so b said) ≡ where_so b (leaf_at address said)
  said-here true address said = refl
  said-here false address said = refl

  under-so : (b : Bool) (s : Step) (t : Turn) (address : List Place) (said : Said) →
      where_so b (leaf_at (place_of s t ∷ address) said) ≡ map (under s t) (where_so b (leaf_at address said))
  under-so true s t address said = refl
  under-so false s t address said = refl

  pub constant-ways : (items : List Item) (above here : Bool) (last : Option Step) (c : Context) (path : List Step) (cell : Cell) →
      are_distinct (element_numbers (plan_from items)) ≡ true
      → In (record { path = path; cell = cell }) items → own_along es items above here last c path row
      ≡ flat_map (constant_at above here (term_paths items) (told es last c items)) (ways (turns es) last c path)
  constant-ways items above here last c [] cell d k =
      ap (λ x. map (leaf_at []) (own_said es x above here last c row)) content
      ∙ (said-here (due row.leaf above here) [] (said_by row.leaf text) ∙
      sym (append-nil (where_so (due row.leaf above here) (leaf_at [] (said_by row.leaf text)))))
  constant-ways items above here last c (s ∷ path) cell d k =
      let has : HasLine s (plan_from items) = each-in (HasFirst (plan_from items)) items (record { path = s ∷ path; cell = cell }) (made items d).first k in
      let inner = tails-distinct items s d has in
      let f : Way → List Leaf = constant_at above here (term_paths items) (told es last c items) in
      flat_map-each (λ (t : Turn). map (under s t) (own_along es (tails s.number items) here (further es (tails s.number items) here s t)
      (Some s) t.context path row))
      (λ (t : Turn). flat_map f (map (through s t) (ways (turns es) (Some s) t.context path))) (turns es c s.group)
      (each-of_in (λ (t : Turn). map (under s t) (own_along es (tails s.number items) here (further es (tails s.number items) here s t)
      (Some s) t.context path row)
      ≡ flat_map f (map (through s t) (ways (turns es) (Some s) t.context path))) (turns es c s.group) (λ t among.
      let ts = tails s.number items in
      let now = further es ts here s t in
      let inside-told : inside (place_of s t) (told es last c items) ≡ told es (Some s) t.context ts =
      told-inside es c (plan_from items) d s has t among last items (made items d).first in
      let paths-on : beyond s.number (term_paths items) ≡ term_paths ts = beyond-tails s.number items in
      let held-on : holder (is_some_of (beyond s.number (term_paths items))) (is_some_of (inside (place_of s t) (told es last c items))) here ≡ now =
      ap (λ x. holder (is_some_of x) (is_some_of (inside (place_of s t) (told es last c items))) here) paths-on
      ∙ (ap (λ b. holder b (is_some_of (inside (place_of s t) (told es last c items))) here) (some-paths ts) ∙
      ap (λ l. holder (list_any is_term ts) (is_some_of l) here) inside-told) in
      ap (map (under s t)) (constant-ways ts here now (Some s) t.context path cell inner (in-tails s path cell items k))
      ∙ (map-flat_map (under s t) (constant_at here now (term_paths ts) (told es (Some s) t.context ts)) (ways (turns es) (Some s) t.context path)
      ∙ (flat_map-same (λ w. map (under s t) (constant_at here now (term_paths ts) (told es (Some s) t.context ts) w)) (λ w. f (through s t w)) (λ w.
      sym (under-so (stands row.leaf here now (term_paths ts) (told es (Some s) t.context ts) w.address) s t w.address (said_by row.leaf text))
      ∙ ap (λ b. where_so b (leaf_at (place_of s t ∷ w.address) (said_by row.leaf text)))
      (ap (λ x. stands row.leaf here x (term_paths ts) (told es (Some s) t.context ts) w.address) (sym held-on)
      ∙ (ap (λ x. stands row.leaf here (holder (is_some_of (beyond s.number (term_paths items)))
      (is_some_of (inside (place_of s t) (told es last c items))) here) x (told es (Some s) t.context ts) w.address) (sym paths-on)
      ∙ ap (λ x. stands row.leaf here (holder (is_some_of (beyond s.number (term_paths items)))
      (is_some_of (inside (place_of s t) (told es last c items))) here) (beyond s.number (term_paths items)) x w.address) (sym inside-told))))
      (ways (turns es) (Some s) t.context path)
      ∙ sym (flat_map-map f (through s t) (ways (turns es) (Some s) t.context path))))))
      ∙ sym (flat_map-flat_map f (λ t. map (through s t) (ways (turns es) (Some s) t.context path)) (turns es c s.group))

  -- those of the whole table
  pub constant-leaves : (items : List Item) (last : Option Step) (c : Context) (path : List Step) (cell : Cell) →
      are_distinct (element_numbers (plan_from items)) ≡ true
      → In (record { path = path; cell = cell }) items → own_along es items false false last c path row
      ≡ flat_map (constant_leaf (term_paths items) (told es last c items) row text) (ways (turns es) last c path)
  constant-leaves items last c path cell d k =
      constant-ways items false false last c path cell d k
      ∙ flat_map-same (constant_at false false (term_paths items) (told es last c items)) (constant_leaf (term_paths items) (told es last c items) row text)
      (λ w. ap (λ b. where_so b (leaf_at w.address (said_by row.leaf text))) (stands-held row.leaf (term_paths items) (told es last c items) w.address))
      (ways (turns es) last c path)
