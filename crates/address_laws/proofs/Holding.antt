-- What lines hold is what their rows write, row by row.
use Rattle.std.proofs.Common.{◌≡◌, Bool, true, false, ◌||◌, List, [], ◌∷◌, ◌++◌, flat_map, map, refl, sym, ap, ◌∙◌}
use Rattle.std.specs.Prelude.{nat_lt}
use Rattle.std.specs.List.{list_any}
use Rattle.term_table.specs.declared.contexts.Context.{Context}
use Rattle.inv_terms.specs.declared.entries.Entry.{Entry}
use Rattle.bind_rows.specs.declared.rows.Step.{Step}
use Rattle.bind_rows.specs.declared.rows.Row.{Row}
use Rattle.bind_rows.specs.Same.{same_step, choose}
use Rattle.bind_table.specs.Lines.{Plan, Cell, nothing, a_line, into, own_cells, add}
use Rattle.bind_table.proofs.SameLemmas.{step-sound}
use Rattle.bind_meaning.specs.Picks.{has_any_term}
use Rattle.bind_meaning.specs.Writing.{writes_entry}
use Rattle.bind_meaning.specs.Trees.{spots, holds, has_terms, cells_hold, either}
use Rattle.address_laws.proofs.Items.{Item, ends_of, end_of, end_at, grow, plan_from}

-- ---- truth values

pub either-or : (a b : Bool) → either a (λ _. b) ≡ (a || b)
either-or true b = refl
either-or false b = refl

pub or-false : (a : Bool) → (a || false) ≡ a
or-false true = refl
or-false false = refl

pub or-true : (a : Bool) → (a || true) ≡ true
or-true true = refl
or-true false = refl

pub or-assoc : (a b c : Bool) → ((a || b) || c) ≡ (a || (b || c))
or-assoc true b c = refl
or-assoc false b c = refl

or-swap : (a b : Bool) → (a || b) ≡ (b || a)
or-swap true b = sym (or-true b)
or-swap false b = sym (or-false b)

or-last : (a b c : Bool) → ((a || b) || c) ≡ ((a || c) || b)
or-last true b c = refl
or-last false b c = or-swap b c

or-inner : (a b c d : Bool) → ((a || b) || (c || d)) ≡ ((a || c) || (b || d))
or-inner true b c d = refl
or-inner false true c d = sym (or-true c)
or-inner false false c d = refl

pub any-append : {A : Type 0} (p : A → Bool) (xs ys : List A) → list_any p (xs ++ ys) ≡ (list_any p xs || list_any p ys)
any-append p [] ys = refl
any-append p (x ∷ xs) ys = ap (λ b. p x || b) (any-append p xs ys) ∙ sym (or-assoc (p x) (list_any p xs) (list_any p ys))

pub any-same : {A : Type 0} (p q : A → Bool) → ((x : A) → p x ≡ q x) → (xs : List A) → list_any p xs ≡ list_any q xs
any-same p q h [] = refl
any-same p q h (x ∷ xs) = ap (λ b. b || list_any p xs) (h x) ∙ ap (λ b. q x || b) (any-same p q h xs)

any-or : {A : Type 0} (p q : A → Bool) (xs : List A) → list_any (λ x. p x || q x) xs ≡ (list_any p xs || list_any q xs)
any-or p q [] = refl
any-or p q (x ∷ xs) = ap (λ b. (p x || q x) || b) (any-or p q xs) ∙ or-inner (p x) (q x) (list_any p xs) (list_any q xs)

pub any-map : {A B : Type 0} (p : B → Bool) (f : A → B) (xs : List A) → list_any p (map f xs) ≡ list_any (λ x. p (f x)) xs
any-map p f [] = refl
any-map p f (x ∷ xs) = ap (λ b. p (f x) || b) (any-map p f xs)

pub any-flat_map : {A B : Type 0} (p : B → Bool) (f : A → List B) (xs : List A) → list_any p (flat_map f xs) ≡ list_any (λ x. list_any p (f x)) xs
any-flat_map p f [] = refl
any-flat_map p f (x ∷ xs) = any-append p (f x) (flat_map f xs) ∙ ap (λ b. list_any p (f x) || b) (any-flat_map p f xs)

-- ---- what a row writes somewhere in an element

module _ (es : List Entry) where
  abbrev pub writes_below : List Step → Row → Context → Bool
  writes_below [] row c = writes_entry row es c
  writes_below (s ∷ path) row c = list_any (writes_below path row) (spots es c s.group)

  -- not at the element itself
  abbrev pub writes_inside : List Step → Row → Context → Bool
  writes_inside [] row c = false
  writes_inside (s ∷ path) row c = writes_below (s ∷ path) row c

  own_hold : (path : List Step) (cell : Cell) (cells : List Cell) (inside : Plan) (c : Context) →
      holds es (add path cell inside) c ≡ (holds es inside c || writes_inside path cell.row c)
      → either (cells_hold es (own_cells path cell cells) c) (λ _. holds es (add path cell inside) c)
      ≡ (either (cells_hold es cells c) (λ _. holds es inside c) || writes_below path cell.row c)
  own_hold [] cell cells inside c e =
      either-or (cells_hold es (cells ++ cell ∷ []) c) (holds es inside c)
      ∙ (ap (λ b. b || holds es inside c) (any-append (λ (x : Cell). writes_entry x.row es c) cells (cell ∷ []) ∙
      ap (λ b. cells_hold es cells c || b) (or-false (writes_entry cell.row es c)))
      ∙ (or-last (cells_hold es cells c) (writes_entry cell.row es c) (holds es inside c) ∙
      ap (λ b. b || writes_entry cell.row es c) (sym (either-or (cells_hold es cells c) (holds es inside c)))))
  own_hold (s ∷ path) cell cells inside c e =
      either-or (cells_hold es cells c) (holds es (add (s ∷ path) cell inside) c)
      ∙ (ap (λ b. cells_hold es cells c || b) e
      ∙ (sym (or-assoc (cells_hold es cells c) (holds es inside c) (writes_below (s ∷ path) cell.row c))
      ∙ ap (λ b. b || writes_below (s ∷ path) cell.row c) (sym (either-or (cells_hold es cells c) (holds es inside c)))))

  line_hold : List Cell → Plan → Context → Bool
  line_hold cells inside d = either (cells_hold es cells d) (λ _. holds es inside d)

  abbrev spots_hold : List Cell → Plan → List Context → Bool
  spots_hold cells inside ds = list_any (λ d. either (cells_hold es cells d) (λ _. holds es inside d)) ds

  spots-more : (path : List Step) (cell : Cell) (cells : List Cell) (inside : Plan) (ds : List Context)
      → ((d : Context) → holds es (add path cell inside) d ≡ (holds es inside d || writes_inside path cell.row d))
      → spots_hold (own_cells path cell cells) (add path cell inside) ds ≡ (spots_hold cells inside ds || list_any (writes_below path cell.row) ds)
  spots-more path cell cells inside ds h =
      any-same (λ d. either (cells_hold es (own_cells path cell cells) d) (λ _. holds es (add path cell inside) d))
      (λ d. either (cells_hold es cells d) (λ _. holds es inside d) || writes_below path cell.row d) (λ d. own_hold path cell cells inside d (h d)) ds
      ∙ any-or (λ d. either (cells_hold es cells d) (λ _. holds es inside d)) (writes_below path cell.row) ds

  spots-new : (path : List Step) (cell : Cell) (ds : List Context) →
      ((d : Context) → holds es (add path cell nothing) d ≡ (holds es nothing d || writes_inside path cell.row d))
      → spots_hold (own_cells path cell []) (add path cell nothing) ds ≡ list_any (writes_below path cell.row) ds
  spots-new path cell ds h = spots-more path cell [] nothing ds h ∙ ap (λ b. b || list_any (writes_below path cell.row) ds) (none ds)
    where
      none : (ds : List Context) → spots_hold [] nothing ds ≡ false
      none [] = refl
      none (d ∷ ds) = none ds

  into-holds : (u : Step) (path : List Step) (cell : Cell) (c : Context) →
      ((plan : Plan) (d : Context) → holds es (add path cell plan) d ≡ (holds es plan d || writes_inside path cell.row d))
      → (plan : Plan) → holds es (into u (own_cells path cell) (add path cell) plan) c ≡ (holds es plan c || writes_below (u ∷ path) cell.row c)
  into-holds u path cell c h nothing =
      either-or (spots_hold (own_cells path cell []) (add path cell nothing) (spots es c u.group)) false
      ∙ (or-false (spots_hold (own_cells path cell []) (add path cell nothing) (spots es c u.group)) ∙ spots-new path cell (spots es c u.group) (h nothing))
  into-holds u path cell c h (a_line t cells inside rest) = go (same_step u t) (nat_lt u.number t.number) (step-sound u t) (into-holds u path cell c h rest)
    where
      old : Bool
      old = spots_hold cells inside (spots es c t.group)

      go : (a b : Bool) → (a ≡ true → u ≡ t) → holds es (into u (own_cells path cell) (add path cell) rest) c ≡ (holds es rest c ||
          writes_below (u ∷ path) cell.row c)
          → holds es (choose a (λ _. a_line t (own_cells path cell cells) (add path cell inside) rest)
          (λ _. choose b (λ _. a_line u (own_cells path cell []) (add path cell nothing) (a_line t cells inside rest))
          (λ _. a_line t cells inside (into u (own_cells path cell) (add path cell) rest)))) c
          ≡ (holds es (a_line t cells inside rest) c || writes_below (u ∷ path) cell.row c)
      go true b k i =
          either-or (spots_hold (own_cells path cell cells) (add path cell inside) (spots es c t.group)) (holds es rest c)
          ∙ (ap (λ b. b || holds es rest c) (spots-more path cell cells inside (spots es c t.group) (h inside)
          ∙ ap (λ (w : Step). spots_hold cells inside (spots es c t.group) || list_any (writes_below path cell.row) (spots es c w.group)) (sym (k refl)))
          ∙ (or-last (spots_hold cells inside (spots es c t.group)) (writes_below (u ∷ path) cell.row c) (holds es rest c)
          ∙ ap (λ b. b || writes_below (u ∷ path) cell.row c) (sym (either-or (spots_hold cells inside (spots es c t.group)) (holds es rest c)))))
      go false true k i =
          either-or (spots_hold (own_cells path cell []) (add path cell nothing) (spots es c u.group)) (holds es (a_line t cells inside rest) c)
          ∙ (ap (λ b. b || holds es (a_line t cells inside rest) c) (spots-new path cell (spots es c u.group) (h nothing))
          ∙ or-swap (writes_below (u ∷ path) cell.row c) (holds es (a_line t cells inside rest) c))
      go false false k i =
          either-or (spots_hold cells inside (spots es c t.group)) (holds es (into u (own_cells path cell) (add path cell) rest) c)
          ∙ (ap (λ b. spots_hold cells inside (spots es c t.group) || b) i
          ∙ (sym (or-assoc (spots_hold cells inside (spots es c t.group)) (holds es rest c) (writes_below (u ∷ path) cell.row c))
          ∙ ap (λ b. b || writes_below (u ∷ path) cell.row c) (sym (either-or (spots_hold cells inside (spots es c t.group)) (holds es rest c)))))

  add-holds : (path : List Step) (cell : Cell) (plan : Plan) (c : Context) →
      holds es (add path cell plan) c ≡ (holds es plan c || writes_inside path cell.row c)
  add-holds [] cell plan c = sym (or-false (holds es plan c))
  add-holds (s ∷ path) cell plan c = into-holds s path cell c (add-holds path cell) plan

  grow-holds : (plan : Plan) (items : List Item) (c : Context) →
      holds es (grow plan items) c ≡ (holds es plan c || list_any (λ (i : Item). writes_inside i.path i.cell.row c) items)
  grow-holds plan [] c = sym (or-false (holds es plan c))
  grow-holds plan (i ∷ is) c =
      grow-holds (add i.path i.cell plan) is c
      ∙ (ap (λ b. b || list_any (λ (j : Item). writes_inside j.path j.cell.row c) is) (add-holds i.path i.cell plan c)
      ∙ or-assoc (holds es plan c) (writes_inside i.path i.cell.row c) (list_any (λ (j : Item). writes_inside j.path j.cell.row c) is))

  ends-hold : (items : List Item) (c : Context) → (cells_hold es (ends_of items) c || list_any (λ (i : Item). writes_inside i.path i.cell.row c) items)
      ≡ list_any (λ (i : Item). writes_below i.path i.cell.row c) items
  ends-hold [] c = refl
  ends-hold (i ∷ is) c =
      ap (λ b. b || (writes_inside i.path i.cell.row c || list_any (λ (j : Item). writes_inside j.path j.cell.row c) is))
      (any-append (λ (x : Cell). writes_entry x.row es c) (end_of i) (ends_of is))
      ∙ (or-inner (cells_hold es (end_of i) c) (cells_hold es (ends_of is) c) (writes_inside i.path i.cell.row c)
      (list_any (λ (j : Item). writes_inside j.path j.cell.row c) is)
      ∙ (ap (λ b. b || (cells_hold es (ends_of is) c || list_any (λ (j : Item). writes_inside j.path j.cell.row c) is)) (one i.path i.cell) ∙
      ap (λ b. writes_below i.path i.cell.row c || b) (ends-hold is c)))
    where
      one : (path : List Step) (cell : Cell) → (cells_hold es (end_at path cell) c || writes_inside path cell.row c) ≡ writes_below path cell.row c
      one [] cell = or-false (writes_entry cell.row es c || false) ∙ or-false (writes_entry cell.row es c)
      one (s ∷ path) cell = refl

  -- a line holds an entry where one of its rows writes one
  pub line-holds : (cells : List Cell) (inside : Plan) (items : List Item) (c : Context) → cells ≡ ends_of items → inside ≡ plan_from items
      → either (cells_hold es cells c) (λ _. holds es inside c) ≡ list_any (λ (i : Item). writes_below i.path i.cell.row c) items
  line-holds cells inside items c e f =
      either-or (cells_hold es cells c) (holds es inside c)
      ∙ (ap (λ b. b || holds es inside c) (ap (λ x. cells_hold es x c) e)
      ∙ (ap (λ b. cells_hold es (ends_of items) c || b) (ap (λ p. holds es p c) f ∙ grow-holds nothing items c) ∙ ends-hold items c))

-- ---- terms below a line

abbrev pub is_term : Item → Bool
is_term i = has_any_term i.cell.row

abbrev term_inside : List Step → Row → Bool
term_inside [] row = false
term_inside (s ∷ path) row = has_any_term row

abbrev cells_have : List Cell → Bool
cells_have cells = list_any (λ (cell : Cell). has_any_term cell.row) cells

own-terms : (path : List Step) (cell : Cell) (cells : List Cell) (inside : Plan) →
    has_terms (add path cell inside) ≡ (has_terms inside || term_inside path cell.row)
    → (cells_have (own_cells path cell cells) || has_terms (add path cell inside)) ≡ ((cells_have cells || has_terms inside) || has_any_term cell.row)
own-terms [] cell cells inside e =
    ap (λ b. b || has_terms inside) (any-append (λ (x : Cell). has_any_term x.row) cells (cell ∷ []) ∙
    ap (λ b. cells_have cells || b) (or-false (has_any_term cell.row)))
    ∙ or-last (cells_have cells) (has_any_term cell.row) (has_terms inside)
own-terms (s ∷ path) cell cells inside e = ap (λ b. cells_have cells || b) e ∙ sym (or-assoc (cells_have cells) (has_terms inside) (has_any_term cell.row))

into-terms : (u : Step) (path : List Step) (cell : Cell) → ((plan : Plan) → has_terms (add path cell plan) ≡ (has_terms plan || term_inside path cell.row))
    → (plan : Plan) → has_terms (into u (own_cells path cell) (add path cell) plan) ≡ (has_terms plan || has_any_term cell.row)
into-terms u path cell h nothing =
    ap (λ b. cells_have (own_cells path cell []) || b) (or-false (has_terms (add path cell nothing))) ∙ own-terms path cell [] nothing (h nothing)
into-terms u path cell h (a_line t cells inside rest) = go (same_step u t) (nat_lt u.number t.number) (into-terms u path cell h rest)
  where
    go : (a b : Bool) → has_terms (into u (own_cells path cell) (add path cell) rest) ≡ (has_terms rest || has_any_term cell.row)
        → has_terms (choose a (λ _. a_line t (own_cells path cell cells) (add path cell inside) rest)
        (λ _. choose b (λ _. a_line u (own_cells path cell []) (add path cell nothing) (a_line t cells inside rest))
        (λ _. a_line t cells inside (into u (own_cells path cell) (add path cell) rest))))
        ≡ (has_terms (a_line t cells inside rest) || has_any_term cell.row)
    go true b i =
        sym (or-assoc (cells_have (own_cells path cell cells)) (has_terms (add path cell inside)) (has_terms rest))
        ∙ (ap (λ b. b || has_terms rest) (own-terms path cell cells inside (h inside))
        ∙ (or-last (cells_have cells || has_terms inside) (has_any_term cell.row) (has_terms rest)
        ∙ ap (λ b. b || has_any_term cell.row) (or-assoc (cells_have cells) (has_terms inside) (has_terms rest))))
    go false true i =
        sym (or-assoc (cells_have (own_cells path cell [])) (has_terms (add path cell nothing)) (has_terms (a_line t cells inside rest)))
        ∙ (ap (λ b. b || has_terms (a_line t cells inside rest)) (own-terms path cell [] nothing (h nothing)) ∙
        or-swap (has_any_term cell.row) (has_terms (a_line t cells inside rest)))
    go false false i =
        ap (λ b. cells_have cells || (has_terms inside || b)) i
        ∙ (ap (λ b. cells_have cells || b) (sym (or-assoc (has_terms inside) (has_terms rest) (has_any_term cell.row)))
        ∙ sym (or-assoc (cells_have cells) (has_terms inside || has_terms rest) (has_any_term cell.row)))

add-terms : (path : List Step) (cell : Cell) (plan : Plan) → has_terms (add path cell plan) ≡ (has_terms plan || term_inside path cell.row)
add-terms [] cell plan = sym (or-false (has_terms plan))
add-terms (s ∷ path) cell plan = into-terms s path cell (add-terms path cell) plan

grow-terms : (plan : Plan) (items : List Item) → has_terms (grow plan items) ≡ (has_terms plan || list_any (λ (i : Item). term_inside i.path i.cell.row) items)
grow-terms plan [] = sym (or-false (has_terms plan))
grow-terms plan (i ∷ is) =
    grow-terms (add i.path i.cell plan) is
    ∙ (ap (λ b. b || list_any (λ (j : Item). term_inside j.path j.cell.row) is) (add-terms i.path i.cell plan)
    ∙ or-assoc (has_terms plan) (term_inside i.path i.cell.row) (list_any (λ (j : Item). term_inside j.path j.cell.row) is))

ends-terms : (items : List Item) → (cells_have (ends_of items) || list_any (λ (i : Item). term_inside i.path i.cell.row) items) ≡ list_any is_term items
ends-terms [] = refl
ends-terms (i ∷ is) =
    ap (λ b. b || (term_inside i.path i.cell.row || list_any (λ (j : Item). term_inside j.path j.cell.row) is))
    (any-append (λ (x : Cell). has_any_term x.row) (end_of i) (ends_of is))
    ∙ (or-inner (cells_have (end_of i)) (cells_have (ends_of is)) (term_inside i.path i.cell.row) (list_any (λ (j : Item). term_inside j.path j.cell.row) is)
    ∙ (ap (λ b. b || (cells_have (ends_of is) || list_any (λ (j : Item). term_inside j.path j.cell.row) is)) (one i.path i.cell) ∙
    ap (λ b. is_term i || b) (ends-terms is)))
  where
    one : (path : List Step) (cell : Cell) → (cells_have (end_at path cell) || term_inside path cell.row) ≡ has_any_term cell.row
    one [] cell = or-false (has_any_term cell.row || false) ∙ or-false (has_any_term cell.row)
    one (s ∷ path) cell = refl

-- a term stands at a line or below it where one of its rows has one
pub line-terms : (cells : List Cell) (inside : Plan) (items : List Item) → cells ≡ ends_of items → inside ≡ plan_from items
    → (list_any (λ (cell : Cell). has_any_term cell.row) cells || has_terms inside) ≡ list_any is_term items
line-terms cells inside items e f = ap (λ b. b || has_terms inside) (ap cells_have e) ∙
    (ap (λ b. cells_have (ends_of items) || b) (ap has_terms f ∙ grow-terms nothing items) ∙ ends-terms items)
