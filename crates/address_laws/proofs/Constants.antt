-- Where constants stand: in the elements of which a line is written, if its holder holds an entry.
use Rattle.std.proofs.Common.{◌≡◌, ℕ, Bool, true, false, ◌||◌, Option, Some, None, List, [], ◌∷◌, ◌++◌, flat_map, map, inl, inr, refl, sym, ap, ◌∙◌, subst}
use Rattle.std.specs.Prelude.{is_some, ◌==◌}
use Rattle.std.specs.List.{list_any}
use Rattle.std.proofs.lemmas.Bool.{false≢true}
use Rattle.term_table.specs.declared.groups.Group.{Group}
use Rattle.term_table.specs.declared.contexts.Context.{Context}
use Rattle.inv_terms.specs.declared.entries.Entry.{Entry}
use Rattle.bind_rows.specs.declared.names.Leaf.{Leaf as End}
use Rattle.bind_rows.specs.declared.names.Leaf.TheVariants as leaves
use Rattle.bind_rows.specs.declared.rows.Step.{Step}
use Rattle.bind_rows.specs.declared.rows.Row.{Row}
use Rattle.bind_rows.specs.declared.rows.Content.{Content}
use Rattle.bind_rows.specs.declared.rows.Content.TheVariants as contents
use Rattle.bind_table.specs.Lines.{Plan, Cell, nothing, a_line}
use Rattle.bind_table.specs.Laid.{element_numbers, are_distinct}
use Rattle.bind_meaning.specs.Picks.{has_any_term, term_in}
use Rattle.bind_meaning.specs.Writing.{writes_entry}
use Rattle.binding_laws.proofs.TreeLemmas.{Each}
use Rattle.address_laws.specs.AddressTrees.{Leaf, inside, where_so}
use Rattle.address_laws.specs.Addresses.{Turn, turns, or_once, group_turns, leaf_at, under, said_by, holder, is_some_of}
use Rattle.address_laws.proofs.Orders.{In, each-in}
use Rattle.address_laws.proofs.Items.{Item, tails, tail_of, tail_at, tail_by, HasLine, HasFirst, Of, made, plan_from, distinct-inside, distinct-rest, or-first}
use Rattle.address_laws.proofs.Items.{or-second, number-itself}
use Rattle.address_laws.proofs.Turns.{place_of}
use Rattle.address_laws.proofs.Holding.{is_term, any-append, writes_below}
use Rattle.address_laws.proofs.Walks.{own_along, own_said, told, told_along, told_said, told-inside, told-some, further, due, some-map, some-each}
use Rattle.address_laws.proofs.Walks.{constant-silent}

-- ---- lists

pub any-each : {A : Type 0} (p : A → Bool) (xs : List A) → list_any p xs ≡ false → Each (λ x. p x ≡ false) xs
any-each p [] h = tt
any-each p (x ∷ xs) h = (or-first (p x) (list_any p xs) h, any-each p xs (or-second (p x) (list_any p xs) h))

pub each-any : {A : Type 0} (p : A → Bool) (xs : List A) → Each (λ x. p x ≡ false) xs → list_any p xs ≡ false
each-any p [] h = refl
each-any p (x ∷ xs) h = ap (λ b. b || list_any p xs) h.0 ∙ each-any p xs h.1

pub any-alike : {A : Type 0} (p q : A → Bool) (xs : List A) → Each (λ x. p x ≡ q x) xs → list_any p xs ≡ list_any q xs
any-alike p q [] h = refl
any-alike p q (x ∷ xs) h = ap (λ b. b || list_any p xs) h.0 ∙ ap (λ b. q x || b) (any-alike p q xs h.1)

pub each-of_in : {A : Type 0} (P : A → Type 0) (xs : List A) → ((x : A) → In x xs → P x) → Each P xs
each-of_in P [] h = tt
each-of_in P (x ∷ xs) h = (h x (inl refl), each-of_in P xs (λ y k. h y (inr k)))

pub none-of : {A : Type 0} (xs : List A) → is_some_of xs ≡ false → xs ≡ []
none-of [] h = refl
none-of (x ∷ xs) h = absurd (false≢true (sym h))

-- ---- in an element the rows that go on

pub in-behind : {A : Type 0} (x : A) (xs ys : List A) → In x ys → In x (xs ++ ys)
in-behind x [] ys k = k
in-behind x (y ∷ xs) ys k = inr (in-behind x xs ys k)

pub in-tails : (u : Step) (path : List Step) (cell : Cell) (items : List Item) → In (record { path = u ∷ path; cell = cell }) items →
    In (record { path = path; cell = cell }) (tails u.number items)
in-tails u path cell [] k = elim k [ ]
in-tails u path cell (i ∷ is) (inl e) =
    subst (λ (j : Item). In (record { path = path; cell = cell }) (tail_of u.number j ++ tails u.number is)) e
    (subst (λ b. In (record { path = path; cell = cell }) (tail_by b path cell ++ tails u.number is)) (sym (number-itself u.number)) (inl refl))
in-tails u path cell (i ∷ is) (inr k) = in-behind _ (tail_of u.number i) (tails u.number is) (in-tails u path cell is k)

inner-distinct : (items : List Item) (u : Step) (plan : Plan) → are_distinct (element_numbers plan) ≡ true → Of plan items → HasLine u plan
    → are_distinct (element_numbers (plan_from (tails u.number items))) ≡ true
inner-distinct items u nothing d o h = elim h [ ]
inner-distinct items u (a_line s cells inside rest) d o (inl e) =
    subst (λ (v : Step). are_distinct (element_numbers (plan_from (tails v.number items))) ≡ true) (sym e)
    (subst (λ (p : Plan). are_distinct (element_numbers p) ≡ true) o.0.1.0 (distinct-inside s cells inside rest d))
inner-distinct items u (a_line s cells inside rest) d o (inr h) = inner-distinct items u rest (distinct-rest s cells inside rest d) o.1 h

-- The rows that go on in an element make lines whose numbers are one element each.
pub tails-distinct : (items : List Item) (u : Step) → are_distinct (element_numbers (plan_from items)) ≡ true → HasLine u (plan_from items)
    → are_distinct (element_numbers (plan_from (tails u.number items))) ≡ true
tails-distinct items u d h = inner-distinct items u (plan_from items) d (made items d).are h

-- ---- rows with a constant

abbrev pub IsConstant : Row → Type 0
IsConstant row = has_any_term row ≡ false

pub constant-content : (row : Row) → IsConstant row → (text : List ℕ) × (row.content ≡ contents.Constant text)
constant-content row h = go row.content refl h
  where
    go : (content : Content) → row.content ≡ content → is_some (term_in content) ≡ false → (text : List ℕ) × (row.content ≡ contents.Constant text)
    go (contents.Term term) e h = absurd (false≢true (sym h))
    go (contents.Constant text) e h = (text, e)

module _ (es : List Entry) where
  pub constant-writes : (row : Row) (c : Context) → IsConstant row → writes_entry row es c ≡ false
  constant-writes row c h = let k = constant-content row h in constant-silent es row k.0 c k.1

  pub constant-says : (above here : Bool) (last : Option Step) (c : Context) (row : Row) → IsConstant row →
      is_some_of (own_said es row.content above here last c row) ≡ due row.leaf above here
  constant-says above here last c row h =
      let k = constant-content row h in
      ap (λ content. is_some_of (own_said es content above here last c row)) k.1 ∙ go (due row.leaf above here) (said_by row.leaf k.0)
    where
      go : {A : Type 0} (b : Bool) (x : A) → is_some_of (where_so b x) ≡ b
      go true x = refl
      go false x = refl

  due-false : (leaf : End) → due leaf false false ≡ false
  due-false leaves.Element = refl
  due-false (leaves.Attribute local) = refl

  due-true : (leaf : End) → due leaf true true ≡ true
  due-true leaves.Element = refl
  due-true (leaves.Attribute local) = refl

  holder-false : (b : Bool) → holder b false false ≡ false
  holder-false true = refl
  holder-false false = refl

  abbrev pub writes_item : Context → Item → Bool
  writes_item c i = writes_below es i.path i.cell.row c

  -- nothing is told in an element where nothing is told around it
  told-none : (last : Option Step) (c : Context) (items : List Item) → list_any (writes_item c) items ≡ false → told es last c items ≡ []
  told-none last c items h = none-of (told es last c items) (told-some es last c items ∙ h)

  pub tails-silent : (items : List Item) (u : Step) (c : Context) (t : Turn) → are_distinct (element_numbers (plan_from items)) ≡ true →
      HasLine u (plan_from items) → In t (turns es c u.group)
      → list_any (writes_item c) items ≡ false → list_any (writes_item t.context) (tails u.number items) ≡ false
  tails-silent items u c t d h k e =
      sym (told-some es (Some u) t.context (tails u.number items))
      ∙ (ap is_some_of (sym (told-inside es c (plan_from items) d u h t k None items (made items d).first)) ∙
      ap (λ l. is_some_of (inside (place_of u t) l)) (told-none None c items e))

  further-none : (items : List Item) (u : Step) (t : Turn) → list_any (writes_item t.context) items ≡ false → further es items false u t ≡ false
  further-none items u t e = ap (λ b. holder (list_any is_term items) b false) (told-some es (Some u) t.context items ∙ e) ∙
      holder-false (list_any is_term items)

  turns-none : (s : Step) (f : Turn → List Leaf) (ts : List Turn) → ((t : Turn) → In t ts → f t ≡ []) → flat_map (λ t. map (under s t) (f t)) ts ≡ []
  turns-none s f [] h = refl
  turns-none s f (t ∷ ts) h = ap (λ l. map (under s t) l ++ flat_map (λ t. map (under s t) (f t)) ts) (h t (inl refl)) ∙ turns-none s f ts (λ u k. h u (inr k))

  has-line : (items : List Item) (u : Step) (path : List Step) (cell : Cell) → are_distinct (element_numbers (plan_from items)) ≡ true →
      In (record { path = u ∷ path; cell = cell }) items → HasLine u (plan_from items)
  has-line items u path cell d k = each-in (HasFirst (plan_from items)) items (record { path = u ∷ path; cell = cell }) (made items d).first k

  -- A constant doesn't stand where no holder holds an entry.
  pub unheld : (items : List Item) (last : Option Step) (c : Context) (path : List Step) (cell : Cell) → are_distinct (element_numbers (plan_from items)) ≡ true
      → In (record { path = path; cell = cell }) items → list_any (writes_item c) items ≡ false → IsConstant cell.row →
      own_along es items false false last c path cell.row ≡ []
  unheld items last c [] cell d k e h =
      none-of (own_along es items false false last c [] cell.row)
      (some-map (leaf_at []) (own_said es cell.row.content false false last c cell.row) ∙
      (constant-says false false last c cell.row h ∙ due-false cell.row.leaf))
  unheld items last c (u ∷ path) cell d k e h =
      let has = has-line items u path cell d k in
      let inner = tails-distinct items u d has in
      turns-none u (λ t. own_along es (tails u.number items) false (further es (tails u.number items) false u t) (Some u) t.context path cell.row)
      (turns es c u.group) (λ t among.
      let silent = tails-silent items u c t d has among e in
      ap (λ b. own_along es (tails u.number items) false b (Some u) t.context path cell.row) (further-none (tails u.number items) u t silent)
      ∙ unheld (tails u.number items) (Some u) t.context path cell inner (in-tails u path cell items k) silent h)

  -- the same below an element whose own holder doesn't, whatever is above
  pub unheld-below : (items : List Item) (above : Bool) (last : Option Step) (c : Context) (u : Step) (path : List Step) (cell : Cell) →
      are_distinct (element_numbers (plan_from items)) ≡ true
      → In (record { path = u ∷ path; cell = cell }) items → list_any (writes_item c) items ≡ false → IsConstant cell.row →
      own_along es items above false last c (u ∷ path) cell.row ≡ []
  unheld-below items above last c u path cell d k e h =
      let has = has-line items u path cell d k in
      let inner = tails-distinct items u d has in
      turns-none u (λ t. own_along es (tails u.number items) false (further es (tails u.number items) false u t) (Some u) t.context path cell.row)
      (turns es c u.group) (λ t among.
      let silent = tails-silent items u c t d has among e in
      ap (λ b. own_along es (tails u.number items) false b (Some u) t.context path cell.row) (further-none (tails u.number items) u t silent)
      ∙ unheld (tails u.number items) (Some u) t.context path cell inner (in-tails u path cell items k) silent h)

  -- A constant stands somewhere in an element that a holder holds, where no term is below it.
  tail-terms : (n : ℕ) (path : List Step) (cell : Cell) → has_any_term cell.row ≡ false → list_any is_term (tail_at n path cell) ≡ false
  tail-terms n [] cell h = refl
  tail-terms n (s ∷ path) cell h = go (s.number == n)
    where
      go : (b : Bool) → list_any is_term (tail_by b path cell) ≡ false
      go true = ap (λ b. b || false) h
      go false = refl

  pub tails-terms : (n : ℕ) (items : List Item) → list_any is_term items ≡ false → list_any is_term (tails n items) ≡ false
  tails-terms n [] h = refl
  tails-terms n (i ∷ is) h =
      any-append is_term (tail_of n i) (tails n is)
      ∙ (ap (λ b. b || list_any is_term (tails n is)) (tail-terms n i.path i.cell (or-first (is_term i) (list_any is_term is) h)) ∙
      tails-terms n is (or-second (is_term i) (list_any is_term is) h))

  turns-some : (c : Context) (group : Option Group) → is_some_of (turns es c group) ≡ true
  turns-some c None = refl
  turns-some c (Some group) = go (group_turns es c.outer group)
    where
      go : (ts : List Turn) → is_some_of (or_once c ts) ≡ true
      go [] = refl
      go (t ∷ ts) = refl

  any-first : {A : Type 0} (p : A → Bool) (xs : List A) → is_some_of xs ≡ true → ((x : A) → p x ≡ true) → list_any p xs ≡ true
  any-first p [] e h = absurd (false≢true e)
  any-first p (x ∷ xs) e h = ap (λ b. b || list_any p xs) (h x)

  pub held : (items : List Item) (last : Option Step) (c : Context) (path : List Step) (cell : Cell) → list_any is_term items ≡ false → IsConstant cell.row
      → is_some_of (own_along es items true true last c path cell.row) ≡ true
  held items last c [] cell e h =
      some-map (leaf_at []) (own_said es cell.row.content true true last c cell.row) ∙ (constant-says true true last c cell.row h ∙ due-true cell.row.leaf)
  held items last c (u ∷ path) cell e h =
      let none = tails-terms u.number items e in
      some-each (λ (t : Turn). map (under u t) (own_along es (tails u.number items) true (further es (tails u.number items) true u t)
      (Some u) t.context path cell.row)) (turns es c u.group)
      ∙ any-first (λ (t : Turn). is_some_of
      (map (under u t) (own_along es (tails u.number items) true (further es (tails u.number items) true u t) (Some u) t.context path cell.row)))
      (turns es c u.group)
      (turns-some c u.group) (λ t.
      some-map (under u t) (own_along es (tails u.number items) true (further es (tails u.number items) true u t) (Some u) t.context path cell.row)
      ∙ (ap (λ b. is_some_of (own_along es (tails u.number items) true b (Some u) t.context path cell.row))
      (ap (λ b. holder b (is_some_of (told es (Some u) t.context (tails u.number items))) true) none)
      ∙ held (tails u.number items) (Some u) t.context path cell none h))

  -- ---- rows with a term

  pub own-told : (items : List Item) (above here : Bool) (last : Option Step) (c : Context) (path : List Step) (row : Row) → has_any_term row ≡ true
      → own_along es items above here last c path row ≡ told_along es last c path row
  own-told items above here last c [] row h = go row.content refl h
    where
      go : (content : Content) → row.content ≡ content → is_some (term_in content) ≡ true →
          map (leaf_at []) (own_said es row.content above here last c row) ≡ map (leaf_at []) (told_said es row.content last c row)
      go (contents.Term term) e h =
          ap (λ x. map (leaf_at []) (own_said es x above here last c row)) e ∙ sym (ap (λ x. map (leaf_at []) (told_said es x last c row)) e)
      go (contents.Constant text) e h = absurd (false≢true h)
  own-told items above here last c (s ∷ path) row h =
      same (λ (t : Turn). own_along es (tails s.number items) here (further es (tails s.number items) here s t) (Some s) t.context path row)
      (λ (t : Turn). told_along es (Some s) t.context path row)
      (λ t. own-told (tails s.number items) here (further es (tails s.number items) here s t) (Some s) t.context path row h) (turns es c s.group)
    where
      same : (f g : Turn → List Leaf) → ((t : Turn) → f t ≡ g t) → (ts : List Turn) →
          flat_map (λ t. map (under s t) (f t)) ts ≡ flat_map (λ t. map (under s t) (g t)) ts
      same f g k [] = refl
      same f g k (t ∷ ts) = ap (λ l. map (under s t) l ++ flat_map (λ t. map (under s t) (f t)) ts) (k t) ∙ ap (λ l. map (under s t) (g t) ++ l) (same f g k ts)
