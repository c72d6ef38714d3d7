-- Seats in listing order: what stands between two seats of an occurrence stands in it too.
use Rattle.std.proofs.Common.{◌≡◌, ℕ, ◌<◌, ◌≤◌, Bool, true, false, List, [], ◌∷◌, ◌++◌, get_or, Option, Some, None, refl, sym, ap, ◌∙◌, ◌⊎◌, inl, inr, arith}
use Rattle.std.specs.Prelude.{◌==◌, slice_get, option_map, is_some}
use Rattle.std.specs.Ordering.{is_lt}
use Rattle.std.specs.declared.cmp.Ordering.{Ordering}
use Rattle.std.specs.declared.cmp.Ordering.TheVariants.{Less, Equal, Greater}
use Rattle.std.proofs.lemmas.Cmp.{nat_list_cmp_total}
use Rattle.std.proofs.lemmas.Option.{same_Some, slice_get-get_or}
use Rattle.std.proofs.lemmas.List.Quantifiers.{position-Some}
use Rattle.std.proofs.lemmas.Bool.{false≢true}
use Rattle.std.proofs.lemmas.Bool.Decides.{nat_tests}
use Rattle.term_table.specs.declared.groups.Group.{Group}
use Rattle.term_table.specs.declared.groups.Group.TheVariants as groups
use Rattle.term_table.specs.declared.terms.DataType.TheVariants as data_types
use Rattle.term_table.specs.declared.terms.Mark.TheVariants as marks
use Rattle.term_table.specs.declared.terms.Term.{Term}
use Rattle.term_table.specs.declared.terms.TermRow.{TermRow}
use Rattle.term_table.specs.declared.contexts.Slot.{Slot}
use Rattle.term_table.specs.declared.contexts.Seat.{Seat}
use Rattle.term_table.specs.SemanticModel.{same_term, listing_rows}
use Rattle.term_table.specs.Contexts.{outer_group, inner_group, slot_group, same_groups, has_context, repeated_around, outermost, innermost}
use Rattle.term_table.specs.Rows.{is_row_in, row_of}
use Rattle.term_table.specs.Places.{first_row, slot_place, place, precedes, seat_place, comes_before}
use Rattle.term_table.proofs.GroupLemmas.{both, same_group_is, start, same_outer_start, same_inner_start}

-- The slot is one of that group, and there is none where there is no group.
abbrev pub is_slot_of : Option Slot → Option Group → Bool
is_slot_of slot group = same_groups (slot_group slot) group

-- ---- lexicographic order

lexicographic : (a b : ℕ) (p q : List ℕ) → precedes (a ∷ p) (b ∷ q) ≡ true → (a < b) ⊎ ((a ≡ b) × (precedes p q ≡ true))
lexicographic a b p q h = elim (nat_cases a b) [
  | inl l ↦ inl l
  | inr (inl e) ↦ inr (e, sym (equal_first a b p q e) ∙ h)
  | inr (inr g) ↦ absurd (false≢true (sym (greater_first a b p q g) ∙ h))
]
  where
    nat_cases : (a b : ℕ) → (a < b) ⊎ ((a ≡ b) ⊎ (b < a))
    nat_cases a b = grind arith

    equal_first : (a b : ℕ) (p q : List ℕ) → a ≡ b → precedes (a ∷ p) (b ∷ q) ≡ precedes p q
    equal_first a b p q e = grind (arith, nat_tests)

    greater_first : (a b : ℕ) (p q : List ℕ) → b < a → precedes (a ∷ p) (b ∷ q) ≡ false
    greater_first a b p q g = grind (arith, nat_tests)

-- what lies between two lists with the same first number begins with it too
record Between (a b : ℕ) (p q r : List ℕ) : Type 0 where
  first : a ≡ b
  before : precedes p q ≡ true
  behind : precedes q r ≡ true

between : (a b c : ℕ) (p q r : List ℕ) → precedes (a ∷ p) (b ∷ q) ≡ true → precedes (b ∷ q) (c ∷ r) ≡ true → a ≡ c → Between a b p q r
between a b c p q r h k e = elim (lexicographic a b p q h) [
  | inl l ↦ absurd (elim (lexicographic b c q r k) [ inl m ↦ omega arith | inr m ↦ omega arith ])
  | inr l ↦ elim (lexicographic b c q r k) [ inl m ↦ absurd (omega arith) | inr m ↦ record { first = l.0; before = l.1; behind = m.1 } ]
]

at_most : (a b : ℕ) (p q : List ℕ) → precedes (a ∷ p) (b ∷ q) ≡ true → a ≤ b
at_most a b p q h = elim (lexicographic a b p q h) [ inl l ↦ omega arith | inr m ↦ omega arith ]

behind_first : (a b : ℕ) (p q : List ℕ) → precedes (a ∷ p) (b ∷ q) ≡ true → a ≡ b → precedes p q ≡ true
behind_first a b p q h e = elim (lexicographic a b p q h) [ inl l ↦ absurd (omega (arith, l, e)) | inr m ↦ m.1 ]

-- ---- the place of an entry

abbrev pub index_of : Option Slot → ℕ
index_of None = 0
index_of (Some slot) = slot.index

slot_place-start : (row : ℕ) (slot : Option Slot) (group : Option Group) → is_slot_of slot group ≡ true →
    slot_place row slot ≡ start row group ∷ index_of slot ∷ []
slot_place-start row None None h = refl
slot_place-start row None (Some g) h = absurd (false≢true h)
slot_place-start row (Some s) None h = absurd (false≢true h)
slot_place-start row (Some s) (Some g) h = ap (λ x. first_row x ∷ s.index ∷ []) (same_group_is s.group g h)

-- a seat with its row
pub record At (e : Seat) : Type 0 where
  pub row : ℕ
  pub line : TermRow
  pub found : slice_get listing_rows row ≡ Some line
  pub term : same_term line.term e.term ≡ true
  pub outer : is_slot_of e.context.outer (outer_group line.group) ≡ true
  pub inner : is_slot_of e.context.inner (inner_group line.group) ≡ true
  pub row_is : row_of e.term e.context ≡ Some row

any_line : TermRow
any_line = record { term = record { number = 0; part = 0 }; group = groups.Root; data_type = data_types.T; mark = marks.Optional; list = None }

at-row : (e : Seat) (row : ℕ) → row_of e.term e.context ≡ Some row → At e
at-row e row h =
    let p = position-Some (is_row_in e.term (slot_group e.context.outer) (slot_group e.context.inner)) listing_rows row any_line h in
    let same : same_term (get_or listing_rows row any_line).term e.term ≡ true = (both _ _ p.1).0 in
    let fits : has_context (get_or listing_rows row any_line).group e.context ≡ true = (both _ _ p.1).1 in
    let q = both _ _ fits in
    record {
      row = row;
      line = get_or listing_rows row any_line;
      found = slice_get-get_or listing_rows row any_line p.0;
      term = same;
      outer = q.0;
      inner = q.1;
      row_is = h;
    }

-- the numbers of a place
abbrev pub numbers : (e : Seat) → At e → List ℕ
numbers e a = start a.row (outer_group a.line.group) ∷ index_of e.context.outer ∷ start a.row (inner_group a.line.group) ∷ index_of e.context.inner ∷ a.row ∷ []

place-numbers : (e : Seat) (a : At e) → place a.row e.context ≡ numbers e a
place-numbers e a =
    ap (λ x. x ++ (slot_place a.row e.context.inner ++ a.row ∷ [])) (slot_place-start a.row e.context.outer _ a.outer)
    ∙ ap (λ x. start a.row (outer_group a.line.group) ∷ index_of e.context.outer ∷ (x ++ a.row ∷ [])) (slot_place-start a.row e.context.inner _ a.inner)

-- two entries in order
pub record Before (d e : Seat) : Type 0 where
  pub first : At d
  pub second : At e
  pub order : precedes (numbers d first) (numbers e second) ≡ true

pub some_row : (e : Seat) (o : Option ℕ) → row_of e.term e.context ≡ o → (o ≡ None) ⊎ At e
some_row e None h = inl refl
some_row e (Some row) h = inr (at-row e row h)

abbrev placed_test : Option (List ℕ) → Option (List ℕ) → Bool
placed_test p q = elim p [ None ↦ false | Some a ↦ elim q [ None ↦ false | Some b ↦ precedes a b ] ]

no_second : (p : Option (List ℕ)) → placed_test p None ≡ false
no_second None = refl
no_second (Some a) = refl

placed-at : (e : Seat) (a : At e) → seat_place e ≡ Some (numbers e a)
placed-at e a = ap (option_map (λ row. place row e.context)) a.row_is ∙ ap Some (place-numbers e a)

pub before-from : (d e : Seat) → comes_before d e ≡ true → Before d e
before-from d e h =
    let t : placed_test (seat_place d) (seat_place e) ≡ true = h in
    elim (some_row d (row_of d.term d.context) refl) [
      | inl none ↦
          let u : seat_place d ≡ None = ap (option_map (λ row. place row d.context)) none in
          absurd (false≢true (sym (ap (λ o. placed_test o (seat_place e)) u) ∙ t))
      | inr a ↦ elim (some_row e (row_of e.term e.context) refl) [
        | inl none ↦
            let u : seat_place e ≡ None = ap (option_map (λ row. place row e.context)) none in
            absurd (false≢true (sym (ap (placed_test (seat_place d)) u ∙ no_second (seat_place d)) ∙ t))
        | inr b ↦
            let u : placed_test (Some (numbers d a)) (Some (numbers e b)) ≡ true =
            sym (ap (λ o. placed_test o (seat_place e)) (placed-at d a) ∙ ap (placed_test (Some (numbers d a))) (placed-at e b)) ∙ t in
            record { first = a; second = b; order = u }
      ]
    ]

-- the row of an entry is one
same-row : (e : Seat) (a b : At e) → a.row ≡ b.row
same-row e a b = same_Some _ _ (sym a.row_is ∙ b.row_is)

same-line : (e : Seat) (a b : At e) → a.line ≡ b.line
same-line e a b = same_Some _ _ (sym a.found ∙ (ap (slice_get listing_rows) (same-row e a b) ∙ b.found))

same-numbers : (e : Seat) (a b : At e) → numbers e a ≡ numbers e b
same-numbers e a b = rw (same-row e a b, same-line e a b) refl

-- ---- between two entries of an occurrence

pub slot_group-is : (slot : Option Slot) (group : Option Group) → is_slot_of slot group ≡ true → group ≡ slot_group slot
slot_group-is None None h = refl
slot_group-is None (Some g) h = absurd (false≢true h)
slot_group-is (Some s) None h = absurd (false≢true h)
slot_group-is (Some s) (Some g) h = ap Some (sym (same_group_is s.group g h))

pub slot_of_group : (slot : Option Slot) (g : Group) → slot_group slot ≡ Some g → (u : Slot) × (slot ≡ Some u) × (u.group ≡ g)
slot_of_group None g h = absurd (let k : None ≡ Some g = h in cc)
slot_of_group (Some s) g h = (s, refl, same_Some _ _ h)

-- what is behind the outer slot in a place
abbrev pub rest : (e : Seat) → At e → List ℕ
rest e a = start a.row (inner_group a.line.group) ∷ index_of e.context.inner ∷ a.row ∷ []

pub record OuterBetween (f l e : Seat) (a : At f) (b : At l) (c : At e) (t s : Slot) : Type 0 where
  pub slot : Slot
  pub is : l.context.outer ≡ Some slot
  pub group : slot.group ≡ s.group
  pub above : t.index ≤ slot.index
  pub below : slot.index ≤ s.index
  pub rests : t.index ≡ s.index → (precedes (rest f a) (rest l b) ≡ true) × (precedes (rest l b) (rest e c) ≡ true)

outer_at : (f l e : Seat) (a : At f) (b : At l) (c : At e) → precedes (numbers f a) (numbers l b) ≡ true → precedes (numbers l b) (numbers e c) ≡ true
    → (t s : Slot) → f.context.outer ≡ Some t → e.context.outer ≡ Some s → t.group ≡ s.group → OuterBetween f l e a b c t s
outer_at f l e a b c h k t s ft es same =
    let gf : outer_group a.line.group ≡ Some t.group = slot_group-is _ _ a.outer ∙ ap slot_group ft in
    let ge : outer_group c.line.group ≡ Some s.group = slot_group-is _ _ c.outer ∙ ap slot_group es in
    let starts : start a.row (outer_group a.line.group) ≡ start c.row (outer_group c.line.group) =
    ap (start a.row) gf ∙ (ap first_row same ∙ sym (ap (start c.row) ge)) in
    let w : Between (start a.row (outer_group a.line.group)) (start b.row (outer_group b.line.group)) (index_of f.context.outer ∷ rest f a)
    (index_of l.context.outer ∷ rest l b) (index_of e.context.outer ∷ rest e c) =
    between _ _ _ (index_of f.context.outer ∷ rest f a) (index_of l.context.outer ∷ rest l b) (index_of e.context.outer ∷ rest e c) h k starts in
    let gl : outer_group b.line.group ≡ Some s.group = sym (same_outer_start a.row b.row a.line b.line a.found b.found w.first) ∙ (gf ∙ ap Some same) in
    let u = slot_of_group l.context.outer s.group (sym (slot_group-is _ _ b.outer) ∙ gl) in
    let it : index_of f.context.outer ≡ t.index = ap index_of ft in
    let iu : index_of l.context.outer ≡ u.0.index = ap index_of u.1 in
    let is : index_of e.context.outer ≡ s.index = ap index_of es in
    let lo : index_of f.context.outer ≤ index_of l.context.outer = at_most _ _ (rest f a) (rest l b) w.before in
    let hi : index_of l.context.outer ≤ index_of e.context.outer = at_most _ _ (rest l b) (rest e c) w.behind in
    record {
      slot = u.0;
      is = u.1;
      group = u.2;
      above = omega arith;
      below = omega arith;
      rests = λ q.
          let v : Between (index_of f.context.outer) (index_of l.context.outer) (rest f a) (rest l b) (rest e c) =
          between _ _ _ (rest f a) (rest l b) (rest e c) w.before w.behind (it ∙ (q ∙ sym is)) in
          (v.before, v.behind);
    }

pub record InnerBetween (f l e : Seat) (t s : Slot) : Type 0 where
  pub slot : Slot
  pub is : l.context.inner ≡ Some slot
  pub group : slot.group ≡ s.group
  pub above : t.index ≤ slot.index
  pub below : slot.index ≤ s.index

inner_at : (f l e : Seat) (a : At f) (b : At l) (c : At e) → precedes (rest f a) (rest l b) ≡ true → precedes (rest l b) (rest e c) ≡ true
    → (t s : Slot) → f.context.inner ≡ Some t → e.context.inner ≡ Some s → t.group ≡ s.group → InnerBetween f l e t s
inner_at f l e a b c h k t s ft es same =
    let gf : inner_group a.line.group ≡ Some t.group = slot_group-is _ _ a.inner ∙ ap slot_group ft in
    let ge : inner_group c.line.group ≡ Some s.group = slot_group-is _ _ c.inner ∙ ap slot_group es in
    let starts : start a.row (inner_group a.line.group) ≡ start c.row (inner_group c.line.group) =
    ap (start a.row) gf ∙ (ap first_row same ∙ sym (ap (start c.row) ge)) in
    let w : Between (start a.row (inner_group a.line.group)) (start b.row (inner_group b.line.group)) (index_of f.context.inner ∷ a.row ∷ [])
    (index_of l.context.inner ∷ b.row ∷ []) (index_of e.context.inner ∷ c.row ∷ []) =
    between _ _ _ (index_of f.context.inner ∷ a.row ∷ []) (index_of l.context.inner ∷ b.row ∷ []) (index_of e.context.inner ∷ c.row ∷ []) h k starts in
    let gl : inner_group b.line.group ≡ Some s.group = sym (same_inner_start a.row b.row a.line b.line a.found b.found w.first) ∙ (gf ∙ ap Some same) in
    let u = slot_of_group l.context.inner s.group (sym (slot_group-is _ _ b.inner) ∙ gl) in
    let it : index_of f.context.inner ≡ t.index = ap index_of ft in
    let iu : index_of l.context.inner ≡ u.0.index = ap index_of u.1 in
    let is : index_of e.context.inner ≡ s.index = ap index_of es in
    let lo : index_of f.context.inner ≤ index_of l.context.inner = at_most _ _ (a.row ∷ []) (b.row ∷ []) w.before in
    let hi : index_of l.context.inner ≤ index_of e.context.inner = at_most _ _ (b.row ∷ []) (c.row ∷ []) w.behind in
    record {
      slot = u.0;
      is = u.1;
      group = u.2;
      above = omega arith;
      below = omega arith;
    }

-- an entry with an inner slot has an outer one
outer_with_inner : (gs : List Group) (g : Group) → innermost gs ≡ Some g → (h : Group) × (outermost gs ≡ Some h)
outer_with_inner [] g e = absurd (let k : None ≡ Some g = e in cc)
outer_with_inner (x ∷ []) g e = absurd (let k : None ≡ Some g = e in cc)
outer_with_inner (x ∷ y ∷ gs) g e = (y, refl)

pub outer_slot : (e : Seat) → At e → (s : Slot) → e.context.inner ≡ Some s → (u : Slot) × (e.context.outer ≡ Some u)
outer_slot e a s h =
    let gi : inner_group a.line.group ≡ Some s.group = slot_group-is _ _ a.inner ∙ ap slot_group h in
    let w = outer_with_inner (repeated_around a.line.group) s.group gi in
    let u = slot_of_group e.context.outer w.0 (sym (slot_group-is _ _ a.outer) ∙ w.1) in
    (u.0, u.1)

-- ---- the same by the order of entries

-- an entry between two of the same occurrence of a group stands in it, or between two of the same group in that group
pub record Orders (f l e : Seat) : Type 0 where
  pub first : At f
  pub middle : At l
  pub last : At e
  pub before : precedes (numbers f first) (numbers l middle) ≡ true
  pub behind : precedes (numbers l middle) (numbers e last) ≡ true

pub orders-from : (f l e : Seat) → comes_before f l ≡ true → comes_before l e ≡ true → Orders f l e
orders-from f l e h k =
    let a = before-from f l h in
    let b = before-from l e k in
    record {
      first = a.first;
      middle = a.second;
      last = b.second;
      before = a.order;
      behind = ap (λ x. precedes x (numbers e b.second)) (same-numbers l a.second b.first) ∙ b.order;
    }

pub outer-between : (f l e : Seat) (o : Orders f l e) (t s : Slot) → f.context.outer ≡ Some t → e.context.outer ≡ Some s → t.group ≡ s.group
    → OuterBetween f l e o.first o.middle o.last t s
outer-between f l e o t s ft es same = outer_at f l e o.first o.middle o.last o.before o.behind t s ft es same

-- the same for inner slots inside one outer slot
pub inner-between : (f l e : Seat) (o : Orders f l e) (outer t s : Slot) → f.context.outer ≡ Some outer → e.context.outer ≡ Some outer
    → f.context.inner ≡ Some t → e.context.inner ≡ Some s → t.group ≡ s.group → InnerBetween f l e t s
inner-between f l e o outer t s fo eo ft es same =
    let w = (outer-between f l e o outer outer fo eo refl).rests refl in
    inner_at f l e o.first o.middle o.last w.0 w.1 t s ft es same

-- ---- the order is transitive

less_is : (o : Ordering) → is_lt o ≡ true → o ≡ Less
less_is Less h = refl
less_is Equal h = absurd (false≢true h)
less_is Greater h = absurd (false≢true h)

precedes-trans : (p q r : List ℕ) → precedes p q ≡ true → precedes q r ≡ true → precedes p r ≡ true
precedes-trans p q r h k = ap is_lt (nat_list_cmp_total.trans p q r (less_is _ h) (less_is _ k))

pub comes_before-trans : (a b c : Seat) → comes_before a b ≡ true → comes_before b c ≡ true → comes_before a c ≡ true
comes_before-trans a b c h k =
    let o = orders-from a b c h k in
    let t : placed_test (Some (numbers a o.first)) (Some (numbers c o.last)) ≡ true =
    precedes-trans (numbers a o.first) (numbers b o.middle) (numbers c o.last) o.before o.behind in
    ap (λ x. placed_test x (seat_place c)) (placed-at a o.first) ∙ (ap (placed_test (Some (numbers a o.first))) (placed-at c o.last) ∙ t)

-- ---- numbers rise

-- of two seats in occurrences of one group the later one has no smaller number, and where it has the same their rests
-- are in order
pub outer-rises : (f e : Seat) (b : Before f e) (t s : Slot) → f.context.outer ≡ Some t → e.context.outer ≡ Some s → t.group ≡ s.group
    → (t.index ≤ s.index) × (t.index ≡ s.index → precedes (rest f b.first) (rest e b.second) ≡ true)
outer-rises f e b t s ft es same =
    let x = b.first in
    let y = b.second in
    let gf : outer_group x.line.group ≡ Some t.group = slot_group-is _ _ x.outer ∙ ap slot_group ft in
    let ge : outer_group y.line.group ≡ Some s.group = slot_group-is _ _ y.outer ∙ ap slot_group es in
    let starts : start x.row (outer_group x.line.group) ≡ start y.row (outer_group y.line.group) = ap (start x.row) gf ∙
    (ap first_row same ∙ sym (ap (start y.row) ge)) in
    let it : index_of f.context.outer ≡ t.index = ap index_of ft in
    let is : index_of e.context.outer ≡ s.index = ap index_of es in
    let w : precedes (index_of f.context.outer ∷ rest f x) (index_of e.context.outer ∷ rest e y) ≡ true =
    behind_first (start x.row (outer_group x.line.group)) (start y.row (outer_group y.line.group)) (index_of f.context.outer ∷ rest f x)
    (index_of e.context.outer ∷ rest e y) b.order starts in
    let l : index_of f.context.outer ≤ index_of e.context.outer = at_most (index_of f.context.outer) (index_of e.context.outer) (rest f x) (rest e y) w in
    (omega (arith, l, it, is), λ q. behind_first (index_of f.context.outer) (index_of e.context.outer) (rest f x) (rest e y) w (it ∙ (q ∙ sym is)))

pub inner-rises : (f e : Seat) (b : Before f e) (outer t s : Slot) → f.context.outer ≡ Some outer → e.context.outer ≡ Some outer
    → f.context.inner ≡ Some t → e.context.inner ≡ Some s → t.group ≡ s.group → t.index ≤ s.index
inner-rises f e b outer t s fo eo ft es same =
    let x = b.first in
    let y = b.second in
    let gf : inner_group x.line.group ≡ Some t.group = slot_group-is _ _ x.inner ∙ ap slot_group ft in
    let ge : inner_group y.line.group ≡ Some s.group = slot_group-is _ _ y.inner ∙ ap slot_group es in
    let starts : start x.row (inner_group x.line.group) ≡ start y.row (inner_group y.line.group) = ap (start x.row) gf ∙
    (ap first_row same ∙ sym (ap (start y.row) ge)) in
    let it : index_of f.context.inner ≡ t.index = ap index_of ft in
    let is : index_of e.context.inner ≡ s.index = ap index_of es in
    let w : precedes (index_of f.context.inner ∷ x.row ∷ []) (index_of e.context.inner ∷ y.row ∷ []) ≡ true =
    behind_first (start x.row (inner_group x.line.group)) (start y.row (inner_group y.line.group)) (index_of f.context.inner ∷ x.row ∷ [])
    (index_of e.context.inner ∷ y.row ∷ [])
    ((outer-rises f e b outer outer fo eo refl).1 refl) starts in
    let l : index_of f.context.inner ≤ index_of e.context.inner = at_most (index_of f.context.inner) (index_of e.context.inner) (x.row ∷ []) (y.row ∷ []) w in
    omega (arith, l, it, is)

-- ---- a place is that of one seat

pub at-place : (e : Seat) (place : List ℕ) → seat_place e ≡ Some place → (a : At e) × (numbers e a ≡ place)
at-place e p h = elim (some_row e (row_of e.term e.context) refl) [
  | inl none ↦ absurd (let k : None ≡ Some p = sym (ap (option_map (λ row. place row e.context)) none) ∙ h in cc)
  | inr a ↦ (a, same_Some _ _ (sym (placed-at e a) ∙ h))
]

one_slot : (a b : Option Slot) → slot_group a ≡ slot_group b → index_of a ≡ index_of b → a ≡ b
one_slot None None g i = refl
one_slot None (Some b) g i = cc
one_slot (Some a) None g i = cc
one_slot (Some a) (Some b) g i =
    let e : a.group ≡ b.group = same_Some _ _ g in
    let x : Slot = record { group = a.group; index = a.index } in
    let y : Slot = record { group = b.group; index = b.index } in
    let h : x ≡ y = rw (e, i) refl in
    ap Some h

pub same_term_is : (a b : Term) → same_term a b ≡ true → a ≡ b
same_term_is a b h =
    let p = both (a.number == b.number) _ h in
    let n : a.number ≡ b.number = grind (arith, nat_tests, p.0) in
    let m : a.part ≡ b.part = grind (arith, nat_tests, p.1) in
    let x : Term = record { number = a.number; part = a.part } in
    let y : Term = record { number = b.number; part = b.part } in
    let k : x ≡ y = rw (n, m) refl in
    k

seat_is : (a b : Seat) → a.term ≡ b.term → a.context.outer ≡ b.context.outer → a.context.inner ≡ b.context.inner → a ≡ b
seat_is a b t o i =
    let x : Seat = record { term = a.term; context = record { outer = a.context.outer; inner = a.context.inner } } in
    let y : Seat = record { term = b.term; context = record { outer = b.context.outer; inner = b.context.inner } } in
    let k : x ≡ y = rw (t, o, i) refl in
    k

pub one_seat : (a b : Seat) (place : List ℕ) → seat_place a ≡ Some place → seat_place b ≡ Some place → a ≡ b
one_seat a b p h k =
    let x = at-place a p h in
    let y = at-place b p k in
    let same : numbers a x.0 ≡ numbers b y.0 = x.1 ∙ sym y.1 in
    let rows : x.0.row ≡ y.0.row = cc in
    let outers : index_of a.context.outer ≡ index_of b.context.outer = cc in
    let inners : index_of a.context.inner ≡ index_of b.context.inner = cc in
    let lines : x.0.line ≡ y.0.line = same_Some _ _ (sym x.0.found ∙ (ap (slice_get listing_rows) rows ∙ y.0.found)) in
    let term : a.term ≡ b.term =
    sym (same_term_is x.0.line.term a.term x.0.term) ∙ (ap (λ (r : TermRow). r.term) lines ∙ same_term_is y.0.line.term b.term y.0.term) in
    let outer : slot_group a.context.outer ≡ slot_group b.context.outer =
    sym (slot_group-is _ _ x.0.outer) ∙ (ap (λ (r : TermRow). outer_group r.group) lines ∙ slot_group-is _ _ y.0.outer) in
    let inner : slot_group a.context.inner ≡ slot_group b.context.inner =
    sym (slot_group-is _ _ x.0.inner) ∙ (ap (λ (r : TermRow). inner_group r.group) lines ∙ slot_group-is _ _ y.0.inner) in
    seat_is a b term (one_slot _ _ outer outers) (one_slot _ _ inner inners)

pub placed_outer : (e : Seat) → is_some (seat_place e) ≡ true → (s : Slot) → e.context.inner ≡ Some s → (u : Slot) × (e.context.outer ≡ Some u)
placed_outer e h s at = go (seat_place e) refl h
  where
    go : (o : Option (List ℕ)) → seat_place e ≡ o → is_some o ≡ true → (u : Slot) × (e.context.outer ≡ Some u)
    go None p k = absurd (false≢true k)
    go (Some place) p k = outer_slot e (at-place e place p).0 s at
