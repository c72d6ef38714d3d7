-- Which row of the semantic model an entry has, and which terms stand in a valid invoice.
use Rattle.std.proofs.Common.{◌≡◌, ℕ, zero, suc, ◌<◌, Bool, true, false, not, ◌&&◌, ◌||◌, List, [], ◌∷◌, length, get_or, filter, Option, Some, None, ◌⊎◌, inl}
use Rattle.std.proofs.Common.{inr, All, refl, sym, ap, ◌∙◌, subst, arith}
use Rattle.std.specs.Prelude.{find, is_some, option_map, if◌then◌else◌}
use Rattle.std.specs.List.{list_all, list_any}
use Rattle.std.proofs.lemmas.Bool.{false≢true}
use Rattle.std.proofs.lemmas.Bool.Decides.{nat_tests}
use Rattle.std.proofs.lemmas.List.Elements.{All-head, All-tail}
use Rattle.std.proofs.lemmas.List.Quantifiers.{position-Some}
use Rattle.code_lists.specs.CodeFiles.{Lists}
use Rattle.term_table.specs.declared.groups.Group.{Group}
use Rattle.term_table.specs.declared.groups.Group.TheVariants as groups
use Rattle.term_table.specs.declared.terms.DataType.TheVariants as data_types
use Rattle.term_table.specs.declared.terms.Mark.{Mark}
use Rattle.term_table.specs.declared.terms.Mark.TheVariants as marks
use Rattle.term_table.specs.declared.terms.Term.{Term}
use Rattle.term_table.specs.declared.terms.TermRow.{TermRow}
use Rattle.term_table.specs.declared.contexts.Slot.{Slot}
use Rattle.term_table.specs.declared.contexts.Context.{Context}
use Rattle.term_table.specs.SemanticModel.{same_term, is_extension, terms}
use Rattle.term_table.specs.Groups.{same_group, is_repeated, parent_of, occurrence_of}
use Rattle.term_table.specs.Contexts.{slot_group, same_slot, same_context, same_groups, outer_group, inner_group, stands_in, has_context, root_context}
use Rattle.term_table.specs.Places.{place}
use Rattle.term_table.specs.Rows.{is_row_in, row_of}
use Rattle.term_table.proofs.ExtensionLemmas.{modelled-row_is}
use Rattle.term_table.proofs.SeatLemmas.{same_term_is}
use Rattle.term_table.proofs.GroupLemmas.{same_group_is, same_groups_is}
use Rattle.inv_terms.specs.declared.entries.Entry.{Entry}
use Rattle.inv_terms.specs.Listing.{is_placed, is_at, value_in}
use Rattle.inv_terms.proofs.PushLemmas.{same_slot_itself}
use Rattle.inv_terms.specs.Whole.{IsContextOf, Stands, IsThere, IsValid}
use Rattle.bind_carrying.specs.Carrying.{bt}
use Rattle.binding_laws.proofs.ReachLemmas.{Among}
use Rattle.binding_laws.proofs.ListLemmas.{both-true}
use Rattle.binding_laws.proofs.PlacedLemmas.{contains-among, among-contains}
use Rattle.carrying_laws.specs.Complete.{is_mandatory_mark, is_mandatory_at, is_mandatory}
use Rattle.carrying_laws.proofs.Disjuncts.{also-both, and-true}

-- ---- lists

-- an element that passes
abbrev pub Passing : {X : Type 0} → (X → Bool) → List X → Type 0
Passing {X} p xs = (x : X) × (Among x xs × (p x ≡ true))

pub any-found : {X : Type 0} (p : X → Bool) (xs : List X) → list_any p xs ≡ true → Passing p xs
any-found p [] h = absurd (false≢true h)
any-found p (y ∷ xs) h = go (any-found p xs) (p y) refl h
  where
    go : (list_any p xs ≡ true → Passing p xs) → (b : Bool) → p y ≡ b → (b || list_any p xs) ≡ true → Passing p (y ∷ xs)
    go later true e k = (y, (inl refl, e))
    go later false e k = let w = later k in (w.0, (inr w.1.0, w.1.1))

pub all-each : {X : Type 0} (p : X → Bool) (xs : List X) → list_all p xs ≡ true → (x : X) → Among x xs → p x ≡ true
all-each p [] h x a = absurd a
all-each p (y ∷ xs) h x (inl s) = ap p (sym s) ∙ (both-true (p y) (list_all p xs) h).0
all-each p (y ∷ xs) h x (inr m) = all-each p xs (both-true (p y) (list_all p xs) h).1 x m

pub each-all : {X : Type 0} (p : X → Bool) (xs : List X) → ((x : X) → Among x xs → p x ≡ true) → list_all p xs ≡ true
each-all p [] f = refl
each-all p (y ∷ xs) f = and-true (p y) (list_all p xs) (f y (inl refl)) (each-all p xs (λ x a. f x (inr a)))

pub all-holds : {X : Type 0} (P : X → Type 0) (x : X) (xs : List X) → All P xs → Among x xs → P x
all-holds P x [] h a = absurd a
all-holds P x (y ∷ xs) h (inl s) = subst P s (All-head P y xs h)
all-holds P x (y ∷ xs) h (inr a) = all-holds P x xs (All-tail P y xs h) a

-- an element that doesn't pass
pub all-fails : {X : Type 0} (p : X → Bool) (xs : List X) → list_all p xs ≡ false → (x : X) × (Among x xs × (p x ≡ false))
all-fails p [] h = absurd (false≢true (sym h))
all-fails {X = X} p (y ∷ xs) h = go (all-fails p xs) (p y) refl h
  where
    go : (list_all p xs ≡ false → (x : X) × (Among x xs × (p x ≡ false))) → (b : Bool) → p y ≡ b → (b && list_all p xs) ≡ false → (x : X) ×
        (Among x (y ∷ xs) × (p x ≡ false))
    go later true e k = let w = later k in (w.0, (inr w.1.0, w.1.1))
    go later false e k = (y, (inl refl, e))

pub of-filter : {X : Type 0} (p : X → Bool) (x : X) (xs : List X) → Among x (filter p xs) → (Among x xs) × (p x ≡ true)
of-filter p x [] h = absurd h
of-filter p x (y ∷ xs) h = go (of-filter p x xs) (p y) refl h
  where
    go : (Among x (filter p xs) → (Among x xs) × (p x ≡ true)) → (b : Bool) → p y ≡ b → Among x (if b then y ∷ filter p xs else filter p xs) →
        ((y ≡ x) ⊎ Among x xs) × (p x ≡ true)
    go later true k (inl s) = (inl s, ap p (sym s) ∙ k)
    go later true k (inr m) = let w = later m in (inr w.0, w.1)
    go later false k m = let w = later m in (inr w.0, w.1)

pub not-false : (a : Bool) → not a ≡ false → a ≡ true
not-false true h = refl
not-false false h = absurd (false≢true (sym h))

-- ---- values that stand

pub same_term-itself : (t : Term) → same_term t t ≡ true
same_term-itself t = grind (arith, nat_tests)

same_context-itself : (c : Context) → same_context c c ≡ true
same_context-itself c = and-true (same_slot c.outer c.outer) (same_slot c.inner c.inner) (same_slot_itself c.outer) (same_slot_itself c.inner)

find-some : (p : Entry → Bool) (x : Entry) (xs : List Entry) → Among x xs → p x ≡ true → is_some (option_map (λ (e : Entry). e.value) (find p xs)) ≡ true
find-some p x [] a e = absurd a
find-some p x (y ∷ xs) a e = go (λ m. find-some p x xs m e) (p y) refl a
  where
    go : (Among x xs → is_some (option_map (λ (f : Entry). f.value) (find p xs)) ≡ true) → (b : Bool) → p y ≡ b → (y ≡ x) ⊎ Among x xs
        → is_some (option_map (λ (f : Entry). f.value) (if b then Some y else find p xs)) ≡ true
    go later true k m = refl
    go later false k (inl s) = absurd (false≢true (sym k ∙ (ap p s ∙ e)))
    go later false k (inr m) = later m

-- the value of an entry stands
pub value-stands : (es : List Entry) (e : Entry) (term : Term) (c : Context) → Among e es → e.term ≡ term → e.context ≡ c → is_some (value_in es term c) ≡ true
value-stands es e term c a t at =
    find-some (is_at term c) e es a
    (and-true (same_term e.term term) (same_context e.context c) (ap (same_term e.term) (sym t) ∙ same_term-itself e.term)
    (ap (same_context e.context) (sym at) ∙ same_context-itself e.context))

-- ---- the row of an entry's term

-- the model has the term in the groups of the entry's context, if it is one of the model
pub record IsModelled (e : Entry) : Type 0 where
  pub row : TermRow
  pub known : Among row terms
  pub term_is : row.term ≡ e.term
  pub outer : slot_group e.context.outer ≡ outer_group row.group
  pub inner : slot_group e.context.inner ≡ inner_group row.group

some-number : (o : Option ℕ) (d : Context) → is_some (option_map (λ row. place row d) o) ≡ true → (k : ℕ) × (o ≡ Some k)
some-number None d h = absurd (false≢true h)
some-number (Some k) d h = (k, refl)

among-at : (rows : List TermRow) (k : ℕ) (d : TermRow) → k < length rows → Among (get_or rows k d) rows
among-at [] k d l = absurd (omega (arith, l))
among-at (r ∷ rows) zero d l = inl refl
among-at (r ∷ rows) (suc k) d l = inr (among-at rows k d (omega (arith, l)))

pub modelled : (e : Entry) → is_extension e.term ≡ false → is_placed e ≡ true → IsModelled e
modelled e own p =
    let o : Option Group = slot_group e.context.outer in
    let i : Option Group = slot_group e.context.inner in
    let n = some-number (row_of e.term e.context) e.context p in
    let d : TermRow = record { term = e.term; group = groups.Root; data_type = data_types.T; mark = marks.One; list = None } in
    let at = position-Some (is_row_in e.term o i) terms n.0 d (modelled-row_is e.term o i own ∙ n.1) in
    let r : TermRow = get_or terms n.0 d in
    let is = both-true (same_term r.term e.term) (stands_in r.group o i) at.1 in
    let here = both-true (same_groups o (outer_group r.group)) (same_groups i (inner_group r.group)) is.1 in
    record {
      row = r;
      known = among-at terms n.0 d at.0;
      term_is = same_term_is r.term e.term is.0;
      outer = same_groups_is o (outer_group r.group) here.0;
      inner = same_groups_is i (inner_group r.group) here.1;
    }

-- ---- terms that are mandatory beside an entry

-- an entry's context is the invoice itself, or an occurrence that stands in it
context-stands : (es : List Entry) (e : Entry) → Among e es → IsContextOf es e.context
context-stands es e a = go e.context.outer e.context.inner refl refl
  where
    go : (o i : Option Slot) → e.context.outer ≡ o → e.context.inner ≡ i → IsContextOf es e.context
    go None None h k = inl (λ z. record { outer = h z; inner = k z })
    go (Some s) None h k = inr (e, among-contains e es a, inl ((λ z. record { outer = e.context.outer; inner = k z }), ap is_some h))
    go o (Some t) h k = inr (e, among-contains e es a, inr (refl, ap is_some k))

marked : (mark : Mark) → is_mandatory_mark mark ≡ true → mark ≡ marks.One
marked marks.One h = refl
marked marks.Optional h = absurd (false≢true h)
marked marks.After h = absurd (false≢true h)

stood : (es : List Entry) (c : Context) (term : Term) → Stands es c term → is_some (value_in es term c) ≡ true
stood es c term s = value-stands es s.entry term c (contains-among s.entry es s.member) s.term_is s.context_is

mandatory-entry : (es : List Entry) (lists : Lists) → IsValid es lists → (e : Entry) → Among e es → (term : Term) →
    is_mandatory term (slot_group e.context.outer) (slot_group e.context.inner) ≡ true → Stands es e.context term
mandatory-entry es lists valid e a term h =
    let found = any-found (is_mandatory_at term (slot_group e.context.outer) (slot_group e.context.inner)) terms h in
    let r : TermRow = found.0 in
    let w = also-both (same_term r.term term) (λ _. is_mandatory_mark r.mark &&
    (is_repeated r.group && stands_in r.group (slot_group e.context.outer) (slot_group e.context.inner))) found.1.1 in
    let v = both-true (is_mandatory_mark r.mark) (is_repeated r.group && stands_in r.group (slot_group e.context.outer) (slot_group e.context.inner)) w.1 in
    let u = both-true (is_repeated r.group) (stands_in r.group (slot_group e.context.outer) (slot_group e.context.inner)) v.1 in
    subst (Stands es e.context) (same_term_is r.term term w.0)
    ((valid.whole e.context (context-stands es e a)).mandatory r (among-contains r terms found.1.0) u.1 (inl (marked r.mark v.0, IsThere.repeated r.group u.0)))

pub mandatory-stands : (es : List Entry) (lists : Lists) → IsValid es lists → (e : Entry) → Among e es → (term : Term) →
    is_mandatory term (slot_group e.context.outer) (slot_group e.context.inner) ≡ true
    → is_some (value_in es term e.context) ≡ true
mandatory-stands es lists valid e a term h = stood es e.context term (mandatory-entry es lists valid e a term h)

-- ---- the currency of the invoice

abbrev is_currency_row : TermRow → Bool
is_currency_row r = same_term r.term (bt 5) && (is_mandatory_mark r.mark && same_group r.group groups.Root)

currency-row : list_any is_currency_row terms ≡ true
unfolding terms
currency-row = refl

root-has-context : has_context groups.Root root_context ≡ true
unfolding parent_of occurrence_of
root-has-context = refl

pub currency-stands : (es : List Entry) (lists : Lists) → IsValid es lists → is_some (value_in es (bt 5) root_context) ≡ true
currency-stands es lists valid =
    let found = any-found is_currency_row terms currency-row in
    let r : TermRow = found.0 in
    let w = both-true (same_term r.term (bt 5)) (is_mandatory_mark r.mark && same_group r.group groups.Root) found.1.1 in
    let v = both-true (is_mandatory_mark r.mark) (same_group r.group groups.Root) w.1 in
    let root : r.group ≡ groups.Root = same_group_is r.group groups.Root v.1 in
    stood es root_context (bt 5)
    (subst (Stands es root_context) (same_term_is r.term (bt 5) w.0)
    ((valid.whole root_context (inl refl)).mandatory r (among-contains r terms found.1.0) (ap (λ g. has_context g root_context) root ∙ root-has-context)
    (inl (marked r.mark v.0, subst (IsThere es root_context) (sym root) IsThere.invoice))))
