-- Names that were judged and numbered before.
use Rattle.std.proofs.Common.{◌≡◌, ℕ, zero, suc, ◌+◌, ◌<◌, nat_lt, nat_eq, Bool, true, false, not, ◌&&◌, ◌||◌, ◌==◌, List, [], ◌∷◌, ◌++◌, length, get_or, set}
use Rattle.std.proofs.Common.{refl, sym, ap, subst, ◌∙◌, arith, string_bytes, chars, bytes_eq, is_none, if◌then◌else◌, true≢false, Result, Ok, Err, OnOk, OnErr}
use Rattle.std.specs.List.{list_all}
use Rattle.std.proofs.lemmas.Bool.{and_parts, and_from}
use Rattle.std.proofs.lemmas.Bool.Decides.{nat_tests}
use Rattle.std.proofs.lemmas.List.Folds.{list_all-append}
use Rattle.std.proofs.lemmas.Slice.Eq.{bytes_eq-Decides}
use Rattle.inv_base.specs.Tree.{Name}
use Rattle.xml_tokens.specs.WrittenNames.{prefix_of, local_of}
use Rattle.xml_events.specs.Names.{same_name, number_of, with_name}
use Rattle.xml_state.specs.Namespaces.{Binding, bound_uri, uri_of, attribute_uri, is_undeclared, element_name, attribute_name}
use Rattle.xml_state.specs.Recent.{is_right, are_right, is_among, is_numbered, is_element, is_attribute, AreRecalled}
use Rattle.xml_state.specs.Scopes.{InScope}
use Rattle.xml_state.specs.declared.recent.Slot.{Slot}
use Rattle.xml_state.proofs.NumberLemmas.{among-more, among-itself, number-more, number-itself}

all-at : {X : Type 0} (p : X → Bool) (xs : List X) (k : ℕ) (d : X) → list_all p xs ≡ true → k < length xs → p (get_or xs k d) ≡ true
all-at p [] k d h l = absurd (omega arith)
all-at p (x ∷ xs) zero d h l = (and_parts (p x) (list_all p xs) h).0
all-at p (x ∷ xs) (suc k) d h l = all-at p xs k d (and_parts (p x) (list_all p xs) h).1 (omega arith)

all-set : {X : Type 0} (p : X → Bool) (xs : List X) (k : ℕ) (x : X) → list_all p xs ≡ true → p x ≡ true → list_all p (set xs k x) ≡ true
all-set p [] k x h e = refl
all-set p (y ∷ xs) zero x h e = and_from _ _ e (and_parts (p y) (list_all p xs) h).1
all-set p (y ∷ xs) (suc k) x h e = let parts = and_parts (p y) (list_all p xs) h in and_from _ _ parts.0 (all-set p xs k x parts.1 e)

-- Slots.
right-here : (right : List ℕ → ℕ → Bool) (stamp : ℕ) (slot : Slot) → is_right right stamp slot ≡ true → (slot.stamp == stamp) ≡ true →
    right (string_bytes slot.written) slot.number ≡ true
right-here right stamp slot h e = by (right (string_bytes slot.written) slot.number) (nat_lt slot.stamp stamp) h e refl
  where
    by : (r l : Bool) → (l || (slot.stamp == stamp && r)) ≡ true → (slot.stamp == stamp) ≡ true → nat_lt slot.stamp stamp ≡ l → r ≡ true
    by true l h e f = refl
    by false l h e f = grind (arith, nat_tests)

pub held : (right : List ℕ → ℕ → Bool) (stamp : ℕ) (slots : List Slot) (place : ℕ) (slot : Slot) (name : List ℕ) → are_right right stamp slots ≡ true →
    place < length slots → slot ≡ get_or slots place slot
    → (slot.stamp == stamp && bytes_eq (string_bytes slot.written) name) ≡ true → right name slot.number ≡ true
held right stamp slots place slot name h l is e =
    let parts = and_parts (slot.stamp == stamp) (bytes_eq (string_bytes slot.written) name) e in
    ap (λ x. right x slot.number) (sym ((bytes_eq-Decides (string_bytes slot.written) name).0 parts.1))
    ∙ right-here right stamp slot (ap (is_right right stamp) is ∙ all-at (is_right right stamp) slots place slot h l) parts.0

right-earlier : (right : List ℕ → ℕ → Bool) (stamp : ℕ) (slot : Slot) → slot.stamp < stamp → is_right right stamp slot ≡ true
right-earlier right stamp slot h = let e : nat_lt slot.stamp stamp ≡ true = grind (arith, nat_tests) in
    ap (λ b. b || (slot.stamp == stamp && right (string_bytes slot.written) slot.number)) e

pub empty-more : (right : List ℕ → ℕ → Bool) (stamp : ℕ) (slots new : List Slot) (slot : Slot) → 0 < stamp → slot.stamp ≡ 0 → new ≡ slots ++ slot ∷ [] →
    are_right right stamp slots ≡ true → are_right right stamp new ≡ true
empty-more right stamp slots new slot positive e is h =
    let r : is_right right stamp slot ≡ true = right-earlier right stamp slot (omega arith) in
    ap (are_right right stamp) is ∙ (list_all-append (is_right right stamp) slots (slot ∷ []) ∙ and_from _ _ h (and_from _ _ r refl))

-- a name is put into a slot
right-put : (right : List ℕ → ℕ → Bool) (stamp : ℕ) (slot : Slot) (name : List ℕ) (number : ℕ) → slot.stamp ≡ stamp → string_bytes slot.written ≡ name →
    slot.number ≡ number → right name number ≡ true → is_right right stamp slot ≡ true
right-put right stamp slot name number s w n e =
    let same : right (string_bytes slot.written) slot.number ≡ true = ap (λ x. right x slot.number) w ∙ (ap (right name) n ∙ e) in
    by (right (string_bytes slot.written) slot.number) same
  where
    by : (r : Bool) → r ≡ true → (nat_lt slot.stamp stamp || (slot.stamp == stamp && r)) ≡ true
    by r e = grind (arith, nat_tests)

pub put-right : (right : List ℕ → ℕ → Bool) (stamp : ℕ) (slots : List Slot) (place : ℕ) (slot : Slot) (name : List ℕ) (number : ℕ) → slot.stamp ≡ stamp →
    string_bytes slot.written ≡ name → slot.number ≡ number
    → right name number ≡ true → are_right right stamp slots ≡ true → are_right right stamp (set slots place slot) ≡ true
put-right right stamp slots place slot name number s w n e h =
    all-set (is_right right stamp) slots place slot h (right-put right stamp slot name number s w n e)

pub put-nothing : (right : List ℕ → ℕ → Bool) (stamp : ℕ) (slots : List Slot) (place : ℕ) (slot : Slot) → 0 < stamp → slot.stamp ≡ 0 →
    are_right right stamp slots ≡ true → are_right right stamp (set slots place slot) ≡ true
put-nothing right stamp slots place slot positive e h = all-set (is_right right stamp) slots place slot h (right-earlier right stamp slot (omega arith))

pub put-result : {T E : Type 0} (result : Result T E) (right : List ℕ → ℕ → Bool) (stamp : ℕ) (slots : List Slot) (place : ℕ) (slot : Slot) (name : List ℕ)
    (number : ℕ) → 0 < stamp → OnOk result (slot.stamp ≡ stamp)
    → OnOk result (string_bytes slot.written ≡ name) → OnOk result (slot.number ≡ number) → OnErr result (slot.stamp ≡ 0) → right name number ≡ true →
    are_right right stamp slots ≡ true → are_right right stamp (set slots place slot) ≡ true
put-result (Ok value) right stamp slots place slot name number positive s w n none e h = put-right right stamp slots place slot name number s w n e h
put-result (Err error) right stamp slots place slot name number positive s w n none e h = put-nothing right stamp slots place slot positive none h

-- What is right under a stamp is of an earlier one under the next.
pub all-earlier : (right other : List ℕ → ℕ → Bool) (stamp next : ℕ) (slots : List Slot) → next ≡ stamp + 1 → are_right right stamp slots ≡ true →
    are_right other next slots ≡ true
all-earlier right other stamp next [] n h = refl
all-earlier right other stamp next (slot ∷ slots) n h =
    let parts = and_parts (is_right right stamp slot) (are_right right stamp slots) h in
    and_from _ _ (right-earlier other next slot (by (right (string_bytes slot.written) slot.number) parts.0))
    (all-earlier right other stamp next slots n parts.1)
  where
    by : (r : Bool) → (nat_lt slot.stamp stamp || (slot.stamp == stamp && r)) ≡ true → slot.stamp < next
    by r e = grind (arith, nat_tests)

-- What is right stays right where more is.
pub all-still : (right other : List ℕ → ℕ → Bool) (stamp : ℕ) (slots : List Slot) →
    ((name : List ℕ) (number : ℕ) → right name number ≡ true → other name number ≡ true) → are_right right stamp slots ≡ true →
    are_right other stamp slots ≡ true
all-still right other stamp [] f h = refl
all-still right other stamp (slot ∷ slots) f h =
    let parts = and_parts (is_right right stamp slot) (are_right right stamp slots) h in
    and_from _ _ (by (right (string_bytes slot.written) slot.number) (other (string_bytes slot.written) slot.number)
    (f (string_bytes slot.written) slot.number) parts.0) (all-still right other stamp slots f parts.1)
  where
    by : (r o : Bool) → (r ≡ true → o ≡ true) → (nat_lt slot.stamp stamp || (slot.stamp == stamp && r)) ≡ true →
        (nat_lt slot.stamp stamp || (slot.stamp == stamp && o)) ≡ true
    by true o f e = ap (λ x. nat_lt slot.stamp stamp || (slot.stamp == stamp && x)) (f refl) ∙ e
    by false true f e = grind (arith, nat_tests)
    by false false f e = e

-- A name that is known adds nothing.
among-same : (x : Name) (names : List Name) → is_among x names ≡ true → with_name names x ≡ names
among-same x [] h = absurd (true≢false (sym h))
among-same x (n ∷ names) h = by (same_name n x) refl (among-same x names)
  where
    by : (b : Bool) → same_name n x ≡ b → (is_among x names ≡ true → with_name names x ≡ names) → with_name (n ∷ names) x ≡ n ∷ names
    by true e rest = ap (λ (b : Bool). if b then n ∷ names else n ∷ with_name names x) e
    by false e rest =
        ap (λ (b : Bool). if b then n ∷ names else n ∷ with_name names x) e
        ∙ ap (λ xs. n ∷ xs) (rest (sym (ap (λ b. b || is_among x names) e) ∙ h))

eq-true : (a b : ℕ) → nat_eq a b ≡ true → a ≡ b
eq-true a b h = grind (arith, nat_tests)

true-eq : (a b : ℕ) → a ≡ b → nat_eq a b ≡ true
true-eq a b h = grind (arith, nat_tests)

-- What a test of a name says.
module _ (declared : Bool) (names : List Name) (name : Name) (number : ℕ) (h : (declared && is_numbered names name number) ≡ true) where
  abbrev parts : (declared ≡ true) × (is_numbered names name number ≡ true)
  parts = and_parts declared (is_numbered names name number) h

  abbrev numbered : (is_among name names ≡ true) × (nat_eq number (number_of name names) ≡ true)
  numbered = and_parts (is_among name names) (nat_eq number (number_of name names)) parts.1

  pub is-declared : declared ≡ true
  is-declared = parts.0

  pub has-number : number ≡ number_of name names
  has-number = eq-true number (number_of name names) numbered.1

  pub adds-nothing : with_name names name ≡ names
  adds-nothing = among-same name names numbered.0

  -- It stays so behind a further name.
  pub still-numbered : (more : Name) → (declared && is_numbered (with_name names more) name number) ≡ true
  still-numbered more =
      and_from _ _ parts.0
      (and_from _ _ (among-more name more names numbered.0)
      (true-eq number (number_of name (with_name names more)) (has-number ∙ sym (number-more name more names numbered.0))))

-- A name is numbered.
pub now-numbered : (declared : Bool) (names : List Name) (name : Name) (number : ℕ) → declared ≡ true → number ≡ number_of name names →
    (declared && is_numbered (with_name names name) name number) ≡ true
now-numbered declared names name number d e =
    and_from _ _ d (and_from _ _ (among-itself name names) (true-eq number (number_of name (with_name names name)) (e ∙ sym (number-itself name names))))

-- What is recalled under the bindings in force, where nothing changes in them and in the names,
pub recalled-same : (old new : InScope) (stamp : ℕ) (elements attributes : List Slot) → new.bound ≡ old.bound → new.names ≡ old.names →
    AreRecalled old stamp elements attributes → AreRecalled new stamp elements attributes
recalled-same old new stamp elements attributes b n h =
    let with_scope : List Binding → List Name → InScope = λ bound names. record { open_elements = []; bound = bound; names = names } in
    record {
      positive = h.positive;
      elements_are =
          ap (λ x. are_right (is_element (with_scope x new.names)) stamp elements) b
          ∙ (ap (λ x. are_right (is_element (with_scope old.bound x)) stamp elements) n ∙ h.elements_are);
      attributes_are =
          ap (λ x. are_right (is_attribute (with_scope x new.names)) stamp attributes) b
          ∙ (ap (λ x. are_right (is_attribute (with_scope old.bound x)) stamp attributes) n ∙ h.attributes_are);
    }

-- where other bindings come into force,
pub recalled-earlier : (old new : InScope) (stamp next : ℕ) (elements attributes : List Slot) → next ≡ stamp + 1 → AreRecalled old stamp elements attributes →
    AreRecalled new next elements attributes
recalled-earlier old new stamp next elements attributes n h = record {
  positive = omega arith;
  elements_are = all-earlier (is_element old) (is_element new) stamp next elements n h.elements_are;
  attributes_are = all-earlier (is_attribute old) (is_attribute new) stamp next attributes n h.attributes_are;
}

-- and where a name more is numbered.
pub recalled-more : (old new : InScope) (more : Name) (stamp : ℕ) (elements attributes : List Slot) → new ≡ record old { names = with_name old.names more } →
    AreRecalled old stamp elements attributes → AreRecalled new stamp elements attributes
recalled-more old new more stamp elements attributes is h =
    let grown : InScope = record old { names = with_name old.names more } in
    subst (λ s. AreRecalled s stamp elements attributes) (sym is) (record {
      positive = h.positive;
      elements_are =
          all-still (is_element old) (is_element grown) stamp elements
          (λ name number e. still-numbered (not (is_undeclared old.bound name)) old.names (element_name old.bound name) number e more) h.elements_are;
      attributes_are =
          all-still (is_attribute old) (is_attribute grown) stamp attributes
          (λ name number e. still-numbered (not (is_undeclared old.bound name)) old.names (attribute_name old.bound name) number e more) h.attributes_are;
    })

not-so : (b : Bool) → not b ≡ true → false ≡ b
not-so true h = h
not-so false h = refl

-- What a name that is kept says, where the scope is seen so: it is declared, it has its number, and it adds nothing.
module _ (scope seen : InScope) (view : scope ≡ seen) (name : List ℕ) (number : ℕ) where
  module _ (h : is_element scope name number ≡ true) where
    pub element-declared : false ≡ is_undeclared seen.bound name
    element-declared = not-so (is_undeclared scope.bound name)
        (is-declared (not (is_undeclared scope.bound name)) scope.names (element_name scope.bound name) number h) ∙
        ap (λ (s : InScope). is_undeclared s.bound name) view

    pub element-number : number ≡ number_of (element_name seen.bound name) seen.names
    element-number =
        has-number (not (is_undeclared scope.bound name)) scope.names (element_name scope.bound name) number h ∙
        ap (λ (s : InScope). number_of (element_name s.bound name) s.names) view

    pub element-adds : seen ≡ record seen { names = with_name seen.names (element_name seen.bound name) }
    element-adds =
        let same : with_name scope.names (element_name scope.bound name) ≡ scope.names =
        adds-nothing (not (is_undeclared scope.bound name)) scope.names (element_name scope.bound name) number h in
        let P : InScope → Type 0 = λ s. with_name s.names (element_name s.bound name) ≡ s.names in
        let there : with_name seen.names (element_name seen.bound name) ≡ seen.names = subst P view same in
        let named : List Name → InScope = λ names. record seen { names = names } in
        ap named (sym there)

  module _ (h : is_attribute scope name number ≡ true) where
    pub attribute-declared : false ≡ is_undeclared seen.bound name
    attribute-declared = not-so (is_undeclared scope.bound name)
        (is-declared (not (is_undeclared scope.bound name)) scope.names (attribute_name scope.bound name) number h) ∙
        ap (λ (s : InScope). is_undeclared s.bound name) view

    pub attribute-number : number ≡ number_of (attribute_name seen.bound name) seen.names
    attribute-number =
        has-number (not (is_undeclared scope.bound name)) scope.names (attribute_name scope.bound name) number h ∙
        ap (λ (s : InScope). number_of (attribute_name s.bound name) s.names) view

    pub attribute-adds : seen ≡ record seen { names = with_name seen.names (attribute_name seen.bound name) }
    attribute-adds =
        let same : with_name scope.names (attribute_name scope.bound name) ≡ scope.names =
        adds-nothing (not (is_undeclared scope.bound name)) scope.names (attribute_name scope.bound name) number h in
        let P : InScope → Type 0 = λ s. with_name s.names (attribute_name s.bound name) ≡ s.names in
        let there : with_name seen.names (attribute_name seen.bound name) ≡ seen.names = subst P view same in
        let named : List Name → InScope = λ names. record seen { names = names } in
        ap named (sym there)

-- What is recalled where a name was numbered that is declared, and is kept from now on.
module _ (old grown : InScope) (stamp : ℕ) (elements attributes kept : List Slot) (name prefix local : List ℕ) (id : ℕ) (unbound : Bool)
    (recalled : AreRecalled old stamp elements attributes)
    (p : prefix ≡ prefix_of name) (l : local ≡ local_of name) (tested : unbound ≡ is_none (bound_uri prefix grown.bound)) (so : unbound ≡ false) where
  is-bound : (bindings : List Binding) → grown.bound ≡ bindings → not (is_undeclared bindings name) ≡ true
  is-bound bindings e =
      ap not (sym (ap (λ x. is_none (bound_uri x grown.bound)) p ∙ ap (λ b. is_undeclared b name) e) ∙ (sym tested ∙ so))

  pub element-kept : id ≡ number_of (record { uri = uri_of old.bound prefix; local = chars local }) old.names
      → grown ≡ record old { names = with_name old.names (record { uri = uri_of old.bound prefix; local = chars local }) }
      → ((right : List ℕ → ℕ → Bool) → right name id ≡ true → are_right right stamp elements ≡ true → are_right right stamp kept ≡ true) →
      AreRecalled grown stamp kept attributes
  element-kept number is keep =
      let named : Name = element_name old.bound name in
      let part : List ℕ → List ℕ → Name = λ x y. record { uri = uri_of old.bound x; local = chars y } in
      let same : part prefix local ≡ named = ap (λ x. part x local) p ∙ ap (part (prefix_of name)) l in
      let with_names : List Name → InScope = λ names. record old { names = names } in
      let is_so : grown ≡ with_names (with_name old.names named) = is ∙ ap (λ n. with_names (with_name old.names n)) same in
      let more = recalled-more old grown named stamp elements attributes is_so recalled in
      let here : is_element (with_names (with_name old.names named)) name id ≡ true =
      now-numbered (not (is_undeclared old.bound name)) old.names named id (is-bound old.bound (ap (λ (s : InScope). s.bound) is))
      (number ∙ ap (λ n. number_of n old.names) same) in
      record {
        positive = more.positive;
        elements_are = keep (is_element grown) (ap (λ s. is_element s name id) is_so ∙ here) more.elements_are;
        attributes_are = more.attributes_are;
      }

  pub attribute-kept : id ≡ number_of (record { uri = attribute_uri old.bound prefix; local = chars local }) old.names
      → grown ≡ record old { names = with_name old.names (record { uri = attribute_uri old.bound prefix; local = chars local }) }
      → ((right : List ℕ → ℕ → Bool) → right name id ≡ true → are_right right stamp attributes ≡ true → are_right right stamp kept ≡ true) →
      AreRecalled grown stamp elements kept
  attribute-kept number is keep =
      let named : Name = attribute_name old.bound name in
      let part : List ℕ → List ℕ → Name = λ x y. record { uri = attribute_uri old.bound x; local = chars y } in
      let same : part prefix local ≡ named = ap (λ x. part x local) p ∙ ap (part (prefix_of name)) l in
      let with_names : List Name → InScope = λ names. record old { names = names } in
      let is_so : grown ≡ with_names (with_name old.names named) = is ∙ ap (λ n. with_names (with_name old.names n)) same in
      let more = recalled-more old grown named stamp elements attributes is_so recalled in
      let here : is_attribute (with_names (with_name old.names named)) name id ≡ true =
      now-numbered (not (is_undeclared old.bound name)) old.names named id (is-bound old.bound (ap (λ (s : InScope). s.bound) is))
      (number ∙ ap (λ n. number_of n old.names) same) in
      record {
        positive = more.positive;
        elements_are = more.elements_are;
        attributes_are = keep (is_attribute grown) (ap (λ s. is_attribute s name id) is_so ∙ here) more.attributes_are;
      }
