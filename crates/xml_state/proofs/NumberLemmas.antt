-- Names and their numbers.
use Rattle.std.proofs.Common.{◌≡◌, ℕ, suc, ◌+◌, Bool, true, false, ◌||◌, List, [], ◌∷◌, map, refl, sym, ap, ◌∙◌, arith, if◌then◌else◌, bytes_eq, nat_eq}
use Rattle.std.proofs.Common.{Decides}
use Rattle.std.specs.List.{list_any, list_all}
use Rattle.std.proofs.lemmas.Bool.{true≢false, and_parts, and_from}
use Rattle.std.proofs.lemmas.Slice.Eq.{bytes_eq-Decides}
use Rattle.std.proofs.lemmas.Bool.Decides.{same_from_decides, Decides-like, Decides-and, Decides-eqb}
use Rattle.inv_base.specs.Tree.{Name}
use Rattle.xml_state.specs.Admission.{has_twice}
use Rattle.xml_events.specs.Events.{name_at}
use Rattle.xml_events.specs.Names.{same_name, number_of, with_name}
use Rattle.xml_state.specs.States.{with_names}
use Rattle.xml_state.specs.StartTags.{numbers_from}
use Rattle.xml_state.proofs.DuplicateLemmas.{has_twice-map}

-- names are the same where they are equal
pub same_name-Decides : (a b : Name) → Decides (same_name a b) (a ≡ b)
same_name-Decides a b =
    let named : List ℕ → List ℕ → Name = λ uri local. record { uri = uri; local = local } in
    Decides-like _ (λ p. ap (λ x. named x a.local) p.0 ∙ ap (named b.uri) p.1) (λ e. (ap (λ (n : Name). n.uri) e, ap (λ (n : Name). n.local) e))
    (Decides-and (bytes_eq a.uri b.uri) (bytes_eq a.local b.local) (bytes_eq-Decides a.uri b.uri) (bytes_eq-Decides a.local b.local))

abbrev pub is_among : Name → List Name → Bool
is_among name names = list_any (λ n. same_name n name) names

-- a name that is there keeps its place
pub among-more : (x m : Name) (names : List Name) → is_among x names ≡ true → is_among x (with_name names m) ≡ true
among-more x m [] h = absurd (true≢false (sym h))
among-more x m (n ∷ names) h = by (same_name n m) (same_name n x) refl refl (among-more x m names)
  where
    by : (a b : Bool) → same_name n m ≡ a → same_name n x ≡ b → (is_among x names ≡ true → is_among x (with_name names m) ≡ true) →
        is_among x (with_name (n ∷ names) m) ≡ true
    by true b e f rest = ap (λ (c : Bool). is_among x (if c then n ∷ names else n ∷ with_name names m)) e ∙ h
    by false true e f rest = ap (λ (c : Bool). is_among x (if c then n ∷ names else n ∷ with_name names m)) e ∙ ap (λ c. c || is_among x (with_name names m)) f
    by false false e f rest =
        ap (λ (c : Bool). is_among x (if c then n ∷ names else n ∷ with_name names m)) e
        ∙ (ap (λ c. c || is_among x (with_name names m)) f ∙ rest (sym (ap (λ c. c || is_among x names) f) ∙ h))

pub among-itself : (x : Name) (names : List Name) → is_among x (with_name names x) ≡ true
among-itself x [] = ap (λ c. c || false) ((same_name-Decides x x).1 refl)
among-itself x (n ∷ names) = by (same_name n x) refl (among-itself x names)
  where
    by : (a : Bool) → same_name n x ≡ a → is_among x (with_name names x) ≡ true → is_among x (with_name (n ∷ names) x) ≡ true
    by true e rest = ap (λ (c : Bool). is_among x (if c then n ∷ names else n ∷ with_name names x)) e ∙ ap (λ c. c || is_among x names) e
    by false e rest = ap (λ (c : Bool). is_among x (if c then n ∷ names else n ∷ with_name names x)) e ∙
        (ap (λ c. c || is_among x (with_name names x)) e ∙ rest)

pub number-more : (x m : Name) (names : List Name) → is_among x names ≡ true → number_of x (with_name names m) ≡ number_of x names
number-more x m [] h = absurd (true≢false (sym h))
number-more x m (n ∷ names) h = by (same_name n m) (same_name n x) refl refl (number-more x m names)
  where
    by : (a b : Bool) → same_name n m ≡ a → same_name n x ≡ b → (is_among x names ≡ true → number_of x (with_name names m) ≡ number_of x names) →
        number_of x (with_name (n ∷ names) m) ≡ number_of x (n ∷ names)
    by true b e f rest = ap (λ (c : Bool). number_of x (if c then n ∷ names else n ∷ with_name names m)) e
    by false true e f rest =
        ap (λ (c : Bool). number_of x (if c then n ∷ names else n ∷ with_name names m)) e
        ∙ (ap (λ (c : Bool). if c then 0 else 1 + number_of x (with_name names m)) f ∙ sym (ap (λ (c : Bool). if c then 0 else 1 + number_of x names) f))
    by false false e f rest =
        ap (λ (c : Bool). number_of x (if c then n ∷ names else n ∷ with_name names m)) e
        ∙ (ap (λ (c : Bool). if c then 0 else 1 + number_of x (with_name names m)) f
        ∙ (ap (λ k. 1 + k) (rest (sym (ap (λ c. c || is_among x names) f) ∙ h)) ∙ sym (ap (λ (c : Bool). if c then 0 else 1 + number_of x names) f)))

pub number-itself : (x : Name) (names : List Name) → number_of x (with_name names x) ≡ number_of x names
number-itself x [] = ap (λ (c : Bool). if c then 0 else 1 + 0) ((same_name-Decides x x).1 refl)
number-itself x (n ∷ names) = by (same_name n x) refl (number-itself x names)
  where
    by : (a : Bool) → same_name n x ≡ a → number_of x (with_name names x) ≡ number_of x names → number_of x (with_name (n ∷ names) x) ≡ number_of x (n ∷ names)
    by true e rest = ap (λ (c : Bool). number_of x (if c then n ∷ names else n ∷ with_name names x)) e
    by false e rest =
        ap (λ (c : Bool). number_of x (if c then n ∷ names else n ∷ with_name names x)) e
        ∙ (ap (λ (c : Bool). if c then 0 else 1 + number_of x (with_name names x)) e
        ∙ (ap (λ k. 1 + k) rest ∙ sym (ap (λ (c : Bool). if c then 0 else 1 + number_of x names) e)))

-- the same of further names
pub among-all : (x : Name) (names more : List Name) → is_among x names ≡ true → is_among x (with_names names more) ≡ true
among-all x names [] h = h
among-all x names (m ∷ more) h = among-all x (with_name names m) more (among-more x m names h)

pub number-all : (x : Name) (names more : List Name) → is_among x names ≡ true → number_of x (with_names names more) ≡ number_of x names
number-all x names [] h = refl
number-all x names (m ∷ more) h = number-all x (with_name names m) more (among-more x m names h) ∙ number-more x m names h

-- The numbers of names as they are seen are those that they have behind all of them.
pub numbers-stay : (names more : List Name) → numbers_from names more ≡ map (λ name. number_of name (with_names names more)) more
numbers-stay names [] = refl
numbers-stay names (m ∷ more) =
    ap (λ k. k ∷ numbers_from (with_name names m) more) (sym (number-all m (with_name names m) more (among-itself m names) ∙ number-itself m names))
    ∙ ap (λ ks. number_of m (with_names (with_name names m) more) ∷ ks) (numbers-stay (with_name names m) more)

pub all-among : (names more : List Name) → list_all (λ name. is_among name (with_names names more)) more ≡ true
all-among names [] = refl
all-among names (m ∷ more) = and_from _ _ (among-all m (with_name names m) more (among-itself m names)) (all-among (with_name names m) more)

-- a name has its number
pub name-number : (x : Name) (names : List Name) → is_among x names ≡ true → name_at names (number_of x names) ≡ x
name-number x [] h = absurd (true≢false (sym h))
name-number x (n ∷ names) h = by (same_name n x) refl (name-number x names)
  where
    by : (a : Bool) → same_name n x ≡ a → (is_among x names ≡ true → name_at names (number_of x names) ≡ x) → name_at (n ∷ names) (number_of x (n ∷ names)) ≡ x
    by true e rest = ap (λ (c : Bool). name_at (n ∷ names) (if c then 0 else 1 + number_of x names)) e ∙ (same_name-Decides n x).0 e
    by false e rest =
        let one : 1 + number_of x names ≡ suc (number_of x names) = omega arith in
        ap (λ (c : Bool). name_at (n ∷ names) (if c then 0 else 1 + number_of x names)) e
        ∙ (ap (name_at (n ∷ names)) one ∙ rest (sym (ap (λ c. c || is_among x names) e) ∙ h))

pub numbers-tell : (a b : Name) (names : List Name) → is_among a names ≡ true → is_among b names ≡ true →
    nat_eq (number_of a names) (number_of b names) ≡ same_name a b
numbers-tell a b names h k =
    same_from_decides _ _
    (Decides-like _ (λ e. sym (name-number a names h) ∙ (ap (name_at names) e ∙ name-number b names k)) (ap (λ x. number_of x names))
    (Decides-eqb (number_of a names) (number_of b names)))
    (same_name-Decides a b)

-- So names are twice where their numbers are.
any-told : (x : Name) (names list : List Name) → is_among x names ≡ true → list_all (λ name. is_among name names) list ≡ true
    → list_any (λ y. nat_eq (number_of x names) (number_of y names)) list ≡ list_any (same_name x) list
any-told x names [] h all = refl
any-told x names (y ∷ list) h all =
    let parts = and_parts (is_among y names) (list_all (λ name. is_among name names) list) all in
    ap (λ b. b || list_any (λ z. nat_eq (number_of x names) (number_of z names)) list) (numbers-tell x y names h parts.0)
    ∙ ap (λ b. same_name x y || b) (any-told x names list h parts.1)

twice-told : (names list : List Name) → list_all (λ name. is_among name names) list ≡ true →
    has_twice (λ a b. nat_eq (number_of a names) (number_of b names)) list ≡ has_twice same_name list
twice-told names [] all = refl
twice-told names (x ∷ list) all =
    let parts = and_parts (is_among x names) (list_all (λ name. is_among name names) list) all in
    ap (λ b. b || has_twice (λ a c. nat_eq (number_of a names) (number_of c names)) list) (any-told x names list parts.0 parts.1)
    ∙ ap (λ b. list_any (same_name x) list || b) (twice-told names list parts.1)

pub numbers-twice : (names more : List Name) → has_twice nat_eq (numbers_from names more) ≡ has_twice same_name more
numbers-twice names more =
    let final = with_names names more in
    ap (has_twice nat_eq) (numbers-stay names more)
    ∙ (has_twice-map nat_eq (λ name. number_of name final) more ∙ twice-told final more (all-among names more))
