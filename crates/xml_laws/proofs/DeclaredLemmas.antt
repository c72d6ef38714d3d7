-- The prefix that is written for a declared namespace stands for it.
use Rattle.std.proofs.Common.{◌≡◌, ℕ, Bool, true, false, not, ◌&&◌, ◌||◌, ◌==◌, List, [], ◌∷◌, length, refl, sym, ap, ◌∙◌, if◌then◌else◌, cond, true≢false}
use Rattle.std.specs.List.{list_any, filter}
use Rattle.std.specs.Str.{bytes_eq}
use Rattle.std.proofs.lemmas.Slice.Eq.{bytes_eq-Decides}
use Rattle.inv_base.specs.Tree.{Name}
use Rattle.xml_tokens.specs.WrittenNames.{is_ncname}
use Rattle.xml_state.specs.Namespaces.{xmlns}
use Rattle.xml_state.specs.Admission.{has_twice}
use Rattle.xml_write.specs.Canonical.{Declaration, prefix_of}
use Rattle.xml_laws.specs.Writable.{namespace_of, is_element_name, of_prefixes, is_attribute_name}
use Rattle.xml_tokens.proofs.CharacterLemmas.{chosen, passed}
use Rattle.xml_laws.proofs.AttributeLemmas.{or_false}
use Rattle.xml_laws.proofs.BindingLemmas.{bytes-same, bytes-self}

-- Some declaration is of the namespace.
abbrev has_uri : List ℕ → List Declaration → Bool
has_uri uri declarations = list_any (λ (d : Declaration). bytes_eq d.uri uri) declarations

-- what holds of the prefixes of all declarations holds of that of one of a namespace that is declared
module _ (test : Declaration → Bool) (p : List ℕ) where
  -- a prefix that none of them has isn't that of a namespace that some of them have
  prefix-other : (declarations : List Declaration) (uri : List ℕ) → list_any (λ (d : Declaration). bytes_eq p d.prefix) declarations ≡ false →
      has_uri uri (filter test declarations) ≡ true
      → bytes_eq p (prefix_of (filter test declarations) uri) ≡ false
  prefix-other [] uri none some = absurd (true≢false (sym some))
  prefix-other (d ∷ declarations) uri none some =
      let q = or_false (bytes_eq p d.prefix) (list_any (λ (d : Declaration). bytes_eq p d.prefix) declarations) none in
      by (test d) some (prefix-other declarations uri q.1) q.0
    where
      by : (t : Bool) → has_uri uri (if t then d ∷ filter test declarations else filter test declarations) ≡ true
          → (has_uri uri (filter test declarations) ≡ true → bytes_eq p (prefix_of (filter test declarations) uri) ≡ false) → bytes_eq p d.prefix ≡ false
          → bytes_eq p (prefix_of (if t then d ∷ filter test declarations else filter test declarations) uri) ≡ false
      by false some rest other = rest some
      by true some rest other = at (bytes_eq d.uri uri) some
        where
          at : (u : Bool) → (u || has_uri uri (filter test declarations)) ≡ true →
              bytes_eq p (if u then d.prefix else prefix_of (filter test declarations) uri) ≡ false
          at true some = other
          at false some = rest some

module _ (test : Declaration → Bool) where
  stands : (declarations : List Declaration) → has_twice (λ (a b : Declaration). bytes_eq a.prefix b.prefix) declarations ≡ false → (uri : List ℕ) →
      has_uri uri (filter test declarations) ≡ true
      → namespace_of declarations (prefix_of (filter test declarations) uri) ≡ uri
  stands [] apart uri some = absurd (true≢false (sym some))
  stands (d ∷ declarations) apart uri some =
      let q = or_false (list_any (λ (e : Declaration). bytes_eq d.prefix e.prefix) declarations)
      (has_twice (λ (a b : Declaration). bytes_eq a.prefix b.prefix) declarations) apart in
      by (test d) some (stands declarations q.1 uri) (prefix-other test d.prefix declarations uri q.0)
    where
      behind : has_uri uri (filter test declarations) ≡ true →
          (has_uri uri (filter test declarations) ≡ true → namespace_of declarations (prefix_of (filter test declarations) uri) ≡ uri)
          → (has_uri uri (filter test declarations) ≡ true → bytes_eq d.prefix (prefix_of (filter test declarations) uri) ≡ false)
          → namespace_of (d ∷ declarations) (prefix_of (filter test declarations) uri) ≡ uri
      behind some rest other =
          passed (bytes_eq d.prefix (prefix_of (filter test declarations) uri)) d.uri (namespace_of declarations (prefix_of (filter test declarations) uri))
          (other some) ∙ rest some

      by : (t : Bool) → has_uri uri (if t then d ∷ filter test declarations else filter test declarations) ≡ true
          → (has_uri uri (filter test declarations) ≡ true → namespace_of declarations (prefix_of (filter test declarations) uri) ≡ uri)
          → (has_uri uri (filter test declarations) ≡ true → bytes_eq d.prefix (prefix_of (filter test declarations) uri) ≡ false)
          → namespace_of (d ∷ declarations) (prefix_of (if t then d ∷ filter test declarations else filter test declarations) uri) ≡ uri
      by false some rest other = behind some rest other
      by true some rest other = at (bytes_eq d.uri uri) refl some
        where
          at : (u : Bool) → bytes_eq d.uri uri ≡ u → (u || has_uri uri (filter test declarations)) ≡ true →
              namespace_of (d ∷ declarations) (if u then d.prefix else prefix_of (filter test declarations) uri) ≡ uri
          at true e some = chosen (bytes_eq d.prefix d.prefix) d.uri (namespace_of declarations d.prefix) (bytes-self d.prefix) ∙ bytes-same d.uri uri e
          at false e some = behind some rest other

every : (declarations : List Declaration) → filter (λ (d : Declaration). true) declarations ≡ declarations
every [] = refl
every (d ∷ declarations) = ap (λ x. d ∷ x) (every declarations)

-- the prefix of a namespace among declarations of prefixes isn't empty
prefix-some : (declarations : List Declaration) (uri : List ℕ) → has_uri uri (of_prefixes declarations) ≡ true →
    (length (prefix_of (of_prefixes declarations) uri) == 0) ≡ false
prefix-some [] uri some = absurd (true≢false (sym some))
prefix-some (d ∷ declarations) uri some = by (length d.prefix == 0) refl some (prefix-some declarations uri)
  where
    by : (t : Bool) → (length d.prefix == 0) ≡ t → has_uri uri (cond (not t) (d ∷ of_prefixes declarations) (of_prefixes declarations)) ≡ true
        → (has_uri uri (of_prefixes declarations) ≡ true → (length (prefix_of (of_prefixes declarations) uri) == 0) ≡ false)
        → (length (prefix_of (cond (not t) (d ∷ of_prefixes declarations) (of_prefixes declarations)) uri) == 0) ≡ false
    by true e some rest = rest some
    by false e some rest = at (bytes_eq d.uri uri) some
      where
        at : (u : Bool) → (u || has_uri uri (of_prefixes declarations)) ≡ true →
            (length (if u then d.prefix else prefix_of (of_prefixes declarations) uri) == 0) ≡ false
        at true some = e
        at false some = rest some

pub element-declared : (declarations : List Declaration) (name : Name) → has_twice (λ (a b : Declaration). bytes_eq a.prefix b.prefix) declarations ≡ false →
    is_ncname name.local ≡ true
    → (length name.uri == 0) ≡ false → list_any (λ (d : Declaration). bytes_eq d.uri name.uri) declarations ≡ true → is_element_name declarations name ≡ true
element-declared declarations name apart local some declared =
    let e = every declarations in
    let is : namespace_of declarations (prefix_of declarations name.uri) ≡ name.uri =
    ap (λ x. namespace_of declarations (prefix_of x name.uri)) (sym e) ∙
    stands (λ (d : Declaration). true) declarations apart name.uri (ap (has_uri name.uri) e ∙ declared) in
    ap (λ t. t && bytes_eq (namespace_of declarations (if length name.uri == 0 then [] else prefix_of declarations name.uri)) name.uri) local
    ∙ (ap (λ t. bytes_eq (namespace_of declarations (if t then [] else prefix_of declarations name.uri)) name.uri) some
    ∙ (bytes_eq-Decides (namespace_of declarations (prefix_of declarations name.uri)) name.uri).1 is)

pub attribute-declared : (declarations : List Declaration) (name : Name) → has_twice (λ (a b : Declaration). bytes_eq a.prefix b.prefix) declarations ≡ false →
    is_ncname name.local ≡ true
    → (length name.uri == 0) ≡ false → list_any (λ (d : Declaration). bytes_eq d.uri name.uri) (of_prefixes declarations) ≡ true →
    is_attribute_name declarations name ≡ true
attribute-declared declarations name apart local some declared =
    let prefix = prefix_of (of_prefixes declarations) name.uri in
    let is : namespace_of declarations prefix ≡ name.uri = stands (λ (d : Declaration). not (length d.prefix == 0)) declarations apart name.uri declared in
    let rest = not (length prefix == 0) && bytes_eq (namespace_of declarations prefix) name.uri in
    ap (λ t. t && (if length name.uri == 0 then not (bytes_eq name.local xmlns) else rest)) local
    ∙ (passed (length name.uri == 0) (not (bytes_eq name.local xmlns)) rest some
    ∙ (ap (λ t. not t && bytes_eq (namespace_of declarations prefix) name.uri) (prefix-some declarations name.uri declared)
    ∙ (bytes_eq-Decides (namespace_of declarations prefix) name.uri).1 is))
