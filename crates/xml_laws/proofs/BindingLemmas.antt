-- Prefixes that canonical text writes stand for the namespaces that they were written for.
use Rattle.std.proofs.Common.{◌≡◌, ℕ, ◌<◌, Bool, true, false, not, ◌&&◌, ◌==◌, List, [], ◌∷◌, ◌++◌, map, length, refl, sym, ap, ◌∙◌, arith, ◌⊎◌, inl, inr}
use Rattle.std.proofs.Common.{if◌then◌else◌, Option, Some, None, is_none, chars, encode_utf8_all, true≢false}
use Rattle.std.specs.List.{list_all, filter}
use Rattle.std.specs.Str.{bytes_eq}
use Rattle.std.proofs.lemmas.List.{length-append}
use Rattle.std.proofs.lemmas.Slice.Eq.{bytes_eq-Decides}
use Rattle.std.proofs.lemmas.Str.{length-encode, len_utf8_bounds}
use Rattle.std.proofs.lemmas.Bool.Decides.{nat_tests}
use lib.Utf8.{encode}
use Rattle.inv_base.specs.Characters.{is_char}
use Rattle.inv_base.specs.Tree.{Name}
use Rattle.inv_base.proofs.TextLemmas.{both}
use Rattle.xml_tokens.specs.WrittenNames.{is_ncname, local_of}
use Rattle.xml_tokens.specs.WrittenNames as written
use Rattle.xml_state.specs.Namespaces.{Binding, xml, xmlns, xml_uri, xmlns_uri, first_bindings, declared_prefix, declared_binding, declared_bindings}
use Rattle.xml_state.specs.Namespaces.{undeclaring, is_bad_binding, bound_uri, uri_of, is_undeclared, attributes_of}
use Rattle.xml_state.specs.Namespaces as names
use Rattle.xml_write.specs.Canonical.{Declaration, qualified, prefix_of, element_name, attribute_name}
use Rattle.xml_laws.specs.Writable.{namespace_of, of_prefixes, is_declarable, is_element_name, is_attribute_name}
use Rattle.xml_laws.proofs.RestLemmas.{not_none}
use Rattle.xml_tokens.proofs.CharacterLemmas.{passed}
use Rattle.xml_laws.proofs.EncodedLemmas.{chars-back, ncname-chars}
use Rattle.xml_laws.proofs.AttributeLemmas.{IsWrittenName, not_false, or_false}
use Rattle.xml_laws.proofs.QualifiedLemmas.{eq-encoded, is_prefix, IsQualified, qualified-written, xmlns-encoded}

-- what a declaration binds, as it is read
abbrev pub binding : Declaration → Binding
binding d = record { prefix = encode_utf8_all d.prefix; uri = d.uri }

-- the bindings inside the root
abbrev pub bindings_of : List Declaration → List Binding
bindings_of declarations = map binding declarations ++ first_bindings

pub bytes-same : (a b : List ℕ) → bytes_eq a b ≡ true → a ≡ b
bytes-same a b h = (bytes_eq-Decides a b).0 h

pub bytes-self : (a : List ℕ) → bytes_eq a a ≡ true
bytes-self a = (bytes_eq-Decides a a).1 refl

-- A prefix that is declared stands for its namespace, and another for what it stands for outside the root.
Bound : List Declaration → List ℕ → Type 0
Bound declarations prefix =
    (bound_uri (encode_utf8_all prefix) (bindings_of declarations) ≡ Some (namespace_of declarations prefix))
    ⊎ ((namespace_of declarations prefix ≡ []) ×
    (bound_uri (encode_utf8_all prefix) (bindings_of declarations) ≡ bound_uri (encode_utf8_all prefix) first_bindings))

bound : (declarations : List Declaration) (prefix : List ℕ) → Bound declarations prefix
unfolding Bound
bound [] prefix = inr (refl, refl)
bound (d ∷ declarations) prefix = by (bytes_eq d.prefix prefix) refl (bound declarations prefix)
  where
    at : (t : Bool) → bytes_eq d.prefix prefix ≡ t → bound_uri (encode_utf8_all prefix)
        (bindings_of (d ∷ declarations)) ≡ (if t then Some d.uri else bound_uri (encode_utf8_all prefix) (bindings_of declarations))
    at t e = ap (λ t. if t then Some d.uri else bound_uri (encode_utf8_all prefix) (bindings_of declarations)) (eq-encoded d.prefix prefix ∙ e)

    by : (t : Bool) → bytes_eq d.prefix prefix ≡ t
        → ((bound_uri (encode_utf8_all prefix) (bindings_of declarations) ≡ Some (namespace_of declarations prefix))
        ⊎ ((namespace_of declarations prefix ≡ []) ×
        (bound_uri (encode_utf8_all prefix) (bindings_of declarations) ≡ bound_uri (encode_utf8_all prefix) first_bindings)))
        → (bound_uri (encode_utf8_all prefix) (bindings_of (d ∷ declarations)) ≡ Some (if t then d.uri else namespace_of declarations prefix))
        ⊎ (((if t then d.uri else namespace_of declarations prefix) ≡ []) ×
        (bound_uri (encode_utf8_all prefix) (bindings_of (d ∷ declarations)) ≡ bound_uri (encode_utf8_all prefix) first_bindings))
    by true e rest = inl (at true e)
    by false e (inl p) = inl (at false e ∙ p)
    by false e (inr p) = inr (p.0, at false e ∙ p.1)

pub bound-declared : (declarations : List Declaration) (prefix : List ℕ) → (length (namespace_of declarations prefix) == 0) ≡ false
    → bound_uri (encode_utf8_all prefix) (bindings_of declarations) ≡ Some (namespace_of declarations prefix)
unfolding Bound
bound-declared declarations prefix some = by (bound declarations prefix)
  where
    by : Bound declarations prefix → bound_uri (encode_utf8_all prefix) (bindings_of declarations) ≡ Some (namespace_of declarations prefix)
    by (inl p) = p
    by (inr p) = absurd (true≢false (ap (λ (x : List ℕ). length x == 0) (sym p.0) ∙ some))

pub bound-default : (declarations : List Declaration) → bound_uri [] (bindings_of declarations) ≡ Some (namespace_of declarations [])
unfolding Bound
bound-default declarations = by (bound declarations [])
  where
    by : Bound declarations [] → bound_uri [] (bindings_of declarations) ≡ Some (namespace_of declarations [])
    by (inl p) = p
    by (inr p) = p.1 ∙ ap Some (sym p.0)

-- A prefix that stands for a namespace of its own, or the default.
pub bound-either : (declarations : List Declaration) (prefix uri : List ℕ) → bytes_eq (namespace_of declarations prefix) uri ≡ true →
    ((length prefix == 0) ≡ true) ⊎ ((length uri == 0) ≡ false)
    → bound_uri (encode_utf8_all prefix) (bindings_of declarations) ≡ Some uri
bound-either declarations [] uri same_uri case = bound-default declarations ∙ ap Some (bytes-same _ _ same_uri)
bound-either declarations (c ∷ prefix) uri same_uri (inl e) = absurd (true≢false (sym e ∙ not_none (length prefix)))
bound-either declarations (c ∷ prefix) uri same_uri (inr e) =
    let is = bytes-same (namespace_of declarations (c ∷ prefix)) uri same_uri in
    bound-declared declarations (c ∷ prefix) (ap (λ (x : List ℕ). length x == 0) is ∙ e) ∙ ap Some is

-- what holds of all prefixes holds of the one that is written
module _ (Q : List ℕ → Type 0) where
  pub prefix-written : (declarations : List Declaration) (uri : List ℕ) → Q [] → ((d : Declaration) → is_declarable d ≡ true → Q d.prefix) →
      list_all is_declarable declarations ≡ true → Q (prefix_of declarations uri)
  prefix-written [] uri none each h = none
  prefix-written (d ∷ declarations) uri none each h =
      let p = both (is_declarable d) (list_all is_declarable declarations) h in
      by (bytes_eq d.uri uri) (each d p.0) (prefix-written declarations uri none each p.1)
    where
      by : (t : Bool) → Q d.prefix → Q (prefix_of declarations uri) → Q (if t then d.prefix else prefix_of declarations uri)
      by true x y = x
      by false x y = y

filtered-all : (test : Declaration → Bool) (declarations : List Declaration) → list_all is_declarable declarations ≡ true →
    list_all is_declarable (filter test declarations) ≡ true
filtered-all test [] h = refl
filtered-all test (d ∷ declarations) h =
    let p = both (is_declarable d) (list_all is_declarable declarations) h in
    by (test d) (ap (λ t. t && list_all is_declarable (filter test declarations)) p.0 ∙ filtered-all test declarations p.1) (filtered-all test declarations p.1)
  where
    by : (t : Bool) → list_all is_declarable (d ∷ filter test declarations) ≡ true → list_all is_declarable (filter test declarations) ≡ true
        → list_all is_declarable (if t then d ∷ filter test declarations else filter test declarations) ≡ true
    by true x y = x
    by false x y = y

-- A prefix that may be declared: none or an NCName, and not `xmlns`.
abbrev pub is_good_prefix : List ℕ → Bool
is_good_prefix prefix = is_prefix prefix && not (bytes_eq prefix xmlns)

pub declarable-prefix : (d : Declaration) → is_declarable d ≡ true → is_good_prefix d.prefix ≡ true
declarable-prefix d h =
    let p = both (is_prefix d.prefix) (list_all is_char d.uri && not (is_bad_binding (record { prefix = d.prefix; uri = d.uri }))) h in
    let q = both (list_all is_char d.uri) (not (is_bad_binding (record { prefix = d.prefix; uri = d.uri }))) p.1 in
    let r = or_false (bytes_eq d.prefix xmlns) _ (not_false (is_bad_binding (record { prefix = d.prefix; uri = d.uri })) q.1) in
    ap (λ t. t && not (bytes_eq d.prefix xmlns)) p.0 ∙ ap not r.0

pub prefix-good : (declarations : List Declaration) (uri : List ℕ) → list_all is_declarable declarations ≡ true →
    is_good_prefix (prefix_of declarations uri) ≡ true
prefix-good declarations uri h = prefix-written (λ p. is_good_prefix p ≡ true) declarations uri refl declarable-prefix h

none-length : (xs : List ℕ) → (length xs == 0) ≡ true → xs ≡ []
none-length [] h = refl
none-length (x ∷ xs) h = absurd (true≢false (sym h ∙ not_none (length xs)))

pub encoded-some : (c : ℕ) (cs : List ℕ) → (length (encode_utf8_all (c ∷ cs)) == 0) ≡ false
encoded-some c cs =
    let l = length-append (encode c) (encode_utf8_all cs) in
    let some : 0 < length (encode_utf8_all (c ∷ cs)) = omega (arith, l, length-encode c, (len_utf8_bounds c).0) in
    grind (arith, nat_tests)

name-same : (a b : Name) → a.uri ≡ b.uri → a.local ≡ b.local → a ≡ b
name-same a b p q = ap (λ x. let n : Name = record { uri = x; local = a.local } in n) p ∙ ap (λ x. let n : Name = record { uri = b.uri; local = x } in n) q

-- A name that is written for an element, and one for an attribute: how it is written, and what it is read as.
pub record IsReadName (declarations : List Declaration) (name : Name) (bytes : List ℕ) (expanded : Name) : Type 0 where
  pub written : IsWrittenName bytes
  pub declared : is_undeclared (bindings_of declarations) bytes ≡ false
  pub expanded_is : expanded ≡ name

module _ (declarations : List Declaration) (name : Name) where
  undeclared-not : (prefix local bytes : List ℕ) → IsQualified prefix local bytes →
      bound_uri (encode_utf8_all prefix) (bindings_of declarations) ≡ Some name.uri → is_undeclared (bindings_of declarations) bytes ≡ false
  undeclared-not prefix local bytes q b = ap (λ x. is_none (bound_uri x (bindings_of declarations))) q.prefix_is ∙ ap is_none b

  uri-is : (prefix local bytes : List ℕ) → IsQualified prefix local bytes → bound_uri (encode_utf8_all prefix) (bindings_of declarations) ≡ Some name.uri
      → uri_of (bindings_of declarations) (written.prefix_of bytes) ≡ name.uri
  uri-is prefix local bytes q b =
      ap (uri_of (bindings_of declarations)) q.prefix_is ∙ ap (λ (x : Option (List ℕ)). elim x [ None ↦ [] | (Some uri) ↦ uri ]) b

  local-is : (prefix bytes : List ℕ) → is_ncname name.local ≡ true → IsQualified prefix name.local bytes → chars (local_of bytes) ≡ name.local
  local-is prefix bytes h q = ap chars q.local_is ∙ chars-back name.local (ncname-chars name.local h)

  read-element : (prefix : List ℕ) → is_good_prefix prefix ≡ true → is_ncname name.local ≡ true → bytes_eq (namespace_of declarations prefix) name.uri ≡ true
      → ((length prefix == 0) ≡ true) ⊎ ((length name.uri == 0) ≡ false)
      → IsReadName declarations name (encode_utf8_all (qualified prefix name.local))
      (names.element_name (bindings_of declarations) (encode_utf8_all (qualified prefix name.local)))
  read-element prefix good local h case =
      let bytes = encode_utf8_all (qualified prefix name.local) in
      let q = qualified-written prefix name.local (both (is_prefix prefix) (not (bytes_eq prefix xmlns)) good).0 local in
      let b = bound-either declarations prefix name.uri h case in
      record {
        written = q.written;
        declared = undeclared-not prefix name.local bytes q b;
        expanded_is = name-same (names.element_name (bindings_of declarations) bytes) name (uri-is prefix name.local bytes q b) (local-is prefix bytes local q);
      }

  pub element-read : list_all is_declarable declarations ≡ true → is_element_name declarations name ≡ true
      → IsReadName declarations name (encode_utf8_all (element_name declarations name))
      (names.element_name (bindings_of declarations) (encode_utf8_all (element_name declarations name)))
  element-read all h =
      let p = both (is_ncname name.local) (bytes_eq (namespace_of declarations (if length name.uri == 0 then [] else prefix_of declarations name.uri)) name.uri)
      h in
      by (length name.uri == 0) refl p.0 p.1
    where
      by : (t : Bool) → (length name.uri == 0) ≡ t → is_ncname name.local ≡ true →
          bytes_eq (namespace_of declarations (if t then [] else prefix_of declarations name.uri)) name.uri ≡ true
          → IsReadName declarations name (encode_utf8_all (qualified (if t then [] else prefix_of declarations name.uri) name.local))
          (names.element_name (bindings_of declarations) (encode_utf8_all (qualified (if t then [] else prefix_of declarations name.uri) name.local)))
      by true e local g = read-element [] refl local g (inl refl)
      by false e local g = read-element (prefix_of declarations name.uri) (prefix-good declarations name.uri all) local g (inr e)

  -- attributes
  declares-not : (prefix : List ℕ) → is_good_prefix prefix ≡ true → is_ncname name.local ≡ true →
      ((length prefix == 0) ≡ false) ⊎ (bytes_eq name.local xmlns ≡ false)
      → declared_prefix (encode_utf8_all (qualified prefix name.local)) ≡ None
  declares-not prefix good local case =
      let bytes = encode_utf8_all (qualified prefix name.local) in
      let q = qualified-written prefix name.local (both (is_prefix prefix) (not (bytes_eq prefix xmlns)) good).0 local in
      let inner : bytes_eq (written.prefix_of bytes) xmlns ≡ false =
      ap (λ x. bytes_eq x xmlns) q.prefix_is ∙ (ap (bytes_eq (encode_utf8_all prefix)) (sym xmlns-encoded) ∙
      (eq-encoded prefix xmlns ∙ not_false (bytes_eq prefix xmlns) (both (is_prefix prefix) (not (bytes_eq prefix xmlns)) good).1)) in
      passed (bytes_eq bytes xmlns) (Some []) (if bytes_eq (written.prefix_of bytes) xmlns then Some (local_of bytes) else None) (whole prefix q case)
      ∙ passed (bytes_eq (written.prefix_of bytes) xmlns) (Some (local_of bytes)) None inner
    where
      whole : (prefix : List ℕ) → IsQualified prefix name.local (encode_utf8_all (qualified prefix name.local)) →
          ((length prefix == 0) ≡ false) ⊎ (bytes_eq name.local xmlns ≡ false)
          → bytes_eq (encode_utf8_all (qualified prefix name.local)) xmlns ≡ false
      whole [] q (inl e) = absurd (true≢false e)
      whole [] q (inr e) = ap (bytes_eq (encode_utf8_all name.local)) (sym xmlns-encoded) ∙ (eq-encoded name.local xmlns ∙ e)
      whole (c ∷ prefix) q case = at (bytes_eq (encode_utf8_all (qualified (c ∷ prefix) name.local)) xmlns) refl
        where
          at : (t : Bool) → bytes_eq (encode_utf8_all (qualified (c ∷ prefix) name.local)) xmlns ≡ t → t ≡ false
          at false e = refl
          at true e =
              let is = bytes-same (encode_utf8_all (qualified (c ∷ prefix) name.local)) xmlns e in
              absurd (true≢false (ap (λ (x : List ℕ). length (written.prefix_of x) == 0) (sym is) ∙
              (ap (λ (x : List ℕ). length x == 0) q.prefix_is ∙ encoded-some c prefix)))

  -- what an attribute is read as, and that it is no declaration
  pub record IsReadAttribute (bytes : List ℕ) : Type 0 where
    pub as_name : IsReadName declarations name bytes (names.attribute_name (bindings_of declarations) bytes)
    pub no_declaration : declared_prefix bytes ≡ None

  read-plain : is_ncname name.local ≡ true → (length name.uri == 0) ≡ true → bytes_eq name.local xmlns ≡ false →
      IsReadAttribute (encode_utf8_all (qualified [] name.local))
  read-plain local none other_name =
      let q = qualified-written [] name.local refl local in
      let bytes = encode_utf8_all (qualified [] name.local) in
      record {
        as_name = record {
          written = q.written;
          declared = ap (λ x. is_none (bound_uri x (bindings_of declarations))) q.prefix_is ∙ ap is_none (bound-default declarations);
          expanded_is = name-same (names.attribute_name (bindings_of declarations) bytes) name
              (ap (λ (x : List ℕ). if length x == 0 then [] else uri_of (bindings_of declarations) x) q.prefix_is ∙ sym (none-length name.uri none))
              (local-is [] bytes local q);
        };
        no_declaration = declares-not [] refl local (inr other_name);
      }

  read-prefixed : (prefix : List ℕ) → is_good_prefix prefix ≡ true → is_ncname name.local ≡ true → (length name.uri == 0) ≡ false → (length prefix == 0) ≡ false
      → bytes_eq (namespace_of declarations prefix) name.uri ≡ true
      → IsReadAttribute (encode_utf8_all (qualified prefix name.local))
  read-prefixed [] good local some e g = absurd (true≢false e)
  read-prefixed (c ∷ prefix) good local some e g =
      let p = c ∷ prefix in
      let bytes = encode_utf8_all (qualified p name.local) in
      let q = qualified-written p name.local (both (is_prefix p) (not (bytes_eq p xmlns)) good).0 local in
      let b = bound-either declarations p name.uri g (inr some) in
      record {
        as_name = record {
          written = q.written;
          declared = undeclared-not p name.local bytes q b;
          expanded_is = name-same (names.attribute_name (bindings_of declarations) bytes) name
              (passed (length (written.prefix_of bytes) == 0) [] (uri_of (bindings_of declarations) (written.prefix_of bytes))
              (ap (λ (x : List ℕ). length x == 0) q.prefix_is ∙ encoded-some c prefix) ∙ uri-is p name.local bytes q b)
              (local-is p bytes local q);
        };
        no_declaration = declares-not p good local (inl e);
      }

  pub attribute-read : list_all is_declarable declarations ≡ true → is_attribute_name declarations name ≡ true →
      IsReadAttribute (encode_utf8_all (attribute_name declarations name))
  attribute-read all h =
      let prefix = prefix_of (of_prefixes declarations) name.uri in
      let p = both (is_ncname name.local) (if length name.uri == 0 then not (bytes_eq name.local xmlns) else not (length prefix == 0) &&
      bytes_eq (namespace_of declarations prefix) name.uri) h in
      by (length name.uri == 0) refl p.0 p.1
    where
      by : (t : Bool) → (length name.uri == 0) ≡ t → is_ncname name.local ≡ true
          → (if t then not (bytes_eq name.local xmlns) else not (length (prefix_of (of_prefixes declarations) name.uri) == 0) &&
          bytes_eq (namespace_of declarations (prefix_of (of_prefixes declarations) name.uri)) name.uri) ≡ true
          → IsReadAttribute (encode_utf8_all (qualified (if t then [] else prefix_of (of_prefixes declarations) name.uri) name.local))
      by true e local g = read-plain local e (not_false (bytes_eq name.local xmlns) g)
      by false e local g =
          let prefix = prefix_of (of_prefixes declarations) name.uri in
          let r = both (not (length prefix == 0)) (bytes_eq (namespace_of declarations prefix) name.uri) g in
          read-prefixed prefix (prefix-good (of_prefixes declarations) name.uri
          (filtered-all (λ (d : Declaration). not (length d.prefix == 0)) declarations all)) local e (not_false (length prefix == 0) r.0) r.1
