-- The conditions on a tree that is written, tag by tag.
use Rattle.std.proofs.Common.{◌≡◌, ℕ, ◌+◌, ◌≤◌, nat_le, Bool, true, false, not, ◌&&◌, List, [], ◌∷◌, ◌++◌, length, refl, ap, ◌∙◌, arith, encode_utf8_all}
use Rattle.std.specs.List.{list_all}
use Rattle.std.proofs.lemmas.Bool.Decides.{nat_tests}
use Rattle.inv_base.specs.Characters.{is_char}
use Rattle.inv_base.specs.Tree.{Name, Attribute, Forest, a_text, an_element}
use Rattle.inv_base.proofs.TextLemmas.{both}
use Rattle.xml_state.specs.declared.limits.Limits.{Limits}
use Rattle.xml_events.specs.Names.{same_name}
use Rattle.xml_state.specs.Admission.{has_twice}
use Rattle.xml_write.specs.Canonical.{Declaration, element_name, attribute_name, declaring_name, declarations_text, attributes_text, is_childless}
use Rattle.xml_laws.specs.Writable.{is_element_name, is_attribute_name, all_elements, all_texts, depth_of, is_short, tags_fit, keeps_limits, keep_limits}
use Rattle.xml_laws.proofs.AttributeLemmas.{not_false}
use Rattle.xml_laws.proofs.TagStateLemmas.{is_given}

pub at_most : (n limit : ℕ) → nat_le n limit ≡ true → n ≤ limit
at_most n limit h = grind (arith, nat_tests)

-- What is written of a tag.
pub record IsTag (limits : Limits) (declarations own : List Declaration) (name : Name) (attributes : List Attribute) : Type 0 where
  pub named : is_element_name declarations name ≡ true
  pub given_all : list_all (is_given declarations) attributes ≡ true
  pub apart : has_twice (λ (a b : Attribute). same_name a.name b.name) attributes ≡ false
  pub few : length own + length attributes ≤ limits.attributes
  pub own_short : list_all (λ (d : Declaration). is_short limits (declaring_name d.prefix)) own ≡ true
  pub short : is_short limits (element_name declarations name) ≡ true
  pub all_short : list_all (λ (a : Attribute). is_short limits (attribute_name declarations a.name)) attributes ≡ true

-- What is written of a forest inside so many elements.
pub record AreTags (limits : Limits) (declarations own : List Declaration) (depth : ℕ) (f : Forest) : Type 0 where
  pub elements : all_elements (λ name attributes. is_element_name declarations name) f ≡ true
  pub attributes : all_elements (λ name attributes. list_all (λ (a : Attribute). is_attribute_name declarations a.name) attributes) f ≡ true
  pub distinct : all_elements (λ name attributes. not (has_twice (λ (a b : Attribute). same_name a.name b.name) attributes)) f ≡ true
  pub values : all_elements (λ name attributes. list_all (λ (a : Attribute). list_all is_char a.value) attributes) f ≡ true
  pub texts : all_texts (list_all is_char) f ≡ true
  pub deep : depth + depth_of f ≤ limits.depth
  pub tags : keep_limits limits declarations own f ≡ true

pub of-text : (limits : Limits) (declarations own : List Declaration) (depth : ℕ) (cs : List ℕ) (rest : Forest) →
    AreTags limits declarations own depth (a_text cs rest)
    → (list_all is_char cs ≡ true) × AreTags limits declarations own depth rest
of-text limits declarations own depth cs rest t =
    let p = both (list_all is_char cs) (all_texts (list_all is_char) rest) t.texts in
    (p.0, record { elements = t.elements; attributes = t.attributes; distinct = t.distinct; values = t.values; texts = p.1; deep = t.deep; tags = t.tags })

-- Both tests pass all elements of the list.
both-pass : {X : Type 0} (p q : X → Bool) (xs : List X) → list_all p xs ≡ true → list_all q xs ≡ true → list_all (λ x. p x && q x) xs ≡ true
both-pass p q [] g h = refl
both-pass p q (x ∷ xs) g h =
    let a = both (p x) (list_all p xs) g in
    let b = both (q x) (list_all q xs) h in
    ap (λ t. (t && q x) && list_all (λ x. p x && q x) xs) a.0 ∙ (ap (λ t. t && list_all (λ x. p x && q x) xs) b.0 ∙ both-pass p q xs a.1 b.1)

-- the test of an element, and those of what is inside it and behind it
split : (test : Name → List Attribute → Bool) (name : Name) (attributes : List Attribute) (f rest : Forest) →
    all_elements test (an_element name attributes f rest) ≡ true
    → (test name attributes ≡ true) × (all_elements test f ≡ true) × (all_elements test rest ≡ true)
split test name attributes f rest h =
    let p = both (test name attributes) (all_elements test f && all_elements test rest) h in
    let q = both (all_elements test f) (all_elements test rest) p.1 in
    (p.0, q.0, q.1)

pub record OfElement (limits : Limits) (declarations own : List Declaration) (depth : ℕ) (name : Name) (attributes : List Attribute)
    (f rest : Forest) : Type 0 where
  pub tag : IsTag limits declarations own name attributes
  pub sized : tags_fit (is_childless f) (encode_utf8_all (element_name declarations name))
      (encode_utf8_all (element_name declarations name ++ (declarations_text own ++ attributes_text declarations attributes))) ≡ true
  pub deep : depth + 1 ≤ limits.depth
  pub inside : AreTags limits declarations [] (depth + 1) f
  pub behind : AreTags limits declarations own depth rest

pub of-element : (limits : Limits) (declarations own : List Declaration) (depth : ℕ) (name : Name) (attributes : List Attribute) (f rest : Forest) →
    AreTags limits declarations own depth (an_element name attributes f rest)
    → OfElement limits declarations own depth name attributes f rest
of-element limits declarations own depth name attributes f rest t =
    let text = element_name declarations name ++ (declarations_text own ++ attributes_text declarations attributes) in
    let own_short = list_all (λ (d : Declaration). is_short limits (declaring_name d.prefix)) own in
    let all_short = list_all (λ (a : Attribute). is_short limits (attribute_name declarations a.name)) attributes in
    let small = tags_fit (is_childless f) (encode_utf8_all (element_name declarations name)) (encode_utf8_all text) in
    let e = split (λ name attributes. is_element_name declarations name) name attributes f rest t.elements in
    let g = split (λ name attributes. list_all (λ (a : Attribute). is_attribute_name declarations a.name) attributes) name attributes f rest t.attributes in
    let d = split (λ name attributes. not (has_twice (λ (a b : Attribute). same_name a.name b.name) attributes)) name attributes f rest t.distinct in
    let v = split (λ name attributes. list_all (λ (a : Attribute). list_all is_char a.value) attributes) name attributes f rest t.values in
    let x = both (all_texts (list_all is_char) f) (all_texts (list_all is_char) rest) t.texts in
    let k = both (keeps_limits limits declarations own name attributes (is_childless f))
    (keep_limits limits declarations [] f && keep_limits limits declarations own rest) t.tags in
    let l = both (keep_limits limits declarations [] f) (keep_limits limits declarations own rest) k.1 in
    let a = both (nat_le (length own + length attributes) limits.attributes)
    (own_short && (is_short limits (element_name declarations name) && (all_short && small))) k.0 in
    let b = both own_short (is_short limits (element_name declarations name) && (all_short && small)) a.1 in
    let c = both (is_short limits (element_name declarations name)) (all_short && small) b.1 in
    let s = both all_short small c.1 in
    let deep = t.deep in
    record {
      tag = record {
        named = e.0;
        given_all = both-pass (λ (a : Attribute). is_attribute_name declarations a.name) (λ (a : Attribute). list_all is_char a.value) attributes g.0 v.0;
        apart = not_false (has_twice (λ (a b : Attribute). same_name a.name b.name) attributes) d.0;
        few = at_most (length own + length attributes) limits.attributes a.0;
        own_short = b.0;
        short = c.0;
        all_short = s.0;
      };
      sized = s.1;
      deep = omega arith;
      inside = record { elements = e.1; attributes = g.1; distinct = d.1; values = v.1; texts = x.0; deep = omega arith; tags = l.0 };
      behind = record { elements = e.2; attributes = g.2; distinct = d.2; values = v.2; texts = x.1; deep = omega arith; tags = l.1 };
    }
