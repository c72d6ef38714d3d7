-- A start tag that canonical text writes is read, behind a state that it may stand behind.
use Rattle.std.proofs.Common.{◌≡◌, ℕ, ◌+◌, ◌≤◌, Bool, true, false, ◌&&◌, ◌||◌, nat_lt, List, [], ◌∷◌, ◌++◌, map, length, refl, sym, ap, ◌∙◌, arith, subst}
use Rattle.std.proofs.Common.{if◌then◌else◌, Some, None, encode_utf8_all}
use Rattle.std.specs.List.{list_all, list_any}
use Rattle.std.specs.Str.{bytes_eq}
use Rattle.std.proofs.lemmas.List.{append_assoc, length-append, length-map}
use Rattle.std.proofs.lemmas.Bool.Decides.{nat_tests}
use Rattle.inv_base.specs.Tree.{Name, Attribute}
use Rattle.xml_tokens.specs.Faults.{Cause, first_cause}
use Rattle.xml_tokens.specs.Markup.{Written, Tag, a_start_tag}
use Rattle.xml_tokens.specs.Beginnings.{good, beginning, greatest_tag}
use Rattle.xml_state.specs.declared.limits.Limits.{Limits}
use Rattle.xml_events.specs.Names.{same_name, number_of}
use Rattle.xml_events.specs.Events.{starts, ends}
use Rattle.xml_state.specs.Namespaces.{Binding, bindings_inside, declared_bindings, is_bad_binding, is_undeclared, undeclaring, attributes_of}
use Rattle.xml_state.specs.Namespaces as names
use Rattle.xml_state.specs.States.{State, is_outside, bindings_here, bindings_in, name_in, attributes_in, names_behind, with_names, behind_start_tag}
use Rattle.xml_state.specs.States.{start_tag_events, attribute_event, state_behind, events_of}
use Rattle.xml_state.specs.Admission.{has_twice, is_long_name, start_tag_causes, fault_of}
use Rattle.xml_profile.specs.TokenByToken.{telling, read}
use Rattle.xml_write.specs.Canonical.{Declaration, element_name, declaring_name}
use Rattle.xml_laws.specs.Writable.{is_declarable, is_short}
use Rattle.xml_laws.proofs.ReadLemmas.{NoneHolds}
use Rattle.xml_laws.proofs.TagTokenLemmas.{start_bytes, start-begins}
use Rattle.xml_laws.proofs.BindingLemmas.{binding, bindings_of, element-read}
use Rattle.xml_laws.proofs.TagStateLemmas.{declaring, given, tag_attributes, attributes-written, bindings-good, names-short, long-not, tag-declared, tag-read}
use Rattle.xml_laws.proofs.TagStateLemmas.{tag-bound, tag-apart}
use Rattle.xml_laws.proofs.WritableLemmas.{IsTag}
use Rattle.xml_laws.proofs.StepLemmas.{read-token}
use Rattle.xml_laws.proofs.TextReadLemmas.{inside}
use Rattle.xml_laws.proofs.PieceLemmas.{ReadsAny}

pub none-holds : (causes : List Cause) → NoneHolds causes → first_cause causes ≡ None
none-holds [] h = refl
none-holds (c ∷ causes) h = ap (λ t. if t then Some c.kind else first_cause causes) h.0 ∙ none-holds causes h.1

keeps : (limit n : ℕ) → n ≤ limit → nat_lt limit n ≡ false
keeps limit n h = grind (arith, nat_tests)

-- declarations that a tag has, if only the root
pub record AreOwn (limits : Limits) (own : List Declaration) : Type 0 where
  pub declarable : list_all is_declarable own ≡ true
  pub apart : has_twice (λ (a b : Declaration). bytes_eq a.prefix b.prefix) own ≡ false
  pub short : list_all (λ (d : Declaration). is_short limits (declaring_name d.prefix)) own ≡ true

-- the tag as it is read
abbrev pub tag_of : List Declaration → List Declaration → Name → List Attribute → Bool → Tag
tag_of declarations own name attributes is_empty =
    record { name = encode_utf8_all (element_name declarations name); attributes = tag_attributes declarations own attributes; is_empty = is_empty }

-- the names of an element and of its attributes
abbrev pub tag_names : Name → List Attribute → List Name
tag_names name attributes = name ∷ map (λ (a : Attribute). a.name) attributes

-- the bytes of the tag
abbrev pub start_piece : List ℕ → List Written → Bool → List ℕ
start_piece name attributes is_empty = 0x3C ∷ (start_bytes name attributes is_empty ++ (0x3E ∷ []))

module _ (limits : Limits) (declarations : List Declaration) (declarable : list_all is_declarable declarations ≡ true) (own : List Declaration)
    (are_own : AreOwn limits own)
    (name : Name) (attributes : List Attribute) (parts : IsTag limits declarations own name attributes) (s : State)
    (bound : map binding own ++ bindings_here s ≡ bindings_of declarations) (is_empty : Bool) where
  bindings-are : bindings_in s (tag_of declarations own name attributes is_empty) ≡ bindings_of declarations
  bindings-are = ap (λ x. x ++ bindings_here s) (tag-declared declarations declarable own attributes are_own.declarable parts.given_all) ∙ bound

  name-is : name_in s (tag_of declarations own name attributes is_empty) ≡ name
  name-is =
      ap (λ b. names.element_name b (encode_utf8_all (element_name declarations name))) bindings-are ∙
      (element-read declarations name declarable parts.named).expanded_is

  attributes-are : attributes_in s (tag_of declarations own name attributes is_empty) ≡ attributes
  attributes-are = ap (λ b. attributes_of b (tag_attributes declarations own attributes)) bindings-are ∙
      tag-read declarations declarable own attributes are_own.declarable parts.given_all

  names-are : names_behind s (tag_of declarations own name attributes is_empty) ≡ with_names s.names (tag_names name attributes)
  names-are =
      let t = tag_of declarations own name attributes is_empty in
      ap (λ n. with_names s.names (tag_names n (attributes_in s t))) name-is ∙ ap (λ a. with_names s.names (tag_names name a)) attributes-are

  admitted : (is_outside s && s.root_seen) ≡ false → length s.open_elements + 1 ≤ limits.depth →
      length (with_names s.names (tag_names name attributes)) ≤ limits.names
      → s.nodes + (1 + length attributes) ≤ limits.nodes → first_cause (start_tag_causes limits s (tag_of declarations own name attributes is_empty)) ≡ None
  admitted first deep many more =
      let t = tag_of declarations own name attributes is_empty in
      let B = bindings_of declarations in
      let l : length (tag_attributes declarations own attributes) ≡ length own + length attributes =
      length-append (map declaring own) (map (given declarations) attributes) ∙
      (ap (λ n. n + length (map (given declarations) attributes)) (length-map own declaring) ∙
      ap (λ n. length own + n) (length-map attributes (given declarations))) in
      let few = parts.few in
      none-holds (start_tag_causes limits s t) (
        keeps limits.attributes (length (tag_attributes declarations own attributes)) (omega arith),
        (
          ap (λ b. b || list_any (λ (a : Written). is_long_name limits a.name) (tag_attributes declarations own attributes))
              (long-not limits (element_name declarations name) parts.short)
              ∙ names-short limits declarations own attributes are_own.short parts.all_short,
          (
            first,
            (
              ap (list_any is_bad_binding) (tag-declared declarations declarable own attributes are_own.declarable parts.given_all) ∙
                  bindings-good own are_own.declarable,
              (
                ap (λ b. is_undeclared b (encode_utf8_all (element_name declarations name)) ||
                    list_any (λ (a : Written). is_undeclared b a.name) (undeclaring (tag_attributes declarations own attributes))) bindings-are
                    ∙ (ap (λ b. b || list_any (λ (a : Written). is_undeclared B a.name) (undeclaring (tag_attributes declarations own attributes)))
                    (element-read declarations name declarable parts.named).declared
                    ∙ tag-bound declarations declarable own attributes are_own.declarable parts.given_all),
                (
                  ap (λ b. b || has_twice (λ (a b : Attribute). same_name a.name b.name) (attributes_in s t))
                      (tag-apart declarations declarable own attributes are_own.declarable parts.given_all are_own.apart parts.apart)
                      ∙ (ap (has_twice (λ (a b : Attribute). same_name a.name b.name)) attributes-are ∙ parts.apart),
                  (
                    keeps limits.depth (length s.open_elements + 1) deep,
                    (
                      keeps limits.names (length (names_behind s t)) (subst (λ x. length x ≤ limits.names) (sym names-are) many),
                      (
                        keeps limits.nodes (s.nodes + (1 + length (attributes_in s t)))
                            (subst (λ x. s.nodes + (1 + length x) ≤ limits.nodes) (sym attributes-are) more),
                        tt,
                      ),
                    ),
                  ),
                ),
              ),
            ),
          ),
        ),
      )

  -- the state behind the tag, and what it tells
  behind-is : behind_start_tag s (tag_of declarations own name attributes is_empty)
      ≡ inside (if is_empty then s.open_elements else record {
        name = encode_utf8_all (element_name declarations name);
        bindings =
            bindings_of declarations;
      } ∷ s.open_elements) false (s.nodes + (1 + length attributes)) (with_names s.names (tag_names name attributes))
  behind-is =
      let t = tag_of declarations own name attributes is_empty in
      ap (λ b. behind_with b (attributes_in s t) (names_behind s t)) bindings-are
      ∙ (ap (λ a. behind_with (bindings_of declarations) a (names_behind s t)) attributes-are ∙
      ap (behind_with (bindings_of declarations) attributes) names-are)
    where
      behind_with : List Binding → List Attribute → List Name → State
      behind_with b a n = inside (if is_empty then s.open_elements else record {
        name = encode_utf8_all (element_name declarations name);
        bindings =
            b;
      } ∷ s.open_elements) false (s.nodes + (1 + length a)) n

  tells-are : (place : ℕ) → start_tag_events s (tag_of declarations own name attributes is_empty) place
      ≡ starts (number_of name (with_names s.names (tag_names name attributes))) place
      ∷ (map (attribute_event (with_names s.names (tag_names name attributes))) attributes ++ (if is_empty then ends ∷ [] else []))
  tells-are place =
      let t = tag_of declarations own name attributes is_empty in
      let tail = if is_empty then ends ∷ [] else [] in
      ap (λ n. starts (number_of n (names_behind s t)) place ∷ (map (attribute_event (names_behind s t)) (attributes_in s t) ++ tail)) name-is
      ∙ (ap (λ a. starts (number_of name (names_behind s t)) place ∷ (map (attribute_event (names_behind s t)) a ++ tail)) attributes-are
      ∙ ap (λ n. starts (number_of name n) place ∷ (map (attribute_event n) attributes ++ tail)) names-are)

  -- the tag is read
  pub start-read : (is_outside s && s.root_seen) ≡ false → length s.open_elements + 1 ≤ limits.depth →
      length (with_names s.names (tag_names name attributes)) ≤ limits.names
      → s.nodes + (1 + length attributes) ≤ limits.nodes
      → length (start_bytes (encode_utf8_all (element_name declarations name)) (tag_attributes declarations own attributes) is_empty) + 2 ≤ greatest_tag
      → (place : ℕ) → place + length (start_piece (encode_utf8_all (element_name declarations name))
      (tag_attributes declarations own attributes) is_empty) ≤ limits.bytes
      → ReadsAny limits s
      (inside (if is_empty then s.open_elements else record {
        name = encode_utf8_all (element_name declarations name);
        bindings =
            bindings_of declarations;
      } ∷ s.open_elements) false (s.nodes + (1 + length attributes)) (with_names s.names (tag_names name attributes)))
      place (start_piece (encode_utf8_all (element_name declarations name)) (tag_attributes declarations own attributes) is_empty)
      (starts (number_of name (with_names s.names (tag_names name attributes))) place
      ∷ (map (attribute_event (with_names s.names (tag_names name attributes))) attributes ++ (if is_empty then ends ∷ [] else [])))
  unfolding fault_of state_behind events_of
  start-read first deep many more short place fits = record { is = λ rest. is rest }
    where
      is : (rest : List ℕ) → read true limits s place 0
          (start_piece (encode_utf8_all (element_name declarations name)) (tag_attributes declarations own attributes) is_empty ++ rest) ≡ telling
          (starts (number_of name (with_names s.names (tag_names name attributes))) place
          ∷ (map (attribute_event (with_names s.names (tag_names name attributes))) attributes ++ (if is_empty then ends ∷ [] else [])))
          (read true limits
          (inside (if is_empty then s.open_elements else record {
            name = encode_utf8_all (element_name declarations name);
            bindings =
                bindings_of declarations;
          } ∷ s.open_elements) false (s.nodes + (1 + length attributes)) (with_names s.names (tag_names name attributes)))
          (place + length (start_piece (encode_utf8_all (element_name declarations name)) (tag_attributes declarations own attributes) is_empty)) 0 rest)
      is rest =
          let N = encode_utf8_all (element_name declarations name) in
          let W = tag_attributes declarations own attributes in
          let t = tag_of declarations own name attributes is_empty in
          let piece = start_piece N W is_empty in
          let l : length piece ≡ length (start_bytes N W is_empty) + 2 = let k = length-append (start_bytes N W is_empty) (0x3E ∷ []) in omega arith in
          let written = (element-read declarations name declarable parts.named).written in
          let begins = ap (λ x. beginning s.position true (0x3C ∷ x)) (append_assoc (start_bytes N W is_empty) (0x3E ∷ []) rest)
          ∙ (start-begins N written W is_empty (attributes-written declarations declarable own attributes are_own.declarable parts.given_all) short s.position
          rest
          ∙ ap (good (a_start_tag t)) (sym l)) in
          read-token limits s place piece rest (a_start_tag t) begins (omega arith) fits (admitted first deep many more)
          ∙ (ap (λ e. telling e (read true limits (behind_start_tag s t) (place + length piece) 0 rest)) (tells-are place)
          ∙ ap (λ x. telling (starts (number_of name (with_names s.names (tag_names name attributes)))
          place ∷ (map (attribute_event (with_names s.names (tag_names name attributes))) attributes ++ (if is_empty then ends ∷ [] else [])))
          (read true limits x (place + length piece) 0 rest)) behind-is)
