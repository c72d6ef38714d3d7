-- Small trees on which the definitions are tried.
use Rattle.std.proofs.Common.{◌≡◌, ℕ, true, false, List, [], ◌∷◌, ◌++◌, length, refl, arith, Option, Some, None, Result, Ok, Err, encode_utf8_all}
use Rattle.std.specs.List.{list_all}
use Rattle.std.specs.Prelude.{codes}
use Rattle.std.specs.Str.{is_utf8, chars}
use lib.Utf8.{encode}
use Rattle.inv_base.specs.Characters.{is_char, is_white_space, is_name_start, is_name_char}
use Rattle.inv_base.specs.Tree.{Name, Attribute, Forest, no_more, a_text, an_element, size}
use Rattle.xml_tokens.specs.declared.kind.XmlKind.TheVariants.{BadChar}
use Rattle.xml_state.specs.declared.fault.XmlFault.{XmlFault}
use Rattle.xml_tokens.specs.Encoding.{character_at}
use Rattle.xml_tokens.specs.References.{referred, reference_at}
use Rattle.xml_tokens.specs.WrittenNames.{is_qname}
use Rattle.xml_tokens.specs.Markup.{comment, section, is_declaration, instruction}
use Rattle.xml_tokens.specs.Tags.{attribute_at, tag_inside, value_of, start_tag, end_tag}
use Rattle.xml_tokens.specs.Beginnings.{extent, beginning}
use Rattle.xml_state.specs.declared.limits.Limits.{Limits}
use Rattle.xml_state.specs.Sizes.{document_limits}
use Rattle.xml_state.specs.Faults.{fault_at}
use Rattle.xml_events.specs.Events.{tree_of_events}
use Rattle.xml_state.specs.States.{with_names, state_behind, events_of}
use Rattle.xml_state.specs.Admission.{fault_of}
use Rattle.xml_profile.specs.TokenByToken.{read, resume}
use Rattle.xml_profile.specs.Profile.{Document, document, first_fault, tree_of}
use Rattle.xml_write.specs.Escapes.{in_text, in_value}
use Rattle.xml_write.specs.Canonical.{Declaration, declaration_line, canonical_text}
use Rattle.xml_laws.specs.Writable.{namespace_of, is_declarable, is_element_name, is_attribute_name, all_texts, depth_of, names_in, keep_limits, IsWritable}

abbrev ample : Limits
ample = document_limits

-- limits that the tree below just keeps
abbrev tight : Limits
tight = record { bytes = 155; nodes = 8; depth = 2; attributes = 4; name = 7; names = 5 }

abbrev named : List ℕ → List ℕ → Name
named uri local = record { uri = uri; local = local }

abbrev given : Name → List ℕ → Attribute
given name value = record { name = name; value = value }

-- the default namespace is u, and c stands for v
abbrev declared : List Declaration
declared = record { prefix = []; uri = codes "u" } ∷ record { prefix = codes "c"; uri = codes "v" } ∷ []

-- names with a prefix and without, each character that is escaped, `]]>`, and characters of two and three bytes
abbrev tree : Forest
tree =
    an_element (named (codes "u") (codes "a")) (given (named [] (codes "k")) (codes "&<>\"'" ++ 9 ∷ 10 ∷ 13 ∷ []) ∷ given
    (named (codes "v") (codes "l")) [] ∷ [])
    (a_text (codes "&<]]>" ++ 13 ∷ 0xE9 ∷ 0x20AC ∷ [])
    (an_element (named (codes "v") (codes "b")) [] no_more
    (an_element (named (codes "u") (codes "e")) [] (a_text (codes "]") no_more) no_more))) no_more

-- The tree can be written.
writable : IsWritable tight declared tree
unfolding in_text in_value declaration_line encode is_char is_name_start is_name_char
writable = record {
  document = record { name = _; attributes = _; inside = _; root = refl; joined = refl };
  declarable = refl;
  apart = refl;
  elements = refl;
  attributes = refl;
  distinct = refl;
  values = refl;
  texts = refl;
  within = record { bytes = omega arith; nodes = omega arith; depth = omega arith; names = omega arith; tags = refl };
}

-- One byte, node, level, attribute, byte of a name or name fewer is too few.
exact : (length (encode_utf8_all (canonical_text declared tree)) ≡ 155) × (size tree ≡ 7) × (depth_of tree ≡ 2) × (length (with_names [] (names_in tree)) ≡ 5)
unfolding in_text in_value declaration_line encode
exact = (refl, refl, refl, refl)

fewer_attributes : keep_limits (record tight { attributes = 3 }) declared declared tree ≡ false
unfolding in_text in_value encode
fewer_attributes = refl

shorter_names : keep_limits (record tight { name = 6 }) declared declared tree ≡ false
unfolding in_text in_value encode
shorter_names = refl

names : names_in tree ≡ named (codes "u") (codes "a") ∷ named [] (codes "k") ∷ named (codes "v") (codes "l") ∷ named (codes "v") (codes "b") ∷ named (codes "u")
    (codes "e") ∷ []
names = refl

abbrev tree_in : Result Document XmlFault → Option Forest
tree_in (Ok d) = Some (tree_of d)
tree_in (Err f) = None

-- what canonical text of a tree is read as, with all definitions open
abbrev read_back : List Declaration → Forest → Result Document XmlFault
unfolding document first_fault resume read beginning extent comment section is_declaration instruction attribute_at tag_inside value_of start_tag end_tag
    is_qname character_at reference_at referred fault_of state_behind events_of tree_of_events is_utf8 chars encode is_char is_white_space is_name_start
    is_name_char in_text in_value declaration_line
read_back declarations t = document ample (encode_utf8_all (canonical_text declarations t))

abbrev tree_back : List Declaration → Forest → Option Forest
unfolding document first_fault resume read beginning extent comment section is_declaration instruction attribute_at tag_inside value_of start_tag end_tag
    is_qname character_at reference_at referred fault_of state_behind events_of tree_of_events is_utf8 chars encode is_char is_white_space is_name_start
    is_name_char in_text in_value declaration_line
tree_back declarations t = tree_in (document ample (encode_utf8_all (canonical_text declarations t)))

is-read : tree_back declared tree ≡ Some tree
unfolding tree_back
is-read = refl

-- what prefixes stand for
first-counts : namespace_of (record { prefix = codes "p"; uri = codes "u" } ∷ record { prefix = codes "p"; uri = codes "v" } ∷ []) (codes "p") ≡ codes "u"
first-counts = refl

none-declared : namespace_of declared (codes "p") ≡ []
none-declared = refl

-- declarations
default-none : is_declarable (record { prefix = []; uri = [] }) ≡ true
default-none = refl

prefix-none : is_declarable (record { prefix = codes "p"; uri = [] }) ≡ false
unfolding is_name_start is_name_char
prefix-none = refl

of-xmlns : is_declarable (record { prefix = codes "xmlns"; uri = codes "u" }) ≡ false
unfolding is_name_start is_name_char is_char
of-xmlns = refl

of-xml : is_declarable (record { prefix = codes "xml"; uri = codes "http://www.w3.org/XML/1998/namespace" }) ≡ true
unfolding is_name_start is_name_char is_char
of-xml = refl

of-digit : is_declarable (record { prefix = codes "1"; uri = codes "u" }) ≡ false
unfolding is_name_start is_name_char
of-digit = refl

-- names of elements
in-default : is_element_name declared (named (codes "u") (codes "a")) ≡ true
unfolding is_name_start is_name_char
in-default = refl

in-none : is_element_name declared (named [] (codes "a")) ≡ false
unfolding is_name_start is_name_char
in-none = refl

in-other : is_element_name declared (named (codes "w") (codes "a")) ≡ false
unfolding is_name_start is_name_char
in-other = refl

with-colon : is_element_name declared (named (codes "u") (codes "a:b")) ≡ false
unfolding is_name_start is_name_char
with-colon = refl

-- names of attributes
attribute-in-none : is_attribute_name declared (named [] (codes "k")) ≡ true
unfolding is_name_start is_name_char
attribute-in-none = refl

attribute-in-prefixed : is_attribute_name declared (named (codes "v") (codes "xmlns")) ≡ true
unfolding is_name_start is_name_char
attribute-in-prefixed = refl

attribute-in-default : is_attribute_name declared (named (codes "u") (codes "k")) ≡ false
unfolding is_name_start is_name_char
attribute-in-default = refl

attribute-xmlns : is_attribute_name declared (named [] (codes "xmlns")) ≡ false
unfolding is_name_start is_name_char
attribute-xmlns = refl

-- what is read where a condition doesn't hold: an element falls into the default namespace, as does an undeclared one;
-- an attribute becomes a declaration; texts side by side are one; and a text has a character that no document may have
none-lost : tree_back declared (an_element (named [] (codes "f")) [] no_more no_more) ≡ Some (an_element (named (codes "u") (codes "f")) [] no_more no_more)
unfolding tree_back
none-lost = refl

other-lost : tree_back [] (an_element (named (codes "w") (codes "f")) [] no_more no_more) ≡ Some (an_element (named [] (codes "f")) [] no_more no_more)
unfolding tree_back
other-lost = refl

attribute-lost : tree_back [] (an_element (named [] (codes "f")) (given (named [] (codes "xmlns")) (codes "w") ∷ []) no_more no_more) ≡ Some
    (an_element (named (codes "w") (codes "f")) [] no_more no_more)
unfolding tree_back
attribute-lost = refl

texts-joined : tree_back [] (an_element (named [] (codes "f")) [] (a_text (codes "x") (a_text (codes "y") no_more)) no_more) ≡ Some
    (an_element (named [] (codes "f")) [] (a_text (codes "xy") no_more) no_more)
unfolding tree_back
texts-joined = refl

no-char : all_texts (list_all is_char) (an_element (named [] (codes "f")) [] (a_text (1 ∷ []) no_more) no_more) ≡ false
unfolding is_char
no-char = refl

char-refused : read_back [] (an_element (named [] (codes "f")) [] (a_text (1 ∷ []) no_more) no_more) ≡ Err (fault_at BadChar 42)
unfolding read_back
char-refused = refl
