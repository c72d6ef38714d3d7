-- Inputs with their first fault, the fault that is settled, or the document, as the rules give them: the definitions
-- compute these.
use Rattle.std.specs.Prelude.{ℕ, ◌≡◌, true, List, [], ◌∷◌, ◌++◌, Option, Some, None, Result, Ok, Err, codes, refl}
use Rattle.std.specs.Str.{is_utf8, chars}
use Rattle.std.specs.Char.{encode_utf8}
use Rattle.inv_base.specs.Characters.{is_char, is_white_space, is_name_start, is_name_char}
use Rattle.inv_base.specs.Tree.{Name, Forest, no_more, a_text, an_element}
use Rattle.xml_state.specs.Faults.{fault_at}
use Rattle.xml_events.specs.Events.{Event, starts, has_attribute, has_text, ends, tree_of_events}
use Rattle.xml_tokens.specs.declared.kind.XmlKind.{XmlKind}
use Rattle.xml_tokens.specs.declared.kind.XmlKind.TheVariants.{NotUtf8, BadChar, Doctype, BadDeclaration, BadMarkup, BadReference, TextOutside}
use Rattle.xml_tokens.specs.declared.kind.XmlKind.TheVariants.{TooManyAttributes, NameTooLong, Mismatched, SecondRoot, BadNamespace, UndeclaredPrefix}
use Rattle.xml_tokens.specs.declared.kind.XmlKind.TheVariants.{DuplicateAttribute, TooDeep, TooManyNames, TooManyNodes, TooLong, Truncated, NoRoot}
use Rattle.xml_state.specs.declared.fault.XmlFault.{XmlFault}
use Rattle.xml_state.specs.declared.limits.Limits.{Limits}
use Rattle.xml_state.specs.Sizes.{document_limits}
use Rattle.xml_tokens.specs.Encoding.{character_at}
use Rattle.xml_tokens.specs.References.{referred, reference_at}
use Rattle.xml_tokens.specs.WrittenNames.{is_qname}
use Rattle.xml_tokens.specs.Markup.{comment, section, is_declaration, instruction}
use Rattle.xml_tokens.specs.Tags.{attribute_at, tag_inside, value_of, start_tag, end_tag}
use Rattle.xml_tokens.specs.Beginnings.{extent, beginning}
use Rattle.xml_state.specs.States.{state_behind, events_of}
use Rattle.xml_state.specs.Admission.{fault_of}
use Rattle.xml_profile.specs.TokenByToken.{read_front, read, resume}
use Rattle.xml_profile.specs.Profile.{Document, document, tree_of, fault_of_whole, first_fault, settled_fault}

-- ample limits, and small ones
abbrev ample : Limits
ample = document_limits

abbrev small : Limits
small = record { bytes = 32; nodes = 5; depth = 2; attributes = 2; name = 8; names = 3 }

abbrev fault : XmlKind → ℕ → Option XmlFault
fault kind place = Some (fault_at kind place)

abbrev tree_in : Result Document XmlFault → Option Forest
tree_in (Ok d) = Some (tree_of d)
tree_in (Err f) = None

-- the name without a namespace, and in one
abbrev plain : List ℕ → Name
plain local = record { uri = []; local = local }

abbrev in_space : List ℕ → List ℕ → Name
in_space uri local = record { uri = uri; local = local }

-- the answers, with all definitions open
abbrev first : Limits → List ℕ → Option XmlFault
unfolding document first_fault settled_fault resume read beginning extent comment section is_declaration instruction attribute_at tag_inside value_of start_tag
    end_tag is_qname character_at reference_at referred fault_of state_behind events_of tree_of_events is_utf8 chars encode_utf8 is_char is_white_space
    is_name_start is_name_char
first limits bytes = first_fault limits bytes

abbrev settled : Limits → List ℕ → Option XmlFault
unfolding document first_fault settled_fault resume read beginning extent comment section is_declaration instruction attribute_at tag_inside value_of start_tag
    end_tag is_qname character_at reference_at referred fault_of state_behind events_of tree_of_events is_utf8 chars encode_utf8 is_char is_white_space
    is_name_start is_name_char
settled limits bytes = settled_fault limits bytes

abbrev read_as : Limits → List ℕ → Result Document XmlFault
unfolding document first_fault settled_fault resume read beginning extent comment section is_declaration instruction attribute_at tag_inside value_of start_tag
    end_tag is_qname character_at reference_at referred fault_of state_behind events_of tree_of_events is_utf8 chars encode_utf8 is_char is_white_space
    is_name_start is_name_char
read_as limits bytes = document limits bytes

abbrev tree_at : Limits → List ℕ → Option Forest
unfolding document first_fault settled_fault resume read beginning extent comment section is_declaration instruction attribute_at tag_inside value_of start_tag
    end_tag is_qname character_at reference_at referred fault_of state_behind events_of tree_of_events is_utf8 chars encode_utf8 is_char is_white_space
    is_name_start is_name_char
tree_at limits bytes = tree_in (document limits bytes)

-- what an input tells and its fault, read in two pieces
abbrev events_in_two : Limits → List ℕ → List ℕ → List Event
unfolding document first_fault settled_fault resume read beginning extent comment section is_declaration instruction attribute_at tag_inside value_of start_tag
    end_tag is_qname character_at reference_at referred fault_of state_behind events_of tree_of_events is_utf8 chars encode_utf8 is_char is_white_space
    is_name_start is_name_char
events_in_two limits bytes piece = (read_front limits bytes).events ++ (resume true limits (read_front limits bytes).stands piece).events

abbrev fault_in_two : Limits → List ℕ → List ℕ → Option XmlFault
unfolding document first_fault settled_fault resume read beginning extent comment section is_declaration instruction attribute_at tag_inside value_of start_tag
    end_tag is_qname character_at reference_at referred fault_of state_behind events_of tree_of_events is_utf8 chars encode_utf8 is_char is_white_space
    is_name_start is_name_char
fault_in_two limits bytes piece = fault_of_whole (resume true limits (read_front limits bytes).stands piece).stands

row_1 : read_as ample (codes "<a><b>x</b></a>") ≡ Ok
    (record { events = starts 0 0 ∷ starts 1 3 ∷ has_text (codes "x") 6 ∷ ends ∷ ends ∷ []; names = plain (codes "a") ∷ plain (codes "b") ∷ [] })
unfolding read_as
row_1 = refl

row_2 : tree_at ample (codes "<a><b>x</b></a>") ≡ Some
    (an_element (plain (codes "a")) [] (an_element (plain (codes "b")) [] (a_text (codes "x") no_more) no_more) no_more)
unfolding tree_at
row_2 = refl

row_3 : read_as ample (codes "<a x=\"1&amp;&#xA;\">t</a>") ≡ Ok
    (record { events = starts 0 0 ∷ has_attribute 1 (codes "1&\n") ∷ has_text (codes "t") 19 ∷ ends ∷ []; names = plain (codes "a") ∷ plain (codes "x") ∷ [] })
unfolding read_as
row_3 = refl

row_4 : read_as ample (codes "<a>x<!--c-->y</a>") ≡ Ok (record { events = starts 0 0 ∷ has_text (codes "xy") 3 ∷ ends ∷ []; names = plain (codes "a") ∷ [] })
unfolding read_as
row_4 = refl

row_5 : read_as ample (codes "<a><![CDATA[]]>\r\n<![CDATA[<\r]]>&#xD;</a>") ≡ Ok
    (record { events = starts 0 0 ∷ has_text (codes "\n<\n\r") 15 ∷ ends ∷ []; names = plain (codes "a") ∷ [] })
unfolding read_as
row_5 = refl

row_6 : read_as ample (codes "<a b=\"\t&#9;\r\n\"/>") ≡ Ok
    (record { events = starts 0 0 ∷ has_attribute 1 (codes " \t ") ∷ ends ∷ []; names = plain (codes "a") ∷ plain (codes "b") ∷ [] })
unfolding read_as
row_6 = refl

row_7 : read_as ample (codes "<a xmlns=\"u\" b=\"\"><p:b xmlns:p=\"u\" p:b=\"\"/><c xmlns=\"\"/></a>") ≡ Ok
    (record {
      events = starts 0 0 ∷ has_attribute 1 [] ∷ starts 2 18 ∷ has_attribute 2 [] ∷ ends ∷ starts 3 43 ∷ ends ∷ ends ∷ [];
      names =
          in_space (codes "u") (codes "a") ∷ plain (codes "b") ∷ in_space (codes "u") (codes "b") ∷ plain (codes "c") ∷ [];
    })
unfolding read_as
row_7 = refl

row_8 : read_as ample (((0xEF ∷ 0xBB ∷ 0xBF ∷ [])) ++
    ((codes "<?xml version='1.0' encoding=\"utf-8\"?> <a>") ++ (((0xE2 ∷ 0x82 ∷ 0xAC ∷ [])) ++ (codes "</a>")))) ≡ Ok
    (record { events = starts 0 42 ∷ has_text (0x20AC ∷ []) 45 ∷ ends ∷ []; names = plain (codes "a") ∷ [] })
unfolding read_as
row_8 = refl

row_9 : first ample (codes "<a>&#x20AC;]]></a>") ≡ fault BadMarkup 11
unfolding first
row_9 = refl

row_10 : first ample ((codes "<a>") ++ (((0xED ∷ 0xA0 ∷ 0x80 ∷ [])) ++ (codes "</a>"))) ≡ fault NotUtf8 3
unfolding first
row_10 = refl

row_11 : first ample ((codes "<a>") ++ (((0xEF ∷ 0xBF ∷ 0xBE ∷ [])) ++ (codes "</a>"))) ≡ fault BadChar 3
unfolding first
row_11 = refl

row_12 : first ample (codes "<!DOCTYPE a><a/>") ≡ fault Doctype 0
unfolding first
row_12 = refl

row_13 : first ample (codes "<a/><?xml version=\"1.0\"?>") ≡ fault BadDeclaration 4
unfolding first
row_13 = refl

row_14 : first ample (codes "<a b=\"&x;\" c/>") ≡ fault BadMarkup 0
unfolding first
row_14 = refl

row_15 : first ample (codes "<a b=\"&#xD800;\"/>") ≡ fault BadReference 0
unfolding first
row_15 = refl

row_16 : first ample (codes "<a/>&#x20;") ≡ fault TextOutside 4
unfolding first
row_16 = refl

row_17 : first ample (codes "<p:a xmlns:p=\"u\" xmlns:q=\"u\"></q:a>") ≡ fault Mismatched 29
unfolding first
row_17 = refl

row_18 : first ample (codes "<a/><b/>") ≡ fault SecondRoot 4
unfolding first
row_18 = refl

row_19 : first ample (codes "<a xmlns:p=\"\"/>") ≡ fault BadNamespace 0
unfolding first
row_19 = refl

row_20 : first ample (codes "<a p:b=\"\" p:b=\"\"/>") ≡ fault UndeclaredPrefix 0
unfolding first
row_20 = refl

row_21 : first ample (codes "<a xmlns:p=\"u\" xmlns:q=\"u\" p:x=\"\" q:x=\"\"/>") ≡ fault DuplicateAttribute 0
unfolding first
row_21 = refl

row_22 : first small (codes "<a b=\"\" c=\"\" xmlns=\"\"/>") ≡ fault TooManyAttributes 0
unfolding first
row_22 = refl

row_23 : first small (codes "<abcdefghi>") ≡ fault NameTooLong 0
unfolding first
row_23 = refl

row_24 : first small (codes "<a><b><c>") ≡ fault TooDeep 6
unfolding first
row_24 = refl

row_25 : first small (codes "<a b=\"\"><a c=\"\"/><d/>") ≡ fault TooManyNames 17
unfolding first
row_25 = refl

row_26 : first small (codes "<a b=\"\"><a/>x<!---->y<a/>") ≡ fault TooManyNodes 21
unfolding first
row_26 = refl

row_27 : first small (codes "<a/>                           ]x") ≡ fault TextOutside 31
unfolding first
row_27 = refl

row_28 : first small (codes "<a/>                           \r\n") ≡ fault TooLong 32
unfolding first
row_28 = refl

row_29 : first ample [] ≡ fault NoRoot 0
unfolding first
row_29 = refl

row_30 : first ample (codes "<a>&#x20") ≡ fault Truncated 8
unfolding first
row_30 = refl

row_31 : first ample (codes "<!--->") ≡ fault Truncated 6
unfolding first
row_31 = refl

row_32 : settled ample (codes "<a/>]") ≡ None
unfolding settled
row_32 = refl

row_33 : settled ample (codes "<a/>]]") ≡ None
unfolding settled
row_33 = refl

row_34 : settled ample (codes "<a/>]x") ≡ fault TextOutside 4
unfolding settled
row_34 = refl

row_35 : settled ample (codes "<a>&foo") ≡ None
unfolding settled
row_35 = refl

row_36 : events_in_two ample ((codes "<a>") ++ ((0xE2 ∷ 0x82 ∷ []))) (((0xAC ∷ [])) ++ (codes "\r\n]</a>")) ≡ starts 0 0 ∷ has_text (0x20AC ∷ []) 3 ∷ has_text
    (0xA ∷ []) 6 ∷ has_text (0x5D ∷ []) 8 ∷ ends ∷ []
unfolding events_in_two
row_36 = refl

row_37 : fault_in_two ample (codes "<a>\r") (codes "\n]]></a>") ≡ fault BadMarkup 5
unfolding fault_in_two
row_37 = refl

row_38 : fault_in_two ample (codes "<a>&#x20AC;]") (codes "]></a>") ≡ fault BadMarkup 11
unfolding fault_in_two
row_38 = refl
