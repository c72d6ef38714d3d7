-- The built-in rule file as a document.
use Rattle.std.specs.Prelude.{◌≡◌, List, [], ◌∷◌, Ok, codes, refl}
use Rattle.std.specs.Str.{is_utf8, chars}
use Rattle.std.specs.Char.{encode_utf8}
use Rattle.inv_base.specs.Characters.{is_char, is_white_space, is_name_start, is_name_char}
use Rattle.inv_base.specs.Tree.{Name}
use Rattle.xml_events.specs.Events.{Event, starts, has_attribute, has_text, ends}
use Rattle.xml_state.specs.Sizes.{document_limits}
use Rattle.xml_tokens.specs.Encoding.{character_at}
use Rattle.xml_tokens.specs.References.{referred, reference_at}
use Rattle.xml_tokens.specs.WrittenNames.{is_qname}
use Rattle.xml_tokens.specs.Markup.{comment, section, is_declaration, instruction}
use Rattle.xml_tokens.specs.Tags.{attribute_at, tag_inside, value_of, start_tag, end_tag}
use Rattle.xml_tokens.specs.Beginnings.{extent, beginning}
use Rattle.xml_state.specs.States.{state_behind, events_of}
use Rattle.xml_state.specs.Admission.{fault_of}
use Rattle.xml_profile.specs.TokenByToken.{read, resume}
use Rattle.xml_profile.specs.Profile.{document, first_fault}
use Rattle.trial_run.specs.Trials.{rule_text}

abbrev pub rule_events : List Event
rule_events =
    starts 0 0
    ∷ has_attribute 1 (codes "xslt2")
    ∷ has_text (codes "\n") 74
    ∷ starts 2 75
    ∷ has_attribute 3 (codes "cac")
    ∷ has_attribute 4 (codes "urn:oasis:names:specification:ubl:schema:xsd:CommonAggregateComponents-2")
    ∷ ends
    ∷ has_text (codes "\n") 172
    ∷ starts 2 173
    ∷ has_attribute 3 (codes "cbc")
    ∷ has_attribute 4 (codes "urn:oasis:names:specification:ubl:schema:xsd:CommonBasicComponents-2")
    ∷ ends
    ∷ has_text (codes "\n") 266
    ∷ starts 5 267
    ∷ starts 6 276
    ∷ has_attribute 7 (codes "cac:InvoiceLine")
    ∷ has_text (codes "\n") 308
    ∷ starts 8 309
    ∷ has_attribute 9 (codes "xs:decimal(cbc:LineExtensionAmount) = cbc:InvoicedQuantity * cac:Price/cbc:PriceAmount")
    ∷ has_text (codes "\nThe net amount of a line is its quantity times its price.") 411
    ∷ ends
    ∷ has_text (codes "\n") 478
    ∷ starts 10 479
    ∷ has_attribute 9 (codes "cbc:ID = count(//cac:InvoiceLine)")
    ∷ has_text (codes "This is the last line.") 528
    ∷ ends
    ∷ has_text (codes "\n") 559
    ∷ ends
    ∷ ends
    ∷ ends
    ∷ []

abbrev pub rule_names : List Name
rule_names =
    record { uri = (codes "http://purl.oclc.org/dsdl/schematron"); local = (codes "schema") }
    ∷ record { uri = []; local = (codes "queryBinding") }
    ∷ record { uri = (codes "http://purl.oclc.org/dsdl/schematron"); local = (codes "ns") }
    ∷ record { uri = []; local = (codes "prefix") }
    ∷ record { uri = []; local = (codes "uri") }
    ∷ record { uri = (codes "http://purl.oclc.org/dsdl/schematron"); local = (codes "pattern") }
    ∷ record { uri = (codes "http://purl.oclc.org/dsdl/schematron"); local = (codes "rule") }
    ∷ record { uri = []; local = (codes "context") }
    ∷ record { uri = (codes "http://purl.oclc.org/dsdl/schematron"); local = (codes "assert") }
    ∷ record { uri = []; local = (codes "test") }
    ∷ record { uri = (codes "http://purl.oclc.org/dsdl/schematron"); local = (codes "report") }
    ∷ []

pub text-read : document document_limits rule_text ≡ Ok (record { events = rule_events; names = rule_names })
unfolding rule_text document first_fault resume read beginning extent comment section is_declaration instruction attribute_at tag_inside value_of start_tag
    end_tag is_qname character_at reference_at referred fault_of state_behind events_of is_utf8 chars encode_utf8 is_char is_white_space is_name_start
    is_name_char
text-read = refl
