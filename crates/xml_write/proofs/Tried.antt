-- Small documents on which the definitions are tried.
use Rattle.std.specs.Prelude.{◌≡◌, List, [], ◌∷◌, ◌++◌, codes, map, encode_utf8_all, refl, ℕ}
use lib.Utf8.{encode}
use Rattle.inv_base.specs.Tree.{Forest, no_more, a_text, an_element, Name, Attribute}
use Rattle.xml_write.specs.declared.pen.PenState.TheVariants.{Fresh}
use Rattle.xml_write.specs.Escapes.{in_text, in_value}
use Rattle.xml_write.specs.Canonical.{Declaration, declaration_line, canonical_text}
use Rattle.xml_write.specs.Calls.{calls_of, appended_by_all, encoded}

abbrev named : List ℕ → List ℕ → Name
named uri local = record { uri = uri; local = local }

abbrev given : Name → List ℕ → Attribute
given name value = record { name = name; value = value }

-- the default namespace is u, and c stands for v and then for u
abbrev declared : List Declaration
declared = record { prefix = []; uri = codes "u" } ∷ record { prefix = codes "c"; uri = codes "v" } ∷ record { prefix = codes "d"; uri = codes "u" } ∷ []

-- attributes in no namespace, in v, u and one that isn't declared, with each character that a value escapes
abbrev attributes : List Attribute
attributes =
    given (named [] (codes "k")) (codes "&<>\"'" ++ 9 ∷ 10 ∷ 13 ∷ [])
    ∷ given (named (codes "v") (codes "l")) []
    ∷ given (named (codes "u") (codes "m")) (codes "1")
    ∷ given (named (codes "w") (codes "n")) (codes "2") ∷ []

-- elements in u, v, one that isn't declared and none, without children, with an empty text and with two texts
abbrev document : Forest
document =
    an_element (named (codes "u") (codes "a")) attributes
    (a_text (codes "&<>\"'" ++ 9 ∷ 10 ∷ 13 ∷ 0xE9 ∷ 0x20AC ∷ [])
    (an_element (named (codes "v") (codes "b")) [] no_more
    (an_element (named (codes "w") (codes "e")) [] (a_text [] no_more)
    (an_element (named [] (codes "f")) (given (named [] (codes "o")) [] ∷ []) (a_text [] (a_text (codes "x") (a_text (codes "y") no_more))) no_more)))) no_more

document-canonical : canonical_text declared document
    ≡ codes "<?xml version=\"1.0\" encoding=\"UTF-8\"?>" ++
    10 ∷ (codes "<a xmlns=\"u\" xmlns:c=\"v\" xmlns:d=\"u\" k=\"&amp;&lt;&gt;&quot;'&#x9;&#xA;&#xD;\" c:l=\"\" d:m=\"1\" n=\"2\">"
    ++ (codes "&amp;&lt;&gt;\"'" ++ 9 ∷ 10 ∷ (codes "&#xD;" ++ 0xE9 ∷ 0x20AC ∷ codes "<c:b/><e/><f o=\"\">xy</f></a>") ++ 10 ∷ []))
unfolding in_text in_value declaration_line
document-canonical = refl

document-calls : appended_by_all Fresh (map encoded (calls_of declared document)) ≡ encode_utf8_all (canonical_text declared document)
unfolding in_text in_value declaration_line encode
document-calls = refl

childless : canonical_text [] (an_element (named [] (codes "a")) [] no_more no_more) ≡ codes "<?xml version=\"1.0\" encoding=\"UTF-8\"?>" ++
    10 ∷ (codes "<a/>" ++ 10 ∷ [])
unfolding declaration_line
childless = refl
