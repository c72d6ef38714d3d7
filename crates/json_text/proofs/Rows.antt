-- Small values on which the definitions are tried, with their text written out.
use Rattle.std.specs.Prelude.{◌≡◌, ℕ, true, false, List, [], ◌∷◌, ◌++◌, Option, Some, None, codes, refl}
use Rattle.std.specs.Fmt.{digits}
use Rattle.json_text.specs.Json.{Json, nothing, a_text, a_number, an_array, an_object, are_named}
use Rattle.json_text.specs.Layout.{short_escape, character_text, string_text, document}
use Rattle.json_text.specs.Calls.{fresh, appended_by_all, document_calls}

-- a line and its end
abbrev line : List ℕ → List ℕ → List ℕ
line text more = text ++ 0xA ∷ more

abbrev named : List ℕ → Option (List ℕ)
named name = Some name

empty_object : document (an_object None nothing nothing) ≡ line (codes "{}") []
empty_object = refl

empty_array : document (an_array None nothing nothing) ≡ line (codes "[]") []
empty_array = refl

text_alone : document (a_text None (codes "a b/c") nothing) ≡ line (codes "\"a b/c\"") []
unfolding short_escape character_text
text_alone = refl

number_alone : document (a_number None 0 nothing) ≡ line (codes "0") []
unfolding digits
number_alone = refl

largest_number : document (a_number None 18446744073709551615 nothing) ≡ line (codes "18446744073709551615") []
unfolding digits
largest_number = refl

-- the seven short escapes
short_escapes : string_text (0x22 ∷ 0x5C ∷ 0x8 ∷ 0xC ∷ 0xA ∷ 0xD ∷ 0x9 ∷ []) ≡ codes "\"\\\"\\\\\\b\\f\\n\\r\\t\""
unfolding short_escape character_text
short_escapes = refl

-- every other control character, in digits of 0-9a-f
long_escapes : string_text (0x0 ∷ 0x1 ∷ 0x7 ∷ 0xB ∷ 0xE ∷ 0xF ∷ 0x10 ∷ 0x1A ∷ 0x1F ∷ [])
    ≡ codes "\"\\u0000\\u0001\\u0007\\u000b\\u000e\\u000f\\u0010\\u001a\\u001f\""
unfolding short_escape character_text
long_escapes = refl

-- what stands for itself: a space, a slash, DEL, and what isn't ASCII
plain : string_text (0x20 ∷ 0x2F ∷ 0x7F ∷ 0xE9 ∷ 0x2028 ∷ 0x1F600 ∷ []) ≡ 0x22 ∷ 0x20 ∷ 0x2F ∷ 0x7F ∷ 0xE9 ∷ 0x2028 ∷ 0x1F600 ∷ 0x22 ∷ []
unfolding short_escape character_text
plain = refl

one_member : document (an_object None (a_number (named (codes "a")) 1 nothing) nothing) ≡ line (codes "{") (line (codes "  \"a\": 1") (line (codes "}") []))
unfolding short_escape character_text digits
one_member = refl

two_items : document (an_array None (a_text None [] (a_number None 20 nothing)) nothing)
    ≡ line (codes "[") (line (codes "  \"\",") (line (codes "  20") (line (codes "]") [])))
unfolding short_escape character_text digits
two_items = refl

-- objects and arrays inside one another, empty and not, with members behind them
nested : Json
nested =
    an_object None
    (an_array (named (codes "a\n")) (a_number None 1 (an_array None nothing (an_object None (an_object (named (codes "b")) nothing nothing) nothing)))
    (a_text (named (codes "c")) (codes "d")
    (an_object (named (codes "")) nothing
    (an_array (named (codes "e")) (an_array None (a_number None 7 nothing) nothing) nothing)))) nothing

nested_text : document nested
    ≡ line (codes "{")
    (line (codes "  \"a\\n\": [")
    (line (codes "    1,")
    (line (codes "    [],")
    (line (codes "    {")
    (line (codes "      \"b\": {}")
    (line (codes "    }")
    (line (codes "  ],")
    (line (codes "  \"c\": \"d\",")
    (line (codes "  \"\": {},")
    (line (codes "  \"e\": [")
    (line (codes "    [")
    (line (codes "      7")
    (line (codes "    ]")
    (line (codes "  ]")
    (line (codes "}") [])))))))))))))))
unfolding nested short_escape character_text digits
nested_text = refl

nested_named : are_named false nested ≡ true
unfolding nested
nested_named = refl

nested_calls : appended_by_all fresh (document_calls nested) ≡ document nested
unfolding nested short_escape character_text digits
nested_calls = refl
