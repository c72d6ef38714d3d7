-- Small values on which the definitions are tried, with their items written out.
use Rattle.std.specs.Prelude.{◌≡◌, ℕ, true, false, [], ◌∷◌, Some, None, codes, refl}
use Rattle.std.proofs.Common.{lit≤}
use Rattle.std.specs.Fmt.{digits}
use lib.Utf8.{encode}
use Rattle.json_text.specs.Json.{nothing, a_text, a_number, an_array, an_object}
use Rattle.json_text.specs.Layout.{short_escape, character_text}
use Rattle.json_reading.specs.declared.item.ItemKind.TheVariants.{Object, Array, Text, Number}
use Rattle.json_reading.specs.declared.item.Span.{Span}
use Rattle.read_back_laws.specs.Items.{are_scalars, item, items_of}
use Rattle.read_back_laws.specs.Saying.{Say}

abbrev plain : ℕ → ℕ → Span
plain at end = record { at = at; end = end; escaped = false }

abbrev escaped : ℕ → ℕ → Span
escaped at end = record { at = at; end = end; escaped = true }

number_alone : items_of (a_number None 120 nothing) ≡ item Number None (plain 0 3) 0 ∷ []
unfolding encode digits
number_alone = refl

-- { LF SP SP "a" : SP 1 LF }
one_member : items_of (an_object None (a_number (Some (codes "a")) 1 nothing) nothing)
    ≡ item Object None (plain 0 12) 1 ∷ item Number (Some (plain 4 7)) (plain 9 10) 0 ∷ []
unfolding encode digits short_escape character_text
one_member = refl

-- [ LF SP SP "\n" , LF SP SP "é" LF ]
two_texts : items_of (an_array None (a_text None (0xA ∷ []) (a_text None (0xE9 ∷ []) nothing)) nothing)
    ≡ item Array None (plain 0 18) 2 ∷ item Text None (escaped 4 8) 0 ∷ item Text None (plain 12 16) 0 ∷ []
unfolding encode short_escape character_text
two_texts = refl

-- { LF SP SP "b\"" : SP [ LF SP SP SP SP { } , LF SP SP SP SP 7 LF SP SP ] , LF SP SP "c" : SP [ ] LF }
nested : items_of (an_object None
    (an_array (Some (codes "b\"")) (an_object None nothing (a_number None 7 nothing))
    (an_array (Some (codes "c")) nothing nothing)) nothing)
    ≡ item Object None (plain 0 43) 4
    ∷ item Array (Some (escaped 4 9)) (plain 11 30) 2
    ∷ item Object None (plain 17 19) 0
    ∷ item Number None (plain 25 26) 0
    ∷ item Array (Some (plain 34 37)) (plain 39 41) 0
    ∷ []
unfolding encode digits short_escape character_text
nested = refl

-- what the items of a text say
said : Say (codes "[\n  7\n]\n") (item Array None (plain 0 7) 1 ∷ item Number None (plain 4 5) 0 ∷ []) (an_array None (a_number None 7 nothing) nothing)
unfolding digits
said = (
  record { kind = refl; named = tt; inside = lit≤ tt },
  ((record { kind = refl; named = tt; value = refl; inside = refl }, refl), refl),
)

no_scalar : are_scalars (an_array None (a_text None (0xD800 ∷ []) nothing) nothing) ≡ false
no_scalar = refl
