-- Small texts on which the definitions are tried: how they are spelled, their items, and parts that the grammar doesn't have.
use Rattle.std.specs.Prelude.{◌≡◌, ℕ, true, false, List, [], ◌∷◌, Some, None, codes, refl}
use lib.Utf8.{encode}
use Rattle.json_reading.specs.declared.item.ItemKind.TheVariants as kinds
use Rattle.json_reading.specs.declared.item.Span.{Span}
use Rattle.json_grammar.specs.Strings.{Piece, unescaped, short, long, is_piece, quoted}
use Rattle.json_grammar.specs.Numbers.{Number, number_text, is_number}
use Rattle.json_grammar.specs.Grammar.{word, number, array, object, Elements, no_more, element, null_word, false_word, Text, text_bytes, is_text}
use Rattle.json_grammar.specs.Items.{item, text_items}

abbrev space : List ℕ
space = 0x20 ∷ []

abbrev plain : ℕ → ℕ → Span
plain at end = record { at = at; end = end; escaped = false }

abbrev escaped : ℕ → ℕ → Span
escaped at end = record { at = at; end = end; escaped = true }

-- a minus, a fraction and an exponent
abbrev long_number : Number
long_number = record {
  minus = true;
  whole = codes "0";
  fraction = Some (codes "50");
  power = Some (record { letter = 0x45; sign = Some 0x2B; digits = codes "07" });
}

numbers : (number_text long_number ≡ codes "-0.50E+07") × (is_number long_number ≡ true)
    × (is_number (record { minus = false; whole = codes "01"; fraction = None; power = None }) ≡ false)
    × (is_number (record { minus = true; whole = []; fraction = None; power = None }) ≡ false)
    × (is_number (record { minus = false; whole = codes "1"; fraction = Some []; power = None }) ≡ false)
    × (is_number (record { minus = false; whole = codes "1"; fraction = None; power = Some (record { letter = 0x65; sign = None; digits = [] }) }) ≡ false)
numbers = (refl, refl, refl, refl, refl, refl)

abbrev some_pieces : List Piece
some_pieces = unescaped 0xE9 ∷ short 0x6E ∷ long 0x44 0x38 0x33 0x64 ∷ []

strings : (quoted some_pieces ≡ 0x22 ∷ 0xC3 ∷ 0xA9 ∷ codes "\\n\\uD83d\"")
    × (is_piece (unescaped 0x22) ≡ false)
    × (is_piece (unescaped 0x1F) ≡ false)
    × (is_piece (unescaped 0xD800) ≡ false)
    × (is_piece (short 0x61) ≡ false)
    × (is_piece (long 0x30 0x30 0x30 0x67) ≡ false)
unfolding encode
strings = (refl, refl, refl, refl, refl, refl)

-- an object with two members, white space in front of almost everything
abbrev inner : Elements
inner = element [] space None (number long_number) (element space [] None (word null_word) (no_more space))

abbrev members : Elements
members =
    element [] [] (Some (record { pieces = unescaped 0x61 ∷ []; before = space; behind = [] })) (array inner)
    (element [] [] (Some (record { pieces = short 0x22 ∷ []; before = []; behind = space })) (object (no_more space)) (no_more []))

abbrev text : Text
text = record { mark = false; before = 0xA ∷ []; value = object members; behind = space }

spelled : text_bytes text ≡ 0xA ∷ codes "{\"a\" :[ -0.50E+07 ,null ],\"\\\"\": { }} "
unfolding encode
spelled = refl

made : is_text text ≡ true
made = refl

told : text_items text
    ≡ item kinds.Object None (plain 1 37) 4
    ∷ item kinds.Array (Some (plain 2 5)) (plain 7 26) 2
    ∷ item kinds.Number None (plain 9 18) 0
    ∷ item kinds.Null None (plain 20 24) 0
    ∷ item kinds.Object (Some (escaped 27 31)) (plain 33 36) 0
    ∷ []
unfolding encode
told = refl

-- an item with a name, and a member without one
misplaced : (is_text (record { mark = false; before = []; value = object inner; behind = [] }) ≡ false)
    × (is_text (record { mark = false; before = []; value = array members; behind = [] }) ≡ false)
    × (is_text (record { mark = false; before = codes "x"; value = word false_word; behind = [] }) ≡ false)
misplaced = (refl, refl, refl)
