-- The items of a text: its values in their order, with their places.
use Rattle.std.specs.Prelude.{◌≡◌, ℕ, ◌+◌, ◌≤◌, Bool, true, false, List, [], ◌∷◌, ◌++◌, length, Option, Some, None}
use Rattle.json_reading.specs.declared.item.Item.{Item}
use Rattle.json_reading.specs.declared.item.ItemKind.{ItemKind}
use Rattle.json_reading.specs.declared.item.ItemKind.TheVariants as kinds
use Rattle.json_reading.specs.declared.item.Span.{Span}
use Rattle.json_reading.specs.Reading.{span}
use Rattle.json_grammar.specs.Strings.{Piece, quoted, has_escape}
use Rattle.json_grammar.specs.Numbers.{number_text}
use Rattle.json_grammar.specs.Grammar.{Word, true_word, false_word, null_word, word_text, Name, name_text, Value, word, number, string, array, object}
use Rattle.json_grammar.specs.Grammar.{Elements, no_more, element, comma_text, value_text, Text, mark_text, text_bytes, is_text, depth}

abbrev pub item : ItemKind → Option Span → Span → ℕ → Item
item kind name value inside = record { kind = kind; name = name; value = value; inside = inside }

abbrev pub string_span : ℕ → List Piece → Span
string_span at pieces = record { at = at; end = at + length (quoted pieces); escaped = has_escape pieces }

abbrev pub name_span : ℕ → Option Name → Option Span
name_span at (Some n) = Some (string_span at n.pieces)
name_span at None = None

abbrev pub word_kind : Word → ItemKind
word_kind true_word = kinds.True
word_kind false_word = kinds.False
word_kind null_word = kinds.Null

-- where a name begins, if there is one, and where a value does: what stands before them begins at the place
abbrev pub name_at : ℕ → Bool → List ℕ → List ℕ → ℕ
name_at at first comma space = at + length (comma_text first comma) + length space

abbrev pub value_at : ℕ → Bool → List ℕ → List ℕ → Option Name → ℕ
value_at at first comma space name = name_at at first comma space + length (name_text name)

-- the items of a value that begins at a place and has a name there, and of what stands inside an array or object from a place on
abbrev mutual
  pub value_items : ℕ → Option Span → Value → List Item
  value_items at name (word w) = item (word_kind w) name (span at (at + length (word_text w))) 0 ∷ []
  value_items at name (number n) = item kinds.Number name (span at (at + length (number_text n))) 0 ∷ []
  value_items at name (string pieces) = item kinds.Text name (string_span at pieces) 0 ∷ []
  value_items at name (array es) =
      let within = elements_items (at + 1) true es in
      item kinds.Array name (span at (at + length (value_text (array es)))) (length within) ∷ within
  value_items at name (object es) =
      let within = elements_items (at + 1) true es in
      item kinds.Object name (span at (at + length (value_text (object es)))) (length within) ∷ within

  pub elements_items : ℕ → Bool → Elements → List Item
  elements_items at first (no_more space) = []
  elements_items at first (element comma space name value rest) =
      let begin = value_at at first comma space name in
      value_items begin (name_span (name_at at first comma space) name) value ++ elements_items (begin + length (value_text value)) false rest

abbrev pub text_items : Text → List Item
text_items t = value_items (length (mark_text t.mark) + length t.before) None t.value

-- The bytes are a text of the grammar, with these items, and no more arrays and objects are inside one another in it.
pub record Derives (deepest : ℕ) (bytes : List ℕ) (items : List Item) : Type 0 where
  pub text : Text
  pub made : is_text text ≡ true
  pub shallow : depth text.value ≤ deepest
  pub spelled : text_bytes text ≡ bytes
  pub told : text_items text ≡ items
