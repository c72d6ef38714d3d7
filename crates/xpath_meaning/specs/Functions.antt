-- The functions that expressions may call, at the values of their arguments (XQuery 1.0 and XPath 2.0 Functions and
-- Operators, in a subset). The arguments are judged and converted from left to right.
use Rattle.std.specs.Prelude.{ℕ, Bool, true, false, not, List, [], ◌∷◌, ◌++◌, length, map, reverse, Option, Some, None, Result, Ok, Err, ℤ, pos, unsigned_abs}
use Rattle.inv_base.specs.Tree.{Node, Name}
use Rattle.node_arena.specs.Moves.{tree_node}
use Rattle.inv_decimal.specs.Arithmetic as d
use Rattle.xpath_grammar.specs.declared.functions.Function.{Function}
use Rattle.xpath_grammar.specs.declared.functions.Function.TheVariants as f
use Rattle.xpath_items.specs.declared.item.Item.{Item}
use Rattle.xpath_items.specs.declared.item.Item.TheVariants as i
use Rattle.xpath_items.specs.declared.outcome.DynError.{DynError}
use Rattle.xpath_items.specs.declared.outcome.DynError.TheVariants as e
use Rattle.xpath_items.specs.declared.outcome.Focus.{Focus}
use Rattle.xpath_meaning.specs.Values.{Value, then_, one}
use Rattle.xpath_meaning.specs.Items.{text_of, atomised, truth, is_empty}
use Rattle.xpath_meaning.specs.Reading.{type_called}
use Rattle.xpath_meaning.specs.Numbers.{number_of, at_one, in_range, number, counted}
use Rattle.xpath_meaning.specs.Comparing.{boolean}
use Rattle.xpath_meaning.specs.Collections.{all_taken, sum, least, greatest, distinct}
use Rattle.xpath_meaning.specs.Texts.{begins, contains, ends, finds, before, behind, normalised, upper, lower, translated, from_place, between_places}
use Rattle.xpath_meaning.specs.Texts.{with_separator}

-- Arguments

-- a text: none is the empty one
abbrev pub text_among : List Item → Result (List ℕ) DynError
text_among [] = Ok []
text_among (i.String s ∷ []) = Ok s
text_among (i.Untyped s ∷ []) = Ok s
text_among _ = Err e.XPTY0004

abbrev pub text_argument : List Node → List Item → Result (List ℕ) DynError
text_argument nodes items = text_among (atomised nodes items)

-- exactly one number
abbrev pub one_number : List Item → Result ℤ DynError
one_number (x ∷ []) = number_of x
one_number _ = Err e.XPTY0004

abbrev pub number_argument : List Node → List Item → Result ℤ DynError
number_argument nodes items = one_number (atomised nodes items)

-- Results

abbrev pub text : List ℕ → Value
text s = one (i.String s)

abbrev pub yes_or_no : Bool → Value
yes_or_no b = one (i.Boolean b)

-- a function of a text, and of two
abbrev pub of_text : List Node → (List ℕ → Value) → List Item → Value
of_text nodes g x = then_ (text_argument nodes x) g

abbrev pub of_texts : List Node → (List ℕ → List ℕ → Value) → List Item → List Item → Value
of_texts nodes g x y = then_ (text_argument nodes x) (λ s. then_ (text_argument nodes y) (λ t. g s t))

-- a function of a number: none gives none
abbrev pub of_number : List Node → (ℤ → Value) → List Item → Value
of_number nodes g x = at_one (λ item. then_ (number_of item) g) (atomised nodes x)

-- The functions

-- `string` (section 2.3): the text of one item
abbrev pub string : List Node → List Item → Value
string nodes [] = text []
string nodes (x ∷ []) = text (text_of nodes x)
string nodes _ = Err e.XPTY0004

abbrev pub of_string : List Node → (List ℕ → Value) → Item → Value
of_string nodes g item = g (text_of nodes item)

-- `concat` (section 7.4.1): each argument none or one item
abbrev pub concatenated : List Node → List (List Item) → Result (List ℕ) DynError
concatenated nodes [] = Ok []
concatenated nodes ([] ∷ arguments) = concatenated nodes arguments
concatenated nodes ((x ∷ []) ∷ arguments) = then_ (concatenated nodes arguments) (λ s. Ok (text_of nodes x ++ s))
concatenated nodes ((x ∷ (y ∷ items)) ∷ arguments) = Err e.XPTY0004

-- `string-join` (section 7.4.2): of strings and untyped texts
abbrev pub string_in : Item → Result (List ℕ) DynError
string_in (i.String s) = Ok s
string_in (i.Untyped s) = Ok s
string_in _ = Err e.XPTY0004

abbrev pub string_join : List Node → List Item → List Item → Value
string_join nodes x y =
    then_ (all_taken string_in (atomised nodes x)) (λ texts. then_ (text_argument nodes y) (λ separator. text (with_separator separator texts)))

-- `substring` (section 7.4.3)
abbrev pub substring_from : List Node → List Item → List Item → Value
substring_from nodes x y = then_ (text_argument nodes x) (λ s. then_ (number_argument nodes y) (λ start. text (from_place s start)))

abbrev pub substring_between : List Node → List Item → List Item → List Item → Value
substring_between nodes x y z = then_ (text_argument nodes x)
    (λ s. then_ (number_argument nodes y) (λ start. then_ (number_argument nodes z) (λ count. text (between_places s start count))))

abbrev pub translate : List Node → List Item → List Item → List Item → Value
translate nodes x y z = then_ (text_argument nodes x)
    (λ s. then_ (text_argument nodes y) (λ from. then_ (text_argument nodes z) (λ to. text (translated s from to))))

-- `local-name` and `namespace-uri` (sections 14.2 and 14.3)
abbrev pub local_part : Option Name → List ℕ
local_part None = []
local_part (Some name) = name.local

abbrev pub uri_part : Option Name → List ℕ
uri_part None = []
uri_part (Some name) = name.uri

abbrev pub name_part : List Node → (Option Name → List ℕ) → List Item → Value
name_part nodes part [] = text []
name_part nodes part (i.Node n ∷ []) = text (part (tree_node nodes n).name)
name_part nodes part _ = Err e.XPTY0004

abbrev pub absolute : ℤ → ℤ
absolute z = pos (unsigned_abs z)

-- A call without arguments takes the item of the focus where its function may have one.
abbrev pub called_alone : List Node → Function → Focus → Value
called_alone nodes f.True focus = yes_or_no true
called_alone nodes f.False focus = yes_or_no false
called_alone nodes f.Position focus = counted focus.position
called_alone nodes f.Last focus = counted focus.last
called_alone nodes f.String focus = string nodes (focus.item ∷ [])
called_alone nodes f.StringLength focus = of_string nodes (λ s. counted (length s)) focus.item
called_alone nodes f.NormalizeSpace focus = of_string nodes (λ s. text (normalised s)) focus.item
called_alone nodes f.LocalName focus = name_part nodes local_part (focus.item ∷ [])
called_alone nodes f.NamespaceUri focus = name_part nodes uri_part (focus.item ∷ [])
called_alone nodes _ focus = Err e.XPTY0004

abbrev pub called_with_one : List Node → Function → List Item → Value
called_with_one nodes f.Not x = boolean (then_ (truth x) (λ b. Ok (not b)))
called_with_one nodes f.Boolean x = boolean (truth x)
called_with_one nodes f.Exists x = yes_or_no (not (is_empty x))
called_with_one nodes f.Empty x = yes_or_no (is_empty x)
called_with_one nodes f.Count x = counted (length x)
called_with_one nodes f.Reverse x = Ok (reverse x)
called_with_one nodes f.Data x = Ok (atomised nodes x)
called_with_one nodes f.String x = string nodes x
called_with_one nodes f.StringLength x = of_text nodes (λ s. counted (length s)) x
called_with_one nodes f.NormalizeSpace x = of_text nodes (λ s. text (normalised s)) x
called_with_one nodes f.UpperCase x = of_text nodes (λ s. text (map upper s)) x
called_with_one nodes f.LowerCase x = of_text nodes (λ s. text (map lower s)) x
called_with_one nodes f.Abs x = of_number nodes (λ z. one (i.Number (absolute z))) x
called_with_one nodes f.Floor x = of_number nodes (λ z. number (in_range (d.rounded_down z))) x
called_with_one nodes f.Ceiling x = of_number nodes (λ z. number (in_range (d.rounded_up z))) x
called_with_one nodes f.Round x = of_number nodes (λ z. number (in_range (d.rounded z))) x
called_with_one nodes f.Sum x = sum (atomised nodes x)
called_with_one nodes f.Min x = least (atomised nodes x)
called_with_one nodes f.Max x = greatest (atomised nodes x)
called_with_one nodes f.DistinctValues x = Ok (distinct (atomised nodes x))
called_with_one nodes f.LocalName x = name_part nodes local_part x
called_with_one nodes f.NamespaceUri x = name_part nodes uri_part x
called_with_one nodes f.XsString x = type_called nodes f.XsString (atomised nodes x)
called_with_one nodes f.XsDecimal x = type_called nodes f.XsDecimal (atomised nodes x)
called_with_one nodes f.XsInteger x = type_called nodes f.XsInteger (atomised nodes x)
called_with_one nodes f.XsDate x = type_called nodes f.XsDate (atomised nodes x)
called_with_one nodes f.XsBoolean x = type_called nodes f.XsBoolean (atomised nodes x)
called_with_one nodes _ x = Err e.XPTY0004

abbrev pub called_with_two : List Node → Function → List Item → List Item → Value
called_with_two nodes f.StringJoin x y = string_join nodes x y
called_with_two nodes f.Substring x y = substring_from nodes x y
called_with_two nodes f.Contains x y = of_texts nodes (λ s t. yes_or_no (contains s t)) x y
called_with_two nodes f.StartsWith x y = of_texts nodes (λ s t. yes_or_no (begins t s)) x y
called_with_two nodes f.EndsWith x y = of_texts nodes (λ s t. yes_or_no (ends t s)) x y
called_with_two nodes f.Matches x y = of_texts nodes (λ s t. yes_or_no (finds t s)) x y
called_with_two nodes f.SubstringBefore x y = of_texts nodes (λ s t. text (before s t)) x y
called_with_two nodes f.SubstringAfter x y = of_texts nodes (λ s t. text (behind s t)) x y
called_with_two nodes _ x y = Err e.XPTY0004

abbrev pub called_with_three : List Node → Function → List Item → List Item → List Item → Value
called_with_three nodes f.Substring x y z = substring_between nodes x y z
called_with_three nodes f.Translate x y z = translate nodes x y z
called_with_three nodes _ x y z = Err e.XPTY0004

-- by the number of arguments; numbers that a function doesn't take are refused before
abbrev pub called_with : List Node → Function → Focus → List (List Item) → Value
called_with nodes function focus [] = called_alone nodes function focus
called_with nodes function focus (x ∷ []) = called_with_one nodes function x
called_with nodes function focus (x ∷ (y ∷ [])) = called_with_two nodes function x y
called_with nodes function focus (x ∷ (y ∷ (z ∷ []))) = called_with_three nodes function x y z
called_with nodes function focus (x ∷ (y ∷ (z ∷ (u ∷ arguments)))) = Err e.XPTY0004

abbrev pub is_concat : Function → Bool
is_concat f.Concat = true
is_concat _ = false

-- the value of a call
abbrev pub call : List Node → Function → Focus → List (List Item) → Value
call nodes function focus arguments = elim (is_concat function) [
  | true ↦ then_ (concatenated nodes arguments) text
  | false ↦ called_with nodes function focus arguments
]
