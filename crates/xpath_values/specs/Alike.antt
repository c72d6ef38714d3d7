-- Lists whose members are all of one sort, and what they are as that sort.
use Rattle.std.specs.Prelude.{ℕ, ℤ, pos, Bool, true, false, List, [], ◌∷◌, map, Result, Ok, Err}
use Rattle.std.specs.declared.cmp.Ordering.{Ordering}
use Rattle.std.specs.Ordering.{is_lt, is_gt}
use Rattle.inv_base.specs.Tree.{Node}
use Rattle.xpath_items.specs.declared.item.Item.{Item}
use Rattle.xpath_items.specs.declared.item.Item.TheVariants as i
use Rattle.xpath_items.specs.declared.outcome.DynError.{DynError}
use Rattle.xpath_items.specs.declared.outcome.DynError.TheVariants as e
use Rattle.xpath_meaning.specs.Values.{Value, then_}
use Rattle.xpath_meaning.specs.Items.{text_of}
use Rattle.xpath_meaning.specs.Collections.{all_taken, summand, summed}
use Rattle.xpath_meaning.specs.Texts.{with_separator}
use Rattle.xpath_meaning.specs.Functions.{text_argument, text}

abbrev pub is_text : Item → Bool
is_text (i.String s) = true
is_text (i.Untyped s) = true
is_text _ = false

-- the characters of a string or an untyped text
abbrev pub text_in : Item → List ℕ
text_in (i.String s) = s
text_in (i.Untyped s) = s
text_in _ = []

abbrev pub is_number : Item → Bool
is_number (i.Number z) = true
is_number _ = false

abbrev pub number_in : Item → ℤ
number_in (i.Number z) = z
number_in _ = pos 0

-- which of two goes before, for the greatest and for the least
abbrev pub goes_before : Bool → Ordering → Bool
goes_before true = is_gt
goes_before false = is_lt

-- the text of an argument of `concat`: none or one item
abbrev pub one_text : List Node → List Item → Result (List ℕ) DynError
one_text nodes [] = Ok []
one_text nodes (x ∷ []) = Ok (text_of nodes x)
one_text nodes (x ∷ (y ∷ items)) = Err e.XPTY0004

-- the texts with the text argument between them
abbrev pub joined_by : List Node → List Item → List Item → Value
joined_by nodes texts y = then_ (text_argument nodes y) (λ separator. text (with_separator separator (map text_in texts)))

-- the sum of items that are read
abbrev pub sum_of : List Item → Result ℤ DynError
sum_of read = then_ (all_taken summand read) (λ numbers. summed (pos 0) numbers)
