-- Operations on one item of each operand.
use Rattle.std.specs.Prelude.{List, [], ◌∷◌, Bool, not, Result, ℤ}
use Rattle.xpath_tokens.specs.declared.token.Operator.{Operator}
use Rattle.xpath_tokens.specs.declared.token.Operator.TheVariants as o
use Rattle.xpath_items.specs.declared.item.Item.{Item}
use Rattle.xpath_items.specs.declared.item.Item.TheVariants as i
use Rattle.xpath_items.specs.declared.outcome.DynError.{DynError}
use Rattle.xpath_meaning.specs.Values.{Value, then_, one}
use Rattle.xpath_meaning.specs.Numbers.{number_of, computed, number, with_numbers, with_signs}

abbrev pub calculated : Operator → Item → Item → Result ℤ DynError
calculated operator x y = then_ (number_of x) (λ a. then_ (number_of y) (λ b. computed operator a b))

abbrev pub of_two : Operator → Item → Item → Value
of_two operator x y = with_numbers (λ a b. number (computed operator a b)) x y

abbrev pub signed_one : List Operator → Item → Value
signed_one signs x = then_ (number_of x) (λ z. one (i.Number (with_signs signs z)))

-- whether the sign is turned, one sign further
abbrev pub turned_by : Bool → Operator → Bool
turned_by turned o.Minus = not turned
turned_by turned _ = turned

-- the same behind a row of signs
abbrev pub turned : Bool → List Operator → Bool
turned b [] = b
turned b (sign ∷ signs) = turned (turned_by b sign) signs
