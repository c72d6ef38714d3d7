-- Sets of nodes by whether a node is in the one and in the other.
use Rattle.std.specs.Prelude.{Bool, true, false, not, ◌&&◌, ◌||◌}
use Rattle.xpath_tokens.specs.declared.token.Operator.{Operator}
use Rattle.xpath_tokens.specs.declared.token.Operator.TheVariants as o

abbrev pub is_in_both : Operator → Bool → Bool → Bool
is_in_both o.Intersect a b = a && b
is_in_both o.Except a b = a && not b
is_in_both _ a b = a || b

-- what is wanted is being in the other, or not being there
abbrev pub is_wanted : Bool → Bool → Bool
is_wanted true b = b
is_wanted false b = not b
