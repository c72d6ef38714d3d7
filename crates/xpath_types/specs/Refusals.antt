-- Refusals, and the first of them: the one at the least token, and there the first in the order of the kinds.
use Rattle.std.specs.Prelude.{ℕ, Bool, ◌&&◌, ◌||◌, List, [], ◌∷◌, Option, Some, None, nat_lt, nat_eq, if◌then◌else◌}
use Rattle.xpath_types.specs.declared.fault.TypeKind.{TypeKind}
use Rattle.xpath_types.specs.declared.fault.TypeKind.TheVariants as r
pub use Rattle.xpath_types.specs.declared.refusals.Refusal.{Refusal}

abbrev pub order : TypeKind → ℕ
order r.UndeclaredPrefix = 0
order r.UndeclaredVariable = 1
order r.UnknownFunction = 2
order r.UnknownType = 3
order r.WrongArity = 4
order r.NotLiteral = 5
order r.BadPattern = 6
order r.PatternTooLarge = 7
order r.SureTypeError = 8

abbrev pub is_before : Refusal → Refusal → Bool
is_before a b = nat_lt a.token b.token || (nat_eq a.token b.token && nat_lt (order a.kind) (order b.kind))

abbrev pub earlier : Option Refusal → Refusal → Option Refusal
earlier None refusal = Some refusal
earlier (Some first) refusal = if is_before refusal first then Some refusal else Some first

-- the first of the refusals and one before them
abbrev pub first_of : Option Refusal → List Refusal → Option Refusal
first_of first [] = first
first_of first (refusal ∷ others) = first_of (earlier first refusal) others
