-- Values: sequences of items, or one error (XPath 2.0, sections 2.3 and 2.4).
use Rattle.std.specs.Prelude.{List, [], ◌∷◌, ◌++◌, Result, Ok, Err}
use Rattle.xpath_items.specs.declared.item.Item.{Item}
use Rattle.xpath_items.specs.declared.outcome.DynError.{DynError}
use Rattle.xpath_items.specs.declared.outcome.Outcome.{Outcome}
use Rattle.xpath_items.specs.declared.outcome.Outcome.TheVariants as o

-- the items in their order, or the first error
abbrev pub Value : Type 0
Value = Result (List Item) DynError

-- A value of the program is one of these.
abbrev pub value : Outcome → Value
value (o.Value items) = Ok items
value (o.Error error) = Err error

abbrev pub outcome : Value → Outcome
outcome (Ok items) = o.Value items
outcome (Err error) = o.Error error

-- what comes of it, unless it is an error
abbrev pub then_ : {X Y : Type 0} → Result X DynError → (X → Result Y DynError) → Result Y DynError
then_ (Ok x) next = next x
then_ (Err error) next = Err error

-- a value of one item
abbrev pub one : Item → Value
one item = Ok (item ∷ [])

-- one value behind the other, the first one's error first
abbrev pub joined : Value → Value → Value
joined xs ys = then_ xs (λ front. then_ ys (λ behind. Ok (front ++ behind)))

-- the values of the members, one behind the other
abbrev pub each : {X : Type 0} → (X → Value) → List X → Value
each f [] = Ok []
each f (x ∷ xs) = joined (f x) (each f xs)
