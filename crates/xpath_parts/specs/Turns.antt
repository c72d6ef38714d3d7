-- The turns of `for`, `some` and `every` with any number of variables, as a stack of the items that are still to be
-- taken.
use Rattle.std.specs.Prelude.{◌≡◌, ℕ, suc, ◌+◌, ◌≤◌, Bool, true, false, List, [], ◌∷◌, ◌++◌, length, reverse, take, Option, Some, None, Result, Ok, Err}
use Rattle.std.specs.declared.alloc.AllocError.{AllocError}
use Rattle.xpath_grammar.specs.declared.operators.Binder.{Binder}
use Rattle.xpath_grammar.specs.declared.operators.Binder.TheVariants as b
use Rattle.xpath_items.specs.declared.fault.Fault.{Fault}
use Rattle.xpath_items.specs.declared.fault.Fault.TheVariants as f
use Rattle.xpath_items.specs.declared.item.Item.{Item}
use Rattle.xpath_meaning.specs.Values.{Value, then_, joined}
use Rattle.xpath_meaning.specs.Comparing.{boolean}
use Rattle.xpath_meaning.specs.Meaning.{truth_of}

-- one turn's value and what comes of the turns behind it
abbrev pub join : Binder → Value → Value → Value
join b.For x behind = joined x behind
join b.Some x behind = then_ (truth_of x) (λ holds. elim holds [ true ↦ boolean (Ok true) | false ↦ behind ])
join b.Every x behind = then_ (truth_of x) (λ holds. elim holds [ true ↦ behind | false ↦ boolean (Ok false) ])

-- what comes of no turns
abbrev pub no_turns : Binder → Value
no_turns b.For = Ok []
no_turns b.Some = boolean (Ok false)
no_turns b.Every = boolean (Ok true)

-- what comes of all where a turn decides
abbrev pub decided : Binder → Value
decided b.For = Ok []
decided b.Some = boolean (Ok true)
decided b.Every = boolean (Ok false)

-- what comes of all, by the items that are out so far and what comes of the turns behind
abbrev pub after : Binder → List Item → Value → Value
after b.For out behind = then_ behind (λ items. Ok (out ++ items))
after b.Some out behind = behind
after b.Every out behind = behind

-- A turn's value is taken: it decides, or the items that are out are these.
abbrev pub Takes : Binder → List Item → List Item → Result Bool Fault → List Item → Type 0
Takes binder out items (Ok true) out' = (behind : Value) → after binder out (join binder (Ok items) behind) ≡ decided binder
Takes binder out items (Ok false) out' = (behind : Value) → after binder out (join binder (Ok items) behind) ≡ after binder out' behind
Takes binder out items (Err f.Memory) out' = Unit {0}
Takes binder out items (Err (f.Error error)) out' = (behind : Value) → after binder out (join binder (Ok items) behind) ≡ Err error

-- the next item of the items that are still to be taken of each variable, the innermost variable first, and what is to
-- be taken behind it
abbrev pub advanced : List (List Item) → Option (Item × List (List Item))
advanced [] = None
advanced ([] ∷ around) = advanced around
advanced ((item ∷ items) ∷ around) = Some (item, items ∷ around)

-- The next item is bound in its place, or there was none.
abbrev pub Advances : ℕ → List (List Item) → List Item → Result Bool AllocError → List (List Item) → List Item → Type 0
Advances height turns bound (Ok true) turns' bound' =
    (item : Item) × (k : ℕ) × (advanced (reverse turns) ≡ Some (item, reverse turns')) × (length turns' ≡ suc k) × (height + k ≤ length bound) ×
    (bound' ≡ take (height + k) bound ++ item ∷ [])
Advances height turns bound (Ok false) turns' bound' = advanced (reverse turns) ≡ None
Advances height turns bound (Err error) turns' bound' = Unit {0}

-- An item is taken from the front, if there is one.
abbrev pub TakesFirst : List Item → Option Item → List Item → Type 0
TakesFirst items None items' = items ≡ []
TakesFirst items (Some item) items' = items ≡ item ∷ items'
