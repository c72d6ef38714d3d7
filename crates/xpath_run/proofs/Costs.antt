-- How many turns are still to come.
use Rattle.std.proofs.Common.{ℕ, suc, ◌+◌, List, [], ◌∷◌, length, take, drop, Ok, Err}
use Rattle.inv_base.specs.Tree.{Node}
use Rattle.xpath_grammar.specs.declared.operators.Binder.{Binder}
use Rattle.xpath_items.specs.declared.item.Item.{Item}
use Rattle.xpath_items.specs.declared.outcome.Focus.{Focus}
use Rattle.xpath_meaning.specs.Values.{Value}
use Rattle.xpath_meaning.specs.Resolving.{Operand, bound_all}
use Rattle.xpath_meaning.specs.Meaning.{Context, inside, mean}
use Rattle.xpath_parts.specs.declared.dynamic.DynamicContext.{DynamicContext}
use Rattle.xpath_parts.specs.Contexts.{context}
use Rattle.xpath_parts.specs.Turns.{join, no_turns}

-- the sum of what the items come to, with one for each
abbrev pub total : {X : Type 0} → (X → ℕ) → List X → ℕ
total f [] = 0
total f (x ∷ xs) = suc (f x) + total f xs

-- of the items of a value
abbrev pub total_of : (Item → ℕ) → Value → ℕ
total_of f (Ok items) = total f items
total_of f (Err error) = 0

-- how many turns there are inside, where the last part is the one that the variables are for
abbrev pub cost : List Node → List Operand → Context → ℕ
cost nodes [] c = 0
cost nodes (part ∷ []) c = 0
cost nodes (part ∷ (next ∷ parts)) c = total_of (λ item. cost nodes (next ∷ parts) (inside c item)) (mean nodes part.1 c)

-- where the turns of the k-th variable are taken
abbrev pub level : DynamicContext → Focus → List Item → ℕ → ℕ → Context
level dynamic focus bound height k = context dynamic focus (take (height + k) bound)

-- how many turns are still to come of the items of each variable, the innermost first
abbrev pub costs : List Node → List Operand → (ℕ → Context) → List (List Item) → ℕ
costs nodes inner at [] = 0
costs nodes inner at (items ∷ around) = total (λ item. cost nodes (drop (length around) inner) (inside (at (length around)) item)) items + costs nodes inner at
    around

-- what the turns come to that are still to be taken
abbrev pub turns_onto : Binder → (Item → Value) → List Item → Value → Value
turns_onto binder f [] behind = behind
turns_onto binder f (item ∷ items) behind = join binder (f item) (turns_onto binder f items behind)

abbrev pub to_come : Binder → List Node → List Operand → (ℕ → Context) → List (List Item) → Value
to_come binder nodes inner at [] = no_turns binder
to_come binder nodes inner at (items ∷ around) =
    turns_onto binder (λ item. mean nodes (bound_all binder (drop (length around) inner)) (inside (at (length around)) item)) items
    (to_come binder nodes inner at around)
