-- The meaning of an expression: its value in a document, at a focus, with values of variables (XPath 2.0, section 3).
use Rattle.std.specs.Prelude.{ℕ, ◌==◌, Bool, true, false, List, [], ◌∷◌, length, Option, Some, None, Result, Ok}
use Rattle.std.specs.Str.{bytes_eq}
use Rattle.inv_base.specs.Tree.{Node}
use Rattle.xpath_tokens.specs.declared.token.Operator.{Operator}
use Rattle.xpath_tokens.specs.declared.token.Operator.TheVariants as o
use Rattle.xpath_grammar.specs.Comparisons.{comparison_of}
use Rattle.xpath_grammar.specs.declared.operators.Op.{Op}
use Rattle.xpath_grammar.specs.declared.operators.Binder.{Binder}
use Rattle.xpath_grammar.specs.declared.operators.Binder.TheVariants as b
use Rattle.xpath_items.specs.declared.item.Item.{Item}
use Rattle.xpath_items.specs.declared.item.Item.TheVariants as i
use Rattle.xpath_items.specs.declared.outcome.DynError.{DynError}
use Rattle.xpath_items.specs.declared.outcome.Focus.{Focus}
use Rattle.xpath_meaning.specs.Values.{Value, then_, one, joined, each}
use Rattle.xpath_meaning.specs.Items.{atomised, truth}
use Rattle.xpath_meaning.specs.Reading.{cast_by}
use Rattle.xpath_meaning.specs.Numbers.{arithmetic, signed, range_of}
use Rattle.xpath_meaning.specs.Comparing.{compared, any_of, all_of, boolean}
use Rattle.xpath_meaning.specs.Functions.{call}
use Rattle.xpath_meaning.specs.Steps.{root_of, step_from, in_document_order, filtered_by, path, set_of}
use Rattle.xpath_meaning.specs.Expressions as x
use Rattle.xpath_meaning.specs.Expressions.{Exp, Exps}

-- What an expression is evaluated in: the focus, the items of the variables that are bound around it, the innermost
-- first, and the values of those that are declared outside, of which the last of a name counts.
pub record Context : Type 0 where
  pub focus : Focus
  pub bound : List Item
  pub outer : List (List ℕ × Value)

-- the same at an item, which is one of several
abbrev pub at : Context → Item → ℕ → ℕ → Context
at c item position last = record c { focus = record { item = item; position = position; last = last } }

-- the same inside one variable more
abbrev pub inside : Context → Item → Context
inside c item = record c { bound = item ∷ c.bound }

-- Variables

-- the item of the variable that is bound inside so many others
abbrev pub bound_at : ℕ → List Item → List Item
bound_at height [] = []
bound_at height (item ∷ around) = elim (height == length around) [ true ↦ item ∷ [] | false ↦ bound_at height around ]

abbrev pub value_or : Value → Option Value → Value
value_or other None = other
value_or other (Some value) = value

-- the value of the last variable of the name, and none where there is none
abbrev pub last_of : List ℕ → List (List ℕ × Value) → Option Value
last_of name [] = None
last_of name (variable ∷ behind) = elim (last_of name behind) [
  | Some value ↦ Some value
  | None ↦ elim (bytes_eq name variable.0) [ true ↦ Some variable.1 | false ↦ None ]
]

abbrev pub outer_value : List ℕ → List (List ℕ × Value) → Value
outer_value name variables = value_or (Ok []) (last_of name variables)

-- Operators that take the values of both operands first

abbrev pub is_set_operator : Operator → Bool
is_set_operator o.Bar = true
is_set_operator o.Union = true
is_set_operator o.Intersect = true
is_set_operator o.Except = true
is_set_operator _ = false

abbrev pub is_range_operator : Operator → Bool
is_range_operator o.To = true
is_range_operator _ = false

abbrev pub of_values : List Node → Option Op → Operator → List Item → List Item → Value
of_values nodes (Some op) operator xs ys = compared op (atomised nodes xs) (atomised nodes ys)
of_values nodes None operator xs ys = elim (is_set_operator operator) [
  | true ↦ set_of nodes operator xs ys
  | false ↦ elim (is_range_operator operator) [
    | true ↦ range_of (atomised nodes xs) (atomised nodes ys)
    | false ↦ arithmetic operator (atomised nodes xs) (atomised nodes ys)
  ]
]

abbrev pub operated : List Node → Operator → List Item → List Item → Value
operated nodes operator xs ys = of_values nodes (comparison_of operator) operator xs ys

-- the truth of a value (section 2.4.3)
abbrev pub truth_of : Value → Result Bool DynError
truth_of value = then_ value truth

-- `for`, `some` and `every` (sections 3.7 and 3.9)
abbrev pub bound_by : Binder → (Item → Value) → List Item → Value
bound_by b.For body items = each body items
bound_by b.Some body items = boolean (any_of (λ item. truth_of (body item)) items)
bound_by b.Every body items = boolean (all_of (λ item. truth_of (body item)) items)

-- Literals, variables, `.` and calls are those of section 3.1, steps, predicates and paths those of 3.2, `,` and sets
-- of 3.3, arithmetic of 3.4, comparisons of 3.5, `and` and `or` of 3.6, `for` of 3.7, `if` of 3.8, `some` and `every`
-- of 3.9, casts of 3.10. `and` and `or` end at the first operand that decides, `if` takes one branch; every other
-- operator takes the values of all its operands first.
abbrev mutual
  -- the value of an expression in a document of these nodes
  pub mean : List Node → Exp → Context → Value
  mean nodes (x.text s) c = one (i.String s)
  mean nodes (x.number z) c = one (i.Number z)
  mean nodes x.nothing c = Ok []
  mean nodes x.the_item c = one c.focus.item
  mean nodes x.the_root c = root_of c.focus.item
  mean nodes (x.variable height) c = Ok (bound_at height c.bound)
  mean nodes (x.outer name) c = outer_value name c.outer
  mean nodes (x.axis_step axis test) c = step_from nodes axis test c.focus.item
  mean nodes (x.filtered e predicate) c = then_ (mean nodes e c) (filtered_by (λ item position last. mean nodes predicate (at c item position last)))
  mean nodes (x.stepped e) c = then_ (mean nodes e c) (λ items. Ok (in_document_order nodes items))
  mean nodes (x.slash e step) c = then_ (mean nodes e c) (path nodes (λ item position last. mean nodes step (at c item position last)))
  mean nodes (x.comma e f) c = joined (mean nodes e c) (mean nodes f c)
  mean nodes (x.both e f) c = then_ (truth_of (mean nodes e c))
      (λ holds. elim holds [ true ↦ boolean (truth_of (mean nodes f c)) | false ↦ boolean (Ok false) ])
  mean nodes (x.either e f) c = then_ (truth_of (mean nodes e c))
      (λ holds. elim holds [ true ↦ boolean (Ok true) | false ↦ boolean (truth_of (mean nodes f c)) ])
  mean nodes (x.operated operator e f) c = then_ (mean nodes e c) (λ xs. then_ (mean nodes f c) (λ ys. operated nodes operator xs ys))
  mean nodes (x.signed signs e) c = then_ (mean nodes e c) (λ items. signed signs (atomised nodes items))
  mean nodes (x.chosen condition e f) c = then_ (truth_of (mean nodes condition c)) (λ holds. elim holds [ true ↦ mean nodes e c | false ↦ mean nodes f c ])
  mean nodes (x.bound binder e body) c = then_ (mean nodes e c) (bound_by binder (λ item. mean nodes body (inside c item)))
  mean nodes (x.cast word type optional e) c = then_ (mean nodes e c) (λ items. cast_by nodes word type optional (atomised nodes items))
  mean nodes (x.called function arguments) c = then_ (means nodes arguments c) (call nodes function c.focus)

  -- the values of arguments, or the first error
  pub means : List Node → Exps → Context → Result (List (List Item)) DynError
  means nodes x.no_more c = Ok []
  means nodes (x.argument e arguments) c = then_ (mean nodes e c) (λ value. then_ (means nodes arguments c) (λ values. Ok (value ∷ values)))

-- At the top the focus is a node, the only one.
abbrev pub at_top : ℕ → List (List ℕ × Value) → Context
at_top n outer = record { focus = record { item = i.Node n; position = 1; last = 1 }; bound = []; outer = outer }
