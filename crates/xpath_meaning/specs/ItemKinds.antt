-- Of which kinds items are, and of which kinds the items of an expression's value may be.
use Rattle.std.specs.Prelude.{ℕ, Bool, true, false, ◌==◌, List, [], ◌∷◌, length, Option, Some, None, Ok, Err, ◌≡◌}
use Rattle.xpath_tokens.specs.declared.token.Operator.{Operator}
use Rattle.xpath_grammar.specs.Comparisons.{comparison_of}
use Rattle.xpath_grammar.specs.declared.operators.Op.{Op}
use Rattle.xpath_grammar.specs.declared.operators.Binder.{Binder}
use Rattle.xpath_grammar.specs.declared.operators.Binder.TheVariants as b
use Rattle.xpath_grammar.specs.declared.operators.CastWord.{CastWord}
use Rattle.xpath_grammar.specs.declared.operators.CastWord.TheVariants as c
use Rattle.xpath_grammar.specs.declared.functions.Function.{Function}
use Rattle.xpath_types.specs.declared.kinds.Kinds.{Kinds}
use Rattle.xpath_types.specs.Kinds.{no_kinds, all_kinds, nodes, booleans, numbers, strings, united}
use Rattle.xpath_types.specs.Functions.{value_kinds}
use Rattle.xpath_items.specs.declared.item.Item.{Item}
use Rattle.xpath_items.specs.declared.item.Item.TheVariants as i
use Rattle.xpath_meaning.specs.Values.{Value}
use Rattle.xpath_meaning.specs.Expressions as x
use Rattle.xpath_meaning.specs.Expressions.{Exp, Exps}
use Rattle.xpath_meaning.specs.Meaning.{Context, is_set_operator}

abbrev pub has_kind : Kinds → Item → Bool
has_kind kinds (i.Node n) = kinds.node
has_kind kinds (i.Boolean b) = kinds.boolean
has_kind kinds (i.Number z) = kinds.number
has_kind kinds (i.String s) = kinds.string
has_kind kinds (i.Untyped s) = kinds.untyped
has_kind kinds (i.Date day) = kinds.date

-- The item is of one of the kinds.
abbrev pub IsOf : Kinds → Item → Type 0
IsOf kinds item = has_kind kinds item ≡ true

abbrev pub AreOf : Kinds → List Item → Type 0
AreOf kinds [] = Unit {0}
AreOf kinds (item ∷ items) = IsOf kinds item × AreOf kinds items

abbrev pub ItemsOf : Kinds → Value → Type 0
ItemsOf kinds (Ok items) = AreOf kinds items
ItemsOf kinds (Err error) = Unit {0}

-- Each item of the value is of one of the kinds.
pub record IsValueOf (kinds : Kinds) (value : Value) : Type 0 where
  pub items : ItemsOf kinds value

-- The items of variables are of the variables' kinds, the innermost first.
abbrev pub AreBound : List Kinds → List Item → Type 0
AreBound [] [] = Unit {0}
AreBound (kinds ∷ around) (item ∷ items) = IsOf kinds item × AreBound around items
AreBound [] (item ∷ items) = ⊥
AreBound (kinds ∷ around) [] = ⊥

-- the kinds of the focus and of the variables that are bound around, the innermost first
pub record Expected : Type 0 where
  pub focus : Kinds
  pub bound : List Kinds

-- The expression is evaluated in a context of these kinds.
pub record Suits (expected : Expected) (c : Context) : Type 0 where
  pub focus : IsOf expected.focus c.focus.item
  pub bound : AreBound expected.bound c.bound

abbrev pub kinds_at : ℕ → List Kinds → Kinds
kinds_at height [] = no_kinds
kinds_at height (kinds ∷ around) = elim (height == length around) [ true ↦ kinds | false ↦ kinds_at height around ]

abbrev pub operated_kinds : Option Op → Operator → Kinds
operated_kinds (Some op) operator = booleans
operated_kinds None operator = elim (is_set_operator operator) [ true ↦ nodes | false ↦ numbers ]

abbrev pub cast_kinds : CastWord → Function → Kinds
cast_kinds c.Cast function = value_kinds function no_kinds
cast_kinds c.Castable function = booleans

abbrev pub bound_kinds : Binder → Kinds → Kinds
bound_kinds b.For kinds = kinds
bound_kinds b.Some kinds = booleans
bound_kinds b.Every kinds = booleans

abbrev mutual
  -- of which kinds the items of its value may be
  pub kinds_of : Exp → Expected → Kinds
  kinds_of (x.text s) k = strings
  kinds_of (x.number z) k = numbers
  kinds_of x.nothing k = no_kinds
  kinds_of x.the_item k = k.focus
  kinds_of x.the_root k = nodes
  kinds_of (x.variable height) k = kinds_at height k.bound
  kinds_of (x.outer name) k = all_kinds
  kinds_of (x.axis_step axis test) k = nodes
  kinds_of (x.filtered e predicate) k = kinds_of e k
  kinds_of (x.stepped e) k = kinds_of e k
  kinds_of (x.slash e step) k = kinds_of step (record k { focus = nodes })
  kinds_of (x.comma e f) k = united (kinds_of e k) (kinds_of f k)
  kinds_of (x.both e f) k = booleans
  kinds_of (x.either e f) k = booleans
  kinds_of (x.operated operator e f) k = operated_kinds (comparison_of operator) operator
  kinds_of (x.signed signs e) k = numbers
  kinds_of (x.chosen condition e f) k = united (kinds_of e k) (kinds_of f k)
  kinds_of (x.bound binder e body) k = bound_kinds binder (kinds_of body (record k { bound = kinds_of e k ∷ k.bound }))
  kinds_of (x.cast word type optional e) k = cast_kinds word type
  kinds_of (x.called function arguments) k = value_kinds function (first_kinds arguments k)

  -- those of the first argument
  pub first_kinds : Exps → Expected → Kinds
  first_kinds x.no_more k = no_kinds
  first_kinds (x.argument e arguments) k = kinds_of e k
