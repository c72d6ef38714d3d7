-- Expressions as trees, and which tokens spell which (XPath 2.0, appendix A.1, in a subset).
use Rattle.std.specs.Prelude.{ℕ, suc, Bool, true, false, ◌&&◌, ◌||◌, not, List, [], ◌∷◌, ◌++◌, Option, Some, None, codes, is_none, max, ◌≡◌, ◌≤◌, IsTrue}
use Rattle.std.specs.Prelude.{nat_eq, map}
use Rattle.std.specs.List.{list_all}
use Rattle.std.specs.Str.{bytes_eq}
use Rattle.xpath_tokens.specs.declared.token.Operator.{Operator}
use Rattle.xpath_tokens.specs.declared.token.Operator.TheVariants as o
use Rattle.xpath_tokens.specs.declared.token.Keyword.{Keyword}
use Rattle.xpath_tokens.specs.declared.token.Keyword.TheVariants as k
use Rattle.xpath_tokens.specs.declared.token.Name.{Name}
use Rattle.xpath_tokens.specs.declared.token.Name.TheVariants as n
use Rattle.xpath_tokens.specs.declared.token.Token.{Token}
use Rattle.xpath_tokens.specs.declared.token.Token.TheVariants as t
pub use Rattle.xpath_grammar.specs.declared.expr.Leaf.{Leaf}
pub use Rattle.xpath_grammar.specs.declared.expr.Form.{Form}
pub use Rattle.xpath_grammar.specs.declared.expr.Label.{Label}
-- the constructors, under the names that they have here
pub use Rattle.xpath_grammar.specs.declared.expr.Leaf.TheVariants.{Literal as literal, Number as number, Variable as variable, Context as context}
pub use Rattle.xpath_grammar.specs.declared.expr.Leaf.TheVariants.{Parent as parent, Empty as empty, Root as root, Called as called, Step as step}
pub use Rattle.xpath_grammar.specs.declared.expr.Form.TheVariants.{Chain as chain, Bound as bound, Conditional as conditional, Cast as cast, Signs as signs}
pub use Rattle.xpath_grammar.specs.declared.expr.Form.TheVariants.{Filter as filter, Parentheses as parens, Call as call}
pub use Rattle.xpath_grammar.specs.declared.expr.Label.TheVariants.{First as first, Link as link, Comma as comma, Binding as binding, Condition as condition}
pub use Rattle.xpath_grammar.specs.declared.expr.Label.TheVariants.{Then as then_, Signed as signed, Predicate as predicate, Again as again, Opened as opened}
pub use Rattle.xpath_grammar.specs.declared.expr.Label.TheVariants.{Calling as calling}
use Rattle.xpath_grammar.specs.declared.step.Axis.{Axis}
use Rattle.xpath_grammar.specs.declared.step.Axis.TheVariants as a
use Rattle.xpath_grammar.specs.declared.step.AxisForm.{AxisForm}
use Rattle.xpath_grammar.specs.declared.step.AxisForm.TheVariants as w
use Rattle.xpath_grammar.specs.declared.step.KindTest.{KindTest}
use Rattle.xpath_grammar.specs.declared.step.KindTest.TheVariants as q
use Rattle.xpath_grammar.specs.declared.step.Test.{Test}
use Rattle.xpath_grammar.specs.declared.step.Test.TheVariants as e
use Rattle.xpath_grammar.specs.declared.operators.Production.{Production}
use Rattle.xpath_grammar.specs.declared.operators.Production.TheVariants as p
use Rattle.xpath_grammar.specs.declared.operators.CastWord.{CastWord}
use Rattle.xpath_grammar.specs.declared.operators.CastWord.TheVariants as c
use Rattle.xpath_grammar.specs.declared.operators.Binder.{Binder}
use Rattle.xpath_grammar.specs.declared.operators.Binder.TheVariants as b

-- Words that are names in other places

-- the first value that the word names
abbrev pub named_in : {X : Type 0} → (X → List ℕ) → List X → List ℕ → Option X
named_in word [] s = None
named_in word (x ∷ xs) s = elim (bytes_eq (word x) s) [ true ↦ Some x | false ↦ named_in word xs s ]

-- how an axis is written
abbrev pub axis_word : Axis → List ℕ
axis_word a.Child = codes "child"
axis_word a.Descendant = codes "descendant"
axis_word a.DescendantOrSelf = codes "descendant-or-self"
axis_word a.Itself = codes "self"
axis_word a.Attribute = codes "attribute"
axis_word a.Parent = codes "parent"
axis_word a.Ancestor = codes "ancestor"
axis_word a.AncestorOrSelf = codes "ancestor-or-self"
axis_word a.FollowingSibling = codes "following-sibling"
axis_word a.PrecedingSibling = codes "preceding-sibling"
axis_word a.Following = codes "following"
axis_word a.Preceding = codes "preceding"

abbrev pub axes : List Axis
axes = a.Child ∷ a.Descendant ∷ a.DescendantOrSelf ∷ a.Itself ∷ a.Attribute ∷ a.Parent ∷ a.Ancestor ∷ a.AncestorOrSelf
    ∷ a.FollowingSibling ∷ a.PrecedingSibling ∷ a.Following ∷ a.Preceding ∷ []

-- the axis of a name that stands before `::`
abbrev pub axis_of : Name → Option Axis
axis_of (n.Plain s) = named_in axis_word axes s
axis_of _ = None

-- how a test of a kind is written, before its parentheses
abbrev pub kind_word : KindTest → List ℕ
kind_word q.Node = codes "node"
kind_word q.Text = codes "text"
kind_word q.Element = codes "element"
kind_word q.Attribute = codes "attribute"
kind_word q.DocumentNode = codes "document-node"

abbrev pub kinds : List KindTest
kinds = q.Node ∷ q.Text ∷ q.Element ∷ q.Attribute ∷ q.DocumentNode ∷ []

-- the kind of a name that stands before `(`
abbrev pub kind_of : Name → Option KindTest
kind_of (n.Plain s) = named_in kind_word kinds s
kind_of _ = None

-- a name without `*`: of a variable, a type or a function
abbrev pub is_full : Name → Bool
is_full (n.Plain _) = true
is_full (n.Prefixed _ _) = true
is_full _ = false

-- the name of a function: a name of a kind before `(` is a test
abbrev pub is_function : Name → Bool
is_function name = is_full name && is_none (kind_of name)

-- Operators

-- how tightly a production binds, from 1 on; 2 is a single expression, 11 to 13 are `castable`, `cast` and signs, and 15 and 16
-- steps with and without predicates
abbrev pub rank_of : Production → ℕ
rank_of p.Sequence = 1
rank_of p.Or = 3
rank_of p.And = 4
rank_of p.Comparison = 5
rank_of p.Range = 6
rank_of p.Sum = 7
rank_of p.Product = 8
rank_of p.Union = 9
rank_of p.Intersection = 10
rank_of p.Path = 14

-- the production that an operator belongs to
abbrev pub production_of : Operator → Option Production
production_of o.Slash = Some p.Path
production_of o.DoubleSlash = Some p.Path
production_of o.Bar = Some p.Union
production_of o.Plus = Some p.Sum
production_of o.Minus = Some p.Sum
production_of o.Times = Some p.Product
production_of o.Equal = Some p.Comparison
production_of o.NotEqual = Some p.Comparison
production_of o.Less = Some p.Comparison
production_of o.LessOrEqual = Some p.Comparison
production_of o.Greater = Some p.Comparison
production_of o.GreaterOrEqual = Some p.Comparison
production_of o.And = Some p.And
production_of o.Or = Some p.Or
production_of o.Div = Some p.Product
production_of o.Idiv = Some p.Product
production_of o.Mod = Some p.Product
production_of o.Eq = Some p.Comparison
production_of o.Ne = Some p.Comparison
production_of o.Lt = Some p.Comparison
production_of o.Le = Some p.Comparison
production_of o.Gt = Some p.Comparison
production_of o.Ge = Some p.Comparison
production_of o.To = Some p.Range
production_of o.Union = Some p.Union
production_of o.Intersect = Some p.Intersection
production_of o.Except = Some p.Intersection
production_of _ = None

-- a production with one operator at most
abbrev pub is_single : Production → Bool
is_single p.Comparison = true
is_single p.Range = true
is_single _ = false

abbrev pub is_path : Production → Bool
is_path p.Path = true
is_path _ = false

abbrev pub rank_of_cast : CastWord → ℕ
rank_of_cast c.Castable = 11
rank_of_cast c.Cast = 12

abbrev pub is_sign : Operator → Bool
is_sign o.Plus = true
is_sign o.Minus = true
is_sign _ = false

-- Trees

-- an expression, as a node with its parts in order, each behind what leads to it
mutual
  pub data Tree : Type 0 where
    leaf : Leaf → Tree
    node : Form → Parts → Tree

  pub data Parts : Type 0 where
    none : Parts
    more : Label → Tree → Parts → Parts

-- What is written

abbrev pub axis_tokens : AxisForm → List Token
axis_tokens w.Unwritten = []
axis_tokens w.At = t.At ∷ []
axis_tokens (w.Written axis) = t.Name (n.Plain (axis_word axis)) ∷ t.DoubleColon ∷ []

abbrev pub test_tokens : Test → List Token
test_tokens (e.Name name) = t.Name name ∷ []
test_tokens e.Star = t.Star ∷ []
test_tokens (e.Kind kind) = t.Name (n.Plain (kind_word kind)) ∷ t.LeftParenthesis ∷ t.RightParenthesis ∷ []

abbrev pub leaf_tokens : Leaf → List Token
leaf_tokens (literal s) = t.Literal s ∷ []
leaf_tokens (number x) = t.Number x ∷ []
leaf_tokens (variable name) = t.Dollar ∷ t.Name name ∷ []
leaf_tokens context = t.Dot ∷ []
leaf_tokens parent = t.DoubleDot ∷ []
leaf_tokens empty = t.LeftParenthesis ∷ t.RightParenthesis ∷ []
leaf_tokens root = t.Operator o.Slash ∷ []
leaf_tokens (called name) = t.Name name ∷ t.LeftParenthesis ∷ t.RightParenthesis ∷ []
leaf_tokens (step form test) = axis_tokens form ++ test_tokens test

abbrev pub binder_keyword : Binder → Keyword
binder_keyword b.For = k.For
binder_keyword b.Some = k.Some
binder_keyword b.Every = k.Every

abbrev pub lead_token : Option Binder → Token
lead_token (Some binder) = t.Keyword (binder_keyword binder)
lead_token None = t.Comma

abbrev pub label_tokens : Label → List Token
label_tokens first = []
label_tokens (link operator) = t.Operator operator ∷ []
label_tokens comma = t.Comma ∷ []
label_tokens (binding lead name) = lead_token lead ∷ t.Dollar ∷ t.Name name ∷ t.Operator o.In ∷ []
label_tokens condition = t.Keyword k.If ∷ t.LeftParenthesis ∷ []
label_tokens then_ = t.RightParenthesis ∷ t.Operator o.Then ∷ []
label_tokens (signed operators) = map t.Operator operators
label_tokens predicate = t.LeftBracket ∷ []
label_tokens again = t.RightBracket ∷ t.LeftBracket ∷ []
label_tokens opened = t.LeftParenthesis ∷ []
label_tokens (calling name) = t.Name name ∷ t.LeftParenthesis ∷ []

abbrev pub cast_operator : CastWord → Operator
cast_operator c.Cast = o.Cast
cast_operator c.Castable = o.Castable

abbrev pub question : Bool → List Token
question true = t.Question ∷ []
question false = []

-- what stands behind the last part
abbrev pub closing : Form → List Token
closing (cast word type optional) = t.Operator (cast_operator word) ∷ t.Operator o.As ∷ t.Name type ∷ question optional
closing filter = t.RightBracket ∷ []
closing parens = t.RightParenthesis ∷ []
closing call = t.RightParenthesis ∷ []
closing _ = []

unfoldable mutual
  -- the tokens of an expression
  pub written : Tree → List Token
  written (leaf x) = leaf_tokens x
  written (node form parts) = parts_written parts ++ closing form

  pub parts_written : Parts → List Token
  parts_written none = []
  parts_written (more label x parts) = label_tokens label ++ (written x ++ parts_written parts)

-- What may stand where

abbrev pub rank_of_form : Form → ℕ
rank_of_form (chain production) = rank_of production
rank_of_form (bound binder) = 2
rank_of_form conditional = 2
rank_of_form (cast word type optional) = rank_of_cast word
rank_of_form signs = 13
rank_of_form filter = 15
rank_of_form parens = 16
rank_of_form call = 16

abbrev pub rank_of_leaf : Leaf → ℕ
rank_of_leaf root = 14
rank_of_leaf _ = 16

abbrev pub rank : Tree → ℕ
rank (leaf x) = rank_of_leaf x
rank (node form parts) = rank_of_form form

abbrev pub place_in_conditional : Label → ℕ
place_in_conditional condition = 1
place_in_conditional _ = 2

abbrev pub place_in_filter : Label → ℕ
place_in_filter first = 16
place_in_filter _ = 1

-- the least rank of a part behind the label
abbrev pub place : Form → Label → ℕ
place (chain production) label = suc (rank_of production)
place (bound binder) label = 2
place conditional label = place_in_conditional label
place (cast word type optional) label = suc (rank_of_cast word)
place signs label = 14
place filter label = place_in_filter label
place parens label = 1
place call label = 2

abbrev pub is_first : Label → Bool
is_first first = true
is_first _ = false

-- the production that a label belongs to between operands
abbrev pub production_of_label : Label → Option Production
production_of_label (link operator) = production_of operator
production_of_label comma = Some p.Sequence
production_of_label _ = None

abbrev pub is_production : Production → Option Production → Bool
is_production x None = false
is_production x (Some y) = nat_eq (rank_of x) (rank_of y)

abbrev pub joins : Production → Label → Bool
joins production label = is_production production (production_of_label label)

abbrev pub is_same_binder : Binder → Binder → Bool
is_same_binder b.For b.For = true
is_same_binder b.Some b.Some = true
is_same_binder b.Every b.Every = true
is_same_binder _ _ = false

-- the word before the expression that the bound variables are for
abbrev pub is_body_word : Binder → Operator → Bool
is_body_word b.For o.Return = true
is_body_word b.Some o.Satisfies = true
is_body_word b.Every o.Satisfies = true
is_body_word _ _ = false

abbrev pub begins_chain : Production → Label → Bool
begins_chain production first = true
begins_chain production (link operator) = is_path production && joins production (link operator)
begins_chain production _ = false

abbrev pub begins_bound : Binder → Label → Bool
begins_bound binder (binding (Some word) name) = is_same_binder binder word && is_full name
begins_bound binder _ = false

abbrev pub goes_on_bound : Binder → Label → Label → Bool
goes_on_bound binder (binding lead x) (binding None name) = is_full name
goes_on_bound binder (binding lead x) (link operator) = is_body_word binder operator
goes_on_bound binder _ _ = false

abbrev pub is_else : Operator → Bool
is_else o.Else = true
is_else _ = false

abbrev pub goes_on_conditional : Label → Label → Bool
goes_on_conditional condition then_ = true
goes_on_conditional then_ (link operator) = is_else operator
goes_on_conditional _ _ = false

abbrev pub is_condition : Label → Bool
is_condition condition = true
is_condition _ = false

abbrev pub is_signs : Label → Bool
is_signs (signed (x ∷ xs)) = list_all is_sign (x ∷ xs)
is_signs _ = false

abbrev pub goes_on_filter : Label → Label → Bool
goes_on_filter first predicate = true
goes_on_filter predicate again = true
goes_on_filter again again = true
goes_on_filter _ _ = false

abbrev pub is_opened : Label → Bool
is_opened opened = true
is_opened _ = false

abbrev pub is_calling : Label → Bool
is_calling (calling name) = is_function name
is_calling _ = false

abbrev pub is_comma : Label → Bool
is_comma comma = true
is_comma _ = false

-- the label may lead to the first part
abbrev pub begins : Form → Label → Bool
begins (chain production) label = begins_chain production label
begins (bound binder) label = begins_bound binder label
begins conditional label = is_condition label
begins (cast word type optional) label = is_first label && is_full type
begins signs label = is_signs label
begins filter label = is_first label
begins parens label = is_opened label
begins call label = is_calling label

-- the label may lead to a part behind one that another led to
abbrev pub goes_on : Form → Label → Label → Bool
goes_on (chain production) before label = joins production label && (not (is_single production) || is_first before)
goes_on (bound binder) before label = goes_on_bound binder before label
goes_on conditional before label = goes_on_conditional before label
goes_on (cast word type optional) before label = false
goes_on signs before label = false
goes_on filter before label = goes_on_filter before label
goes_on parens before label = false
goes_on call before label = is_comma label

abbrev pub is_link : Label → Bool
is_link (link operator) = true
is_link _ = false

-- the part to which the label led may be the last
abbrev pub ends : Form → Label → Bool
ends (chain production) label = not (is_first label)
ends (bound binder) label = is_link label
ends conditional label = is_link label
ends filter label = not (is_first label)
ends _ label = true

-- the same, where before the first part there is no label
abbrev pub follows : Form → Option Label → Label → Bool
follows form None label = begins form label
follows form (Some before) label = goes_on form before label

abbrev pub finished : Form → Option Label → Bool
finished form None = false
finished form (Some label) = ends form label

abbrev pub fits : Leaf → Bool
fits (variable name) = is_full name
fits (called name) = is_function name
fits _ = true

unfoldable mutual
  -- each part stands where it may
  pub Grammatical : Tree → Type 0
  Grammatical (leaf x) = IsTrue (fits x)
  Grammatical (node form parts) = Runs form None parts

  -- the parts that are left, behind the last label
  pub Runs : Form → Option Label → Parts → Type 0
  Runs form before none = IsTrue (finished form before)
  Runs form before (more label x parts) = IsTrue (follows form before label) × (place form label ≤ rank x) × Grammatical x × Runs form (Some label) parts

-- The tokens spell the expression.
pub record Spells (tokens : List Token) (x : Tree) : Type 0 where
  pub text : tokens ≡ written x
  pub grammatical : Grammatical x

unfoldable mutual
  -- how many levels an expression has
  pub level : Tree → ℕ
  level (leaf x) = 1
  level (node form parts) = suc (deepest parts)

  pub deepest : Parts → ℕ
  deepest none = 0
  deepest (more label x parts) = max (level x) (deepest parts)
