-- Patterns, production by production (XSLT 2.0, section 5.5.2, in a subset: no `id` and `key`), and which expressions they are.
use Rattle.std.specs.Prelude.{Bool, true, false, ◌&&◌, List, [], ◌∷◌, ◌++◌, Some, ◌≡◌, IsTrue}
use Rattle.xpath_tokens.specs.declared.token.Operator.{Operator}
use Rattle.xpath_tokens.specs.declared.token.Operator.TheVariants as o
use Rattle.xpath_tokens.specs.declared.token.Token.{Token}
use Rattle.xpath_tokens.specs.declared.token.Token.TheVariants as t
use Rattle.xpath_grammar.specs.declared.step.Axis.TheVariants as a
use Rattle.xpath_grammar.specs.declared.step.AxisForm.{AxisForm}
use Rattle.xpath_grammar.specs.declared.step.AxisForm.TheVariants as w
use Rattle.xpath_grammar.specs.declared.step.Test.{Test}
use Rattle.xpath_grammar.specs.declared.operators.Production.TheVariants as p
use Rattle.xpath_grammar.specs.declared.pattern.PatternKind.{PatternKind}
pub use Rattle.xpath_grammar.specs.declared.pattern.PatternKind.TheVariants.{Step as step, Path as path, Union as union, Other as other}
use Rattle.xpath_grammar.specs.Grammar as g
use Rattle.xpath_grammar.specs.Grammar.{Leaf, Form, Label, Tree, Parts}
use Rattle.xpath_grammar.specs.Productions.{Is, Predicates, expr}

-- the axes of patterns: `child`, `attribute`, or none written
abbrev pub is_pattern_axis : AxisForm → Bool
is_pattern_axis w.Unwritten = true
is_pattern_axis w.At = true
is_pattern_axis (w.Written a.Child) = true
is_pattern_axis (w.Written a.Attribute) = true
is_pattern_axis (w.Written _) = false

-- PatternStep ::= ("child" "::" | "attribute" "::" | "@")? Test Predicate*
pub data IsStep : List Token → Tree → Type 0 where
  a_step : (axis : AxisForm) (test : Test) → IsTrue (is_pattern_axis axis) → IsStep (g.axis_tokens axis ++ g.test_tokens test) (g.leaf (g.step axis test))
  filtered : (axis : AxisForm) (test : Test) (b c : List Token) (y : Tree) (xs : Parts) → IsTrue (is_pattern_axis axis) → Is expr b y → Predicates c xs
      → IsStep ((g.axis_tokens axis ++ g.test_tokens test) ++ (t.LeftBracket ∷ (b ++ (t.RightBracket ∷ c))))
      (g.node g.filter (g.more g.first (g.leaf (g.step axis test)) (g.more g.predicate y xs)))

-- (("/" | "//") PatternStep)*
pub data Steps : List Token → Parts → Type 0 where
  no_steps : Steps [] g.none
  more_steps : (operator : Operator) (a b : List Token) (x : Tree) (xs : Parts) → g.production_of operator ≡ Some p.Path → IsStep a x → Steps b xs →
      Steps (t.Operator operator ∷ (a ++ b)) (g.more (g.link operator) x xs)

-- One ::= "/" Relative? | "//" Relative | Relative, Relative ::= PatternStep (("/" | "//") PatternStep)*
pub data IsPath : List Token → Tree → Type 0 where
  the_root : IsPath (t.Operator o.Slash ∷ []) (g.leaf g.root)
  from_root : (operator : Operator) (a b : List Token) (x : Tree) (xs : Parts) → g.production_of operator ≡ Some p.Path → IsStep a x → Steps b xs
      → IsPath (t.Operator operator ∷ (a ++ b)) (g.node (g.chain p.Path) (g.more (g.link operator) x xs))
  one_step : (a : List Token) (x : Tree) → IsStep a x → IsPath a x
  many_steps : (operator : Operator) (a b c : List Token) (x y : Tree) (xs : Parts) → IsStep a x → g.production_of operator ≡ Some p.Path → IsStep b y →
      Steps c xs
      → IsPath (a ++ (t.Operator operator ∷ (b ++ c))) (g.node (g.chain p.Path) (g.more g.first x (g.more (g.link operator) y xs)))

-- ("|" One)*
pub data Paths : List Token → Parts → Type 0 where
  no_paths : Paths [] g.none
  more_paths : (a b : List Token) (x : Tree) (xs : Parts) → IsPath a x → Paths b xs → Paths (t.Operator o.Bar ∷ (a ++ b)) (g.more (g.link o.Bar) x xs)

-- Pattern ::= One ("|" One)*
pub data IsPattern : List Token → Tree → Type 0 where
  one_path : (a : List Token) (x : Tree) → IsPath a x → IsPattern a x
  many_paths : (a b c : List Token) (x y : Tree) (xs : Parts) → IsPath a x → IsPath b y → Paths c xs
      → IsPattern (a ++ (t.Operator o.Bar ∷ (b ++ c))) (g.node (g.chain p.Union) (g.more g.first x (g.more (g.link o.Bar) y xs)))

-- What an expression is as a pattern, from what its parts are

abbrev pub leaf_kind : Leaf → PatternKind
leaf_kind (g.step axis test) = elim (is_pattern_axis axis) [ true ↦ step | false ↦ other ]
leaf_kind g.root = path
leaf_kind _ = other

abbrev pub is_step : PatternKind → Bool
is_step step = true
is_step _ = false

abbrev pub is_path : PatternKind → Bool
is_path step = true
is_path path = true
is_path _ = false

abbrev pub is_pattern_kind : PatternKind → Bool
is_pattern_kind other = false
is_pattern_kind _ = true

-- `union` is no `|`
abbrev pub is_bar : Label → Bool
is_bar (g.link o.Union) = false
is_bar _ = true

abbrev pub when : Bool → PatternKind → PatternKind
when true kind = kind
when false kind = other

-- by the first part's kind, and whether all parts are steps, or are paths with `|` between them
abbrev pub node_kind : Form → PatternKind → Bool → Bool → PatternKind
node_kind g.filter first steps paths = when (is_step first) step
node_kind (g.chain p.Path) first steps paths = when steps path
node_kind (g.chain p.Union) first steps paths = when paths union
node_kind _ first steps paths = other

unfoldable mutual
  pub kind_of : Tree → PatternKind
  kind_of (g.leaf x) = leaf_kind x
  kind_of (g.node form parts) = node_kind form (first_kind parts) (all_steps parts) (all_paths parts)

  pub first_kind : Parts → PatternKind
  first_kind g.none = other
  first_kind (g.more label x parts) = kind_of x

  pub all_steps : Parts → Bool
  all_steps g.none = true
  all_steps (g.more label x parts) = is_step (kind_of x) && all_steps parts

  pub all_paths : Parts → Bool
  all_paths g.none = true
  all_paths (g.more label x parts) = is_path (kind_of x) && (is_bar label && all_paths parts)

abbrev pub is_pattern : Tree → Bool
is_pattern x = is_pattern_kind (kind_of x)
