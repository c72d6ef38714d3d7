-- Which expressions are those of patterns.
use Rattle.std.specs.Prelude.{Bool, true, false, ◌&&◌, Option, Some, None}
use Rattle.inv_base.specs.Tree.{Name}
use Rattle.xpath_tokens.specs.declared.token.Operator.{Operator}
use Rattle.xpath_tokens.specs.declared.token.Operator.TheVariants as o
use Rattle.xpath_grammar.specs.declared.step.Axis.{Axis}
use Rattle.xpath_grammar.specs.declared.step.Axis.TheVariants as a
use Rattle.xpath_meaning.specs.Expressions as x
use Rattle.xpath_meaning.specs.Expressions.{Exp, NodeTest}

-- From a node it leads to that node, its attributes and what is inside it.
abbrev pub is_downward : Axis → Bool
is_downward a.Child = true
is_downward a.Attribute = true
is_downward a.Descendant = true
is_downward a.DescendantOrSelf = true
is_downward a.Itself = true
is_downward _ = false

-- a step of a pattern, with its predicates
abbrev pub is_step : Exp → Bool
is_step x.nothing = true
is_step (x.axis_step axis test) = is_downward axis
is_step (x.filtered e predicate) = is_step e
is_step (x.stepped e) = is_step e
is_step _ = false

abbrev pub is_bar : Operator → Bool
is_bar o.Bar = true
is_bar _ = false

-- Paths with `|` between them, each of steps alone or of steps from the root on
abbrev pub is_pattern : Exp → Bool
is_pattern x.the_root = true
is_pattern x.nothing = true
is_pattern (x.axis_step axis test) = is_downward axis
is_pattern (x.filtered e predicate) = is_step e
is_pattern (x.stepped e) = is_step e
is_pattern (x.slash e step) = is_pattern e && is_step step
is_pattern (x.operated operator e f) = is_bar operator && (is_pattern e && is_pattern f)
is_pattern _ = false

-- the full name that a step to children looks for
abbrev pub child_test : Axis → NodeTest → Option Name
child_test a.Child (x.named name) = Some name
child_test _ _ = None

-- the full name, where the pattern is such a step without predicates
abbrev pub alone : Exp → Option Name
alone (x.axis_step axis test) = child_test axis test
alone (x.stepped e) = alone e
alone _ = None
