-- The expressions of patterns have their shape, whatever prefixes are bound.
use Rattle.std.proofs.Common.{◌≡◌, ℕ, Bool, true, false, ◌&&◌, List, [], ◌∷◌, Option, Some, None, refl}
use Rattle.std.specs.Bool.{IsTrue}
use Rattle.std.proofs.lemmas.Bool.{and_from, false≢true}
use Rattle.xpath_tokens.specs.declared.token.Operator.{Operator}
use Rattle.xpath_tokens.specs.declared.token.Operator.TheVariants as o
use Rattle.xpath_tokens.specs.declared.token.Token.{Token}
use Rattle.xpath_grammar.specs.declared.step.Axis.{Axis}
use Rattle.xpath_grammar.specs.declared.step.Axis.TheVariants as a
use Rattle.xpath_grammar.specs.declared.step.AxisForm.{AxisForm}
use Rattle.xpath_grammar.specs.declared.step.AxisForm.TheVariants as w
use Rattle.xpath_grammar.specs.declared.step.Test.{Test}
use Rattle.xpath_grammar.specs.declared.operators.Production.TheVariants as p
use Rattle.xpath_grammar.specs.declared.expr.Label.TheVariants as k
use Rattle.xpath_grammar.specs.Grammar.{Tree, Parts, more, production_of}
use Rattle.xpath_grammar.specs.Patterns.{is_pattern_axis, IsStep, a_step, filtered, Steps, no_steps, more_steps, IsPath, the_root, from_root, one_step}
use Rattle.xpath_grammar.specs.Patterns.{many_steps, Paths, no_paths, more_paths, IsPattern, one_path, many_paths}
use Rattle.xpath_types.specs.Scopes.{Declared}
use Rattle.xpath_meaning.specs.Expressions as x
use Rattle.xpath_meaning.specs.Expressions.{Exp, NodeTest}
use Rattle.xpath_meaning.specs.Resolving.{Operand, default_axis, axis_of, is_attribute_test, test_of, step_of, in_axis_order, kept_of, linked_by, chained_on}
use Rattle.xpath_meaning.specs.Resolving.{resolved, operands}
use Rattle.xpath_marks.specs.Shapes.{is_downward, is_step, is_pattern}

default_down : (b : Bool) → is_downward (default_axis b) ≡ true
default_down true = refl
default_down false = refl

axis_down : (form : AxisForm) (test : Test) → IsTrue (is_pattern_axis form) → is_downward (axis_of form test) ≡ true
axis_down w.Unwritten test h = default_down (is_attribute_test test)
axis_down w.At test h = refl
axis_down (w.Written a.Child) test h = refl
axis_down (w.Written a.Descendant) test h = absurd (false≢true h)
axis_down (w.Written a.DescendantOrSelf) test h = absurd (false≢true h)
axis_down (w.Written a.Itself) test h = absurd (false≢true h)
axis_down (w.Written a.Attribute) test h = refl
axis_down (w.Written a.Parent) test h = absurd (false≢true h)
axis_down (w.Written a.Ancestor) test h = absurd (false≢true h)
axis_down (w.Written a.AncestorOrSelf) test h = absurd (false≢true h)
axis_down (w.Written a.FollowingSibling) test h = absurd (false≢true h)
axis_down (w.Written a.PrecedingSibling) test h = absurd (false≢true h)
axis_down (w.Written a.Following) test h = absurd (false≢true h)
axis_down (w.Written a.Preceding) test h = absurd (false≢true h)

step_is_one : (axis : Axis) (test : Option NodeTest) → is_downward axis ≡ true → is_step (step_of axis test) ≡ true
step_is_one axis None down = refl
step_is_one axis (Some test) down = down

ordered_is_one : (axis : Axis) (test : Option NodeTest) → is_downward axis ≡ true → is_step (in_axis_order (step_of axis test)) ≡ true
ordered_is_one axis None down = refl
ordered_is_one axis (Some test) down = down

kept_step : (parts : List Operand) (e : Exp) → is_step e ≡ true → is_step (kept_of e parts) ≡ true
kept_step [] e s = s
kept_step (part ∷ parts) e s = kept_step parts (x.filtered e part.1) s

pub step_pattern : (e : Exp) → is_step e ≡ true → is_pattern e ≡ true
step_pattern x.nothing s = refl
step_pattern (x.axis_step axis test) s = s
step_pattern (x.filtered e predicate) s = s
step_pattern (x.stepped e) s = s
step_pattern (x.text t) s = absurd (false≢true s)
step_pattern (x.number z) s = absurd (false≢true s)
step_pattern x.the_item s = absurd (false≢true s)
step_pattern (x.variable height) s = absurd (false≢true s)
step_pattern (x.outer name) s = absurd (false≢true s)
step_pattern (x.comma e f) s = absurd (false≢true s)
step_pattern (x.both e f) s = absurd (false≢true s)
step_pattern (x.either e f) s = absurd (false≢true s)
step_pattern (x.signed signs e) s = absurd (false≢true s)
step_pattern (x.chosen c e f) s = absurd (false≢true s)
step_pattern (x.bound binder e f) s = absurd (false≢true s)
step_pattern (x.cast word type optional e) s = absurd (false≢true s)
step_pattern (x.called function arguments) s = absurd (false≢true s)
step_pattern x.the_root s = absurd (false≢true s)
step_pattern (x.slash e f) s = absurd (false≢true s)
step_pattern (x.operated operator e f) s = absurd (false≢true s)

path_linked : (operator : Operator) (e step : Exp) → is_pattern e ≡ true → is_step step ≡ true → production_of operator ≡ Some p.Path
    → is_pattern (linked_by operator e step) ≡ true
path_linked o.Slash e step p s h = and_from (is_pattern e) (is_step step) p s
path_linked o.DoubleSlash e step p s h = and_from (is_pattern e && true) (is_step step) (and_from (is_pattern e) true p refl) s
path_linked o.Bar e step p s h = cc
path_linked o.Plus e step p s h = cc
path_linked o.Minus e step p s h = cc
path_linked o.Times e step p s h = cc
path_linked o.Equal e step p s h = cc
path_linked o.NotEqual e step p s h = cc
path_linked o.Less e step p s h = cc
path_linked o.LessOrEqual e step p s h = cc
path_linked o.Greater e step p s h = cc
path_linked o.GreaterOrEqual e step p s h = cc
path_linked o.And e step p s h = cc
path_linked o.Or e step p s h = cc
path_linked o.Div e step p s h = cc
path_linked o.Idiv e step p s h = cc
path_linked o.Mod e step p s h = cc
path_linked o.Eq e step p s h = cc
path_linked o.Ne e step p s h = cc
path_linked o.Lt e step p s h = cc
path_linked o.Le e step p s h = cc
path_linked o.Gt e step p s h = cc
path_linked o.Ge e step p s h = cc
path_linked o.To e step p s h = cc
path_linked o.Union e step p s h = cc
path_linked o.Intersect e step p s h = cc
path_linked o.Except e step p s h = cc
path_linked o.In e step p s h = cc
path_linked o.Return e step p s h = cc
path_linked o.Satisfies e step p s h = cc
path_linked o.Then e step p s h = cc
path_linked o.Else e step p s h = cc
path_linked o.Cast e step p s h = cc
path_linked o.Castable e step p s h = cc
path_linked o.As e step p s h = cc

module _ (d : Declared) (names : List (List ℕ)) where
  step_shape : (tokens : List Token) (t : Tree) → IsStep tokens t → is_step (resolved d names t) ≡ true
  unfolding resolved operands
  step_shape _ _ (a_step axis test h) = step_is_one (axis_of axis test) (test_of d test) (axis_down axis test h)
  step_shape _ _ (filtered axis test b c u ts h is ps) =
      kept_step (operands d names (more k.Predicate u ts)) (in_axis_order (step_of (axis_of axis test) (test_of d test)))
      (ordered_is_one (axis_of axis test) (test_of d test) (axis_down axis test h))

  steps_shape : (tokens : List Token) (parts : Parts) → Steps tokens parts → (e : Exp) → is_pattern e ≡ true
      → is_pattern (chained_on e (operands d names parts)) ≡ true
  unfolding resolved operands
  steps_shape _ _ no_steps e s = s
  steps_shape _ _ (more_steps operator a b t ts production step steps) e s =
      steps_shape b ts steps (linked_by operator e (resolved d names t)) (path_linked operator e (resolved d names t) s (step_shape a t step) production)

  path_shape : (tokens : List Token) (t : Tree) → IsPath tokens t → is_pattern (resolved d names t) ≡ true
  unfolding resolved operands
  path_shape _ _ the_root = refl
  path_shape _ _ (from_root operator a b t ts production step steps) = steps_shape _ _ (more_steps operator a b t ts production step steps) x.the_root refl
  path_shape _ _ (one_step a t step) = step_pattern (resolved d names t) (step_shape a t step)
  path_shape _ _ (many_steps operator a b c t u ts first production step steps) =
      steps_shape _ _ (more_steps operator b c u ts production step steps) (resolved d names t) (step_pattern (resolved d names t) (step_shape a t first))

  paths_shape : (tokens : List Token) (parts : Parts) → Paths tokens parts → (e : Exp) → is_pattern e ≡ true
      → is_pattern (chained_on e (operands d names parts)) ≡ true
  unfolding resolved operands
  paths_shape _ _ no_paths e s = s
  paths_shape _ _ (more_paths a b t ts path paths) e s =
      paths_shape b ts paths (x.operated o.Bar e (resolved d names t)) (and_from (is_pattern e) (is_pattern (resolved d names t)) s (path_shape a t path))

  pub pattern_shape : (tokens : List Token) (t : Tree) → IsPattern tokens t → is_pattern (resolved d names t) ≡ true
  unfolding resolved operands
  pattern_shape _ _ (one_path a t path) = path_shape a t path
  pattern_shape _ _ (many_paths a b c t u ts first second paths) =
      paths_shape c ts paths (x.operated o.Bar (resolved d names t) (resolved d names u))
      (and_from (is_pattern (resolved d names t)) (is_pattern (resolved d names u)) (path_shape a t first) (path_shape b u second))
