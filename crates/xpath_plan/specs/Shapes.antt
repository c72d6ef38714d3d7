-- How the parts of an expression are run, and of which the values are kept. Each follows from what is stated of the parts before
-- they are evaluated (XPath 2.0, section 2.2.3.1).
use Rattle.std.specs.Prelude.{ℕ, Bool, true, false, ◌+◌, ◌&&◌, ◌||◌, not, List, [], ◌∷◌, ◌++◌, length, map, is_some}
use Rattle.xpath_tokens.specs.declared.token.Name.TheVariants as n
use Rattle.xpath_tokens.specs.declared.token.Operator.TheVariants as o
use Rattle.xpath_grammar.specs.declared.step.Axis.{Axis}
use Rattle.xpath_grammar.specs.declared.step.Axis.TheVariants as a
use Rattle.xpath_grammar.specs.declared.step.Test.{Test}
use Rattle.xpath_grammar.specs.declared.step.Test.TheVariants as t
use Rattle.xpath_grammar.specs.declared.expr.Leaf.{Leaf}
use Rattle.xpath_grammar.specs.declared.expr.Leaf.TheVariants as l
use Rattle.xpath_grammar.specs.declared.expr.Form.{Form}
use Rattle.xpath_grammar.specs.declared.expr.Form.TheVariants as m
use Rattle.xpath_grammar.specs.declared.expr.Label.{Label}
use Rattle.xpath_grammar.specs.declared.expr.Label.TheVariants as k
use Rattle.xpath_grammar.specs.Grammar as g
use Rattle.xpath_grammar.specs.Grammar.{Tree, Parts}
use Rattle.xpath_types.specs.declared.part.Part.{Part}
use Rattle.xpath_types.specs.Scopes.{Declared}
use Rattle.xpath_types.specs.Judging.{Environment, Judged, judged, inside, behind}
use Rattle.xpath_types.specs.Parts.{Placed, facts}
use Rattle.xpath_meaning.specs.Resolving.{axis_of, test_of}

-- by an operator on values; as a step along its axis; along the chain of the elements of its name, in the whole document or inside
-- nodes
pub data Shape : Type 0 where
  value : Shape
  step : Shape
  named : Shape
  within : Shape

-- a part's shape, and whether its value is kept, once a document
pub record Shaped : Type 0 where
  pub shape : Shape
  pub once : Bool

-- whether `//` stands before a part, and whether its path begins with that
pub data Place : Type 0 where
  apart : Place
  at_head : Place
  between : Place

-- of the first part, and of another one
abbrev pub place_of : Bool → Label → Place
place_of true (k.Link o.DoubleSlash) = at_head
place_of false (k.Link o.DoubleSlash) = between
place_of first label = apart

abbrev pub is_child : Axis → Bool
is_child a.Child = true
is_child _ = false

abbrev pub is_full_name : Test → Bool
is_full_name (t.Name (n.Plain local)) = true
is_full_name (t.Name (n.Prefixed prefix local)) = true
is_full_name _ = false

-- a step to the children of a full name
abbrev pub is_name : Leaf → Bool
is_name (l.Step form test) = is_child (axis_of form test) && is_full_name test
is_name _ = false

-- A step of a prefix that isn't bound is none.
abbrev pub is_step : Declared → Leaf → Bool
is_step declared (l.Step form test) = is_some (test_of declared test)
is_step declared l.Parent = true
is_step declared _ = false

abbrev pub is_literal : Tree → Bool
is_literal (g.leaf (l.Literal s)) = true
is_literal (g.leaf (l.Number x)) = true
is_literal _ = false

-- a step, where it is said whether it is to children of a full name and without a test of positions
abbrev pub step_shape : Place → Bool → Shape
step_shape at_head true = named
step_shape between true = within
step_shape _ _ = step

abbrev pub leaf_shape : Declared → Place → Leaf → Bool → Shape
leaf_shape declared place x free = elim (is_step declared x) [ true ↦ step_shape place (is_name x && free) | false ↦ value ]

-- It is no predicate, or one that can't be a number and uses no position.
abbrev pub is_free : Label → Part → Bool
is_free label part = g.is_first label || (not part.kinds.number && not part.uses_position)

-- of what is filtered, where it is said whether no predicate tests a position
abbrev pub filter_shape : Declared → Place → Bool → Parts → Shape
filter_shape declared place free (g.more label (g.leaf x) parts) = leaf_shape declared place x free
filter_shape declared place free _ = value

abbrev pub form_shape : Declared → Place → Bool → Form → Parts → Shape
form_shape declared place free m.Filter parts = filter_shape declared place free parts
form_shape declared place free _ parts = value

-- No predicate among the parts tests a position.
unfoldable pub all_free : Environment → Form → ℕ → Parts → Bool
all_free env form at g.none = true
all_free env form at (g.more label x parts) =
    let token : ℕ = at + length (g.label_tokens label) in
    let inner : Environment = inside form label env in
    let part : Judged = judged inner token x in
    is_free label (facts (record { environment = inner; token = token; part = x })) &&
    all_free (behind form label part.kinds env) form (token + length (g.written x)) parts

-- The part's value is kept: it is the same at all nodes, and no literal.
abbrev pub is_kept : Placed → Bool
is_kept at = (facts at).depends_on_document_alone && not (is_literal at.part)

unfoldable mutual
  -- each part, an outer one before those in it, and these in order
  pub shapes : Environment → ℕ → Place → Tree → List Shaped
  shapes env at place (g.leaf x) =
      record { shape = leaf_shape env.declared place x true; once = is_kept (record { environment = env; token = at; part = g.leaf x }) } ∷ []
  shapes env at place (g.node form parts) =
      record {
        shape = form_shape env.declared place (all_free env form at parts) form parts;
        once =
            is_kept (record { environment = env; token = at; part = g.node form parts });
      }
      ∷ shapes_inside env form at true parts

  pub shapes_inside : Environment → Form → ℕ → Bool → Parts → List Shaped
  shapes_inside env form at first g.none = []
  shapes_inside env form at first (g.more label x parts) =
      let token : ℕ = at + length (g.label_tokens label) in
      let part : Judged = judged (inside form label env) token x in
      shapes (inside form label env) token (place_of first label) x ++
      shapes_inside (behind form label part.kinds env) form (token + length (g.written x)) false parts

abbrev pub one_if : Bool → ℕ
one_if true = 1
one_if false = 0

-- how many parts are kept
abbrev pub count_kept : List Shaped → ℕ
count_kept [] = 0
count_kept (part ∷ parts) = one_if part.once + count_kept parts

abbrev pub onces : List Shaped → List Bool
onces shaped = map (λ (part : Shaped). part.once) shaped
