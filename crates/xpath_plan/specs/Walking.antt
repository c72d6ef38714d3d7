-- What is known of the work of an expression, by one walk over its parts beside what is stated of each: of an outer part before those in
-- it, and of these in order.
use Rattle.std.specs.Prelude.{ℕ, ◌+◌, Bool, true, false, ◌&&◌, not, List, [], ◌∷◌, length, drop}
use Rattle.xpath_grammar.specs.Grammar as g
use Rattle.xpath_grammar.specs.Grammar.{Tree, Parts}
use Rattle.xpath_grammar.specs.declared.expr.Form.{Form}
use Rattle.xpath_grammar.specs.declared.expr.Label.{Label}
use Rattle.xpath_types.specs.declared.part.Part.{Part}
use Rattle.xpath_types.specs.Judging.{labels}
use Rattle.xpath_types.specs.Scopes.{Declared}
use Rattle.xpath_meaning.specs.Resolving.{leaf_of, names_behind, begins_with_step}
use Rattle.xpath_plan.specs.declared.plan_node.Separator.{Separator}
use Rattle.xpath_plan.specs.declared.plan_node.Separator.TheVariants as l
use Rattle.xpath_plan.specs.declared.plan_node.Operation.{Operation}
use Rattle.xpath_plan.specs.declared.plan_node.Operation.TheVariants as m
use Rattle.xpath_plan.specs.Kinds.{link_of, kind_of, second_literal}
use Rattle.xpath_plan.specs.Shapes.{is_literal, is_free}
use Rattle.xpath_plan.specs.Claims.{Known, known_alone, known_node}

unfoldable mutual
  -- how many parts an expression has, itself among them
  pub size : Tree → ℕ
  size (g.leaf x) = 1
  size (g.node form parts) = 1 + sizes parts

  pub sizes : Parts → ℕ
  sizes g.none = 0
  sizes (g.more label x parts) = size x + sizes parts

-- A part of which nothing is stated isn't kept, and may test a position.
abbrev pub is_kept_by : List Part → Tree → Bool
is_kept_by [] x = false
is_kept_by (part ∷ parts) x = part.depends_on_document_alone && not (is_literal x)

abbrev pub is_free_by : List Part → Label → Bool
is_free_by [] label = false
is_free_by (part ∷ parts) label = is_free label part

unfoldable pub all_free_by : List Part → Parts → Bool
all_free_by stated g.none = true
all_free_by stated (g.more label x parts) = is_free_by stated label && all_free_by (drop (size x) stated) parts

abbrev pub kept_if : Bool → ℕ → ℕ → Known → Known
kept_if true slot height part = known_node (m.Once slot height) ((l.Other, part) ∷ [])
kept_if false slot height part = part

-- The slot of a part is behind those of the parts in it.
abbrev pub finished : List (List ℕ) → List Part → ℕ → Tree → Known → Known
finished bound stated slots x part = kept_if (is_kept_by stated x) (slots + length part.kept) (length bound) part

abbrev pub kind_in : Declared → Form → List Part → Parts → Operation
kind_in declared form stated parts = kind_of declared form (begins_with_step parts) (all_free_by stated parts) (second_literal parts) (labels parts)

unfoldable mutual
  -- inside the variables that are bound around it, with so many parts that are kept before
  pub walked : Declared → List (List ℕ) → List Part → ℕ → Tree → Known
  walked declared bound stated slots (g.leaf x) = finished bound stated slots (g.leaf x) (known_alone (leaf_of declared bound x))
  walked declared bound stated slots (g.node form parts) =
      finished bound stated slots (g.node form parts)
      (known_node (kind_in declared form (drop 1 stated) parts) (walked_inside declared bound (drop 1 stated) slots parts))

  pub walked_inside : Declared → List (List ℕ) → List Part → ℕ → Parts → List (Separator × Known)
  walked_inside declared bound stated slots g.none = []
  walked_inside declared bound stated slots (g.more label x parts) =
      let part : Known = walked declared bound stated slots x in
      (link_of label, part) ∷ walked_inside declared (names_behind label bound) (drop (size x) stated) (slots + length part.kept) parts
