-- The tree that an expression is.
use Rattle.std.specs.Prelude.{List, [], ◌∷◌, ◌++◌, map}
use Rattle.xpath_grammar.specs.Grammar as g
use Rattle.xpath_grammar.specs.Grammar.{Leaf, Form, Label, Tree, Parts}
use Rattle.xpath_grammar.specs.Machine.{Algebra}
use Rattle.xpath_grammar.specs.declared.expr.Expr.{Expr, fold-Expr}
use Rattle.xpath_grammar.specs.declared.expr.Expr.TheOpen.{Expr-F}
use Rattle.xpath_grammar.specs.declared.expr.Expr.TheVariants as e

abbrev pub parts_of : List (Label × Tree) → Parts
parts_of [] = g.none
parts_of (part ∷ parts) = g.more part.0 part.1 (parts_of parts)

-- one level, with each part already seen as its tree
abbrev pub view_step : Expr-F Tree → Tree
view_step (Expr-F.Leaf x) = g.leaf x
view_step (Expr-F.Node form parts) = g.node form (parts_of parts)

abbrev pub view : Expr → Tree
view = fold-Expr Tree view_step

-- the parts of an expression
abbrev pub viewed : List (Label × Expr) → Parts
viewed parts = parts_of (map (λ part. (part.0, view part.1)) parts)

-- expressions as the machine's values
abbrev pub expressions : Algebra Expr (List (Label × Expr))
expressions = record { leaf = e.Leaf; nothing = []; and_then = λ parts label x. parts ++ (label, x) ∷ []; node = e.Node }
