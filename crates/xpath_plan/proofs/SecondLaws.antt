-- The second of two parts, where it is a literal.
use Rattle.std.proofs.Common.{◌≡◌, ℕ, List, [], ◌∷◌, Option, Some, None, length, refl, ap}
use Rattle.xpath_grammar.specs.Grammar as g
use Rattle.xpath_grammar.specs.Grammar.{Tree, Parts}
use Rattle.xpath_grammar.specs.View.{viewed}
use Rattle.xpath_grammar.specs.declared.expr.Expr.{Expr}
use Rattle.xpath_grammar.specs.declared.expr.Label.{Label}
use Rattle.xpath_grammar.specs.declared.expr.Leaf.TheVariants as l
use Rattle.xpath_types.specs.Scopes.{Declared}
use Rattle.xpath_meaning.specs.Expressions as e
use Rattle.xpath_meaning.specs.Expressions.{Exp}
use Rattle.xpath_meaning.specs.Resolving.{resolved, operands, names_behind}
use Rattle.xpath_plan.specs.Kinds.{literal, second_literal}
use Rattle.xpath_plan.proofs.MadeLaws.{IsSecond, AreSecond}

-- Only of two arguments there is a second that counts.
pub no_second : (items : List (Label × Expr)) → (length items ≡ 2 → ⊥) → second_literal (viewed items) ≡ None
no_second [] h = refl
no_second (x ∷ []) h = refl
no_second (x ∷ (y ∷ [])) h = absurd (h refl)
no_second (x ∷ (y ∷ (z ∷ items))) h = refl

-- a literal that is the second of two parts is the second of their expressions
literal-seen : (declared : Declared) (bound : List (List ℕ)) (label : Label) (x : Exp) (next : Label) (y : Tree) (text : List ℕ) → literal y ≡ Some text →
    IsSecond text ((label, x) ∷ (next, resolved declared bound y) ∷ [])
unfolding resolved
literal-seen declared bound label x next (g.leaf (l.Literal s)) text h = let same : s ≡ text = cc in ap e.text same
literal-seen declared bound label x next (g.leaf _) text h = absurd cc
literal-seen declared bound label x next (g.node form parts) text h = absurd cc

pub second-seen : (declared : Declared) (bound : List (List ℕ)) (parts : Parts) (second : Option (List ℕ)) → second_literal parts ≡ second →
    AreSecond second (operands declared bound parts)
unfolding operands
second-seen declared bound parts None h = tt
second-seen declared bound g.none (Some text) h = absurd cc
second-seen declared bound (g.more label x g.none) (Some text) h = absurd cc
second-seen declared bound (g.more label x (g.more next y g.none)) (Some text) h =
    literal-seen declared (names_behind label bound) label (resolved declared bound x) next y text h
second-seen declared bound (g.more label x (g.more next y (g.more other z parts))) (Some text) h = absurd cc
