-- Each tree is that of an expression.
use Rattle.std.proofs.Common.{◌≡◌, List, [], ◌∷◌, ◌++◌, refl, sym, ap, ◌∙◌}
use Rattle.xpath_grammar.specs.Grammar as g
use Rattle.xpath_grammar.specs.Grammar.{Leaf, Form, Label, Tree, Parts}
use Rattle.xpath_grammar.specs.Machine as m
use Rattle.xpath_grammar.specs.View.{view, view_step, viewed, expressions}
use Rattle.xpath_grammar.specs.declared.expr.Expr.{Expr, Expr-F, fold-roll-Expr}
use Rattle.xpath_grammar.specs.declared.expr.Expr.TheVariants as e

pub view-leaf : (x : Leaf) → view (e.Leaf x) ≡ g.leaf x
view-leaf x = ap view (sym (e.rolls-Leaf x)) ∙ fold-roll-Expr Tree view_step (Expr-F.Leaf x)

pub view-node : (form : Form) (parts : List (Label × Expr)) → view (e.Node form parts) ≡ g.node form (viewed parts)
view-node form parts = ap view (sym (e.rolls-Node form parts)) ∙ fold-roll-Expr Tree view_step (Expr-F.Node form parts)

viewed-push : (parts : List (Label × Expr)) (label : Label) (x : Expr) (others : Parts) →
    m.append (viewed (parts ++ (label, x) ∷ [])) others ≡ m.append (viewed parts) (g.more label (view x) others)
unfolding m.append
viewed-push [] label x others = refl
viewed-push (part ∷ parts) label x others = ap (g.more part.0 (view part.1)) (viewed-push parts label x others)

append-none : (parts : Parts) → m.append parts g.none ≡ parts
unfolding m.append
append-none g.none = refl
append-none (g.more label x parts) = ap (g.more label x) (append-none parts)

mutual
  unfolding m.value_of m.append

  pub view-value : (x : Tree) → view (m.value_of expressions x) ≡ x
  view-value (g.leaf x) = view-leaf x
  view-value (g.node form parts) = view-node form (m.values_of expressions parts []) ∙
      ap (g.node form) (sym (append-none _) ∙ view-values parts [] g.none ∙ append-none parts)

  view-values : (parts : Parts) (so_far : List (Label × Expr)) (others : Parts) →
      m.append (viewed (m.values_of expressions parts so_far)) others ≡ m.append (viewed so_far) (m.append parts others)
  view-values g.none so_far others = refl
  view-values (g.more label x parts) so_far others = view-values parts (so_far ++ (label, m.value_of expressions x) ∷ []) others
      ∙ viewed-push so_far label (m.value_of expressions x) (m.append parts others)
      ∙ ap (λ y. m.append (viewed so_far) (g.more label y (m.append parts others))) (view-value x)
