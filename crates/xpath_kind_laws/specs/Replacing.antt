-- Other parts in place of some parts of an expression, and when these come to the same.
use Rattle.std.specs.Prelude.{ℕ, ◌+◌, List, length, Option, Some, ◌≡◌}
use Rattle.std.specs.Option.{unwrap_or}
use Rattle.inv_base.specs.Tree.{Node}
use Rattle.xpath_grammar.specs.declared.expr.Form.{Form}
use Rattle.xpath_grammar.specs.Grammar as g
use Rattle.xpath_grammar.specs.Grammar.{Tree, Parts}
use Rattle.xpath_types.specs.declared.kinds.Kinds.{Kinds}
use Rattle.xpath_types.specs.Scopes.{Declared}
use Rattle.xpath_types.specs.Judging.{Environment, judged, inside, behind}
use Rattle.xpath_types.specs.Parts.{Placed}
use Rattle.xpath_meaning.specs.Resolving.{resolved, is_step}
use Rattle.xpath_meaning.specs.Meaning.{Context, mean}
use Rattle.xpath_meaning.specs.PartKinds.{names}
use Rattle.xpath_kind_laws.specs.Arising.{Evaluation, place_of, first_source}

unfoldable mutual
  -- the expression with another part in each place that has one
  pub replaced : (Placed → Option Tree) → Environment → ℕ → Tree → Tree
  replaced others env at (g.leaf x) = unwrap_or (others (place_of env at (g.leaf x))) (g.leaf x)
  replaced others env at (g.node form parts) =
      unwrap_or (others (place_of env at (g.node form parts))) (g.node form (replaced_inside others env form at parts))

  pub replaced_inside : (Placed → Option Tree) → Environment → Form → ℕ → Parts → Parts
  replaced_inside others env form at g.none = g.none
  replaced_inside others env form at (g.more label tree parts) =
      let token : ℕ = at + length (g.label_tokens label) in
      let kinds : Kinds = (judged (inside form label env) token tree).kinds in
      g.more label (replaced others (inside form label env) token tree)
      (replaced_inside others (behind form label kinds env) form (token + length (g.written tree)) parts)

-- Both are steps, or neither is, and the same counts of both: of steps the nodes in the order of the axis, of all else the value.
pub record AreTheSame (nodes : List Node) (d : Declared) (names : List (List ℕ)) (context : Context)
    (tree other : Tree) : Type 0 where
  pub order : is_step tree ≡ is_step other
  pub value : mean nodes (first_source tree (resolved d names tree)) context
      ≡ mean nodes (first_source other (resolved d names other)) context

-- Where another part stands in place of the evaluated one, it is the same there.
abbrev pub IsSameThere : List Node → (Placed → Option Tree) → Evaluation → Type 0
IsSameThere nodes others e = (other : Tree) → others e.place ≡ Some other
    → AreTheSame nodes e.place.environment.declared (names e.bound) e.context e.place.part other
