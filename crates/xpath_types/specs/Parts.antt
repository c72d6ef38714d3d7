-- What is stated of each part of an expression.
use Rattle.std.specs.Prelude.{ℕ, Bool, true, false, ◌+◌, ◌&&◌, ◌||◌, not, List, [], ◌∷◌, ◌++◌, length}
use Rattle.std.specs.List.{list_any}
use Rattle.std.specs.Str.{bytes_eq}
use Rattle.xpath_grammar.specs.declared.functions.Function.{Function}
use Rattle.xpath_grammar.specs.declared.functions.Function.TheVariants as f
use Rattle.xpath_grammar.specs.declared.operators.Production.TheVariants as p
use Rattle.xpath_grammar.specs.Grammar as g
use Rattle.xpath_grammar.specs.Grammar.{Tree, Parts}
use Rattle.xpath_grammar.specs.declared.expr.Leaf.{Leaf}
use Rattle.xpath_grammar.specs.declared.expr.Leaf.TheVariants as l
use Rattle.xpath_grammar.specs.declared.expr.Form.{Form}
use Rattle.xpath_grammar.specs.declared.expr.Form.TheVariants as m
use Rattle.xpath_grammar.specs.declared.expr.Label.{Label}
use Rattle.xpath_grammar.specs.declared.expr.Label.TheVariants as k
use Rattle.xpath_types.specs.declared.part.Part.{Part}
use Rattle.xpath_types.specs.Kinds.{Kinds, is_nodes_alone}
use Rattle.xpath_types.specs.Scopes.{Declared, written_name}
use Rattle.xpath_types.specs.declared.functions.Resolved.{Resolved}
use Rattle.xpath_types.specs.declared.functions.Resolved.TheVariants as n
use Rattle.xpath_types.specs.declared.uses.Uses.{Uses}
use Rattle.xpath_types.specs.Functions.{function_called}
use Rattle.xpath_types.specs.Judging.{Environment, Judged, judged, labels, inside, behind}

-- nothing of the focus that an expression is evaluated at
abbrev pub no_uses : Uses
no_uses = record { position = false; root = false; item = false }

abbrev pub joined : Uses → Uses → Uses
joined a b = record { position = a.position || b.position; root = a.root || b.root; item = a.item || b.item }

-- what a function without arguments uses: a position in the focus, or its item, which it takes in place of an argument
abbrev pub function_uses : Function → Uses
function_uses f.Position = record no_uses { position = true }
function_uses f.Last = record no_uses { position = true }
function_uses f.String = record no_uses { item = true }
function_uses f.StringLength = record no_uses { item = true }
function_uses f.NormalizeSpace = record no_uses { item = true }
function_uses f.LocalName = record no_uses { item = true }
function_uses f.NamespaceUri = record no_uses { item = true }
function_uses _ = no_uses

abbrev pub called_uses : Resolved → Uses
called_uses (n.Known function) = function_uses function
called_uses _ = no_uses

abbrev pub leaf_uses : Declared → Leaf → Uses
leaf_uses declared l.Context = record no_uses { item = true }
leaf_uses declared l.Parent = record no_uses { item = true }
leaf_uses declared (l.Step form test) = record no_uses { item = true }
leaf_uses declared l.Root = record no_uses { root = true }
leaf_uses declared (l.Called name) = called_uses (function_called declared name)
leaf_uses declared _ = no_uses

-- the part is evaluated at the same focus as the whole: no predicate is, and no step behind the first
abbrev pub has_outer_focus : Form → Label → Bool
has_outer_focus (m.Chain p.Path) label = g.is_first label
has_outer_focus m.Filter label = g.is_first label
has_outer_focus form label = true

-- a path begins with `/` or `//`, by what leads to its parts
abbrev pub begins_at_root : Form → List Label → Bool
begins_at_root (m.Chain p.Path) (k.Link operator ∷ others) = true
begins_at_root form labels = false

unfoldable mutual
  pub uses : Declared → Tree → Uses
  uses declared (g.leaf x) = leaf_uses declared x
  uses declared (g.node form parts) = joined (record no_uses { root = begins_at_root form (labels parts) }) (uses_of_parts declared form parts)

  pub uses_of_parts : Declared → Form → Parts → Uses
  uses_of_parts declared form g.none = no_uses
  uses_of_parts declared form (g.more label x parts) = elim (has_outer_focus form label) [
    | true ↦ joined (uses declared x) (uses_of_parts declared form parts)
    | false ↦ uses_of_parts declared form parts
  ]

-- the variables that are bound behind the label
abbrev pub bound_behind : Label → List (List ℕ) → List (List ℕ)
bound_behind (k.Binding lead name) bound = written_name name ∷ bound
bound_behind label bound = bound

unfoldable mutual
  -- some variable is free: it is read, and isn't among those that are bound
  pub has_free : List (List ℕ) → Tree → Bool
  has_free bound (g.leaf (l.Variable name)) = not (list_any (bytes_eq (written_name name)) bound)
  has_free bound (g.leaf x) = false
  has_free bound (g.node form parts) = parts_have_free bound parts

  pub parts_have_free : List (List ℕ) → Parts → Bool
  parts_have_free bound g.none = false
  parts_have_free bound (g.more label x parts) = has_free bound x || parts_have_free (bound_behind label bound) parts

-- a part, the number of its first token, and what it is judged in
pub record Placed : Type 0 where
  pub environment : Environment
  pub token : ℕ
  pub part : Tree

unfoldable mutual
  -- each part of an expression: an outer part before the parts in it, and these in order
  pub placed : Environment → ℕ → Tree → List Placed
  placed env at (g.leaf x) = record { environment = env; token = at; part = g.leaf x } ∷ []
  placed env at (g.node form parts) = record { environment = env; token = at; part = g.node form parts } ∷ placed_inside env form at parts

  pub placed_inside : Environment → Form → ℕ → Parts → List Placed
  placed_inside env form at g.none = []
  placed_inside env form at (g.more label x parts) =
      let token : ℕ = at + length (g.label_tokens label) in
      let part : Judged = judged (inside form label env) token x in
      placed (inside form label env) token x ++ placed_inside (behind form label part.kinds env) form (token + length (g.written x)) parts

abbrev pub uses_any : Uses → Bool
uses_any used = used.position || (used.root || used.item)

-- no position, no item, and the root only of nodes
abbrev pub is_document_alone : Kinds → Uses → Bool
is_document_alone focus used = not used.position && (not used.item && (not used.root || is_nodes_alone focus))

abbrev pub facts : Placed → Part
facts at = let used : Uses = uses at.environment.declared at.part in
    record {
      kinds = (judged at.environment at.token at.part).kinds;
      uses_focus = uses_any used;
      uses_position = used.position;
      depends_on_document_alone = not (has_free [] at.part) && is_document_alone at.environment.focus used;
    }
