-- Each part of an expression is one of the grammar, and is judged in a scope of its own.
use Rattle.std.proofs.Common.{ℕ, ◌+◌, List, [], ◌∷◌, length, Option, Some, None, ap}
use Rattle.std.specs.List.{All}
use Rattle.std.proofs.lemmas.List.Elements.{All-nil, All-cons, All-append}
use Rattle.inv_base.specs.Tree.{Node}
use Rattle.xpath_grammar.specs.declared.expr.Form.{Form}
use Rattle.xpath_grammar.specs.declared.expr.Label.{Label}
use Rattle.xpath_grammar.specs.declared.expr.Label.TheVariants as k
use Rattle.xpath_grammar.specs.Grammar as g
use Rattle.xpath_grammar.specs.Grammar.{Tree, Parts}
use Rattle.xpath_types.specs.declared.kinds.Kinds.{Kinds}
use Rattle.xpath_types.specs.Scopes.{written_name}
use Rattle.xpath_types.specs.Judging as j
use Rattle.xpath_types.specs.Judging.{Environment, judged}
use Rattle.xpath_types.specs.Parts.{placed, placed_inside}
use Rattle.xpath_meaning.specs.Resolving.{resolved}
use Rattle.xpath_meaning.specs.Meaning.{Context, mean}
use Rattle.xpath_meaning.specs.ItemKinds.{IsValueOf, Suits}
use Rattle.xpath_meaning.specs.PartKinds.{Bound, names, AreInScope, expected}
use Rattle.xpath_kind_laws.specs.Arising.{place_of}
use Rattle.xpath_kind_laws.specs.KindsHold.{IsInScope}

-- the law of parts wherever they stand
abbrev pub PartsHaveTheirKinds : Type 0
PartsHaveTheirKinds = (nodes : List Node) (env : Environment) (bound : Bound) (c : Context) (token : ℕ) (x : Tree) → g.Grammatical x → AreInScope bound env
    → Suits (expected env bound) c → IsValueOf (judged env token x).kinds (mean nodes (resolved env.declared (names bound) x) c)

pub scope_behind : (form : Form) (label : Label) (kinds : Kinds) (env : Environment) (bound : Bound) → AreInScope bound env
    → AreInScope (j.variables_behind label kinds bound) (j.behind form label kinds env)
scope_behind form (k.Binding lead name) kinds env bound h = ap (λ variables. (written_name name, kinds) ∷ variables) h
scope_behind form _ kinds env bound h = h

mutual
  unfolding g.Grammatical g.Runs placed placed_inside

  pub in_scope : (nodes : List Node) → PartsHaveTheirKinds → (env : Environment) (bound : Bound) (at : ℕ) (tree : Tree) → g.Grammatical tree
      → AreInScope bound env → All (IsInScope nodes) (placed env at tree)
  in_scope nodes law env bound at (g.leaf leaf) h scope = All-cons (IsInScope nodes) (place_of env at (g.leaf leaf)) []
      (record { grammatical = h; bound = bound; scope = scope; kinds = λ c suits. law nodes env bound c at (g.leaf leaf) h scope suits })
      (All-nil (IsInScope nodes))
  in_scope nodes law env bound at (g.node form parts) h scope =
      All-cons (IsInScope nodes) (place_of env at (g.node form parts)) (placed_inside env form at parts)
      (record { grammatical = h; bound = bound; scope = scope; kinds = λ c suits. law nodes env bound c at (g.node form parts) h scope suits })
      (parts_in_scope nodes law env bound form at None parts h scope)

  parts_in_scope : (nodes : List Node) → PartsHaveTheirKinds
      → (env : Environment) (bound : Bound) (form : Form) (at : ℕ) (before : Option Label) (parts : Parts) → g.Runs form before parts
      → AreInScope bound env → All (IsInScope nodes) (placed_inside env form at parts)
  parts_in_scope nodes law env bound form at before g.none h scope = All-nil (IsInScope nodes)
  parts_in_scope nodes law env bound form at before (g.more label tree parts) h scope =
      let token : ℕ = at + length (g.label_tokens label) in
      let kinds : Kinds = (judged (j.inside form label env) token tree).kinds in
      All-append (IsInScope nodes) (placed (j.inside form label env) token tree)
      (placed_inside (j.behind form label kinds env) form (token + length (g.written tree)) parts)
      (in_scope nodes law (j.inside form label env) bound token tree h.2 scope)
      (parts_in_scope nodes law (j.behind form label kinds env) (j.variables_behind label kinds bound) form (token + length (g.written tree)) (Some label)
      parts h.3
      (scope_behind form label kinds env bound scope))
