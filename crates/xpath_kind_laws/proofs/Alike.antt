-- Expressions of one form whose parts come to the same where those of the first are evaluated.
use Rattle.std.specs.Prelude.{ℕ, List, ◌≡◌}
use Rattle.std.specs.List.{All, Contains}
use Rattle.inv_base.specs.Tree.{Node}
use Rattle.xpath_grammar.specs.declared.expr.Form.{Form}
use Rattle.xpath_grammar.specs.declared.expr.Form.TheVariants as m
use Rattle.xpath_grammar.specs.declared.expr.Label.{Label}
use Rattle.xpath_grammar.specs.declared.expr.Label.TheVariants as k
use Rattle.xpath_grammar.specs.Grammar as g
use Rattle.xpath_grammar.specs.Grammar.{Tree, Parts}
use Rattle.xpath_types.specs.Scopes.{Declared}
use Rattle.xpath_types.specs.Judging.{labels}
use Rattle.xpath_meaning.specs.Expressions.{Exp}
use Rattle.xpath_meaning.specs.Resolving.{resolved, names_behind, is_step}
use Rattle.xpath_meaning.specs.Meaning.{Context, mean}
use Rattle.xpath_kind_laws.specs.Arising.{first_source, source_behind, contexts_inside, contexts_behind}

-- what counts of a part: of a step before predicates its nodes in the order of its axis, of all else its value
abbrev pub counted : Form → Label → Tree → Exp → Exp
counted m.Filter k.First tree e = first_source tree e
counted form label tree e = e

-- Before predicates stands a step in both, or in neither.
abbrev pub AreOfOneOrder : Form → Label → Tree → Tree → Type 0
AreOfOneOrder m.Filter k.First tree other = is_step tree ≡ is_step other
AreOfOneOrder form label tree other = Unit {0}

-- The parts that are left stand behind the same labels, inside the same variables, and what counts of them is the same wherever
-- those of the first expression are evaluated.
pub data AreAlike (nodes : List Node) (d : Declared) (form : Form) : List (List ℕ) → Exp → Context → Parts → Parts → Type 0 where
  nothing_left : {names : List (List ℕ)} {before : Exp} {context : Context} → AreAlike nodes d form names before context g.none g.none
  one_more : {names : List (List ℕ)} {before : Exp} {context : Context} (label : Label) (tree other : Tree) (parts others : Parts)
      → AreOfOneOrder form label tree other → labels parts ≡ labels others
      → All
      (λ context. mean nodes (counted form label tree (resolved d names tree)) context ≡ mean nodes (counted form label other (resolved d names other))
      context)
      (contexts_inside nodes form label before context)
      → ((next : Context) → Contains (contexts_behind nodes label (resolved d names tree) context) next
      → AreAlike nodes d form (names_behind label names) (source_behind form label tree (resolved d names tree) before) next parts others)
      → AreAlike nodes d form names before context (g.more label tree parts) (g.more label other others)
