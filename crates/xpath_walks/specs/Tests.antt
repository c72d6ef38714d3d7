-- Tests of nodes whose names are numbers of a table.
use Rattle.std.specs.Prelude.{ℕ, Bool, false, List, map, Option, Some, None}
use Rattle.inv_base.specs.Tree.{Node, Name}
use Rattle.xml_events.specs.Names.{find_name}
use Rattle.xpath_grammar.specs.declared.step.Axis.{Axis}
use Rattle.xpath_meaning.specs.Expressions.{NodeTest}
use Rattle.xpath_meaning.specs.Axes.{passes}

-- of each name the number that it has in a document's table, if any
abbrev pub numbers_of : List Name → List Name → List (Option ℕ)
numbers_of table names = map (λ name. find_name name table) names

-- what is no test passes nothing
abbrev pub is_passed : Axis → Option NodeTest → Node → Bool
is_passed axis None node = false
is_passed axis (Some test) node = passes axis test node
