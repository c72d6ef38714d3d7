-- What is said of parts where they stand, and where they are evaluated.
use Rattle.std.specs.Prelude.{List}
use Rattle.std.specs.List.{Contains}
use Rattle.inv_base.specs.Tree.{Node}
use Rattle.xpath_grammar.specs.Grammar.{Grammatical}
use Rattle.xpath_types.specs.Parts.{Placed, facts}
use Rattle.xpath_meaning.specs.Resolving.{resolved}
use Rattle.xpath_meaning.specs.Meaning.{Context, mean}
use Rattle.xpath_meaning.specs.ItemKinds.{IsValueOf, Suits}
use Rattle.xpath_meaning.specs.PartKinds.{Bound, names, AreInScope, expected}
use Rattle.xpath_kind_laws.specs.Arising.{Evaluation}

-- Each item of the part's value in the context is of one of the kinds that are stated of the part.
abbrev pub HasStatedKinds : List Node → Placed → Bound → Context → Type 0
HasStatedKinds nodes at bound context =
    IsValueOf (facts at).kinds (mean nodes (resolved at.environment.declared (names bound) at.part) context)

-- The part is one of the grammar, around which these variables are bound, and it has its kinds in each context that suits them.
pub record IsInScope (nodes : List Node) (at : Placed) : Type 0 where
  pub grammatical : Grammatical at.part
  pub bound : Bound
  pub scope : AreInScope bound at.environment
  pub kinds : (context : Context) → Suits (expected at.environment bound) context → HasStatedKinds nodes at bound context

-- The part that is evaluated is one of these, in a context of the kinds that it is judged at, and has its kinds there.
pub record KindsHold (nodes : List Node) (parts : List Placed) (e : Evaluation) : Type 0 where
  pub is_part : Contains parts e.place
  pub scope : AreInScope e.bound e.place.environment
  pub suits : Suits (expected e.place.environment e.bound) e.context
  pub kinds : HasStatedKinds nodes e.place e.bound e.context
