-- The parts of an expression and where they begin.
use Rattle.std.specs.Prelude.{ℕ, ◌+◌, List, [], ◌∷◌, ◌++◌, ◌≡◌, length}
use Rattle.xpath_tokens.specs.declared.token.Token.{Token}
use Rattle.xpath_grammar.specs.Grammar as g
use Rattle.xpath_grammar.specs.Grammar.{Tree, Parts}

unfoldable mutual
  -- each part, with the number of its first token, where the expression's first token has the number: an outer part before the
  -- parts in it, and these in order
  pub parts_from : ℕ → Tree → List (ℕ × Tree)
  parts_from at (g.leaf x) = (at, g.leaf x) ∷ []
  parts_from at (g.node form parts) = (at, g.node form parts) ∷ inner_parts at parts

  pub inner_parts : ℕ → Parts → List (ℕ × Tree)
  inner_parts at g.none = []
  inner_parts at (g.more label x parts) = parts_from (at + length (g.label_tokens label)) x ++
      inner_parts (at + length (g.label_tokens label) + length (g.written x)) parts

-- Among the tokens the part is written from the place on.
pub record StandsAt (tokens : List Token) (part : ℕ × Tree) : Type 0 where
  pub before : List Token
  pub behind : List Token
  pub text : tokens ≡ before ++ (g.written part.1 ++ behind)
  pub place : length before ≡ part.0
