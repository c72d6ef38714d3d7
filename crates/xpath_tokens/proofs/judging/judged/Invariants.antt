use Rattle.std.proofs.Common.{◌≡◌, ℕ, List, Bor, drop, map}
use Rattle.xpath_tokens.specs.declared.token.Token.{Token}
use Rattle.xpath_tokens.specs.declared.token.Place.{Place}
use Rattle.xpath_tokens.specs.declared.token.Place.TheVariants as p
use Rattle.xpath_tokens.specs.Tokens.{judged}
use Rattle.xpath_tokens.proofs.JudgingLaws.{with_tokens}
use Rattle.xpath_tokens.proofs.judging.judged.Given as goal

-- these tokens, and then those of the words from i on
pub record Known (words : List (Bor (List ℕ))) (tokens : List Token) (place : Place) (i : ℕ) : Type 0 where
  pub same : with_tokens tokens (judged place i (map (λ word. word.now) (drop i words))) ≡ judged p.Operand 0 (map (λ word. word.now) words)

abbrev pub invariant-words : goal.invariant-words
invariant-words l = Known l.words l.tokens.items l.place l.i
