use Rattle.std.proofs.Common.{◌≡◌, ℕ, ◌-◌, ◌≤◌, List, drop, length, map}
use Rattle.xpath_tokens.specs.Words.{words_from}
use Rattle.xpath_tokens.proofs.WordsLaws.{with_words}
use Rattle.xpath_tokens.proofs.words.words.Given as goal

-- these words, and then those from the place on
pub record Known (text : List ℕ) (found : List (List ℕ)) (place : ℕ) : Type 0 where
  pub within : place ≤ length text
  pub fewer : length found ≤ place
  pub same : with_words found (words_from place 0 (drop place text)) ≡ words_from 0 0 text

abbrev pub invariant-places : goal.invariant-places
invariant-places l = Known l.text (map (λ word. word.now) l.words.items) l.place

abbrev pub decreases-places : goal.decreases-places
decreases-places l = length l.text - l.place
