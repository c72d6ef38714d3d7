use Rattle.std.proofs.Common.{◌≡◌, drop, map}
use Rattle.std.specs.List.{list_any}
use Rattle.xpath_tokens.specs.Tokens.{is_wide}
use Rattle.xpath_tokens.proofs.judging.has_wide.Given as goal

abbrev pub invariant-words : goal.invariant-words
invariant-words l = list_any is_wide (map (λ word. word.now) (drop l.i l.words)) ≡ list_any is_wide (map (λ word. word.now) l.words)
