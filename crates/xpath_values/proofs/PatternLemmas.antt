-- A text that is no pattern that is taken.
use Rattle.std.proofs.Common.{◌≡◌, ℕ, Bool, false, List, Option, Some, None, ap}
use Rattle.xsd_pattern.specs.declared.fault.PatternFault.{PatternFault}
use Rattle.xsd_pattern.specs.Lexing.{tokens_of}
use Rattle.xsd_pattern.specs.Matching.{fault_of, core_by_tokens, found_by_core}
use Rattle.xpath_meaning.specs.Texts.{finds}

pub found-nowhere : (pattern text : List ℕ) (fault : PatternFault) → fault_of pattern ≡ Some fault → finds pattern text ≡ false
unfolding finds
found-nowhere pattern text fault is = ap (λ found. elim found as (λ _. Bool) [
  | None ↦ found_by_core text (core_by_tokens (tokens_of pattern))
  | Some fault ↦ false
]) is
