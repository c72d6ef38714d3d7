use Rattle.std.proofs.Common.{◌≡◌, ℕ, ◌≤◌, Bool, true, false, Option, Some, None, drop, List}
use Rattle.std.specs.Option.{IfSome}
use Rattle.xpath_tokens.proofs.ClosingLaws.{ending}
use Rattle.xpath_tokens.proofs.scanning.closing_length.Given as goal

-- what is known behind i characters
pub record Known (quote : ℕ) (text : List ℕ) (closed : Bool) (end : Option ℕ) (i : ℕ) : Type 0 where
  pub same : ending quote closed end i (drop i text) ≡ ending quote false None 0 text
  pub closes : closed ≡ true → end ≡ Some i
  pub within : IfSome end (λ n. n ≤ i)

abbrev pub invariant-characters : goal.invariant-characters
invariant-characters l = Known l.quote l.text l.closed l.end l.i
