use Rattle.std.proofs.Common.{◌≡◌, false, ◌++◌, drop}
use Rattle.xpath_tokens.specs.Tokens.{undoubled}
use Rattle.xpath_tokens.proofs.judging.undoubled.Given as goal

abbrev pub invariant-characters : goal.invariant-characters
invariant-characters l = l.value.items ++ undoubled l.quote l.half (drop l.i l.text) ≡ undoubled l.quote false l.text
