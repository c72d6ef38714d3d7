use Rattle.std.proofs.Common.{◌≡◌, ◌+◌, drop, length}
use Rattle.xpath_grammar.specs.Grammar.{parts_written}
use Rattle.xpath_grammar.specs.View.{viewed}
use Rattle.xpath_types.proofs.places.+behind.Given as goal

abbrev pub invariant-parts : goal.invariant-parts
invariant-parts l = l.end + length (parts_written (viewed (drop l.part-index l.parts))) ≡ l.token + length (parts_written (viewed l.parts))
