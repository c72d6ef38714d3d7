use Rattle.xml_tokens.proofs.SpellingLemmas.{Spelling}
use Rattle.xml_tokens.proofs.references.spelled.Given as goal

abbrev pub invariant-digits : goal.invariant-digits
invariant-digits l = Spelling l.radix l.digits l.i l.number
