use Rattle.xml_tokens.proofs.SpellingLemmas.{Body}
use Rattle.xml_tokens.proofs.references.body_length.Given as goal

abbrev pub invariant-bytes : goal.invariant-bytes
invariant-bytes l = Body l.bytes 12 l.i
