use Rattle.std.proofs.Common.{take}
use Rattle.xml_tokens.specs.Searching.{Fits}
use Rattle.xml_tests.proofs.xml_tokens_cases.piece_by_piece.Given as goal

abbrev pub invariant-ends : goal.invariant-ends
invariant-ends l = Fits l.search (take l.end l.bytes)
