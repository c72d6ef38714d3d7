use Rattle.std.proofs.Common.{◌≡◌}
use Rattle.xml_write.specs.Writers.{state_of}
use Rattle.base_tests.proofs.xml_write_cases.make_all.Given as goal

-- it is known how far the writer is
abbrev pub invariant-calls : goal.invariant-calls
invariant-calls g l = state_of (g.W.Writer.view l.writer) ≡ l.state
