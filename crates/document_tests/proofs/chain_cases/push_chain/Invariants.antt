use Rattle.std.proofs.Common.{◌-◌, ◌<◌, length}
use Rattle.document_tests.proofs.chain_cases.push_chain.Given as goal

abbrev pub invariant-chain : goal.invariant-chain
invariant-chain g l = l.n < length l.doc.nodes

abbrev pub decreases-chain : goal.decreases-chain
decreases-chain g l = length l.doc.nodes - l.n
