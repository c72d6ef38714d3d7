use Rattle.std.proofs.Common.{◌≡◌, drop}
use Rattle.rule_library.specs.Asked.{has_no_hash}
use Rattle.rule_library.proofs.asking.has_no_hash.Given as goal

abbrev pub invariant-loop-byte : goal.invariant-loop-byte
invariant-loop-byte l = has_no_hash (drop l.byte-index l.bytes) ≡ has_no_hash l.bytes
