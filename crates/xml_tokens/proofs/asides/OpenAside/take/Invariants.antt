use Rattle.std.proofs.Common.{◌≡◌, ℕ, ◌+◌, drop}
use Rattle.xml_tokens.specs.Asides.{course}
use Rattle.xml_tokens.proofs.asides.OpenAside.take.Given as goal

-- what the bytes lead to is what those that are left lead to from here
abbrev pub invariant-bytes : goal.invariant-bytes
invariant-bytes l = (n : ℕ) → course n l.fn.self l.bytes ≡ course (n + l.i) l.self (drop l.i l.bytes)
