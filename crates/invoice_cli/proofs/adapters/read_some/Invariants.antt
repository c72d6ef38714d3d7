use Rattle.std.specs.Io.KnownBytes.{Keeps}
use Rattle.invoice_cli.proofs.adapters.read_some.Given as goal

-- the tries so far took nothing
abbrev pub invariant-tries : goal.invariant-tries
invariant-tries g l = Keeps (g.I.Read.remaining l.initial.input) (g.I.Read.remaining l.input)
