use Rattle.std.proofs.Common.{refl, drop}
use Rattle.held_output.proofs.held.HeldOutput.into_sink.Goals as goal

pub returns-clause-front : goal.returns-clause-front
returns-clause-front g c = record { rest = drop c.args.self.sent c.args.self.held.items; whole = refl; since = c.args.self.since; faults = refl }
