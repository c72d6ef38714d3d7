use Rattle.std.proofs.Common.{sym, subst}
use Rattle.std.specs.List.{All}
use Rattle.schematron_run.specs.Ready.{IsPartFor}
use Rattle.schematron_run.proofs.assertions.location_and_message.Goals as goal

pub message_at-requires-clause-ready : goal.message_at-requires-clause-ready
message_at-requires-clause-ready g c = subst (All (IsPartFor c.args.input.now.doc.now)) (sym c.as_mut_slice.ensures.value) c.requires.ready.message
