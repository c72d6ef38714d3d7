use Rattle.std.proofs.Common.{OnOk, subst}
use Rattle.std.proofs.lemmas.Str.{chars-IsAscii}
use Rattle.schematron_run.specs.Telling.{Says}
use Rattle.schematron_run.proofs.messages.push_plain.Goals as goal

pub returns : goal.returns
returns c = subst (λ piece. OnOk c.push.result (Says piece c.args.message.now c.push.new.message)) (chars-IsAscii c.args.piece.now c.requires) c.push.ensures
