use Rattle.std.proofs.lemmas.Result.{on_ok_weaker}
use Rattle.line_places.proofs.LineLemmas.{lines_behind}
use Rattle.line_places.proofs.starts.LineStartsByteReceiver.take.Goals as goal

pub returns : goal.returns
returns c = on_ok_weaker c.give.result (lines_behind c.args.piece.now c.args.self.now c.give.new.self) c.give.ensures
