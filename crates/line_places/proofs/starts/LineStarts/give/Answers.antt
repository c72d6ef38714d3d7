use Rattle.std.proofs.Common.{sym, arith}
use Rattle.std.proofs.lemmas.Result.{IfOk-weaker}
use Rattle.line_places.proofs.LineLemmas.{giving_more, giving_end}
use Rattle.line_places.proofs.starts.LineStarts.give.Goals as goal

pub lines-preserved : goal.lines-preserved
lines-preserved c =
    giving_more c.args.piece.now c.lines.rest.now c.split_at.result.1.now c.args.self.now c.lines.self c.end_line.new.self c.in-Some.len
    c.lines.invariant (sym c.in-Some.ensures.exact) c.in_ok-end_line.ensures c.split_at.ensures.back

pub returns : goal.returns
returns c =
    IfOk-weaker c.go_on.result _ _ (λ x goes. giving_end c.args.piece.now c.lines.rest.now c.args.self.now c.lines.self c.go_on.new.self _ c.lines.invariant
    (sym c.in_default.ensures.exact) (omega arith) goes) c.go_on.ensures
