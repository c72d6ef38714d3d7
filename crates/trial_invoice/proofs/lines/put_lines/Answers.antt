use Rattle.std.proofs.Common.{◌≡◌, ◌+◌, ◌++◌, ap, sym, ◌∙◌, arith}
use Rattle.trial_invoice.specs.Generated.{lines_of, line}
use Rattle.trial_invoice.proofs.PutLemmas.{put-none, put-all}
use Rattle.trial_invoice.proofs.LineLemmas.{lines-none, lines-next}
use Rattle.trial_invoice.proofs.lines.put_lines.Goals as goal

pub lines-init : goal.lines-init
lines-init c = put-none c.args.entries.now.items ∙ ap (λ ls. c.args.entries.now.items ++ ls) (sym lines-none)

pub lines-preserved : goal.lines-preserved
lines-preserved c =
    put-all c.args.entries.now.items (lines_of c.lines.behind) (line (c.lines.behind + 1)) c.lines.entries.items c.put_line.new.entries.items c.lines.invariant
    c.in_ok-put_line.ensures
    ∙ ap (λ ls. c.args.entries.now.items ++ ls) (sym (lines-next c.lines.behind))

pub returns : goal.returns
returns c =
    let all : c.lines.behind ≡ c.args.lines = omega arith in
    c.lines.invariant ∙ ap (λ n. c.args.entries.now.items ++ lines_of n) all
