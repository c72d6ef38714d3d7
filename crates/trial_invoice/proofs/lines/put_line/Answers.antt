use Rattle.trial_invoice.specs.Generated.{line_amounts, line_item}
use Rattle.trial_invoice.proofs.PutLemmas.{on-ok, put-all}
use Rattle.trial_invoice.proofs.lines.put_line.Goals as goal

pub returns : goal.returns
returns c =
    on-ok c.put_item.result
    (λ last. put-all c.args.entries.now.items (line_amounts c.args.line) (line_item c.args.line) c.put_amounts.new.entries.items c.put_item.new.entries.items
    c.in_ok-put_amounts.ensures last)
    c.put_item.ensures
