use Rattle.std.proofs.Common.{[], ◌∷◌, ◌++◌, ap, ◌∙◌}
use Rattle.trial_invoice.specs.Generated.{entry}
use Rattle.trial_invoice.proofs.PutLemmas.{on-ok}
use Rattle.trial_invoice.proofs.head.put_amount.Goals as goal

pub returns : goal.returns
returns c =
    on-ok c.put.result
    (λ last. last ∙ ap (λ value. c.args.entries.now.items ++ entry c.args.context c.args.number value ∷ []) c.in_ok-amount.ensures)
    c.put.ensures
