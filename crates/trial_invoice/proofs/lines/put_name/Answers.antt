use Rattle.std.proofs.Common.{[], ◌∷◌, ◌++◌, ap, ◌∙◌}
use Rattle.inv_terms.specs.declared.values.Value.TheVariants as values
use Rattle.trial_invoice.specs.Generated.{entry}
use Rattle.trial_invoice.proofs.PutLemmas.{on-ok}
use Rattle.trial_invoice.proofs.lines.put_name.Goals as goal

pub returns : goal.returns
returns c =
    on-ok c.put.result
    (λ last. last ∙ ap (λ text. c.args.entries.now.items ++ entry c.args.place 153 (values.Text text) ∷ []) c.in_ok-item_name.ensures)
    c.put.ensures
