use Rattle.std.proofs.Common.{◌*◌, take, refl, ap, ◌∙◌}
use Rattle.std.specs.Prelude.{codes, decimal}
use Rattle.term_table.specs.declared.groups.Group.TheVariants as groups
use Rattle.inv_terms.specs.declared.values.Value.TheVariants as values
use Rattle.trial_invoice.specs.Amounts.{quantity, net, ones}
use Rattle.trial_invoice.specs.Generated.{occurrence, amount, line_amounts}
use Rattle.trial_invoice.proofs.PutLemmas.{on-ok, put-none, put-more}
use Rattle.trial_invoice.proofs.lines.put_amounts.Goals as goal

pub returns : goal.returns
returns c =
    let es = c.args.entries.now.items in
    let put1 = put-more es (take 0 (line_amounts c.args.line)) es c.put_number.new.entries.items c.occurrence-place.result
    (occurrence groups.InvoiceLine c.args.line) 126 (values.Identifier (decimal c.args.line)) (values.Identifier (decimal c.args.line))
    (put-none es) c.in_ok-put_number.ensures c.occurrence-place.ensures refl in
    let put2 = put-more es (take 1 (line_amounts c.args.line)) c.put_number.new.entries.items c.put.new.entries.items c.occurrence-place.result
    (occurrence groups.InvoiceLine c.args.line) 129 (values.Quantity c.ones.result)
    (values.Quantity (ones (quantity c.args.line))) put1 c.in_ok-put.ensures c.occurrence-place.ensures
    (ap values.Quantity (c.ones.ensures ∙ ap ones c.quantity.ensures)) in
    let put3 = put-more es (take 2 (line_amounts c.args.line)) c.put.new.entries.items c.put_code.new.entries.items c.occurrence-place.result
    (occurrence groups.InvoiceLine c.args.line) 130 (values.Code (codes "C62"))
    (values.Code (codes "C62")) put2 c.in_ok-put_code.ensures c.occurrence-place.ensures refl in
    on-ok c.put_amount.result (λ last. put-more es (take 3 (line_amounts c.args.line)) c.put_code.new.entries.items c.put_amount.new.entries.items
    c.occurrence-place.result (occurrence groups.InvoiceLine c.args.line) 131 (amount (100 * c.net.result))
    (amount (100 * net c.args.line)) put3 last c.occurrence-place.ensures (ap (λ n. amount (100 * n)) c.net.ensures.value)) c.put_amount.ensures
