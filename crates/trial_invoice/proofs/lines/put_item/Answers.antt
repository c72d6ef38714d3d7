use Rattle.std.proofs.Common.{◌*◌, ◌++◌, take, refl, ap}
use Rattle.std.specs.Prelude.{codes, decimal}
use Rattle.term_table.specs.declared.groups.Group.TheVariants as groups
use Rattle.inv_terms.specs.declared.values.Value.TheVariants as values
use Rattle.trial_invoice.specs.Amounts.{price}
use Rattle.trial_invoice.specs.Generated.{occurrence, amount, standard_rated, rate, line_item}
use Rattle.trial_invoice.proofs.PutLemmas.{on-ok, put-none, put-more}
use Rattle.trial_invoice.proofs.lines.put_item.Goals as goal

pub returns : goal.returns
returns c =
    let es = c.args.entries.now.items in
    let put1 = put-more es (take 0 (line_item c.args.line)) es c.put_amount.new.entries.items c.occurrence-place.result
    (occurrence groups.InvoiceLine c.args.line) 146 (amount (100 * c.price.result)) (amount (100 * price c.args.line))
    (put-none es) c.in_ok-put_amount.ensures c.occurrence-place.ensures (ap (λ n. amount (100 * n)) c.price.ensures) in
    let put2 = put-more es (take 1 (line_item c.args.line)) c.put_amount.new.entries.items c.put_code.new.entries.items c.occurrence-place.result
    (occurrence groups.InvoiceLine c.args.line) 151 standard_rated standard_rated put1 c.in_ok-put_code.ensures c.occurrence-place.ensures refl in
    let put3 = put-more es (take 2 (line_item c.args.line)) c.put_code.new.entries.items c.put.new.entries.items c.occurrence-place.result
    (occurrence groups.InvoiceLine c.args.line) 152 (values.Percent c.ones.result) rate put2 c.in_ok-put.ensures c.occurrence-place.ensures
    (ap values.Percent c.ones.ensures) in
    on-ok c.put_name.result (λ last. put-more es (take 3 (line_item c.args.line)) c.put.new.entries.items c.put_name.new.entries.items c.occurrence-place.result
    (occurrence groups.InvoiceLine c.args.line) 153 (values.Text (codes "Item " ++ decimal c.args.line))
    (values.Text (codes "Item " ++ decimal c.args.line)) put3 last c.occurrence-place.ensures refl) c.put_name.ensures
