use Rattle.std.proofs.Common.{◌*◌, take, refl, ap}
use Rattle.term_table.specs.declared.groups.Group.TheVariants as groups
use Rattle.inv_terms.specs.declared.values.Value.TheVariants as values
use Rattle.trial_invoice.specs.Generated.{occurrence, amount, standard_rated, rate, breakdown}
use Rattle.trial_invoice.proofs.PutLemmas.{on-ok, put-none, put-more}
use Rattle.trial_invoice.proofs.head.put_breakdown.Goals as goal

pub returns : goal.returns
returns c =
    let es = c.args.entries.now.items in
    let put1 = put-more es (take 0 (breakdown c.args.sum)) es c.put_amount.new.entries.items c.occurrence-breakdown.result
    (occurrence groups.VatBreakdown 1) 116 (amount (100 * c.args.sum)) (amount (100 * c.args.sum))
    (put-none es) c.in_ok-put_amount.ensures c.occurrence-breakdown.ensures refl in
    let put2 = put-more es (take 1 (breakdown c.args.sum)) c.put_amount.new.entries.items c.put_amount-2.new.entries.items c.occurrence-breakdown.result
    (occurrence groups.VatBreakdown 1) 117 (amount (20 * c.args.sum))
    (amount (20 * c.args.sum)) put1 c.in_ok-put_amount-2.ensures c.occurrence-breakdown.ensures refl in
    let put3 = put-more es (take 2 (breakdown c.args.sum)) c.put_amount-2.new.entries.items c.put_code.new.entries.items c.occurrence-breakdown.result
    (occurrence groups.VatBreakdown 1) 118 standard_rated standard_rated put2 c.in_ok-put_code.ensures c.occurrence-breakdown.ensures refl in
    on-ok c.put.result (λ last. put-more es (take 3 (breakdown c.args.sum)) c.put_code.new.entries.items c.put.new.entries.items c.occurrence-breakdown.result
    (occurrence groups.VatBreakdown 1) 119 (values.Percent c.ones.result) rate put3 last c.occurrence-breakdown.ensures (ap values.Percent c.ones.ensures))
    c.put.ensures
