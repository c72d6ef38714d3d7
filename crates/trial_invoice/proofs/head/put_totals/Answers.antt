use Rattle.std.proofs.Common.{take}
use Rattle.trial_invoice.specs.Generated.{totals}
use Rattle.trial_invoice.proofs.PutLemmas.{on-ok, put-none, put-all}
use Rattle.trial_invoice.proofs.head.put_totals.Goals as goal

pub returns : goal.returns
returns c =
    let es = c.args.entries.now.items in
    let put1 = put-all es (take 0 (totals c.args.sum)) _ _ _ (put-none es) c.in_ok-put_amount.ensures in
    let put2 = put-all es (take 1 (totals c.args.sum)) _ _ _ put1 c.in_ok-put_amount-2.ensures in
    let put3 = put-all es (take 2 (totals c.args.sum)) _ _ _ put2 c.in_ok-put_amount-3.ensures in
    let put4 = put-all es (take 3 (totals c.args.sum)) _ _ _ put3 c.in_ok-put_amount-4.ensures in
    on-ok c.put_amount-5.result (λ last. put-all es (take 4 (totals c.args.sum)) _ _ _ put4 last) c.put_amount-5.ensures
