use Rattle.std.proofs.Common.{take}
use Rattle.trial_invoice.specs.Generated.{parties}
use Rattle.trial_invoice.proofs.PutLemmas.{on-ok, put-none, put-all}
use Rattle.trial_invoice.proofs.head.put_parties.Goals as goal

pub returns : goal.returns
returns c =
    let es = c.args.entries.now.items in
    let put1 = put-all es (take 0 parties) _ _ _ (put-none es) c.in_ok-put_identifier.ensures in
    let put2 = put-all es (take 1 parties) _ _ _ put1 c.in_ok-put_text.ensures in
    let put3 = put-all es (take 2 parties) _ _ _ put2 c.in_ok-put_code.ensures in
    let put4 = put-all es (take 3 parties) _ _ _ put3 c.in_ok-put_text-2.ensures in
    on-ok c.put_code-2.result (λ last. put-all es (take 4 parties) _ _ _ put4 last) c.put_code-2.ensures
