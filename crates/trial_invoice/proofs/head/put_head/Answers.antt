use Rattle.std.proofs.Common.{◌++◌}
use Rattle.trial_invoice.specs.Generated.{beginning, parties, totals, breakdown}
use Rattle.trial_invoice.proofs.PutLemmas.{on-ok, put-all}
use Rattle.trial_invoice.proofs.head.put_head.Goals as goal

pub returns : goal.returns
returns c =
    let es = c.args.entries.now.items in
    let two = put-all es beginning parties c.put_beginning.new.entries.items c.put_parties.new.entries.items c.in_ok-put_beginning.ensures
    c.in_ok-put_parties.ensures in
    let three = put-all es (beginning ++ parties) (totals c.args.sum) c.put_parties.new.entries.items c.put_totals.new.entries.items two
    c.in_ok-put_totals.ensures in
    on-ok c.put_breakdown.result
    (λ last. put-all es ((beginning ++ parties) ++ totals c.args.sum) (breakdown c.args.sum) c.put_totals.new.entries.items c.put_breakdown.new.entries.items
    three last)
    c.put_breakdown.ensures
