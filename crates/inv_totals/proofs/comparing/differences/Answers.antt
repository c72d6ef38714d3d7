use Rattle.inv_totals.proofs.comparing.differences.Goals as goal

pub compare_all-requires : goal.compare_all-requires
compare_all-requires c = c.new-tally.ensures c.args.i.now
