use Rattle.std.proofs.Common.{arith}
use Rattle.inv_terms.proofs.CountLemmas.{counted-none, counted-more, counted-all}
use Rattle.inv_terms.proofs.counts.Counts.among.Goals as goal

pub entries-init : goal.entries-init
entries-init c = counted-none 104 c.args.entries.now

pub entries-preserved : goal.entries-preserved
entries-preserved c =
    counted-more c.entries.numbers _ c.args.entries.now c.entries.e-index c.e-item.result (omega arith) c.e-item.is c.note.ensures c.entries.invariant

pub returns : goal.returns
returns c = record { counted = counted-all c.entries.numbers c.args.entries.now c.entries.e-index (omega arith) c.entries.invariant }
