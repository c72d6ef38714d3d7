use Rattle.std.proofs.Common.{List, map, sym, subst}
use Rattle.term_table.specs.Runs.{IsInOrder}
use Rattle.inv_terms.specs.declared.entries.Entry.{Entry}
use Rattle.inv_terms.specs.Listing.{seat_of}
use Rattle.bind_write.specs.Sources.{HasSameValues}
use Rattle.bind_write.proofs.SourceLemmas.{run_order, run_values, same_outer}
use Rattle.bind_write.proofs.source.entries_for.Goals as goal

pub returns-else-is_none-clause-order : goal.returns-else-is_none-clause-order
returns-else-is_none-clause-order c =
    let P : List Entry → Type 0 = λ es. IsInOrder (map seat_of es) in
    subst P (sym c.requires.source.run) (run_order c.args.source.now.entries.now c.args.source.now.context c.requires.source.order)

pub returns-else-is_none-clause-same : goal.returns-else-is_none-clause-same
returns-else-is_none-clause-same c =
    let P : List Entry → Type 0 = λ es. HasSameValues c.args.source.now.entries.now es c.args.context in
    subst P (sym c.requires.source.run)
    (run_values c.args.source.now.entries.now c.args.source.now.context c.args.context
    (same_outer _ _ _ c.is_none.ensures c.if-is_none.false c.requires.context.outer))
