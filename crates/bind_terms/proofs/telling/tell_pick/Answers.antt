use Rattle.std.proofs.Common.{sym}
use Rattle.bind_terms.proofs.Pass.{tells-by-table}
use Rattle.bind_terms.specs.Inputs.{currency_of, nodes_of}
use Rattle.bind_terms.proofs.telling.tell_pick.Goals as goal

pub tell_row-requires-clause-placed : goal.tell_row-requires-clause-placed
tell_row-requires-clause-placed g c = c.requires.placed c.in-Some.row.now (sym c.in-Some.ensures)

pub returns : goal.returns
returns g c =
    tells-by-table c.tell_row.result (nodes_of c.args.input.now) c.args.input.now.lists.now
    (currency_of c.args.input.now) c.args.pick.now c.in-Some.row.now
    c.args.input.now.table.now _ _ _ _ c.in-Some.ensures c.tell_row.ensures
