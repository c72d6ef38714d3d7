use Rattle.std.proofs.Common.{◌≡◌}
use Rattle.node_arena.specs.Moves.{tree_nodes}
use Rattle.bind_meaning.specs.Currencies.{amount_currency}
use Rattle.bind_seats.proofs.AttributeLemmas.{IsAttributeAt, currency_from, left_from}
use Rattle.bind_seats.proofs.currencies.amount_currency.Given as goal

abbrev pub invariant-attributes : goal.invariant-attributes
invariant-attributes g l = record {
  at : IsAttributeAt (tree_nodes l.doc) l.fn.n l.next;
  by : currency_from (tree_nodes l.doc) l.fn.n l.next ≡ amount_currency (tree_nodes l.doc) l.fn.n;
}

abbrev pub decreases-attributes : goal.decreases-attributes
decreases-attributes g l = left_from (tree_nodes l.doc) l.next
