use Rattle.std.proofs.Common.{◌≡◌, ◌≤◌, ◌++◌, take, drop}
use Rattle.std.specs.Prelude.{filter}
use Rattle.node_arena.specs.Moves.{tree_nodes}
use Rattle.bind_seats.specs.Placeholders.{stays}
use Rattle.bind_seats.proofs.placeholders.staying.Given as goal

abbrev pub invariant-picks : goal.invariant-picks
invariant-picks g l = record {
  few : l.count ≤ l.place;
  behind : drop l.place l.picks.items ≡ drop l.place l.fn.picks.items;
  whole : take l.count l.picks.items ++ filter (stays (tree_nodes l.input.doc.now) l.input.rows.now
      (record { invoice = l.currencies.invoice; accounting = l.currencies.accounting }) l.marks) (drop l.place l.fn.picks.items)
      ≡ filter (stays (tree_nodes l.input.doc.now) l.input.rows.now
      (record { invoice = l.currencies.invoice; accounting = l.currencies.accounting }) l.marks) l.fn.picks.items;
}
