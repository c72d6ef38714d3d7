use Rattle.std.proofs.Common.{◌≡◌, ℕ, ◌+◌, ◌≤◌, length, reverse, vec_len}
use Rattle.xpath_operators.specs.Nodes.{AllWithin}
use Rattle.xpath_parts.specs.Turns.{advanced}
use Rattle.xpath_parts.proofs.turns.advance.Given as goal

abbrev pub invariant-turns : goal.invariant-turns
invariant-turns l = record {
  same : advanced (reverse l.turns.items) ≡ advanced (reverse l.initial.turns.items);
  bound : l.bound.items ≡ l.initial.bound.items;
  room : l.height + length l.turns.items ≤ length l.bound.items + 1;
  within : (count : ℕ) → AllWithin count l.initial.turns.items → AllWithin count l.turns.items;
}

abbrev pub decreases-turns : goal.decreases-turns
decreases-turns l = vec_len l.turns
