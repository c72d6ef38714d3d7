-- Picks in document order. No public clause cites it.
use Rattle.std.specs.Prelude.{List}
use Rattle.std.specs.List.Sorted.{IsPermutation, IsSorted}
use Rattle.std.specs.Option.{option_cmp}
use Rattle.std.specs.Ordering.{nat_cmp, on, then_cmp}
use Rattle.std.specs.declared.cmp.Ordering.{Ordering}
use Rattle.bind_meaning.specs.declared.picked.Picked.{Picked}

-- by the node, the row, and the elements of the groups
abbrev pub order : Picked → Picked → Ordering
order = then_cmp (on (λ (p : Picked). p.node) nat_cmp)
    (then_cmp (on (λ (p : Picked). p.row) nat_cmp)
    (then_cmp (on (λ (p : Picked). p.outer) (option_cmp nat_cmp)) (on (λ (p : Picked). p.inner) (option_cmp nat_cmp))))

-- The picks are those that were found, in order.
pub record Sorts (found picks : List Picked) : Type 0 where
  pub moved : IsPermutation found picks
  pub sorted : IsSorted order picks
