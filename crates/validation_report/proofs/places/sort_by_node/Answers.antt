use Rattle.std.proofs.Common.{ℕ, rules}
use Rattle.std.proofs.lemmas.List.Sorted.{answers_always, IsNonDecreasingBy-from_sort}
use Rattle.std.proofs.lemmas.Result.{on_ok_weaker}
use Rattle.validation_report.specs.declared.places.Spot.{Spot}
use Rattle.validation_report.proofs.OrderLemmas.{in_order-from_sort}
use Rattle.validation_report.proofs.places.sort_by_node.Goals as goal

pub returns : goal.returns
returns c =
    let node : Spot → ℕ = λ spot. spot.node in
    let keys = answers_always _ _ _ (λ f a r next called. search rules) in
    let stable = c.sort_by_key.ensures.stable node keys in
    on_ok_weaker c.sort_by_key.result
    (λ sorted. in_order-from_sort node _ _ (IsNonDecreasingBy-from_sort node _ (sorted node keys)) stable)
    c.sort_by_key.ensures.sorted
