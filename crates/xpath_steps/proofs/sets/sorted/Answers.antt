use Rattle.std.proofs.Common.{◌∙◌, sym, ◌==◌}
use Rattle.std.proofs.lemmas.List.Sorted.{list_any-IsPermutation, IsNonDecreasingBy-from_sort}
use Rattle.xpath_steps.proofs.SetLemmas.{among_any}
use Rattle.xpath_steps.proofs.sets.sorted.Goals as goal

pub returns-clause-sorted : goal.returns-clause-sorted
returns-clause-sorted c = IsNonDecreasingBy-from_sort (λ x. x) _ c.sort_unstable.ensures.sorted

pub returns-clause-same : goal.returns-clause-same
returns-clause-same c = λ n.
    among_any n c.sort_unstable.new.self.items
    ∙ (sym (list_any-IsPermutation (λ m. n == m) _ _ c.sort_unstable.ensures.permutation) ∙ sym (among_any n c.args.nodes.items))
