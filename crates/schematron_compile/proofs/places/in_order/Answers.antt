use Rattle.std.proofs.Common.{◌∙◌, sym, ap, ◌==◌}
use Rattle.std.specs.Prelude.{eqb}
use Rattle.std.proofs.lemmas.List.Filters.{dedup_is}
use Rattle.std.proofs.lemmas.List.Sorted.{list_any-IsPermutation}
use Rattle.inv_base.specs.Tree.{is_among}
use Rattle.schematron_compile.proofs.OrderLemmas.{dedup-rises, dedup-among, among-any}
use Rattle.schematron_compile.proofs.places.in_order.Goals as goal

pub returns-clause-rises : goal.returns-clause-rises
returns-clause-rises c = rw (dedup_is eqb _ _ c.dedup.ensures.filtered) (dedup-rises _ c.sort_unstable.ensures.sorted)

pub returns-clause-same : goal.returns-clause-same
returns-clause-same c = λ n.
    ap (is_among n) (dedup_is eqb _ _ c.dedup.ensures.filtered)
    ∙ (dedup-among _ n ∙ (among-any n c.sort_unstable.new.self.items
    ∙ (sym (list_any-IsPermutation (λ m. n == m) _ _ c.sort_unstable.ensures.permutation) ∙ sym (among-any n c.args.numbers.items))))
