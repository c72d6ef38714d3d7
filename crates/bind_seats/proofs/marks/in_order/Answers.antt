use Rattle.std.proofs.Common.{◌∙◌, sym, ap}
use Rattle.std.proofs.lemmas.List.Filters.{dedup_is}
use Rattle.std.proofs.lemmas.List.Sorted.{list_any-IsPermutation}
use Rattle.bind_seats.specs.Marks.{has_mark, same_mark}
use Rattle.bind_seats.proofs.MarkLemmas.{mark_eq, dedup-rises, dedup-has}
use Rattle.bind_seats.proofs.marks.in_order.Goals as goal

pub returns-clause-rises : goal.returns-clause-rises
returns-clause-rises c = rw (dedup_is mark_eq _ _ c.dedup.ensures.filtered) (dedup-rises _ c.sort_unstable.ensures.sorted)

pub returns-clause-same : goal.returns-clause-same
returns-clause-same c = λ m.
    ap (λ ms. has_mark ms m) (dedup_is mark_eq _ _ c.dedup.ensures.filtered)
    ∙ (dedup-has _ m ∙ sym (list_any-IsPermutation (same_mark m) _ _ c.sort_unstable.ensures.permutation))
