use Rattle.std.proofs.Common.{◌≡◌, ℕ, List, ◌∙◌, ap, sym, arith}
use Rattle.std.specs.List.{flat_map}
use Rattle.page_tables.specs.Tables.{item_lent}
use Rattle.page_values.specs.Places.{numbers_to, occurrence}
use Rattle.page_layouts.specs.Layouts.{one_in}
use Rattle.page_values.specs.Seen.{seen}
use Rattle.page_values.proofs.LoopLemmas.{over-next}
use Rattle.page_layouts.proofs.ShowLemmas.{Shows-append, Shows-same}
use Rattle.page_layouts.proofs.layouts.put_in_each.Goals as goal

pub occurrences-preserved : goal.occurrences-preserved
occurrences-preserved g c =
    let one : ℕ → List ℕ = λ k. one_in (occurrence (seen c.args.place.now) c.args.group k) (item_lent c.args.item.now) in
    Shows-same _ _ _ _ _ _ _ (sym (over-next one c.occurrences.behind))
    (Shows-append _ _ _ _ _ _ _ _ _ c.occurrences.invariant c.put_in_occurrence.ensures)

pub returns : goal.returns
returns g c =
    let one : ℕ → List ℕ = λ k. one_in (occurrence (seen c.args.place.now) c.args.group k) (item_lent c.args.item.now) in
    let all : c.occurrences.behind ≡ c.count_in-count.result = omega arith in
    Shows-same _ _ _ _ _ _ _ (ap (λ n. flat_map one (numbers_to n)) (all ∙ c.count_in-count.ensures)) c.occurrences.invariant
