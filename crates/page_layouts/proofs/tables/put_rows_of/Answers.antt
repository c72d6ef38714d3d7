use Rattle.std.proofs.Common.{◌≡◌, ℕ, List, ◌∙◌, ap, sym, arith}
use Rattle.std.specs.List.{flat_map}
use Rattle.page_tables.specs.Tables.{row_lent}
use Rattle.page_values.specs.Places.{numbers_to, occurrence}
use Rattle.page_layouts.specs.Tables.{table_row}
use Rattle.page_values.specs.Seen.{seen}
use Rattle.page_values.proofs.LoopLemmas.{over-next}
use Rattle.page_layouts.proofs.ShowLemmas.{Shows-append, Shows-same}
use Rattle.page_layouts.proofs.tables.put_rows_of.Goals as goal

pub occurrences-preserved : goal.occurrences-preserved
occurrences-preserved g c =
    let one : ℕ → List ℕ = λ k. table_row (occurrence (seen c.args.place.now) c.args.row.now.0 k) (row_lent c.args.row.now).1 in
    Shows-same _ _ _ _ _ _ _ (sym (over-next one c.occurrences.behind))
    (Shows-append _ _ _ _ _ _ _ _ _ c.occurrences.invariant c.put_row_in.ensures)

pub returns : goal.returns
returns g c =
    let one : ℕ → List ℕ = λ k. table_row (occurrence (seen c.args.place.now) c.args.row.now.0 k) (row_lent c.args.row.now).1 in
    let all : c.occurrences.behind ≡ c.count_in-count.result = omega arith in
    Shows-same _ _ _ _ _ _ _ (ap (λ n. flat_map one (numbers_to n)) (all ∙ c.count_in-count.ensures)) c.occurrences.invariant
