use Rattle.bind_table.proofs.ClearLemmas.{added-parts-from}
use Rattle.bind_table.proofs.laws.added_rows_part_from_others.Goals as goal

pub returns : goal.returns
returns c = added-parts-from
