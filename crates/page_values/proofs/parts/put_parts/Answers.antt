use Rattle.std.proofs.Common.{map, ap}
use Rattle.inv_base.proofs.PrintingLemmas.{Prints-append}
use Rattle.page_tables.specs.Tables.{part_lent}
use Rattle.page_values.proofs.LoopLemmas.{drop-at}
use Rattle.page_values.proofs.PartLemmas.{parts-next}
use Rattle.page_values.proofs.parts.put_parts.Goals as goal

pub parts-preserved : goal.parts-preserved
parts-preserved g c =
    let so_far = c.parts.invariant in (
      _,
      parts-next _ _ _ _ _ _ so_far.0 _ (ap (map part_lent) (drop-at c.args.parts.now c.parts.part-index _ c.parts-test.true)) c.put_part-behind.ensures.stands
          so_far.1,
      Prints-append so_far.0 _ _ _ _ _ _ _ so_far.2 c.put_part-behind.ensures.prints,
    )
