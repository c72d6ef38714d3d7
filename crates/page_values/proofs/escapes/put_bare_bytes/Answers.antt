use Rattle.std.proofs.Common.{◌++◌}
use Rattle.inv_base.proofs.PrintingLemmas.{Prints-append, plain_part}
use Rattle.page_values.specs.Seen.{squeezed}
use Rattle.page_values.proofs.escapes.put_bare_bytes.Goals as goal

pub runs-preserved : goal.runs-preserved
runs-preserved g c =
    let so_far = c.runs.invariant in (
      so_far.0 ++ c.split_at.result.0.now,
      rw (c.split_at.ensures.front, c.split_at.ensures.back) (plain_part squeezed _ _ so_far.0 _ c.bare_len.ensures.plain so_far.1),
      Prints-append so_far.0 _ _ _ _ _ _ _ so_far.2 c.put.ensures,
    )
