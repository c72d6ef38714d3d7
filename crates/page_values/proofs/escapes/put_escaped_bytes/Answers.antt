use Rattle.std.proofs.Common.{◌++◌}
use Rattle.inv_base.proofs.PrintingLemmas.{Prints-append, plain_part, escaped_part}
use Rattle.page_values.specs.Escapes.{escaped_character}
use Rattle.page_values.proofs.escapes.put_escaped_bytes.Goals as goal

pub runs-preserved-in-Some-reference_for : goal.runs-preserved-in-Some-reference_for
runs-preserved-in-Some-reference_for g c =
    let so_far = c.runs.invariant in (
      so_far.0 ++ c.in-Some-reference_for.reference.now,
      escaped_part escaped_character _ _ _ _ so_far.0 _ c.in-Some.ensures.cases.0 c.in-Some-reference_for.ensures so_far.1,
      Prints-append so_far.0 _ _ _ _ _ _ _ so_far.2 c.put.ensures,
    )

pub runs-preserved : goal.runs-preserved
runs-preserved g c =
    let so_far = c.runs.invariant in (
      so_far.0 ++ c.split_at.result.0.now,
      rw (c.split_at.ensures.front, c.split_at.ensures.back) (plain_part escaped_character _ _ so_far.0 _ c.plain_len.ensures.plain so_far.1),
      Prints-append so_far.0 _ _ _ _ _ _ _ so_far.2 c.put-in-None.ensures,
    )
