use Rattle.std.proofs.Common.{◌++◌, refl}
use Rattle.inv_base.proofs.PrintingLemmas.{Prints-append, plain_part, escaped_part}
use Rattle.json_text.specs.Layout.{character_text}
use Rattle.json_text.proofs.strings.put_escaped.Goals as goal

pub runs-preserved-then-is_escaped : goal.runs-preserved-then-is_escaped
runs-preserved-then-is_escaped g c =
    let so_far = c.runs.invariant in (
      so_far.0 ++ character_text c.in-Some.byte.now,
      escaped_part character_text _ _ _ _ so_far.0 _ c.in-Some.ensures.cases.0 refl so_far.1,
      Prints-append so_far.0 _ _ _ _ _ _ _ so_far.2 c.put_escape.ensures,
    )

pub runs-preserved : goal.runs-preserved
runs-preserved g c =
    let so_far = c.runs.invariant in (
      so_far.0 ++ c.split_at.result.0.now,
      rw (c.split_at.ensures.front, c.split_at.ensures.back) (plain_part character_text _ _ so_far.0 _ c.plain_len.ensures.plain so_far.1),
      Prints-append so_far.0 _ _ _ _ _ _ _ so_far.2 c.put.ensures,
    )
