use Rattle.std.proofs.Common.{List, length, not, ap, ◌∙◌}
use Rattle.std.specs.Prelude.{◌==◌}
use Rattle.rule_library.specs.declared.walk.Frame.{Frame}
use Rattle.rule_library.proofs.TurnLemmas.{is_part-of}
use Rattle.rule_library.proofs.walk.is_part.Goals as goal

pub returns : goal.returns
returns c =
    ap not (c.is_empty.ensures ∙ ap (λ (frames : List Frame). length frames == 0) c.as_slice.ensures.value)
    ∙ is_part-of c.args.walk.now.files.items c.args.walk.now.outer.items
