use Rattle.std.proofs.Common.{ap, not, ◌∙◌}
use Rattle.std.specs.List.{position}
use Rattle.inv_base.specs.Characters.{is_white_space}
use Rattle.xml_tokens.proofs.CutLemmas.{boundary-behind, space-ascii}
use Rattle.xml_tokens.proofs.literals.behind_white_space.Goals as goal

pub split_at-requires : goal.split_at-requires
split_at-requires c = boundary-behind is_white_space c.args.text.now c.in-Some.place c.utf8.text space-ascii
    (c.in-Some.ensures ∙ ap (position (λ b. not (is_white_space b))) c.as_bytes.ensures.value)
