use Rattle.std.proofs.Common.{◌∙◌, ap, sym}
use Rattle.std.specs.List.{list_any}
use Rattle.inv_base.specs.Characters.{is_white_space}
use Rattle.xpath_values.proofs.SpaceLemmas.{plain_normal}
use Rattle.xpath_values.proofs.spacing.normal.Goals as goal

pub returns-then-not-has_white_space : goal.returns-then-not-has_white_space
returns-then-not-has_white_space c =
    sym (plain_normal c.args.text
    (ap (list_any is_white_space) (sym c.as_str.ensures) ∙ (sym c.has_white_space.ensures ∙ c.if-not-has_white_space.true)))
