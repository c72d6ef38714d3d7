use Rattle.std.proofs.Common.{option_map, ap, sym, ◌∙◌}
use Rattle.std.specs.Str.{chars}
use Rattle.std.specs.Option.{option_copied}
use Rattle.rule_library.proofs.AskLemmas.{inside_good, inside_bad}
use Rattle.rule_library.proofs.asking.extended.Goals as goal

pub returns-then-is_good : goal.returns-then-is_good
returns-then-is_good c =
    inside_good _ _ c.in-Some.name.now (ap (λ o. option_map chars (option_copied o)) c.in-None-rule.is)
    (ap (λ o. option_map chars (option_copied o)) c.in-Some.is)
    c.is_good.ensures.text (sym c.is_good.ensures.good ∙ c.if-is_good.true)

pub returns-else-is_good : goal.returns-else-is_good
returns-else-is_good c =
    inside_bad _ _ c.in-Some.name.now (ap (λ o. option_map chars (option_copied o)) c.in-None-rule.is)
    (ap (λ o. option_map chars (option_copied o)) c.in-Some.is)
    c.is_good.ensures.text (sym c.is_good.ensures.good ∙ c.if-is_good.false)
