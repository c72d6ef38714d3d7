use Rattle.std.proofs.Common.{option_map, ap, sym, ◌∙◌}
use Rattle.std.specs.Str.{chars}
use Rattle.std.specs.Option.{option_copied}
use Rattle.rule_library.proofs.AskLemmas.{root_good, root_bad}
use Rattle.rule_library.proofs.asking.included.Goals as goal

pub returns-then-is_good : goal.returns-then-is_good
returns-then-is_good c =
    root_good _ c.in-Some.name.now (ap (λ o. option_map chars (option_copied o)) c.in-Some.is) c.is_good.ensures.text
    (sym c.is_good.ensures.good ∙ c.if-is_good.true)

pub returns-else-is_good : goal.returns-else-is_good
returns-else-is_good c =
    root_bad _ c.in-Some.name.now (ap (λ o. option_map chars (option_copied o)) c.in-Some.is) c.is_good.ensures.text
    (sym c.is_good.ensures.good ∙ c.if-is_good.false)
