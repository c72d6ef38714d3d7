use Rattle.std.proofs.Common.{Some, chars, ap, ◌∙◌}
use Rattle.xpath_meaning.specs.Expressions as e
use Rattle.xpath_plan.proofs.NameLaws.{named-seen}
use Rattle.xpath_plan.proofs.leaves.named_in.Goals as goal

pub returns-clause-test : goal.returns-clause-test
returns-clause-test c = λ later. named-seen c.number.new.self later _ _ c.in_ok-number.ensures.number
    ∙ ap (λ local. Some (e.named (record { uri = chars c.args.uri.now; local = local }))) c.as_str.ensures
