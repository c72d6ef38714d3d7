use Rattle.std.proofs.Common.{◌∙◌, ap}
use Rattle.schematron_meaning.specs.Expansion.{inclusions}
use Rattle.schematron_compile.specs.Lent.{lent_puts}
use Rattle.schematron_compile.proofs.rules.rule_of.Goals as goal

pub rule_with-rule-requires : goal.rule_with-rule-requires
rule_with-rule-requires c = ap lent_puts c.deref.ensures.value ∙ (c.in_ok-inclusions.ensures
    ∙ ap (inclusions c.args.file.now c.args.instance.now.stand) c.number.ensures)
