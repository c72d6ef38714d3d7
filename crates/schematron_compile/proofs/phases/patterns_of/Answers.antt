use Rattle.std.proofs.Common.{◌∙◌, ap}
use Rattle.schematron_meaning.specs.Expansion.{instances}
use Rattle.schematron_meaning.specs.Rules.{numbers_named}
use Rattle.schematron_compile.proofs.phases.patterns_of.Goals as goal

pub returns : goal.returns
returns c = c.in_ok-patterns.ensures (instances c.args.file.now.entries) c.requires ∙
    ap (λ xs. numbers_named xs 0 (instances c.args.file.now.entries)) c.in_ok-actives.ensures
