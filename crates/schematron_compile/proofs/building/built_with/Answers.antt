use Rattle.std.proofs.Common.{◌∙◌, ap}
use Rattle.schematron_meaning.specs.Written.{prefixes}
use Rattle.schematron_compile.proofs.building.built_with.Goals as goal

pub built_in-rules-requires-clause-scope : goal.built_in-rules-requires-clause-scope
built_in-rules-requires-clause-scope c = c.in_ok-scope.ensures ∙ ap prefixes c.entries.ensures
