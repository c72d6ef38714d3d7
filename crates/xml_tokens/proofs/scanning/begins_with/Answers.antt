use Rattle.std.proofs.Common.{◌∙◌}
use Rattle.xml_tokens.proofs.StringLemmas.{starts-begins}
use Rattle.xml_tokens.proofs.scanning.begins_with.Goals as goal

pub returns-clause-exact : goal.returns-clause-exact
returns-clause-exact c = c.starts_with.ensures.value ∙ starts-begins c.args.string.now c.args.bytes.now
