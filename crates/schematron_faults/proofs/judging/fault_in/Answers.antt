use Rattle.std.proofs.Common.{subst}
use Rattle.xpath_tokens.specs.Tokens.{most_bytes}
use Rattle.schematron_texts.specs.Replacing.{IsWithin}
use Rattle.schematron_faults.proofs.JudgeLemmas.{too_long}
use Rattle.schematron_faults.proofs.judging.fault_in.Goals as goal

pub returns-in-None : goal.returns-in-None
returns-in-None c = λ text h. too_long c.args.is_pattern text c.args.scope.now (subst (IsWithin most_bytes text) c.in-None.is h)
