use Rattle.std.proofs.Common.{refl}
use Rattle.schematron_expansion.proofs.file.RuleFile.is_of_its_entries.Goals as goal

pub returns : goal.returns
returns c = rw (← c.self.view_is) refl
