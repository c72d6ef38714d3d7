use Rattle.extension_laws.proofs.JoinedLemmas.{extension-joins}
use Rattle.extension_laws.proofs.extensions.good_extensions_join.Goals as goal

pub returns : goal.returns
returns c = extension-joins
