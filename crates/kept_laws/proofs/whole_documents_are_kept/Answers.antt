use Rattle.kept_laws.proofs.EnteredLemmas.{each-entered}
use Rattle.kept_laws.proofs.KeptLemmas.{whole-kept}
use Rattle.kept_laws.proofs.whole_documents_are_kept.Goals as goal

pub returns : goal.returns
returns c = λ nodes rows lists read h whole. whole-kept nodes rows lists read h whole (each-entered nodes rows lists read h)
