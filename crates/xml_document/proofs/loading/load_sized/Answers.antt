use Rattle.std.proofs.lemmas.Result.{IfOk-weaker}
use Rattle.xml_document.proofs.loading.load_sized.Goals as goal

pub returns-clause-loaded : goal.returns-clause-loaded
returns-clause-loaded g c = IfOk-weaker c.load_giving.result _ _ (λ loaded all. all.sized) c.load_giving.ensures.loaded
