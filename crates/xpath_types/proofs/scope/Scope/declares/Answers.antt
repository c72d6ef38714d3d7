use Rattle.xpath_types.proofs.ScopeLemmas.{declares-found}
use Rattle.xpath_types.proofs.scope.Scope.declares.Goals as goal

pub returns : goal.returns
returns c = declares-found c.args.name.now c.utf8.name _ _ _ _ c.self.view_is c.contains.ensures
