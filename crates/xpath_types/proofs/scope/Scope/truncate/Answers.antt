use Rattle.xpath_types.proofs.ScopeLemmas.{variables-cut}
use Rattle.xpath_types.proofs.scope.Scope.truncate.Goals as goal

pub returns : goal.returns
returns c = variables-cut c.args.count _ _ _ _ c.self.view_is c.truncate.ensures.keys
