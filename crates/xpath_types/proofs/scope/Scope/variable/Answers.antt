use Rattle.xpath_types.proofs.ScopeLemmas.{variable-added}
use Rattle.xpath_types.proofs.scope.Scope.variable.Goals as goal

pub returns-clause-ok : goal.returns-clause-ok
returns-clause-ok c = variable-added c.args.name.now c.utf8.name _ _ _ _ _ c.self.view_is c.in_ok-from_str.ensures.ok c.in_ok-insert.ensures.keys
