use Rattle.bind_write.proofs.WriterSteps.{Makes-same}
use Rattle.bind_write.proofs.TextLemmas.{declaration-is}
use Rattle.bind_write.proofs.roots.put_declaration.Goals as goal

pub returns-clause-makes : goal.returns-clause-makes
returns-clause-makes g c = Makes-same _ _ _ _ _ _ _ (declaration-is c.args.namespace _ _ c.prefix_of.ensures c.uri_of.ensures) c.declare.ensures.makes
