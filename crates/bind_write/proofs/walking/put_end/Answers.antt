use Rattle.std.proofs.Common.{ap, [], ◌∷◌}
use Rattle.xml_write.specs.Calls.{call_end}
use Rattle.bind_write.proofs.WriterSteps.{Makes-same}
use Rattle.bind_write.proofs.TextLemmas.{name-is}
use Rattle.bind_write.proofs.walking.put_end.Goals as goal

pub returns-clause-makes : goal.returns-clause-makes
returns-clause-makes g c =
    Makes-same _ _ _ _ _ _ _ (ap (λ x. call_end x ∷ []) (name-is c.args.step.now.name.namespace _ _ _ c.prefix_of.ensures c.as_str.utf8 c.as_str.ensures))
    c.end_qualified.ensures.makes
