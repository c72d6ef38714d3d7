use Rattle.std.proofs.Common.{sym, subst}
use Rattle.bind_table.specs.Growing.{AreLines}
use Rattle.bind_write.proofs.PlanLemmas.{opened_lines}
use Rattle.bind_write.proofs.roots.root_of.Goals as goal

pub split_at-requires : goal.split_at-requires
split_at-requires c = (opened_lines _ _ _ c.in-Some.ensures.cases.0 c.requires.lines).fits

pub root_at-requires-clause-lines : goal.root_at-requires-clause-lines
root_at-requires-clause-lines c = subst AreLines (sym c.split_at.ensures.front) (opened_lines _ _ _ c.in-Some.ensures.cases.0 c.requires.lines).inside
