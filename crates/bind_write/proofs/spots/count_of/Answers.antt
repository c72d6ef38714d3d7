use Rattle.std.proofs.Common.{◌∙◌}
use Rattle.bind_write.proofs.SpotLemmas.{count-none, count-some, same-last}
use Rattle.bind_write.proofs.spots.count_of.Goals as goal

pub returns-in-None : goal.returns-in-None
returns-in-None c = c.last.ensures ∙ (c.requires.counted c.args.group ∙
    (same-last c.args.source.now.entries.now c.args.group ∙ count-none c.args.source.now.entries.now c.args.source.now.context c.args.group c.in-None.is))

pub returns-in-Some : goal.returns-in-Some
returns-in-Some c =
    c.last_inner.ensures ∙ count-some c.args.source.now.entries.now c.args.source.now.run.now c.args.source.now.context _ c.args.group c.in-Some.is
    c.requires.run
