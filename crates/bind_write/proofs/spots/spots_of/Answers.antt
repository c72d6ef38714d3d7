use Rattle.std.proofs.Common.{ap, sym, ◌∙◌}
use Rattle.bind_meaning.specs.Trees.{spots}
use Rattle.bind_write.proofs.SpotLemmas.{spots-some}
use Rattle.bind_write.proofs.spots.spots_of.Goals as goal

pub returns-in-Some : goal.returns-in-Some
returns-in-Some c =
    spots-some c.args.source.now.entries.now c.args.source.now.context c.in-Some.group c.count_of.result c.count_of.ensures
    ∙ ap (spots c.args.source.now.entries.now c.args.source.now.context) (sym c.in-Some.is)
