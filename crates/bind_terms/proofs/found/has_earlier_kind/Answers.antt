use Rattle.bind_terms.proofs.Gathering.{behind-itself}
use Rattle.bind_terms.proofs.found.has_earlier_kind.Goals as goal

pub returns-in-Behind : goal.returns-in-Behind
returns-in-Behind c = behind-itself c.args.spot.now c.args.kind c.args.other _ _ c.in-Behind.is
