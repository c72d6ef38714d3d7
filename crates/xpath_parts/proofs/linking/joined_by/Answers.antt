use Rattle.xpath_parts.proofs.WithinLemmas.{within-append, within-along}
use Rattle.xpath_parts.proofs.linking.joined_by.Goals as goal

pub returns-in-Comma-clause-within : goal.returns-in-Comma-clause-within
returns-in-Comma-clause-within c = within-along _ _ _ c.in_ok-one_behind-in-Comma.ensures (within-append _ _ _ c.requires.xs c.requires.ys)
