use Rattle.xpath_parts.proofs.WithinLemmas.{within-append, within-along}
use Rattle.xpath_parts.proofs.turns.take_turn.Goals as goal

pub returns-in_ok-append-in-For-clause-within : goal.returns-in_ok-append-in-For-clause-within
returns-in_ok-append-in-For-clause-within c = λ count h k. within-along count _ _ c.in_ok-append-in-For.ensures.ok (within-append count _ _ h k)
