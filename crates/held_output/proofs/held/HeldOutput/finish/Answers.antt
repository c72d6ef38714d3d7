use Rattle.held_output.proofs.HoldingLemmas.{hands}
use Rattle.held_output.proofs.held.HeldOutput.finish.Goals as goal

pub returns-clause-hands : goal.returns-clause-hands
returns-clause-hands g c =
    let after = c.hand_on-handed.new.self in
    hands _ _ _ _ after.sent after.held.items after.since c.args.self.since.rises c.hand_on-handed.ensures.told c.hand_on-handed.ensures.faults
    c.hand_on-handed.ensures.empty
