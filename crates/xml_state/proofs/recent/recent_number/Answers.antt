use Rattle.std.proofs.Common.{sym, ◌∙◌}
use Rattle.xml_state.proofs.RecentLemmas.{held}
use Rattle.xml_state.proofs.recent.recent_number.Goals as goal

pub returns-then-holds : goal.returns-then-holds
returns-then-holds c = λ right h.
    held right c.args.stamp c.args.slots.now c.place_of-place.result c.index-slots-place.result c.args.name.now h c.if-place-slots.false c.index-slots-place.is
    (sym c.holds.ensures ∙ c.if-holds.true)
