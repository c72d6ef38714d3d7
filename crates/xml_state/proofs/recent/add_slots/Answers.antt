use Rattle.std.proofs.Common.{ap, ◌∙◌}
use Rattle.xml_state.specs.Recent.{are_right}
use Rattle.xml_state.proofs.RecentLemmas.{empty-more}
use Rattle.xml_state.proofs.recent.add_slots.Goals as goal

pub slots-preserved : goal.slots-preserved
slots-preserved c = λ right stamp positive h.
    empty-more right stamp c.slots.slots.items _ c.new.result positive c.new.ensures c.in_ok-push.ensures.items (c.slots.invariant right stamp positive h)

pub returns-in_err-push : goal.returns-in_err-push
returns-in_err-push c = λ right stamp positive h. ap (are_right right stamp) c.in_err-push.ensures.items ∙ c.slots.invariant right stamp positive h
