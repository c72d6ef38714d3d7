use Rattle.std.proofs.Common.{◌≡◌, ◌+◌, true, not, sym, ap, ◌∙◌, subst, ◌&&◌, nat_lt}
use Rattle.xml_state.specs.Admission.{is_text_too_many}
use Rattle.xml_state.specs.Taking.{text_of_memory, text_too_many}
use Rattle.xml_state.proofs.open_elements.OpenElements.tell.Goals as goal

pub returns-then-is_beyond : goal.returns-then-is_beyond
returns-then-is_beyond g c =
    text_too_many
    (subst (λ s. is_text_too_many c.args.limits.now s ≡ true) c.self.view_is
    (ap (λ b. not b && nat_lt c.args.limits.now.nodes (c.self.inside.nodes + 1)) c.if-not-self.true ∙ sym c.if-is_beyond.ensures))
    (λ events taken. taken)

pub returns-in-Err : goal.returns-in-Err
returns-in-Err g c = text_of_memory c.in-Err.ensures
