use Rattle.std.proofs.Common.{ap}
use Rattle.xml_tokens.specs.declared.beginning.Position.TheVariants.{BehindMark}
use Rattle.xml_state.specs.States.{State, state_behind}
use Rattle.xml_state.proofs.open_elements.OpenElements.pass_mark.Goals as goal

pub returns : goal.returns
unfolding state_behind
returns c = ap (λ (s : State). record s { position = BehindMark }) c.self.view_is
