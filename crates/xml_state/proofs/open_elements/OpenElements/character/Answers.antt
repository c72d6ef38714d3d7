use Rattle.std.proofs.Common.{sym}
use Rattle.xml_state.proofs.OpenElementsLemmas.{character_as_reference, blank_passed}
use Rattle.xml_state.proofs.open_elements.OpenElements.character.Goals as goal

pub returns-then-is_blank_here : goal.returns-then-is_blank_here
returns-then-is_blank_here g c = blank_passed _ _ _ c.args.c c.args.place.byte _ (sym c.if-is_blank_here.ensures) c.pass.ensures

pub returns : goal.returns
returns g c = character_as_reference _ _ _ _ _ _ _ _ (sym c.if-is_blank_here.ensures) c.reference.ensures
