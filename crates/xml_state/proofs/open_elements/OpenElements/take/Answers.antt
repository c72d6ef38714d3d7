use Rattle.xml_state.proofs.OpenElementsLemmas.{mark_passed, aside_passed}
use Rattle.xml_state.proofs.open_elements.OpenElements.take.Goals as goal

pub returns-in-Mark : goal.returns-in-Mark
returns-in-Mark g c = rw c.in-Mark.is (mark_passed _ _ _ c.args.place.byte _ c.pass_mark.ensures)

pub returns-in-Aside : goal.returns-in-Aside
returns-in-Aside g c = rw c.in-Aside.is (aside_passed _ _ _ c.args.place.byte _ c.pass.ensures)
