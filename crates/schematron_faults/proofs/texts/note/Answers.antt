use Rattle.std.proofs.Common.{Bool, subst, sym}
use Rattle.schematron_faults.specs.Staying.{Notes}
use Rattle.schematron_faults.proofs.TextLemmas.{notes_new, notes_none}
use Rattle.schematron_faults.proofs.texts.note.Goals as goal

pub returns-then-stay : goal.returns-then-stay
returns-then-stay c = subst (λ (stay : Bool). Notes c.args.changed.now.keys c.args.changed.now.keys c.args.number stay) (sym c.if-stay.true)
    (notes_none c.args.changed.now.keys c.args.number)

pub returns : goal.returns
returns c = subst (λ (stay : Bool). Notes c.args.changed.now.keys c.insert.new.self.keys c.args.number stay) (sym c.if-stay.false)
    (notes_new c.args.changed.now.keys c.insert.new.self.keys c.args.number c.in_ok-insert.ensures.updates.0)
