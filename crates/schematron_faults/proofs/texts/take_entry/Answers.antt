use Rattle.std.proofs.Common.{ℕ, refl, subst}
use Rattle.schematron_entries.specs.Seen.{seen_entry}
use Rattle.schematron_faults.specs.Staying.{Notes}
use Rattle.schematron_faults.proofs.TextLemmas.{texts_added}
use Rattle.schematron_faults.proofs.texts.take_entry.Goals as goal

pub returns : goal.returns
returns c = texts_added c.args.blanks.now c.args.texts.now _ (seen_entry c.args.e.now) c.in_ok-stay.stay c.in_ok-name.name
    (subst (λ (n : ℕ). Notes c.args.texts.now.changed.keys c.note.new.changed.keys n c.in_ok-stay.stay) c.number.ensures c.in_ok-note.ensures) refl
    c.in_ok-stay.ensures c.in_ok-name.ensures
