use Rattle.std.proofs.Common.{List, ℕ, Bor, chars, option_map, ap, sym, ◌∙◌}
use Rattle.schematron_entries.specs.Seen.{seen_entry}
use Rattle.schematron_faults.proofs.TextLemmas.{stays_given, stays_absent, if_ok}
use Rattle.schematron_faults.proofs.texts.stays.Goals as goal

pub returns-in-None : goal.returns-in-None
returns-in-None c = λ same. stays_absent c.args.blanks.now c.args.name (seen_entry c.args.e.now)
    (sym (ap (option_map (λ (value : Bor (List ℕ)). chars value.now)) c.in-None.is) ∙ c.attribute.ensures)

pub returns-in-Some : goal.returns-in-Some
returns-in-Some c = if_ok c.text_stays.result (λ stays known h. stays_given c.args.blanks.now c.args.name (seen_entry c.args.e.now) (chars c.in-Some.text.now)
    (sym (ap (option_map (λ (value : Bor (List ℕ)). chars value.now)) c.in-Some.is) ∙ c.attribute.ensures) (known h)) c.text_stays.ensures
