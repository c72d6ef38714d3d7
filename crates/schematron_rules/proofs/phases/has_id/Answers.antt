use Rattle.std.proofs.Common.{ap, sym, ◌∙◌, chars}
use Rattle.std.specs.Str.{bytes_eq}
use Rattle.schematron_rules.specs.Seen.{seen_phase}
use Rattle.schematron_rules.proofs.PhaseLemmas.{has_id_some}
use Rattle.schematron_rules.proofs.phases.has_id.Goals as goal

pub returns-in-Some : goal.returns-in-Some
returns-in-Some c = c.is_same_text.ensures ∙ (ap (λ t. bytes_eq t (chars c.args.name.now)) c.as_str.ensures
    ∙ sym (has_id_some (chars c.args.name.now) (seen_phase c.args.phase.now) c.in-Some.id c.in-Some.is))
