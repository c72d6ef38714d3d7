use Rattle.std.proofs.Common.{[], ◌∷◌, sym, ap, ◌∙◌}
use Rattle.std.specs.Prelude.{chars}
use Rattle.invoice_json.proofs.NameLemmas.{chars-array_name}
use Rattle.invoice_json.proofs.CallLemmas.{enter-apart}
use Rattle.json_text.proofs.MadeLemmas.{Made-one, Made-append, Made-same}
use Rattle.invoice_json.proofs.occurrences.enter.Goals as goal

pub returns-else-in_one_array-clause-made : goal.returns-else-in_one_array-clause-made
returns-else-in_one_array-clause-made g c =
    Made-same _ _ _ _ _ _
    (enter-apart c.args.before c.args.now c.in-Some.slot (chars c.array_name.result.now) c.in-Some.is
    (ap chars c.array_name.ensures ∙ chars-array_name c.in-Some.slot.group) (sym c.in_one_array.ensures ∙ c.if-in_one_array.false))
    (Made-append (_ ∷ []) (_ ∷ _ ∷ []) _ _ _ _ _ _
    (Made-one _ _ _ _ _ c.name.ensures.prints c.name.ensures.state)
    (Made-append (_ ∷ []) (_ ∷ []) _ _ _ _ _ _
    (Made-one _ _ _ _ _ c.begin-in-Some.ensures.prints c.begin-in-Some.ensures.state)
    (Made-one _ _ _ _ _ c.begin-in-Some-2.ensures.prints c.begin-in-Some-2.ensures.state)))
