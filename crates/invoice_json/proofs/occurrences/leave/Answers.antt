use Rattle.std.proofs.Common.{[], ◌∷◌, sym, ◌∙◌}
use Rattle.invoice_json.proofs.CallLemmas.{leave-apart}
use Rattle.json_text.proofs.MadeLemmas.{Made-one, Made-append, Made-same}
use Rattle.invoice_json.proofs.occurrences.leave.Goals as goal

pub returns-then-not-in_one_array-clause-made : goal.returns-then-not-in_one_array-clause-made
returns-then-not-in_one_array-clause-made g c =
    Made-same _ _ _ _ _ _
    (leave-apart c.args.before c.args.now c.in-Some.field-0 c.in-Some.is (sym c.in_one_array.ensures ∙ c.if-not-in_one_array.true))
    (Made-append (_ ∷ []) (_ ∷ []) _ _ _ _ _ _
    (Made-one _ _ _ _ _ c.end.ensures.prints c.end.ensures.state)
    (Made-one _ _ _ _ _ c.end-then-not-in_one_array.ensures.prints c.end-then-not-in_one_array.ensures.state))
