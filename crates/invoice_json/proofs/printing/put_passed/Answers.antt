use Rattle.std.proofs.Common.{[], ◌∷◌, refl}
use Rattle.json_text.proofs.WordLemmas.{chars-word}
use Rattle.invoice_json.proofs.CallLemmas.{passed-made}
use Rattle.json_text.proofs.MadeLemmas.{Made-one, Made-append, Made-same}
use Rattle.invoice_json.proofs.printing.put_passed.Goals as goal

pub returns-clause-made : goal.returns-clause-made
returns-clause-made g c =
    Made-same _ _ _ _ _ _ (passed-made c.args.passed_over c.from.result _ (chars-word _ refl) c.from.ensures c.if-passed_over-eq0.false)
    (Made-append (_ ∷ []) (_ ∷ []) _ _ _ _ _ _
    (Made-one _ _ _ _ _ c.name.ensures.prints c.name.ensures.state)
    (Made-one _ _ _ _ _ c.number.ensures.prints c.number.ensures.state))
