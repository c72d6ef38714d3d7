use Rattle.std.proofs.Common.{[], ◌∷◌, ap}
use Rattle.json_text.specs.Calls.{call_text}
use Rattle.json_text.proofs.MadeLemmas.{Made-one, Made-append, Made-same}
use Rattle.invoice_json.proofs.printing.put_entry.Goals as goal

pub returns-clause-made : goal.returns-clause-made
returns-clause-made g c =
    Made-append (_ ∷ []) (_ ∷ []) _ _ _ _ _ _ c.put_name.ensures.made
    (Made-same _ _ _ _ _ _ (ap (λ text. call_text text ∷ []) c.text.ensures)
    (Made-one _ _ _ _ _ c.text-2.ensures.prints c.text-2.ensures.state))
