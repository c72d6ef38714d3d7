use Rattle.std.proofs.Common.{sym, ◌∙◌}
use Rattle.invoice_json.proofs.CallLemmas.{slot-apart}
use Rattle.json_text.proofs.MadeLemmas.{Made-append, Made-same}
use Rattle.invoice_json.proofs.occurrences.turn_slot.Goals as goal

pub returns-clause-made : goal.returns-clause-made
returns-clause-made g c =
    Made-same _ _ _ _ _ _ (slot-apart c.args.before c.args.now (sym c.in_one_object.ensures ∙ c.if-in_one_object.false))
    (Made-append _ _ _ _ _ _ _ _ c.leave.ensures.made c.enter.ensures.made)
