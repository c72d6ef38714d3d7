use Rattle.std.proofs.Common.{sym, ap, ◌∙◌, arith}
use Rattle.invoice_json.specs.Streaming.{slot_depth}
use Rattle.invoice_json.proofs.CallLemmas.{turn-apart, kept_depth-most}
use Rattle.json_text.proofs.MadeLemmas.{Made-append, Made-same}
use Rattle.invoice_json.proofs.occurrences.turn.Goals as goal

pub enter-requires : goal.enter-requires
enter-requires g c =
    omega (
      arith,
      c.requires,
      c.turn_slot-2.ensures.depth,
      c.leave.ensures.depth,
      ap slot_depth c.inner_of-2.ensures,
      kept_depth-most c.args.before.outer c.args.now.outer,
    )

pub returns-clause-made : goal.returns-clause-made
returns-clause-made g c =
    Made-same _ _ _ _ _ _
    (turn-apart c.args.before c.args.now c.inner_of-2.result c.inner_of-3.result (sym c.in_one_object.ensures ∙ c.if-in_one_object.false)
    c.inner_of-2.ensures c.inner_of-3.ensures)
    (Made-append _ _ _ _ _ _ _ _ c.turn_slot-2.ensures.made
    (Made-append _ _ _ _ _ _ _ _ c.leave.ensures.made
    (Made-append _ _ _ _ _ _ _ _ c.enter.ensures.made c.turn_slot-3.ensures.made)))
