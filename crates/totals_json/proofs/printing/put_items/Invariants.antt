use Rattle.std.proofs.Common.{drop}
use Rattle.json_text.specs.Making.{each}
use Rattle.json_text.proofs.MakingLemmas.{Leads}
use Rattle.totals_json.specs.TotalsJson.{difference_object}
use Rattle.totals_json.proofs.printing.put_items.Given as goal

-- those to come are left
abbrev pub invariant-differences : goal.invariant-differences
invariant-differences g l =
    Leads (each difference_object l.differences) l.initial.pen (g.K.Sink.view l.initial.out)
    (each difference_object (drop l.difference-index l.differences)) l.pen (g.K.Sink.view l.out)
