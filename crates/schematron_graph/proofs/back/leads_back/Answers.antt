use Rattle.std.proofs.Common.{◌∙◌, sym, ap, Some}
use Rattle.schematron_graph.specs.Rules.{bodies_of}
use Rattle.schematron_graph.proofs.BackLemmas.{back-at}
use Rattle.schematron_graph.proofs.back.leads_back.Goals as goal

pub returns-in-Some-Puts : goal.returns-in-Some-Puts
returns-in-Some-Puts c = back-at c.way_back.result (bodies_of c.args.rules.now) c.args.spot c.in-Some-Puts.other
    (sym c.in-Some-Puts.ensures.part ∙ ap Some c.in-Some-Puts.field-0-is) c.way_back.ensures
