use Rattle.std.proofs.Common.{◌∙◌, map, ap, sym, subst}
use Rattle.std.specs.List.{All}
use Rattle.schematron_run.specs.Judging.{filled}
use Rattle.schematron_run.specs.Ready.{ready_let, IsLetFor}
use Rattle.schematron_run.specs.Inputs.{nodes_of}
use Rattle.schematron_run.proofs.ListLemmas.{on_ok}
use Rattle.schematron_run.proofs.lets.fill_once.Goals as goal

pub fill-filled-requires-clause-ready : goal.fill-filled-requires-clause-ready
fill-filled-requires-clause-ready g c = subst (All (IsLetFor c.args.input.now.doc.now)) (sym c.as_mut_slice.ensures.value) c.in_ok-ready.ensures.ready

pub returns-clause-filled : goal.returns-clause-filled
returns-clause-filled g c =
    on_ok c.fill-filled.result
    (λ e. e ∙ ap (λ lets. filled (nodes_of c.args.input.now) c.args.n lets c.args.env.now) (ap (map ready_let) c.as_mut_slice.ensures.value ∙
    c.in_ok-ready.ensures.seen))
    c.fill-filled.ensures.filled
