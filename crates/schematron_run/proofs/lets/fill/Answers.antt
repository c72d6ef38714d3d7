use Rattle.std.proofs.Common.{◌∙◌, arith}
use Rattle.std.proofs.Math.Seq.{map-set_same}
use Rattle.std.proofs.lemmas.List.Elements.{All-set}
use Rattle.schematron_run.specs.Ready.{ready_let, IsLetFor}
use Rattle.schematron_run.specs.Inputs.{nodes_of}
use Rattle.schematron_run.proofs.LetLemmas.{fill_next, fill_done}
use Rattle.schematron_run.proofs.lets.fill.Goals as goal

pub fill_one-requires-clause-ready : goal.fill_one-requires-clause-ready
fill_one-requires-clause-ready g c = c.lets.invariant.ready c.lets.k c.index-lets-k.result (omega (arith, c.lets-test.true, c.lets.auto.lets))

pub fill_one-requires-clause-variables : goal.fill_one-requires-clause-variables
fill_one-requires-clause-variables g c = c.lets.invariant.within

pub lets-preserved : goal.lets-preserved
lets-preserved g c = record {
  same = map-set_same ready_let c.lets.lets c.lets.k c.fill_one.new.variable c.index-lets-k.result c.in_ok-fill_one.ensures.same ∙ c.lets.invariant.same;
  ready = All-set (IsLetFor c.args.input.now.doc.now) c.lets.lets c.lets.k c.fill_one.new.variable c.in_ok-fill_one.ensures.ready c.lets.invariant.ready;
  within = c.in_ok-fill_one.ensures.within;
  filled = fill_next (nodes_of c.args.input.now) c.args.n c.lets.lets c.args.lets.now c.lets.k c.index-lets-k.result c.lets.env c.fill_one.new.env
      (omega (arith, c.lets-test.true, c.lets.auto.lets)) c.lets.invariant.same c.in_ok-fill_one.ensures.filled c.lets.invariant.filled;
}

pub returns-clause-filled : goal.returns-clause-filled
returns-clause-filled g c =
    fill_done (nodes_of c.args.input.now) c.args.n c.lets.lets c.args.lets.now c.lets.k c.lets.env
    (omega (arith, c.lets-test.false, c.lets.auto.lets)) c.lets.invariant.same c.lets.invariant.filled
