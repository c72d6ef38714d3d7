use Rattle.std.proofs.Common.{◌∙◌, arith}
use Rattle.std.proofs.Math.Seq.{map-set_same}
use Rattle.std.proofs.lemmas.List.Elements.{All-set}
use Rattle.schematron_run.specs.Judging.{by_assertion}
use Rattle.schematron_run.specs.Ready.{ready_assertion, IsAssertionFor}
use Rattle.schematron_run.specs.Inputs.{nodes_of}
use Rattle.schematron_run.proofs.ListLemmas.{flat_seen, flat_seen-done}
use Rattle.schematron_run.proofs.assertions.judge_assertions.Goals as goal

pub judge_assertion-requires-clause-ready : goal.judge_assertion-requires-clause-ready
judge_assertion-requires-clause-ready g c =
    c.assertions.invariant.ready c.assertions.k c.index-assertions-k.result (omega (arith, c.assertions-test.true, c.assertions.auto.assertions))

pub assertions-preserved : goal.assertions-preserved
assertions-preserved g c = record {
  same = map-set_same ready_assertion c.assertions.assertions c.assertions.k c.judge_assertion.new.assertion c.index-assertions-k.result
      c.in_ok-judge_assertion.ensures.same
      ∙ c.assertions.invariant.same;
  ready = All-set (IsAssertionFor c.args.input.now.doc.now) c.assertions.assertions c.assertions.k c.judge_assertion.new.assertion
      c.in_ok-judge_assertion.ensures.ready c.assertions.invariant.ready;
  found = flat_seen (by_assertion (nodes_of c.args.input.now) c.args.n c.args.env.now) ready_assertion c.assertions.assertions c.args.assertions.now
      c.assertions.k
      c.index-assertions-k.result c.assertions.findings c.judge_assertion.new.findings
      (omega (arith, c.assertions-test.true, c.assertions.auto.assertions)) c.assertions.invariant.same
      c.in_ok-judge_assertion.ensures.found c.assertions.invariant.found;
}

pub returns-clause-found : goal.returns-clause-found
returns-clause-found g c =
    flat_seen-done (by_assertion (nodes_of c.args.input.now) c.args.n c.args.env.now) ready_assertion c.assertions.assertions c.args.assertions.now
    c.assertions.k c.assertions.findings
    (omega (arith, c.assertions-test.false, c.assertions.auto.assertions)) c.assertions.invariant.same c.assertions.invariant.found
