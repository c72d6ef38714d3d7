use Rattle.std.proofs.Common.{◌∙◌, arith}
use Rattle.std.proofs.Math.Seq.{map-set_same}
use Rattle.std.proofs.lemmas.List.Elements.{All-set}
use Rattle.schematron_run.specs.Judging.{part_text}
use Rattle.schematron_run.specs.Ready.{ready_part, IsPartFor}
use Rattle.schematron_run.specs.Inputs.{nodes_of}
use Rattle.schematron_run.proofs.MessageLemmas.{says_seen, says_seen-all}
use Rattle.schematron_run.proofs.messages.push_parts.Goals as goal

pub push_part-requires-clause-ready : goal.push_part-requires-clause-ready
push_part-requires-clause-ready g c = c.parts.invariant.ready c.parts.k c.index-parts-k.result (omega (arith, c.parts-test.true, c.parts.auto.parts))

pub parts-preserved : goal.parts-preserved
parts-preserved g c = record {
  same = map-set_same ready_part c.parts.parts c.parts.k c.push_part.new.part c.index-parts-k.result c.in_ok-push_part.ensures.same ∙ c.parts.invariant.same;
  ready = All-set (IsPartFor c.args.input.now.doc.now) c.parts.parts c.parts.k c.push_part.new.part c.in_ok-push_part.ensures.ready c.parts.invariant.ready;
  ahead = says_seen (part_text (nodes_of c.args.input.now) c.args.n c.args.env.now) ready_part c.parts.parts c.args.parts.now c.parts.k c.index-parts-k.result
      c.args.message.now c.parts.message c.push_part.new.message (omega (arith, c.parts-test.true, c.parts.auto.parts)) c.parts.invariant.same
      c.in_ok-push_part.ensures.says c.parts.invariant.ahead;
}

pub returns-clause-says : goal.returns-clause-says
returns-clause-says g c =
    says_seen-all (part_text (nodes_of c.args.input.now) c.args.n c.args.env.now) ready_part c.parts.parts c.args.parts.now c.parts.k c.args.message.now
    c.parts.message
    (omega (arith, c.parts-test.false, c.parts.auto.parts)) c.parts.invariant.same c.parts.invariant.ahead
