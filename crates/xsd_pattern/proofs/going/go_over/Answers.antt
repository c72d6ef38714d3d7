use Rattle.std.proofs.Common.{length, chars, arith}
use Rattle.std.proofs.lemmas.Iterator.{YieldsList-from_chars}
use Rattle.std.proofs.lemmas.Iterator.Consumers.{YieldsList-turn, YieldsList-end}
use Rattle.std.proofs.lemmas.List.{length_push}
use Rattle.std.proofs.lemmas.Grind.{common_steps}
use Rattle.xsd_pattern.specs.Steps.{has_at}
use Rattle.xsd_pattern.proofs.Characters.{ran_on, ran_end}
use Rattle.xsd_pattern.proofs.going.go_over.Goals as goal

pub text-preserved : goal.text-preserved
text-preserved c =
    let turn = YieldsList-turn (YieldsList-from_chars c.args.text.now c.utf8.text cc) c.text.yielded _ c.text.yielded_by _ _ c.in-Some.c c.in-Some.is
    c.next.ensures.steps in
    rw (length_push c.text.yielded c.in-Some.c) (record {
      whole = ran_on (has_at c.args.tokens.now) c.args.steps.now c.text.first c.text.marks _ c.text.answer _ (chars c.args.text.now) _ c.in-Some.c _ turn
          c.in_ok-answer.ensures.marks c.in_ok-answer.ensures.answer c.text.invariant.whole;
      same = grind (arith, common_steps);
    })

pub returns : goal.returns
returns c =
    let end = YieldsList-end (YieldsList-from_chars c.args.text.now c.utf8.text cc) c.text.yielded _ c.text.yielded_by _ _ c.in-None.is c.next.ensures.steps in
    ran_end (has_at c.args.tokens.now) c.args.steps.now c.text.first c.text.marks c.text.answer (chars c.args.text.now)
    (length c.text.yielded) _ end.1 c.text.invariant.whole
