use Rattle.std.proofs.Common.{ap, sym, ◌∙◌}
use Rattle.rule_library.specs.Joining.{passed_limit}
use Rattle.rule_library.specs.Turns.{given, fault_at, is_part, outer_of}
use Rattle.rule_library.proofs.TurnLemmas.{settled-none, settled-some, passes-node}
use Rattle.rule_library.proofs.walk.settle.Goals as goal

pub returns-in-Some-clause-fails : goal.returns-in-Some-clause-fails
returns-in-Some-clause-fails c =
    let w = c.args.walk.now in
    let limit = c.in-Some.ensures ∙ ap (λ part. passed_limit part w.joined) c.is_part-is_part.ensures in
    given (fault_at w c.args.n c.in-Some.kind) (passes-node (is_part (outer_of w)) w.joined c.in-Some.kind (sym limit))
    (settled-some w c.args.n c.in-Some.kind limit) c.fault_in.ensures

pub returns-in-None-clause-goes : goal.returns-in-None-clause-goes
returns-in-None-clause-goes c =
    let w = c.args.walk.now in
    let limit = c.in-None.ensures ∙ ap (λ part. passed_limit part w.joined) c.is_part-is_part.ensures in
    c.pass.ensures.passed ∙ sym (settled-none w c.args.n limit)
