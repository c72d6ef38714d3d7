use Rattle.std.proofs.Common.{◌<◌, ◌∷◌, [], ◌++◌, ◌∙◌, ap, sym, subst, arith, append-nil}
use Rattle.xpath_parts.specs.Contexts.{count}
use Rattle.xpath_marks.specs.Marking.{AreNodes, nodes_of}
use Rattle.xpath_marks.proofs.FirstStepLemmas.{around_some, around_none}
use Rattle.xpath_marks.proofs.TurnLemmas.{nodes_append}
use Rattle.xpath_marks.proofs.first_steps.put_around.Goals as goal

pub returns-in_ok-push-in-Some-clause-put : goal.returns-in_ok-push-in-Some-clause-put
returns-in_ok-push-in-Some-clause-put g c =
    c.in_ok-push-in-Some.ensures.items ∙ ap (λ ns. c.args.out.now.items ++ ns)
    (around_some (nodes_of c.args.dynamic.now) c.args.n c.in-Some.around c.in-Some.ensures.node)

pub returns-in_ok-push-in-Some-clause-within : goal.returns-in_ok-push-in-Some-clause-within
returns-in_ok-push-in-Some-clause-within g c =
    let base = c.args.dynamic.now in
    let within : c.in-Some.around < count base = omega (arith, c.in-Some.ensures.before, c.requires.within) in
    subst (AreNodes base) (sym c.in_ok-push-in-Some.ensures.items) (nodes_append base c.args.out.now.items (c.in-Some.around ∷ []) c.requires.out (within, tt))

pub returns-in-None-clause-put : goal.returns-in-None-clause-put
returns-in-None-clause-put g c = sym (append-nil c.args.out.now.items) ∙
    ap (λ ns. c.args.out.now.items ++ ns) (around_none (nodes_of c.args.dynamic.now) c.args.n c.in-None.ensures.node)
