use Rattle.std.proofs.Common.{◌∙◌, ◌∷◌, [], ◌++◌, ◌<◌, ap, subst, sym}
use Rattle.xpath_steps.proofs.NodeLemmas.{are_numbers}
use Rattle.xpath_parts.specs.Contexts.{count}
use Rattle.xpath_marks.proofs.MarkingLemmas.{root_found}
use Rattle.xpath_marks.proofs.marking.the_root.Goals as goal

pub returns-clause-marked : goal.returns-clause-marked
returns-clause-marked c = λ p.
    let base = c.args.dynamic.now in
    let walked = c.documents_are_walkable.ensures in
    let within : 0 < count base = subst (λ n. n < count base) c.document.ensures.number c.document.ensures.within in
    root_found base (are_numbers base.doc.now (0 ∷ []) walked (within, tt)) (subst (λ k. 0 < k) (sym walked.long) within) c.push.new.self.items
    (c.in_ok-push.ensures.items ∙ (ap (λ ns. ns ++ c.document.result ∷ []) c.new-found.ensures.items ∙ ap (λ n. n ∷ []) c.document.ensures.number))
