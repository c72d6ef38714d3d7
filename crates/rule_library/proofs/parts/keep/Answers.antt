use Rattle.std.proofs.Common.{◌+◌, refl, ap, ◌∙◌}
use Rattle.rule_library.proofs.ReadLemmas.{stands-kept}
use Rattle.rule_library.proofs.parts.keep.Goals as goal

pub returns-in_ok-push-in-Some-clause-stands : goal.returns-in_ok-push-in-Some-clause-stands
returns-in_ok-push-in-Some-clause-stands c =
    stands-kept c.args.walk.now _ c.args.file c.requires.stands c.in_ok-push-in-Some.ensures.items refl refl c.requires.few
    (c.in-Some.ensures.1 ∙ ap (λ n. c.args.walk.now.length + n) c.length.ensures)
