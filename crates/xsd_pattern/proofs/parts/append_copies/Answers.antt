use Rattle.std.proofs.Common.{◌++◌, ap, ◌∙◌, append_assoc}
use Rattle.xsd_pattern.specs.Parts.{copies}
use Rattle.xsd_pattern.proofs.Characters.{copies-more}
use Rattle.xsd_pattern.proofs.parts.append_copies.Goals as goal

pub copies-preserved : goal.copies-preserved
copies-preserved c = c.in_ok-append.ensures ∙ (ap (λ t. t ++ c.args.block.now) c.copies.invariant
    ∙ (append_assoc c.args.steps.now (copies c.copies.k c.args.block.now) c.args.block.now ∙ ap (λ t. c.args.steps.now
    ++ t) (copies-more c.copies.k c.args.block.now)))
