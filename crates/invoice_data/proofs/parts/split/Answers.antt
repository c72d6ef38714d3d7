use Rattle.std.proofs.Common.{ap, ◌∙◌, take, drop}
use Rattle.invoice_data.proofs.PartLemmas.{parts_split}
use Rattle.invoice_data.proofs.parts.split.Goals as goal

pub returns-clause-parts : goal.returns-clause-parts
returns-clause-parts c =
    parts_split c.args.item.now c.args.behind.now _ _ (c.split_at.ensures.front ∙ ap (λ n. take n c.args.behind.now) c.min.ensures)
    (c.split_at.ensures.back ∙ ap (λ n. drop n c.args.behind.now) c.min.ensures)
