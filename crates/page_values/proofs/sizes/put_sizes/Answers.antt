use Rattle.std.proofs.Common.{◌∙◌}
use Rattle.page_values.specs.Places.{size_in}
use Rattle.page_values.proofs.SizeLemmas.{sizes-next}
use Rattle.page_values.proofs.sizes.put_sizes.Goals as goal

pub documents-preserved : goal.documents-preserved
documents-preserved c =
    c.in_ok-push.ensures.items
    ∙ sizes-next (size_in c.args.i.now) c.documents.behind c.documents.sizes.items c.in_ok-size.size c.documents.invariant c.in_ok-size.ensures
