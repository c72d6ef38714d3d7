use Rattle.std.proofs.Common.{[], ◌∷◌, ◌∙◌}
use Rattle.inv_base.proofs.PrintingLemmas.{Prints-append, Prints-same}
use Rattle.document_jobs.proofs.queries.print_placed.Goals as goal

pub returns : goal.returns
returns g c =
    let kind = Prints-same _ _ _ _ _ _ c.as_bytes.ensures.value c.put.ensures in
    let number = Prints-same _ _ _ _ _ _ (c.as_bytes-2.ensures.value ∙ c.format.ensures.text) c.put-3.ensures in
    Prints-append _ _ _ _ _ _ _ _ kind (Prints-append (0x20 ∷ []) _ _ _ _ _ _ _ c.put-2.ensures number)
