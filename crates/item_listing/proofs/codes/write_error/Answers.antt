use Rattle.std.proofs.Common.{[], ◌∷◌, codes, sym, subst, ◌∙◌}
use Rattle.inv_base.specs.Printing.{Printed}
use Rattle.inv_base.proofs.PrintingLemmas.{Prints-append, Prints-same}
use Rattle.inv_base.proofs.WritingLemmas.{WritesAll-nil}
use Rattle.item_listing.proofs.codes.write_error.Goals as goal

pub returns : goal.returns
returns g c =
    let from = g.K.Sink.view c.args.out.now in
    let code = Prints-same _ _ _ _ _ _ (c.as_bytes.ensures.value ∙ c.code_of.ensures) c.put-2.ensures in
    Prints-append (codes "error ") _ _ _ _ _ _ _ c.put.ensures (Prints-append _ (0xA ∷ []) _ _ _ _ _ _ code c.put-3.ensures)
    [] from (subst (λ failed. Printed failed [] from from) (sym c.new-printer.ensures) (WritesAll-nil from))
