use Rattle.std.proofs.Common.{[], ◌∷◌, sym, ◌∙◌}
use Rattle.inv_base.proofs.PrintingLemmas.{Prints-append, Prints-same}
use Rattle.inv_base.proofs.TextLemmas.{encode-chars}
use Rattle.item_listing.proofs.lines.print_placed.Goals as goal

pub returns : goal.returns
returns g c =
    Prints-append _ _ _ _ _ _ _ _ (Prints-same _ _ _ _ _ _ (c.as_bytes.ensures.value ∙ sym (encode-chars c.args.place.now c.utf8.place)) c.put.ensures)
    (Prints-append (0x20 ∷ []) _ _ _ _ _ _ _ c.put-2.ensures c.print_quoted.ensures)
