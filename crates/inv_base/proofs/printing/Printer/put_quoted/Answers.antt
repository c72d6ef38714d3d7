use Rattle.std.proofs.Common.{[], ◌∷◌, ap, sym}
use Rattle.std.specs.List.{flat_map}
use Rattle.inv_base.specs.Text.{quoted_character}
use Rattle.inv_base.proofs.TextLemmas.{encode-quoted}
use Rattle.inv_base.proofs.PrintingLemmas.{Prints-append, Prints-same}
use Rattle.inv_base.proofs.printing.Printer.put_quoted.Goals as goal

pub returns : goal.returns
returns g c = Prints-same _ _ _ _ _ _ (sym (encode-quoted c.args.text.now c.utf8.text))
    (Prints-append (0x22 ∷ []) _ _ _ _ _ _ _ c.put.ensures
    (Prints-append _ (0x22 ∷ []) _ _ _ _ _ _ (Prints-same _ _ _ _ _ _ (ap (flat_map quoted_character) c.as_bytes.ensures.value) c.put_escaped.ensures)
    c.put-2.ensures))
