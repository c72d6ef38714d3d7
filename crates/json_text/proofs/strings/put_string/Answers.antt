use Rattle.std.proofs.Common.{[], ◌∷◌, ap, sym}
use Rattle.std.specs.List.{flat_map}
use Rattle.json_text.specs.Layout.{character_text}
use Rattle.json_text.proofs.StringLemmas.{encode-string_text}
use Rattle.inv_base.proofs.PrintingLemmas.{Prints-append, Prints-same}
use Rattle.json_text.proofs.strings.put_string.Goals as goal

pub returns : goal.returns
returns g c = Prints-same _ _ _ _ _ _ (sym (encode-string_text c.args.text.now c.utf8.text))
    (Prints-append (0x22 ∷ []) _ _ _ _ _ _ _ c.put.ensures
    (Prints-append _ (0x22 ∷ []) _ _ _ _ _ _ (Prints-same _ _ _ _ _ _ (ap (flat_map character_text) c.as_bytes.ensures.value) c.put_escaped.ensures)
    c.put-2.ensures))
