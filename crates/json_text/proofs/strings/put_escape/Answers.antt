use Rattle.std.proofs.Common.{sym, ◌∙◌}
use Rattle.inv_base.proofs.PrintingLemmas.{Prints-same}
use Rattle.json_text.proofs.StringLemmas.{character-short, character-long}
use Rattle.json_text.proofs.strings.put_escape.Goals as goal

pub returns-in-Some : goal.returns-in-Some
returns-in-Some g c = Prints-same _ _ _ _ _ _ (sym (character-short c.args.byte c.in-Some.letter (sym c.in-Some.ensures))) c.put.ensures

pub returns-in-None : goal.returns-in-None
returns-in-None g c =
    Prints-same _ _ _ _ _ _ (c.long_escape.ensures ∙ sym (character-long c.args.byte c.requires (sym c.in-None.ensures))) c.put-in-None.ensures
