use Rattle.std.proofs.Common.{◌≡◌, map, drop, chars}
use Rattle.page_tables.specs.Tables as tables
use Rattle.page_values.specs.Values as values
use Rattle.page_values.proofs.words.is_among.Given as goal

abbrev pub invariant-texts : goal.invariant-texts
invariant-texts l = values.is_among (map tables.text_lent (drop l.other-index l.texts)) (chars l.text) ≡ values.is_among (map tables.text_lent l.texts)
    (chars l.text)
