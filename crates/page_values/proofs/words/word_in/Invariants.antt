use Rattle.std.proofs.Common.{◌≡◌, map, drop, chars}
use Rattle.page_tables.specs.Tables as tables
use Rattle.page_values.specs.Values as values
use Rattle.page_values.proofs.words.word_in.Given as goal

abbrev pub invariant-rows : goal.invariant-rows
invariant-rows l = values.word_in (map tables.word_lent (drop l.row-index l.table)) (chars l.code) ≡ values.word_in (map tables.word_lent l.table)
    (chars l.code)
