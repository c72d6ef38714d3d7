use Rattle.std.proofs.Common.{◌≡◌, take, map}
use Rattle.bind_table.specs.Items.{text_of}
use Rattle.bind_table.proofs.conditions.texts_of.Given as goal

abbrev pub invariant-words : goal.invariant-words
invariant-words l = l.texts ≡ map text_of (take l.word-index l.words)
