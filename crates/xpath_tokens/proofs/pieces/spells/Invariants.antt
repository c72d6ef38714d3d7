use Rattle.std.proofs.Common.{◌≡◌, drop}
use Rattle.std.specs.Str.{bytes_eq}
use Rattle.xpath_tokens.proofs.pieces.spells.Given as goal

abbrev pub invariant-characters : goal.invariant-characters
invariant-characters l = bytes_eq (drop l.i l.word) (drop l.i l.spelling) ≡ bytes_eq l.word l.spelling
