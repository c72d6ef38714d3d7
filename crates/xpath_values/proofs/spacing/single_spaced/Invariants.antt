use Rattle.std.proofs.Common.{◌≡◌, ◌++◌, length, drop, false, string_bytes}
use Rattle.std.specs.Str.{chars}
use Rattle.xpath_meaning.specs.Texts.{single_spaced}
use Rattle.xpath_values.proofs.spacing.single_spaced.Given as goal

abbrev pub invariant-characters : goal.invariant-characters
invariant-characters l = chars (string_bytes l.out) ++ single_spaced l.in_run (drop (length l.yielded) (chars l.text)) ≡ single_spaced false (chars l.text)
