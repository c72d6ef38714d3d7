use Rattle.std.proofs.Common.{◌≡◌, length, drop, chars}
use Rattle.std.specs.List.{list_any}
use Rattle.schematron_faults.specs.Staying.{is_dollar}
use Rattle.schematron_faults.proofs.texts.has_dollar.Given as goal

abbrev pub invariant-characters : goal.invariant-characters
invariant-characters l = list_any is_dollar (drop (length l.yielded) (chars l.text)) ≡ list_any is_dollar (chars l.text)
