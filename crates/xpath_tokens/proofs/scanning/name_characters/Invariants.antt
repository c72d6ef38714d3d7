use Rattle.std.proofs.Common.{◌≡◌, ℕ, ◌<◌, get_or, true}
use Rattle.inv_base.specs.Characters.{is_name_char}
use Rattle.xpath_tokens.proofs.scanning.name_characters.Given as goal

abbrev pub invariant-loop-i : goal.invariant-loop-i
invariant-loop-i l = (k : ℕ) → k < l.i → is_name_char (get_or l.text k 0) ≡ true
