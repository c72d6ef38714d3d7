use Rattle.std.proofs.Common.{◌≡◌, ◌≤◌, length, drop, chars}
use Rattle.std.specs.Prelude.{string_len}
use Rattle.schematron_texts.specs.Replacing.{replaced}
use Rattle.schematron_texts.specs.Walking.{made_with}
use Rattle.schematron_texts.proofs.replacing.replaced_within.Given as goal

-- what was made, with what becomes of the characters that are left, is all
abbrev pub invariant-characters : goal.invariant-characters
invariant-characters l = record {
  all : made_with l.fn.parameters l.walk (drop (length l.yielded) (chars l.text)) ≡ replaced l.fn.parameters (chars l.text);
  within : string_len l.walk.out ≤ l.most;
}
