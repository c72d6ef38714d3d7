-- Characters of XML are scalar values.
use Rattle.std.proofs.Common.{◌≡◌, ℕ, true, arith}
use Rattle.std.proofs.lemmas.Bool.Decides.{nat_tests}
use lib.Utf8.{scalar}
use Rattle.inv_base.specs.Characters.{is_char}

pub char-scalar : (c : ℕ) → is_char c ≡ true → scalar c ≡ true
unfolding is_char
char-scalar c h = grind (arith, nat_tests)
