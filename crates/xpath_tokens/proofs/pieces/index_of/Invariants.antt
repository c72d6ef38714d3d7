use Rattle.std.proofs.Common.{◌≡◌, ℕ, ◌<◌, eqb, false, get_or}
use Rattle.xpath_tokens.proofs.pieces.index_of.Given as goal

abbrev pub invariant-characters : goal.invariant-characters
invariant-characters l = (k : ℕ) → k < l.i → eqb (get_or l.word k 0) l.c ≡ false
