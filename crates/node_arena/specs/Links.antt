-- How links are kept: none as zero, and the link to a node as one more than its number.
use Rattle.std.specs.Prelude.{ℕ, zero, suc, Option, Some, None}

abbrev pub linked : ℕ → Option ℕ
linked code = elim code [ zero ↦ None | suc number ↦ Some number ]

abbrev pub link_code : Option ℕ → ℕ
link_code None = 0
link_code (Some number) = suc number
