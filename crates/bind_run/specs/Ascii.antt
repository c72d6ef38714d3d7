-- Texts of ASCII, by their bytes.
use Rattle.std.specs.Prelude.{ℕ, nat_lt, Bool, List}
use Rattle.std.specs.List.{list_all}

abbrev pub is_ascii : List ℕ → Bool
is_ascii bytes = list_all (λ b. nat_lt b 128) bytes
