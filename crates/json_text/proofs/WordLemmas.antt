-- Words of the program are ASCII, so their bytes are their characters.
use Rattle.std.proofs.Common.{◌≡◌, ℕ, true, Bool, false, ◌&&◌, List, [], ◌∷◌, refl, IsAscii}
use Rattle.std.specs.Prelude.{chars, nat_lt}
use Rattle.std.specs.List.{list_all}
use Rattle.std.proofs.lemmas.Bool.{ltb-true}
use Rattle.std.proofs.lemmas.Str.{chars-IsAscii}
use Rattle.std.proofs.lemmas.Str.Ascii.{IsAscii-nil, IsAscii-cons}
use Rattle.inv_base.proofs.TextLemmas.{both}

ascii : (bytes : List ℕ) → list_all (λ b. nat_lt b 128) bytes ≡ true → IsAscii bytes
ascii [] e = IsAscii-nil
ascii (b ∷ bytes) e =
    let parts = both (nat_lt b 128) (list_all (λ b. nat_lt b 128) bytes) e in
    IsAscii-cons b bytes (ltb-true b 128 parts.0) (ascii bytes parts.1)

-- a literal's characters
pub chars-word : (bytes : List ℕ) → list_all (λ b. nat_lt b 128) bytes ≡ true → chars bytes ≡ bytes
chars-word bytes e = chars-IsAscii bytes (ascii bytes e)
