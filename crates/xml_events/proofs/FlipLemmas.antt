-- Texts and numbers are compared either way.
use Rattle.std.proofs.Common.{◌≡◌, ℕ, List, sym, arith, bytes_eq, nat_eq}
use Rattle.std.proofs.lemmas.Slice.Eq.{bytes_eq-Decides}
use Rattle.std.proofs.lemmas.Bool.Decides.{same_from_decides, Decides-like, nat_tests}

pub bytes_eq-flips : (a b : List ℕ) → bytes_eq a b ≡ bytes_eq b a
bytes_eq-flips a b = same_from_decides _ _ (bytes_eq-Decides a b) (Decides-like _ sym sym (bytes_eq-Decides b a))

pub nat_eq-flips : (a b : ℕ) → nat_eq a b ≡ nat_eq b a
nat_eq-flips a b = grind (arith, nat_tests)
