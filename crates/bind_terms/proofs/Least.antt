-- The first of faults found one after another is the first of all.
use Rattle.std.proofs.Common.{◌≡◌, List, [], ◌∷◌, Some, None, refl}
use Rattle.bind_meaning.specs.Judging.{Found, earlier, least, least_from}
use Rattle.bind_terms.specs.Faults.{least_of}

least-from : (a : Found) (xs : List Found) → least_of (Some a) xs ≡ Some (least_from a xs)
least-from a [] = refl
least-from a (x ∷ xs) = least-from (earlier a x) xs

pub least-is : (xs : List Found) → least_of None xs ≡ least xs
least-is [] = refl
least-is (x ∷ xs) = least-from x xs
