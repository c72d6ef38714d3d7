-- Texts that are cut into parts.
use Rattle.std.specs.Prelude.{◌≡◌, ℕ, List, [], ◌∷◌, ◌++◌}

-- the text is cut into a text of one and a text of the other
abbrev pub Cut : (List ℕ → Type 0) → (List ℕ → Type 0) → List ℕ → Type 0
Cut P Q text = (front back : List ℕ) × (text ≡ front ++ back) × P front × Q back

abbrev pub AllIn : (List ℕ → Type 0) → List (List ℕ) → Type 0
AllIn P [] = Unit {0}
AllIn P (part ∷ parts) = P part × AllIn P parts

abbrev pub joined : List (List ℕ) → List ℕ
joined [] = []
joined (part ∷ parts) = part ++ joined parts
