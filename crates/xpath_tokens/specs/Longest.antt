-- The longest front of a text that has a form, found by trying each front, and the parts that forms are made of.
use Rattle.std.specs.Prelude.{ℕ, suc, Bool, true, false, List, [], ◌∷◌, Option, Some, None, if◌then◌else◌, unwrap_or}

-- the length of a front one character longer, or of the empty one where it has the form
abbrev pub one_longer : Option ℕ → Bool → Option ℕ
one_longer (Some n) empty = Some (suc n)
one_longer None empty = if empty then Some 0 else None

-- how long the longest front is that has the form, where some front has it, even the empty one
unfoldable pub longest : (List ℕ → Bool) → List ℕ → Option ℕ
longest form [] = if form [] then Some 0 else None
longest form (c ∷ text) = one_longer (longest (λ rest. form (c ∷ rest)) text) (form [])

-- the same for a form that no empty text has: 0 where no front has it
abbrev pub longest_length : (List ℕ → Bool) → List ℕ → ℕ
longest_length form text = unwrap_or (longest form text) 0

-- no character
abbrev pub nothing : List ℕ → Bool
nothing [] = true
nothing (c ∷ text) = false

-- one character that passes, and then a text of the form
abbrev pub one_then : (ℕ → Bool) → (List ℕ → Bool) → List ℕ → Bool
one_then test form [] = false
one_then test form (c ∷ text) = elim (test c) [ true ↦ form text | false ↦ false ]

-- any number of characters that pass, and then a text of the form, however the two are divided
unfoldable pub many_then : (ℕ → Bool) → (List ℕ → Bool) → List ℕ → Bool
many_then test form [] = form []
many_then test form (c ∷ text) = elim (form (c ∷ text)) [ true ↦ true | false ↦ elim (test c) [ true ↦ many_then test form text | false ↦ false ] ]

-- at least one character that passes, and then a text of the form
abbrev pub some_then : (ℕ → Bool) → (List ℕ → Bool) → List ℕ → Bool
some_then test form = one_then test (many_then test form)
