-- Small rules on which the definitions are tried.
use Rattle.std.specs.Prelude.{◌≡◌, ℕ, true, false, List, [], ◌∷◌, refl}
use Rattle.schematron_graph.specs.declared.part.Thing.{Thing}
use Rattle.schematron_graph.specs.declared.part.Part.{Part}
use Rattle.schematron_graph.specs.declared.part.Part.TheVariants.{Own, Puts}
use Rattle.schematron_graph.specs.Rules.{ends, expansion}

abbrev thing : ℕ → Thing
thing number = record { number = number; counts = true }

-- 0 has things alone, 1 puts it twice, 2 and 3 put each other, 4 puts one of them, 5 itself, 6 a rule that isn't there
abbrev bodies : List (List Part)
bodies =
    (Own (thing 1) ∷ Own (thing 2) ∷ [])
    ∷ (Puts 0 ∷ Own (thing 3) ∷ Puts 0 ∷ [])
    ∷ (Puts 3 ∷ Own (thing 4) ∷ [])
    ∷ (Own (thing 5) ∷ Puts 2 ∷ [])
    ∷ (Puts 0 ∷ Puts 3 ∷ [])
    ∷ (Puts 5 ∷ [])
    ∷ (Puts 9 ∷ Own (thing 6) ∷ []) ∷ []

ends-0 : ends bodies 0 ≡ true
ends-0 = refl

ends-1 : ends bodies 1 ≡ true
ends-1 = refl

ends-2 : ends bodies 2 ≡ false
ends-2 = refl

ends-4 : ends bodies 4 ≡ false
ends-4 = refl

ends-5 : ends bodies 5 ≡ false
ends-5 = refl

ends-6 : ends bodies 6 ≡ true
ends-6 = refl

-- what doesn't end puts nothing, also where it isn't itself on the cycle
expansion-all : expansion bodies (Own (thing 7) ∷ Puts 1 ∷ Puts 4 ∷ Puts 2 ∷ Puts 6 ∷ [])
    ≡ thing 7 ∷ thing 1 ∷ thing 2 ∷ thing 3 ∷ thing 1 ∷ thing 2 ∷ thing 6 ∷ []
expansion-all = refl
