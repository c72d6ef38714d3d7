-- Texts that are put behind others.
use Rattle.std.specs.Prelude.{◌≡◌, ℕ, List, ◌++◌, chars, Result, MatchResult}

-- The characters stand behind those that stood there, or, where memory ran out, what stood there is as it was.
abbrev pub Puts : {T E : Type 0} → Result T E → List ℕ → List ℕ → List ℕ → Type 0
Puts result text before after = MatchResult result (λ _. chars after ≡ chars before ++ text) (λ _. after ≡ before)
