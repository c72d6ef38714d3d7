-- Texts that are put behind others: all of them, or, where memory runs out, a front.
use Rattle.std.specs.Prelude.{◌≡◌, ℕ, List, ◌++◌, Result, MatchResult}
use Rattle.inv_base.specs.Writing.{IsFront}

-- A front of the text stands behind what stood there.
pub record HasFront (text before after : List ℕ) : Type 0 where
  pub front : List ℕ
  pub is_front : IsFront front text
  pub stands : after ≡ before ++ front

-- A call that answered Ok put the whole text behind what stood there, and one that failed a front of it.
abbrev pub Puts : {T E : Type 0} → Result T E → List ℕ → List ℕ → List ℕ → Type 0
Puts result text before after = MatchResult result (λ _. after ≡ before ++ text) (λ _. HasFront text before after)
