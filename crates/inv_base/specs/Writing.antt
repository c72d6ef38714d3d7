-- A text that a call was to append to a sink: all of it, or a front of it and then a fault.
use Rattle.std.specs.Prelude.{◌≡◌, ℕ, ◌≤◌, List, ◌++◌, Result, MatchResult}
use Rattle.inv_base.specs.Counts.{Rose}
use Rattle.inv_base.specs.Outside.{SinkView, appended}

-- The text begins with the front.
pub record IsFront (front text : List ℕ) : Type 0 where
  pub rest : List ℕ
  pub whole : front ++ rest ≡ text

-- The sink took the whole text.
pub record WritesAll (text : List ℕ) (before after : SinkView) : Type 0 where
  pub told : after.told ≡ appended text before.told
  pub faults : after.faults ≡ before.faults

-- The sink took a front of the text, and then failed.
pub record WritesFront (text : List ℕ) (before after : SinkView) : Type 0 where
  pub front : List ℕ
  pub is_front : IsFront front text
  pub told : after.told ≡ appended front before.told
  pub rises : before.faults ≤ after.faults
  pub rose : Rose before.faults after.faults

-- A call that answered Ok wrote the whole text, and one that failed a front of it.
abbrev pub Writes : {T E : Type 0} → Result T E → List ℕ → SinkView → SinkView → Type 0
Writes result text before after = MatchResult result (λ _. WritesAll text before after) (λ _. WritesFront text before after)
