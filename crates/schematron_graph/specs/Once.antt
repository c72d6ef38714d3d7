-- Rules that are gone over once: what was written, and what is still to come, has the same firsts as all.
use Rattle.std.specs.Prelude.{◌≡◌, ℕ, Bool, true, nat_eq, List, ◌++◌}
use Rattle.std.specs.List.{list_any}
use Rattle.schematron_graph.specs.declared.part.Thing.{Thing}
use Rattle.schematron_graph.specs.Firsts.{firsts}

-- One of the things has the number.
abbrev pub is_told : List Thing → ℕ → Bool
is_told things n = list_any (λ (thing : Thing). nat_eq n thing.number) things

-- Each number that some things have is had by the others.
abbrev pub Within : List Thing → List Thing → Type 0
Within some others = (n : ℕ) → is_told some n ≡ true → is_told others n ≡ true

-- Whatever is behind them, both have the same firsts.
abbrev pub Alike : List Thing → List Thing → Type 0
Alike some others = (rest : List Thing) → firsts (some ++ rest) ≡ firsts (others ++ rest)

-- The things of each rule that was gone over are written.
abbrev pub AreWritten : (ℕ → List Thing) → List ℕ → List Thing → Type 0
AreWritten given gone written = (rule : ℕ) → list_any (nat_eq rule) gone ≡ true → Within (given rule) written
