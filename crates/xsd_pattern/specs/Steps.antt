-- Operators as a list of steps with one mark each, gone over once a character from the first step to the last.
use Rattle.std.specs.Prelude.{ℕ, Bool, true, false, ◌&&◌, ◌||◌, List, [], ◌∷◌, ◌++◌, length, Option, Some, None}
use Rattle.std.specs.List.{slice_get, slice_index_or}
use Rattle.xsd_pattern.specs.declared.token.Class.{Class}
use Rattle.xsd_pattern.specs.declared.token.Token.{Token}
use Rattle.xsd_pattern.specs.declared.token.Token.TheVariants.{Item}
use Rattle.xsd_pattern.specs.declared.step.Step.{Step}
use Rattle.xsd_pattern.specs.declared.step.Step.TheVariants as s
use Rattle.xsd_pattern.specs.declared.places.Place.{Place}
use Rattle.xsd_pattern.specs.Classes.{has}
use Rattle.xsd_pattern.specs.Core.{Core, is_empty}
use Rattle.xsd_pattern.specs.Core as r
use Rattle.xsd_pattern.specs.Marks.{Marked, at_end, nothing, one, both, either, maybe, again}

abbrev pub in_token : Option (Token Class) → ℕ → Bool
in_token (Some (Item class)) c = has class c
in_token _ c = false

-- the character is one of the class of the token at the place; where no place is named, every character is
abbrev pub has_at : List (Token Class) → Option ℕ → ℕ → Bool
has_at tokens None c = true
has_at tokens (Some place) c = in_token (slice_get tokens place) c

abbrev pub code : Core (Option ℕ) → List Step
code r.nothing = []
code (r.one class) = s.One class ∷ []
code (r.both x y) = code x ++ code y
code (r.either x y) = s.Save ∷ (code x ++ s.Or ∷ (code y ++ s.Join ∷ []))
code (r.maybe x) = s.Save ∷ (code x ++ s.Join ∷ [])
code (r.again x) = s.Loop (length (code x)) ∷ (code x ++ s.End (is_empty x) ∷ [])

-- the marks, one a step: that of a loop's end tells whether its inside may end
abbrev pub flat : Marked (Option ℕ) → List Bool
flat nothing = []
flat (one class mark) = mark ∷ []
flat (both x y) = flat x ++ flat y
flat (either x y) = false ∷ (flat x ++ false ∷ (flat y ++ false ∷ []))
flat (maybe x) = false ∷ (flat x ++ false ∷ [])
flat (again x) = false ∷ (flat x ++ at_end x ∷ [])

-- Whether the text before the character may end here, and the text with it, and what was put aside, the last first.
pub record At : Type 0 where
  pub before : Bool
  pub behind : Bool
  pub places : List Place

abbrev pub at : Bool → Bool → List Place → At
at before behind places = record { before = before; behind = behind; places = places }

abbrev pub place : Bool → Bool → Place
place before behind = record { before = before; behind = behind }

-- the mark that a loop's begin reads
abbrev pub ahead : Step → List Bool → Bool
ahead (s.Loop d) marks = slice_index_or marks d false
ahead _ marks = false

abbrev pub swapped : Bool → Bool → List Place → At
swapped before behind [] = at before behind []
swapped before behind (p ∷ places) = at p.before p.behind (place before behind ∷ places)

abbrev pub both_ways : Bool → Bool → List Place → At
both_ways before behind [] = at before behind []
both_ways before behind (p ∷ places) = at (p.before || before) (p.behind || behind) places

abbrev pub left_loop : Bool → Bool → Bool → List Place → At
left_loop empty before behind [] = at before behind []
left_loop empty before behind (p ∷ places) = at before (behind || (p.behind && empty)) places

-- behind a step with its mark, and the mark that its loop reads
abbrev pub stepped : (Option ℕ → ℕ → Bool) → ℕ → Step → Bool → Bool → Bool → Bool → List Place → At
stepped has c (s.One class) mark later before behind places = at mark (before && has class c) places
stepped has c s.Save mark later before behind places = at before behind (place before behind ∷ places)
stepped has c s.Or mark later before behind places = swapped before behind places
stepped has c s.Join mark later before behind places = both_ways before behind places
stepped has c (s.Loop d) mark later before behind places = at (before || later) false (place before behind ∷ places)
stepped has c (s.End empty) mark later before behind places = left_loop empty before behind places

-- the step's mark behind the character
abbrev pub marked : (Option ℕ → ℕ → Bool) → ℕ → Step → Bool → Bool → Bool
marked has c (s.One class) before behind = before && has class c
marked has c (s.End empty) before behind = behind
marked has c _ before behind = false

pub record Passed : Type 0 where
  pub marks : List Bool
  pub end : At

abbrev pub with_marks : List Bool → Passed → Passed
with_marks front passed = record { marks = front ++ passed.marks; end = passed.end }

abbrev pub ended : At → Passed
ended end = record { marks = []; end = end }

abbrev pub passed : (Option ℕ → ℕ → Bool) → ℕ → List Step → List Bool → At → Passed
passed has c [] marks a = ended a
passed has c (step ∷ steps) [] a = ended a
passed has c (step ∷ steps) (mark ∷ marks) a =
    with_marks (marked has c step a.before a.behind ∷ []) (passed has c steps marks (stepped has c step mark (ahead step marks) a.before a.behind a.places))

-- whether the text may end behind its last character, by the marks and the answer before it
abbrev pub ran : (Option ℕ → ℕ → Bool) → List Step → Bool → List Bool → Bool → List ℕ → Bool
ran has steps first marks answer [] = answer
ran has steps first marks answer (c ∷ text) =
    let p : Passed = passed has c steps marks (at first false []) in ran has steps false p.marks p.end.behind text
