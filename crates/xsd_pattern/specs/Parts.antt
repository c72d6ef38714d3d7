-- Parts of a pattern as steps: of what inside they are, and whether it may be absent or come again.
use Rattle.std.specs.Prelude.{ℕ, zero, suc, ◌+◌, ◌==◌, Bool, true, false, ◌&&◌, ◌||◌, List, [], ◌∷◌, ◌++◌, length, nat_lt, Option, Some, None, if◌then◌else◌}
use Rattle.xsd_pattern.specs.declared.token.Repeat.{Repeat}
use Rattle.xsd_pattern.specs.declared.token.Repeat.TheVariants.{Question, Star, Plus, Counted}
use Rattle.xsd_pattern.specs.declared.step.Step.{Step}
use Rattle.xsd_pattern.specs.declared.step.Step.TheVariants as s
use Rattle.xsd_pattern.specs.declared.parts.Part.{Part}
use Rattle.xsd_pattern.specs.Matching.{repeated_size}
use Rattle.xsd_pattern.specs.Machine.{Algebra}

abbrev pub part : List Step → ℕ → Bool → Bool → Bool → Part
part steps size empty absent again = record { steps = steps; size = size; empty = empty; absent = absent; again = again }

abbrev pub is_nothing : List Step → Bool
is_nothing [] = true
is_nothing (step ∷ steps) = false

-- more than 2,000 characters: nothing is kept of it
abbrev pub large : Part
large = part [] 2001 true false false

abbrev pub no_part : Part
no_part = part [] 0 true false false

abbrev pub one_part : Option ℕ → Part
one_part place = part (s.One place ∷ []) 1 false false false

abbrev pub looped : Bool → Bool → List Step → List Step
looped false empty steps = steps
looped true empty steps = s.Loop (length steps) ∷ (steps ++ s.End empty ∷ [])

abbrev pub optional : Bool → List Step → List Step
optional false steps = steps
optional true steps = s.Save ∷ (steps ++ s.Join ∷ [])

-- all steps of a part
abbrev pub all_steps : Part → List Step
all_steps p = optional p.absent (looped p.again p.empty p.steps)

abbrev pub is_empty_part : Part → Bool
is_empty_part p = p.absent || p.empty

abbrev pub with_size : ℕ → Part → Part
with_size n p = part p.steps n p.empty p.absent p.again

abbrev pub with_flags : Bool → Bool → Part → Part
with_flags absent again p = part p.steps p.size p.empty absent again

-- one and then the other
abbrev pub joined : ℕ → Part → Part → Part
joined size a b =
    if is_nothing a.steps then with_size size b
    else (if is_nothing b.steps then with_size size a
    else part (all_steps a ++ all_steps b) size (is_empty_part a && is_empty_part b) false false)

abbrev pub followed : Part → Part → Part
followed a b = if nat_lt 2000 (a.size + b.size) then large else joined (a.size + b.size) a b

-- one or the other
abbrev pub alternated : ℕ → Part → Part → Part
alternated size a b =
    if is_nothing a.steps then with_size size (with_flags true b.again b)
    else (if is_nothing b.steps then with_size size (with_flags true a.again a)
    else part (s.Save ∷ (all_steps a ++ s.Or ∷ (all_steps b ++ s.Join ∷ []))) size (is_empty_part a || is_empty_part b) false false)

abbrev pub either_part : Part → Part → Part
either_part a b = if nat_lt 2000 (a.size + b.size) then large else alternated (a.size + b.size) a b

abbrev pub copies : ℕ → List Step → List Step
copies zero steps = []
copies (suc n) steps = steps ++ copies n steps

-- what stands behind the copies that must be
abbrev pub tail_steps : Option ℕ → Part → List Step
tail_steps None p = all_steps (with_flags true true p)
tail_steps (Some m) p = copies m (all_steps (with_flags true p.again p))

abbrev pub copied : ℕ → ℕ → Option ℕ → Part → Part
copied size n more p =
    if is_nothing p.steps then with_size size p
    else part (copies n (all_steps p) ++ tail_steps more p) size (n == 0 || is_empty_part p) false false

abbrev pub repeated_part : Repeat → Part → Part
repeated_part Question p = with_flags true p.again p
repeated_part Star p = with_flags true true p
repeated_part Plus p = with_flags p.absent true p
repeated_part (Counted n more) p = if nat_lt 2000 (repeated_size p.size (Counted n more)) then large else copied (repeated_size p.size
    (Counted n more)) n more p

-- what stands before or behind a line: any text where it needn't begin or end there
abbrev pub open_part : Bool → Part
open_part true = no_part
open_part false = part (s.One None ∷ []) 0 false true true

abbrev pub line_part : Bool → Part → Bool → Part
line_part s b e = followed (open_part s) (followed b (open_part e))

abbrev pub parts : Algebra (Option ℕ) Part Part Part Part
parts = record {
  only = λ b. b;
  or = either_part;
  none = no_part;
  once = followed;
  many = λ b a q. followed b (repeated_part q a);
  one = one_part;
  group = λ r. r;
  line = line_part;
  lines = λ t s b e. either_part t (line_part s b e);
}
