-- What a text is as a pattern, and whether a pattern is found in a text, as functions that compute.
use Rattle.std.specs.Prelude.{◌≡◌, ℕ, ◌+◌, ◌*◌, Bool, true, false, List, Option, Some, None, Result, Ok, Err, nat_le, max}
use Rattle.xsd_pattern.specs.declared.token.Class.{Class}
use Rattle.xsd_pattern.specs.declared.token.Token.{Token}
use Rattle.xsd_pattern.specs.declared.token.Repeat.{Repeat}
use Rattle.xsd_pattern.specs.declared.token.Repeat.TheVariants.{Question, Star, Plus, Counted}
use Rattle.xsd_pattern.specs.declared.fault.PatternFault.{PatternFault}
use Rattle.xsd_pattern.specs.declared.fault.PatternFault.TheVariants as f
use Rattle.xsd_pattern.specs.Classes.{has, any, least, more}
use Rattle.xsd_pattern.specs.Lexing.{tokens_of}
use Rattle.xsd_pattern.specs.Grammar.{Top}
use Rattle.xsd_pattern.specs.Machine.{Algebra, read, of_top}
use Rattle.xsd_pattern.specs.Core.{Core, times, up_to}
use Rattle.xsd_pattern.specs.Core as r
use Rattle.xsd_pattern.specs.Marks.{is_in}

-- ---- how many characters a pattern has, each repeat written out

-- a repeat with braces counts its atom as often as the greatest of its numbers says, once where that is 0; `{n,}` once more than n
abbrev pub repeated_size : ℕ → Repeat → ℕ
repeated_size size Question = size
repeated_size size Star = size
repeated_size size Plus = size
repeated_size size (Counted n None) = size * (n + 1)
repeated_size size (Counted n (Some m)) = size * max (n + m) 1

abbrev pub sizes : {C : Type 0} → Algebra C ℕ ℕ ℕ ℕ
sizes = record {
  only = λ b. b;
  or = λ r b. r + b;
  none = 0;
  once = λ b a. b + a;
  many = λ b a q. b + repeated_size a q;
  one = λ c. 1;
  group = λ r. r;
  line = λ s b e. b;
  lines = λ t s b e. t + b;
}

abbrev pub size : {C : Type 0} → Top C → ℕ
size pattern = of_top sizes pattern

-- the most that a pattern may have
abbrev pub most_marks : ℕ
most_marks = 2000

abbrev pub size_by_tokens : Option (List (Token Class)) → Option ℕ
size_by_tokens None = None
size_by_tokens (Some tokens) = read sizes tokens

-- the size of the pattern that the text spells, none where it spells none
abbrev pub size_of : List ℕ → Option ℕ
size_of text = size_by_tokens (tokens_of text)

abbrev pub fault_by_test : Bool → Option PatternFault
fault_by_test true = None
fault_by_test false = Some f.TooLarge

abbrev pub fault_by_size : Option ℕ → Option PatternFault
fault_by_size None = Some f.Bad
fault_by_size (Some n) = fault_by_test (nat_le n most_marks)

-- why the text is no pattern that is taken, none where it is one
abbrev pub fault_of : List ℕ → Option PatternFault
fault_of text = fault_by_size (size_of text)

-- the fault is that one; want of memory may stand in for any answer
abbrev pub IsFault : PatternFault → Option PatternFault → Type 0
IsFault f.Bad wanted = wanted ≡ Some f.Bad
IsFault f.TooLarge wanted = wanted ≡ Some f.TooLarge
IsFault f.Memory wanted = Unit {0}

abbrev pub Judges : {T : Type 0} → Result T PatternFault → Option PatternFault → Type 0
Judges (Ok x) wanted = wanted ≡ None
Judges (Err fault) wanted = IsFault fault wanted

-- ---- what a pattern comes down to: what has no character is left out, so that repeats of it cost nothing

abbrev pub is_nothing : {C : Type 0} → Core C → Bool
is_nothing r.nothing = true
is_nothing (r.one class) = false
is_nothing (r.both x y) = false
is_nothing (r.either x y) = false
is_nothing (r.maybe x) = false
is_nothing (r.again x) = false

abbrev pub pick : {C : Type 0} → Bool → Core C → Core C → Core C
pick true x y = x
pick false x y = y

abbrev pub both_of : {C : Type 0} → Core C → Core C → Core C
both_of x y = pick (is_nothing x) y (pick (is_nothing y) x (r.both x y))

abbrev pub may : {C : Type 0} → Core C → Core C
may x = pick (is_nothing x) r.nothing (r.maybe x)

abbrev pub either_of : {C : Type 0} → Core C → Core C → Core C
either_of x y = pick (is_nothing x) (may y) (pick (is_nothing y) (may x) (r.either x y))

abbrev pub repeated : {C : Type 0} → Repeat → Core C → Core C
repeated q x = pick (is_nothing x) r.nothing (times (least q) x (up_to (more q) x))

-- what stands before or behind a line: any text where it needn't begin or end there
abbrev pub open_at : Bool → Core Class
open_at true = r.nothing
open_at false = r.maybe (r.again (r.one any))

abbrev pub line_of : Bool → Core Class → Bool → Core Class
line_of s b e = both_of (open_at s) (both_of b (open_at e))

abbrev pub cores : Algebra Class (Core Class) (Core Class) (Core Class) (Core Class)
cores = record {
  only = λ b. b;
  or = either_of;
  none = r.nothing;
  once = both_of;
  many = λ b a q. both_of b (repeated q a);
  one = r.one;
  group = λ x. x;
  line = line_of;
  lines = λ t s b e. either_of t (line_of s b e);
}

abbrev pub core_by_tokens : Option (List (Token Class)) → Option (Core Class)
core_by_tokens None = None
core_by_tokens (Some tokens) = read cores tokens

abbrev pub found_by_core : List ℕ → Option (Core Class) → Bool
found_by_core text None = false
found_by_core text (Some x) = is_in has x text

abbrev pub found_unless : List ℕ → List ℕ → Option PatternFault → Bool
found_unless text pattern None = found_by_core text (core_by_tokens (tokens_of pattern))
found_unless text pattern (Some fault) = false

-- the pattern is found in the text; false where it is none that is taken
abbrev pub matches : List ℕ → List ℕ → Bool
matches text pattern = found_unless text pattern (fault_of pattern)
