-- Tallies in numbers that stop at the greatest of 64 bits, and what the rules of elements come to.
use Rattle.std.specs.Prelude.{◌≡◌, ℕ, ◌+◌, Bool, true, false, ◌&&◌, nat_eq, min, List, [], ◌∷◌, length, sum_by, Option, Some, None}
use Rattle.schematron_graph.specs.Counts.{last_count}
use Rattle.schematron_meaning.specs.declared.fault.RuleKind.TheVariants as k
use Rattle.schematron_meaning.specs.Entries.{Entry}
use Rattle.schematron_meaning.specs.Lookup.{is_own_rule, inside}
use Rattle.schematron_meaning.specs.Expansion.{File}
use Rattle.schematron_meaning.specs.Counts.{Tally, added, assertions_of, tally_of}
use Rattle.schematron_meaning.specs.Showing.{fault}
use Rattle.schematron_meaning.specs.Faults.{too_many}
use Rattle.schematron_expansion.specs.declared.found.Found.{Found}
use Rattle.schematron_expansion.specs.Found.{first_at, first_or}
use Rattle.schematron_faults.specs.declared.sums.Sums.{Sums}
use Rattle.schematron_faults.specs.declared.sizes.Size.{Size}

-- Tallies

-- a number as far as 64 bits go
abbrev pub stop : ℕ → ℕ
stop n = min n last_count

-- what contracts see of sums
abbrev pub seen_sums : Sums → Tally
seen_sums sums = record { patterns = sums.patterns; rules = sums.rules; assertions = sums.assertions }

-- a tally of such numbers
abbrev pub stopped : Tally → Tally
stopped t = record { patterns = stop t.patterns; rules = stop t.rules; assertions = stop t.assertions }

-- from one element on, where the tally before it is known as far as its numbers go
abbrev pub passing_stopped : File → Tally → List Entry → Option Found
passing_stopped file before [] = None
passing_stopped file before (e ∷ es) =
    let after : Tally = stopped (added before (stopped (tally_of file e))) in
    first_or (first_at e.number (too_many before after e)) (passing_stopped file after es)

-- Rules of elements

-- what the rules that stand in an element come to
abbrev pub size_in : File → List Entry → ℕ → Size
size_in file es n =
    let rules : List Entry = inside is_own_rule es n in
    record { rules = stop (length rules); assertions = stop (sum_by (λ (rule : Entry). assertions_of file rule.number) rules) }

-- what was found, or no rule
abbrev pub size_found : Option Size → Size
size_found None = record { rules = 0; assertions = 0 }
size_found (Some size) = size

-- Of each element it is known what its rules among the entries come to.
abbrev pub AreSizes : (ℕ → Option Size) → File → List Entry → Type 0
AreSizes sizes file es = (n : ℕ) → size_found (sizes n) ≡ size_in file es n

-- one rule more, with so many assertions
abbrev pub grown : Size → ℕ → Size
grown size assertions = record { rules = stop (size.rules + 1); assertions = stop (size.assertions + assertions) }

-- the same, if there is one
abbrev pub grown_if : Bool → Size → ℕ → Size
grown_if true size assertions = grown size assertions
grown_if false size assertions = size

-- The entry is a rule of the element.
abbrev pub is_rule_in : Entry → ℕ → Bool
is_rule_in e n = is_own_rule e.role && nat_eq e.parent n

-- The sizes are as before, with a rule more in the element that the entry stands in if it is one.
abbrev pub AddsRule : (ℕ → Option Size) → (ℕ → Option Size) → Entry → ℕ → Type 0
AddsRule old new e assertions = (n : ℕ) → size_found (new n) ≡ grown_if (is_rule_in e n) (size_found (old n)) assertions

-- the fault of an element at which there are too many
abbrev pub too_many_at : Entry → Found
too_many_at e = record { at = e.number; fault = fault k.TooMany None e }
