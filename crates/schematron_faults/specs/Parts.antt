-- The entry that is a part of an abstract rule, by rule and place.
use Rattle.std.specs.Prelude.{ℕ, zero, suc, Bool, true, false, ◌&&◌, nat_eq, List, filter, slice_get, Option, Some, None, is_some}
use Rattle.schematron_graph.specs.declared.part.Spot.{Spot}
use Rattle.schematron_meaning.specs.declared.attribute.Attribute.TheVariants as a
use Rattle.schematron_meaning.specs.declared.fault.RuleKind.TheVariants as k
use Rattle.schematron_meaning.specs.declared.role.Role.{Role}
use Rattle.schematron_meaning.specs.declared.role.Role.TheVariants as r
use Rattle.schematron_meaning.specs.Entries.{Entry}
use Rattle.schematron_meaning.specs.Bodies.{abstract_rules, put_by}
use Rattle.schematron_meaning.specs.Expansion.{File}
use Rattle.schematron_meaning.specs.Showing.{fault}
use Rattle.schematron_expansion.specs.declared.found.Found.{Found}

-- An element of the role puts a part in the rule that it stands in.
abbrev pub is_putting : Role → List Entry → Entry → Bool
is_putting r.Let rules e = true
is_putting r.Assert rules e = true
is_putting r.Report rules e = true
is_putting r.Extends rules e = is_some (put_by rules e)
is_putting _ rules e = false

-- The entry puts a part in the rule of that number.
abbrev pub is_part : List Entry → ℕ → Entry → Bool
is_part rules number e = nat_eq e.parent number && is_putting e.role rules e

-- how many are to be passed behind one, where it may count; none where it is the one itself
abbrev pub passed : Bool → ℕ → Option ℕ
passed false left = Some left
passed true zero = None
passed true (suc left) = Some left

-- the entry behind so many that puts a part in a rule
abbrev pub part_in : File → ℕ → Option Entry → Option Entry
part_in file place None = None
part_in file place (Some rule) = slice_get (filter (is_part file.rules rule.number) file.entries) place

-- the entry that is a part
abbrev pub part_at : File → Spot → Option Entry
part_at file spot = part_in file spot.part (slice_get (abstract_rules file.entries) spot.rule)

abbrev pub part_of : File → Option Spot → Option Entry
part_of file None = None
part_of file (Some spot) = part_at file spot

-- the cycle that an entry shows
abbrev pub cycle_found : Entry → Found
cycle_found e = record { at = e.number; fault = fault k.Cycle (Some a.Rule) e }
