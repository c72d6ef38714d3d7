-- When parts of rows are the same. Each test computes, and says of two values whether they are equal.
use Rattle.std.specs.Prelude.{ℕ, ◌==◌, Bool, true, false, ◌&&◌, Option, Some, None}
use Rattle.std.specs.Cmp.Lexicographic.{pointwise}
use Rattle.std.specs.Str.{bytes_eq}
use Rattle.term_table.specs.declared.groups.Group.{Group}
use Rattle.term_table.specs.Groups as terms
use Rattle.bind_rows.specs.declared.names.Namespace.{Namespace}
use Rattle.bind_rows.specs.declared.names.Namespace.TheVariants as spaces
use Rattle.bind_rows.specs.declared.names.ElementName.{ElementName}
use Rattle.bind_rows.specs.declared.names.Leaf.{Leaf}
use Rattle.bind_rows.specs.declared.names.Leaf.TheVariants as leaves
use Rattle.bind_rows.specs.declared.guards.Place.{Place}
use Rattle.bind_rows.specs.declared.guards.Test.{Test}
use Rattle.bind_rows.specs.declared.guards.Test.TheVariants as tests
use Rattle.bind_rows.specs.declared.guards.Guard.{Guard}
use Rattle.bind_rows.specs.declared.rows.Step.{Step}

abbrev pub number_of : Namespace → ℕ
number_of spaces.UblInvoice = 0
number_of spaces.UblCreditNote = 1
number_of spaces.UblAggregate = 2
number_of spaces.UblBasic = 3
number_of spaces.CiiInvoice = 4
number_of spaces.CiiAggregate = 5
number_of spaces.CiiUnqualified = 6
number_of spaces.CiiQualified = 7

abbrev pub same_namespace : Namespace → Namespace → Bool
same_namespace a b = number_of a == number_of b

abbrev pub same_name : ElementName → ElementName → Bool
same_name a b = same_namespace a.namespace b.namespace && bytes_eq a.local b.local

abbrev pub same_leaf : Leaf → Leaf → Bool
same_leaf leaves.Element leaves.Element = true
same_leaf leaves.Element (leaves.Attribute b) = false
same_leaf (leaves.Attribute a) leaves.Element = false
same_leaf (leaves.Attribute a) (leaves.Attribute b) = bytes_eq a b

abbrev pub same_place : Place → Place → Bool
same_place a b = pointwise same_name a.path b.path && same_leaf a.leaf b.leaf

abbrev pub same_test : Test → Test → Bool
same_test (tests.OneOf a) (tests.OneOf b) = pointwise bytes_eq a b
same_test (tests.NoneOf a) (tests.NoneOf b) = pointwise bytes_eq a b
same_test tests.Present tests.Present = true
same_test tests.Absent tests.Absent = true
same_test (tests.OneOf a) _ = false
same_test (tests.NoneOf a) _ = false
same_test tests.Present _ = false
same_test tests.Absent _ = false

abbrev pub same_guard : Guard → Guard → Bool
same_guard a b = same_place a.place b.place && same_test a.test b.test

abbrev pub same_group : Group → Group → Bool
same_group = terms.same_group

abbrev pub same_or_none : Option Group → Option Group → Bool
same_or_none None None = true
same_or_none None (Some b) = false
same_or_none (Some a) None = false
same_or_none (Some a) (Some b) = same_group a b

abbrev pub same_flag : Bool → Bool → Bool
same_flag true true = true
same_flag true false = false
same_flag false true = false
same_flag false false = true

-- the first value where the test holds, else the second; the other one isn't computed
abbrev pub choose : {A : Type 0} → Bool → (Unit {0} → A) → (Unit {0} → A) → A
choose true first second = first tt
choose false first second = second tt

abbrev pub same_rest_of_step : Step → Step → Bool
same_rest_of_step a b = same_name a.name b.name && (same_flag a.always b.always && (same_or_none a.group b.group && pointwise same_guard a.guards b.guards))

-- Elements of a table are told apart by their numbers first.
abbrev pub same_step : Step → Step → Bool
same_step a b = choose (a.number == b.number) (λ _. same_rest_of_step a b) (λ _. false)
