-- All faults of a document as an invoice of a table, in their order, and the elements that the table passes over.
use Rattle.std.specs.Prelude.{ℕ, List, [], ◌∷◌, ◌++◌, zero, suc, filter, flat_map, map}
use Rattle.std.specs.Ordering.{nat_cmp}
use Rattle.std.specs.declared.cmp.Ordering.TheVariants.{Less, Equal, Greater}
use Rattle.std.specs.Cmp.Lexicographic.{slice_cmp}
use Rattle.inv_base.specs.Tree.{Node}
use Rattle.code_lists.specs.CodeFiles.{Lists}
use Rattle.term_table.specs.Contexts.{is_inside}
use Rattle.term_table.specs.declared.contexts.Seat.{Seat}
use Rattle.inv_terms.specs.declared.violations.ModelViolation.{ModelViolation}
use Rattle.inv_terms.specs.Lacking.{all_missing}
use Rattle.bind_rows.specs.declared.rows.Row.{Row}
use Rattle.bind_meaning.specs.declared.fault.BindKind.TheVariants as kinds
use Rattle.bind_meaning.specs.declared.fault.BindFault.{BindFault}
use Rattle.bind_meaning.specs.Currencies.{Currencies, currencies}
use Rattle.bind_meaning.specs.Seats.{Placed, Room, rooms}
use Rattle.bind_meaning.specs.Judging.{Found, found, earlier, faults_behind, wrong_word, missing_place, name_of, seat_of}
use Rattle.bind_meaning.specs.Terms.{told, constant_picks, term_picks, place_all, is_passed_over}

-- ---- every fault: those of what picks say, of indicators, and all that is missing in each context

abbrev pub violation_found : List Node → Room → ModelViolation → Found
violation_found nodes room violation = found (missing_place nodes room violation.place) kinds.Missing (name_of violation.fault) room.element

abbrev pub violations_in : List Node → List Seat → Room → List Found
violations_in nodes seats room =
    map (violation_found nodes room) (all_missing (filter (λ (seat : Seat). is_inside room.context seat.context) seats) room.context)

abbrev pub every_fault : List Node → Lists → Currencies → List Row → List Placed → List Found
every_fault nodes lists c rows ps =
    faults_behind nodes lists c [] (told nodes ps)
    ++ (flat_map (wrong_word nodes) (constant_picks nodes rows) ++ flat_map (violations_in nodes (map seat_of (told nodes ps))) (rooms ps))

-- ---- in their order, at one spot once

-- what stands behind a fault's node, without the kind of a fault at that node
abbrev pub without_kind : List ℕ → List ℕ
without_kind [] = []
without_kind (zero ∷ []) = 0 ∷ []
without_kind (zero ∷ (row ∷ kind)) = 0 ∷ (row ∷ [])
without_kind (suc k ∷ place) = suc k ∷ place

-- A fault's place without its kind: at one node and row the first kind alone counts, and of one kind the one found first.
abbrev pub spot : List ℕ → List ℕ
spot [] = []
spot (n ∷ place) = n ∷ without_kind place

-- A fault among others, which stand in the order of their spots.
abbrev pub put_fault : Found → List Found → List Found
put_fault f [] = f ∷ []
put_fault f (g ∷ fs) = elim (slice_cmp nat_cmp (spot f.place) (spot g.place)) [
  | Less ↦ f ∷ (g ∷ fs)
  | Equal ↦ earlier g f ∷ fs
  | Greater ↦ g ∷ put_fault f fs
]

-- all put among those before, one after another, from the first on
abbrev pub put_faults : List Found → List Found → List Found
put_faults kept [] = kept
put_faults kept (f ∷ fs) = put_faults (put_fault f kept) fs

abbrev pub in_fault_order : List Found → List Found
in_fault_order fs = put_faults [] fs

abbrev pub faults_of : List Found → List BindFault
faults_of fs = map (λ (f : Found). f.fault) fs

abbrev pub every_fault_with : List Node → List Row → Lists → Currencies → List Found
every_fault_with nodes rows lists c = every_fault nodes lists c rows (place_all nodes (term_picks nodes c rows))

-- All faults of a document as an invoice of a table.
unfoldable pub faults_in : List Node → List Row → Lists → List BindFault
faults_in nodes rows lists = faults_of (in_fault_order (every_fault_with nodes rows lists (currencies nodes rows)))

-- ---- what is passed over

-- The numbers of the elements that the table passes over, in document order.
unfoldable pub passed_nodes : List Node → List Row → List ℕ
passed_nodes nodes rows = map (λ (node : Node). node.number) (filter (is_passed_over nodes rows) nodes)
