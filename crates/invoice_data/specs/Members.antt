-- What the members of an object tell, each in its turn, and what stands inside them: an invoice has arrays of objects, and so have its
-- lines; inside these stand no others.
use Rattle.std.specs.Prelude.{ℕ, ◌+◌, ◌-◌, Bool, true, false, not, ◌&&◌, List, [], ◌∷◌, ◌++◌, map, find, min, Option, Some, None, codes, bytes_eq, if◌then◌else◌}
use Rattle.json_reading.specs.declared.item.Item.{Item}
use Rattle.json_reading.specs.declared.item.ItemKind.{ItemKind}
use Rattle.json_reading.specs.declared.item.ItemKind.TheVariants as kinds
use Rattle.term_table.specs.declared.contexts.Context.{Context}
use Rattle.term_table.specs.declared.contexts.Seat.{Seat}
use Rattle.term_table.specs.declared.contexts.Slot.{Slot}
use Rattle.term_table.specs.declared.groups.Group.{Group}
use Rattle.term_table.specs.declared.groups.Group.TheVariants as groups
use Rattle.term_table.specs.Contexts.{root_context}
use Rattle.term_table.specs.Groups.{same_group}
use Rattle.inv_terms.specs.declared.violations.ModelViolation.{ModelViolation}
use Rattle.inv_terms.specs.declared.violations.Name.TheVariants as lacking
use Rattle.inv_terms.specs.declared.violations.TermFault.{TermFault}
use Rattle.inv_terms.specs.declared.violations.TermFault.TheVariants as lacks
use Rattle.inv_terms.specs.Lacking.{all_missing}
use Rattle.invoice_data.specs.declared.faults.DataFault.{DataFault}
use Rattle.invoice_data.specs.declared.faults.DataKind.TheVariants.{NotAnObject, UnknownMember, DuplicateMember, NotAnArray, Missing}
use Rattle.invoice_data.specs.declared.faults.DataName.{DataName}
use Rattle.invoice_data.specs.declared.faults.DataName.TheVariants as names
use Rattle.invoice_data.specs.declared.members.Numbers.{Numbers}
use Rattle.invoice_data.specs.declared.names.Member.{Member}
use Rattle.invoice_data.specs.declared.names.Member.TheVariants as members
use Rattle.invoice_data.specs.declared.names.Room.{Room}
use Rattle.invoice_data.specs.declared.telling.Found.{Found}
use Rattle.invoice_data.specs.Parts.{Part, parts}
use Rattle.invoice_data.specs.Names.{Source, member_of, name_span, stands_before, text_at}
use Rattle.invoice_data.specs.Told.{Told, nothing, both, one_found, one_fault, faulty}
use Rattle.invoice_data.specs.Values.{fault_at, term_told, says_nothing}

-- what arrays of a group tell that stand in an object
abbrev pub Arrays : Type 0
Arrays = Source → Room → Group → Part → Told

-- ---- members

abbrev pub name_of : Member → DataName
name_of (members.Term row) = names.Term row.term
name_of (members.Array group) = names.Array group
name_of members.PassedOver = names.Nothing

abbrev pub first_told : Arrays → Source → Room → Part → Member → Told
first_told arrays source room p (members.Term row) = term_told source room row p.item
first_told arrays source room p (members.Array group) = arrays source room group p
first_told arrays source room p members.PassedOver = nothing

-- what a member tells that the object knows, behind those that were seen in it
unfoldable pub known_told : Arrays → Source → Room → List Member → Part → Member → Told
known_told arrays source room seen p m =
    if stands_before seen m
    then one_fault (fault_at DuplicateMember room (name_of m) (name_span p.item).at)
    else first_told arrays source room p m

abbrev pub unknown : Room → Item → Told
unknown room item = one_fault (fault_at UnknownMember room (names.Spelled (name_span item)) (name_span item).at)

abbrev pub member_told : Arrays → Source → Room → List Member → Part → Option Member → Told
member_told arrays source room seen p None = unknown room p.item
member_told arrays source room seen p (Some m) = known_told arrays source room seen p m

-- the members that are seen twice are the terms and the arrays
abbrev pub noted : List Member → Member → List Member
noted seen (members.Term row) = seen ++ members.Term row ∷ []
noted seen (members.Array group) = seen ++ members.Array group ∷ []
noted seen members.PassedOver = seen

abbrev pub seen_with : List Member → Option Member → List Member
seen_with seen None = seen
seen_with seen (Some m) = if stands_before seen m then seen else noted seen m

-- what members tell, behind those that were seen in the object
abbrev pub members_told : Arrays → Source → Room → List Member → List Part → Told
members_told arrays source room seen [] = nothing
members_told arrays source room seen (p ∷ ps) =
    both (member_told arrays source room seen p (member_of source room p.item))
    (members_told arrays source room (seen_with seen (member_of source room p.item)) ps)

-- ---- objects

abbrev pub missing_name : TermFault → DataName
missing_name (lacks.Missing (lacking.Term term)) = names.Term term
missing_name (lacks.Missing (lacking.Group group)) = names.Array group
missing_name (lacks.Missing lacking.Nothing) = names.Nothing
missing_name (lacks.CodeNotListed term) = names.Term term

abbrev pub lack_fault : Room → ℕ → ModelViolation → DataFault
lack_fault room at violation = fault_at Missing room (missing_name violation.fault) at

abbrev pub seat_of : Found → Seat
seat_of f = f.seat

-- what the object at a place lacks, of which that was found
unfoldable pub lacks_told : Room → ℕ → List Found → Told
lacks_told room at founds = record { founds = []; faults = map (lack_fault room at) (all_missing (map seat_of founds) room.context) }

abbrev pub with_lacks : Room → ℕ → Told → Told
with_lacks room at t = both t (lacks_told room at t.founds)

-- an object: its members, and what it lacks behind all that is inside it
unfoldable pub object_told : Arrays → Source → Room → Part → Told
object_told arrays source room p = with_lacks room p.item.value.at (members_told arrays source room [] (parts p.inside))

abbrev pub no_object : Room → Part → Told
no_object room p = one_fault (fault_at NotAnObject room names.Nothing p.item.value.at)

abbrev pub element_by : Arrays → Source → Room → Part → ItemKind → Told
element_by arrays source room p kinds.Object = object_told arrays source room p
element_by arrays source room p kinds.Array = no_object room p
element_by arrays source room p kinds.Text = no_object room p
element_by arrays source room p kinds.Number = no_object room p
element_by arrays source room p kinds.True = no_object room p
element_by arrays source room p kinds.False = no_object room p
element_by arrays source room p kinds.Null = no_object room p

-- what stands where an object has to
unfoldable pub element_told : Arrays → Source → Room → Part → Told
element_told arrays source room p = element_by arrays source room p p.item.kind

-- ---- arrays

-- the number behind another one, up to the last one of 32 bits
abbrev pub up : ℕ → ℕ
up n = min (n + 1) 4294967295

abbrev pub slot : Group → ℕ → Slot
slot group index = record { group = group; index = index }

-- the occurrence inside a context
abbrev pub inside : Context → Slot → Context
inside context s = elim context.outer [ None ↦ record { outer = Some s; inner = None } | Some outer ↦ record { outer = Some outer; inner = Some s } ]

-- in which group an object of an array stands: one of BT-29 without a scheme in P-29
abbrev pub own_group : Group → Bool → Group
own_group group true = group
own_group group false = if same_group group groups.SellerSchemedIdentifier then groups.SellerIdentifier else group

-- its number among the array's objects of its group
abbrev pub own_index : Numbers → Bool → ℕ
own_index numbers true = up numbers.schemed
own_index numbers false = up numbers.before - numbers.schemed

-- where the next object of an array stands, by what stands before it
unfoldable pub room_in : Room → Group → Numbers → Bool → Room
room_in room group numbers schemed = record {
  context = inside room.context (slot (own_group group schemed) (own_index numbers schemed));
  place = inside room.place (slot group (up numbers.before));
}

abbrev pub numbers_behind : Numbers → Bool → Numbers
numbers_behind numbers schemed = record { before = up numbers.before; schemed = (if schemed then up numbers.schemed else numbers.schemed) }

abbrev pub no_numbers : Numbers
no_numbers = record { before = 0; schemed = 0 }

abbrev pub reads_as : List ℕ → Option (List ℕ) → Bool
reads_as name None = false
reads_as name (Some text) = bytes_eq text name

abbrev pub is_scheme_named : List ℕ → Item → Bool
is_scheme_named bytes item = reads_as (codes "BT-29-1") (text_at bytes (name_span item))

abbrev pub is_scheme : List ℕ → Part → Bool
is_scheme bytes p = is_scheme_named bytes p.item

abbrev pub is_scheme_said : List ℕ → Option Part → Bool
is_scheme_said bytes None = false
is_scheme_said bytes (Some p) = not (says_nothing bytes p.item)

-- An object has a BT-29-1.
unfoldable pub has_scheme : List ℕ → List Item → Bool
has_scheme bytes items = is_scheme_said bytes (find (is_scheme bytes) (parts items))

abbrev pub is_schemed : Source → Group → List Item → Bool
is_schemed source group items = same_group group groups.SellerSchemedIdentifier && has_scheme source.bytes items

-- what stands in an array, behind so many others
abbrev pub elements_told : Arrays → Source → Room → Group → Numbers → List Part → Told
elements_told arrays source room group numbers [] = nothing
elements_told arrays source room group numbers (p ∷ ps) =
    both (element_told arrays source (room_in room group numbers (is_schemed source group p.inside)) p)
    (elements_told arrays source room group (numbers_behind numbers (is_schemed source group p.inside)) ps)

-- That something stands where occurrences of the group do, so that it isn't missing. It is no term.
abbrev pub mark : Room → Group → Found
mark room group = record {
  seat = record { term = record { number = 0; part = 0 }; context = inside room.context (slot group 1) };
  value = None;
}

abbrev pub mark_told : Room → Group → List Item → Told
mark_told room group [] = nothing
mark_told room group (i ∷ items) = one_found (mark room group)

abbrev pub no_array : Room → Group → Part → Told
no_array room group p = faulty (mark room group) (fault_at NotAnArray room (names.Array group) p.item.value.at)

abbrev pub array_by : Arrays → Source → Room → Group → Part → ItemKind → Told
array_by arrays source room group p kinds.Null = nothing
array_by arrays source room group p kinds.Array =
    both (mark_told room group p.inside) (elements_told arrays source room group no_numbers (parts p.inside))
array_by arrays source room group p kinds.Object = no_array room group p
array_by arrays source room group p kinds.Text = no_array room group p
array_by arrays source room group p kinds.Number = no_array room group p
array_by arrays source room group p kinds.True = no_array room group p
array_by arrays source room group p kinds.False = no_array room group p

-- what the value of an array's member tells, by what arrays inside its objects tell
unfoldable pub array_told : Arrays → Arrays
array_told arrays source room group p = array_by arrays source room group p p.item.kind

-- ---- the invoice

-- inside objects of a line there are no arrays
unfoldable pub no_arrays : Arrays
no_arrays source room group p = nothing

unfoldable pub inner_arrays : Arrays
inner_arrays = array_told no_arrays

unfoldable pub outer_arrays : Arrays
outer_arrays = array_told inner_arrays

abbrev pub root_room : Room
root_room = record { context = root_context; place = root_context }

abbrev pub told_in : Source → List Part → Told
told_in source [] = one_fault (fault_at NotAnObject root_room names.Nothing 0)
told_in source (p ∷ ps) = element_told outer_arrays source root_room p

-- what the values of a text tell
unfoldable pub told : Source → List Item → Told
told source items = told_in source (parts items)
