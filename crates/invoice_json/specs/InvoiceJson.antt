-- An invoice (EN 16931-1) as JSON data: one object. In it each term of the invoice itself is a text, and the occurrences of a group
-- that may be repeated are objects in an array. All stand in the order of the entries, an array where its first entry does.
use Rattle.std.specs.Prelude.{ℕ, zero, suc, Bool, false, List, [], ◌∷◌, Option, Some, None, codes, bytes_eq, if◌then◌else◌}
use Rattle.term_table.specs.declared.groups.Group.{Group}
use Rattle.term_table.specs.declared.groups.Group.TheVariants as groups
use Rattle.term_table.specs.declared.contexts.Slot.{Slot}
use Rattle.term_table.specs.Groups.{label_of}
use Rattle.term_table.specs.Contexts.{same_slot}
use Rattle.inv_terms.specs.declared.entries.Entry.{Entry}
use Rattle.inv_terms.specs.Values.{spelled}
use Rattle.inv_listing.specs.Listing.{term_text}
use Rattle.json_text.specs.Json.{Json, nothing, a_text, a_number, an_array, an_object}

-- how the array of a group is named: as the group, and of this program's own groups as the term that they stand for
abbrev pub array_name : Group → List ℕ
array_name groups.SellerIdentifier = codes "BT-29"
array_name groups.SellerSchemedIdentifier = codes "BT-29"
array_name groups.ItemClassification = codes "BT-158"
array_name group = label_of group

-- Both are occurrences that stand in one array.
abbrev pub in_one_array : Option Slot → Option Slot → Bool
in_one_array None b = false
in_one_array (Some a) None = false
in_one_array (Some a) (Some b) = bytes_eq (array_name a.group) (array_name b.group)

-- Both are one occurrence, and so one object.
abbrev pub in_one_object : Option Slot → Option Slot → Bool
in_one_object None b = false
in_one_object (Some a) None = false
in_one_object (Some a) (Some b) = same_slot (Some a) (Some b)

-- ---- adjacent elements

-- an element in front of runs: in the first one, where it goes together with what begins that
abbrev pub in_front_of : {X : Type 0} → (X → X → Bool) → X → List (List X) → List (List X)
in_front_of together x [] = (x ∷ []) ∷ []
in_front_of together x ([] ∷ more) = (x ∷ []) ∷ more
in_front_of together x ((y ∷ ys) ∷ more) = if together x y then (x ∷ y ∷ ys) ∷ more else (x ∷ []) ∷ (y ∷ ys) ∷ more

-- a list as runs of adjacent elements that go together
abbrev pub runs_by : {X : Type 0} → (X → X → Bool) → List X → List (List X)
runs_by together [] = []
runs_by together (x ∷ xs) = in_front_of together x (runs_by together xs)

-- ---- members

-- a term with its value, and what follows it
abbrev pub with_term : Entry → Json → Json
with_term e rest = a_text (Some (term_text e.term)) (spelled e.value) rest

-- occurrences, by the entries of each and by what stands in one
abbrev pub objects : (List Entry → Json) → List (List Entry) → Json
objects inside [] = nothing
objects inside (es ∷ more) = an_object None (inside es) (objects inside more)

-- A member, and what follows it: an array of objects where its first entry stands in an occurrence, that entry's term where not.
abbrev pub with_member : Option Slot → Entry → Json → Json → Json
with_member None e inside rest = with_term e rest
with_member (Some slot) e inside rest = an_array (Some (array_name slot.group)) inside rest

-- a run of entries as a member, and what follows it
abbrev pub with_run : (Entry → Option Slot) → (List Entry → Json) → List Entry → Json → Json
with_run slot inside [] rest = rest
with_run slot inside (e ∷ es) rest =
    with_member (slot e) e (objects inside (runs_by (λ a b. in_one_object (slot a) (slot b)) (e ∷ es))) rest

abbrev pub with_runs : (Entry → Option Slot) → (List Entry → Json) → List (List Entry) → Json → Json
with_runs slot inside [] rest = rest
with_runs slot inside (es ∷ more) rest = with_run slot inside es (with_runs slot inside more rest)

-- entries as members, by the occurrence in which each stands at this level, and what follows them
abbrev pub with_entries : (Entry → Option Slot) → (List Entry → Json) → List Entry → Json → Json
with_entries slot inside es rest = with_runs slot inside (runs_by (λ a b. in_one_array (slot a) (slot b)) es) rest

-- ---- the invoice

abbrev pub outer_slot : Entry → Option Slot
outer_slot e = e.context.outer

abbrev pub inner_slot : Entry → Option Slot
inner_slot e = e.context.inner

-- what stands in an inner occurrence: terms
abbrev pub terms_of : List Entry → Json
terms_of [] = nothing
terms_of (e ∷ es) = with_term e (terms_of es)

-- what stands in an outer occurrence: terms, and arrays of inner occurrences
abbrev pub occurrence : List Entry → Json
occurrence es = with_entries inner_slot terms_of es nothing

-- how many elements of the document were passed over, where any were
abbrev pub passed_member : ℕ → Json
passed_member zero = nothing
passed_member (suc n) = a_number (Some (codes "passed_over")) (suc n) nothing

-- the invoice, and how many elements of its document were passed over
unfoldable pub invoice_json : List Entry → ℕ → Json
invoice_json es passed_over = an_object None (with_entries outer_slot occurrence es (passed_member passed_over)) nothing
