-- The calls that write the members of an invoice from its first entry to its last, by what was open before each.
use Rattle.std.specs.Prelude.{ℕ, ◌+◌, List, [], ◌∷◌, ◌++◌, Option, Some, None, if◌then◌else◌}
use Rattle.term_table.specs.declared.contexts.Slot.{Slot}
use Rattle.term_table.specs.declared.contexts.Context.{Context}
use Rattle.term_table.specs.Contexts.{root_context}
use Rattle.inv_terms.specs.declared.entries.Entry.{Entry}
use Rattle.inv_terms.specs.Values.{spelled}
use Rattle.inv_listing.specs.Listing.{term_text}
use Rattle.json_text.specs.declared.state.Container.TheVariants.{Object, Array}
use Rattle.json_text.specs.Calls.{Call, call_name, call_text, call_begin, call_end, calls_of}
use Rattle.invoice_json.specs.InvoiceJson.{array_name, in_one_array, in_one_object, passed_member}

-- the calls for a term and its value
abbrev pub entry_calls : Entry → List Call
entry_calls e = call_name (term_text e.term) ∷ call_text (spelled e.value) ∷ []

-- what ends where an occurrence is left for another or for none
abbrev pub leave_calls : Option Slot → Option Slot → List Call
leave_calls None now = []
leave_calls (Some slot) now = call_end Object ∷ (if in_one_array (Some slot) now then [] else call_end Array ∷ [])

-- what begins where an occurrence is entered
abbrev pub enter_calls : Option Slot → Option Slot → List Call
enter_calls before None = []
enter_calls before (Some slot) =
    (if in_one_array before (Some slot) then [] else call_name (array_name slot.group) ∷ call_begin Array ∷ []) ++ call_begin Object ∷ []

abbrev pub slot_calls : Option Slot → Option Slot → List Call
slot_calls before now = if in_one_object before now then [] else leave_calls before now ++ enter_calls before now

-- the inner occurrence, which only an outer one has
abbrev pub inner_in : Option Slot → Option Slot → Option Slot
inner_in None inner = None
inner_in (Some outer) inner = inner

abbrev pub inner_of : Context → Option Slot
inner_of context = inner_in context.outer context.inner

-- from one context to another
abbrev pub turn_calls : Context → Context → List Call
turn_calls before now =
    if in_one_object before.outer now.outer
    then slot_calls (inner_of before) (inner_of now)
    else
    slot_calls (inner_of before) None
    ++ (leave_calls before.outer now.outer ++ (enter_calls before.outer now.outer ++ slot_calls None (inner_of now)))

-- entries behind one in a context, and what follows them
abbrev pub stream_calls : Context → List Entry → List Call → List Call
stream_calls before [] last = turn_calls before root_context ++ last
stream_calls before (e ∷ es) last = turn_calls before e.context ++ (entry_calls e ++ stream_calls e.context es last)

-- what ends the invoice's object
abbrev pub closing_calls : ℕ → List Call
closing_calls passed_over = calls_of (passed_member passed_over) ++ call_end Object ∷ []

-- ---- how many arrays and objects are open

abbrev pub slot_depth : Option Slot → ℕ
slot_depth None = 0
slot_depth (Some slot) = 2

-- of two occurrences in one array, that array stays open
abbrev pub kept_depth : Option Slot → Option Slot → ℕ
kept_depth before now = if in_one_array before now then 1 else 0

abbrev pub context_depth : Context → ℕ
context_depth context = slot_depth context.outer + slot_depth (inner_of context)
