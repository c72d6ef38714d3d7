-- What an invoice lacks: terms and groups that are mandatory (EN 16931-1, sections 6.3 and 6.4), and codes that aren't
-- in their lists. The first lack is the first in listing order.
use Rattle.std.specs.Prelude.{ℕ, Bool, false, not, ◌&&◌, List, [], ◌∷◌, ◌++◌, Option, Some, None, is_some, option_map, Result, Ok, Err, filter, fold, map}
use Rattle.std.specs.Prelude.{if◌then◌else◌}
use Rattle.code_lists.specs.CodeFiles.{Lists, allows}
use Rattle.code_lists.specs.declared.names.List.{List as CodeList}
use Rattle.term_table.specs.declared.terms.Term.{Term}
use Rattle.term_table.specs.declared.contexts.Context.{Context}
use Rattle.term_table.specs.Contexts.{slot_group, same_slot, same_context, is_inside, root_context, outer_context}
use Rattle.term_table.specs.Rows.{list_in}
use Rattle.term_table.specs.Places.{place_of, precedes}
use Rattle.inv_terms.specs.declared.values.Value.{Value}
use Rattle.inv_terms.specs.declared.values.Value.TheVariants as values
use Rattle.inv_terms.specs.declared.entries.Entry.{Entry}
use Rattle.inv_terms.specs.Listing.{seat_of}
use Rattle.inv_terms.specs.declared.violations.TermFault.{TermFault}
use Rattle.inv_terms.specs.declared.violations.TermFault.TheVariants as faults
use Rattle.inv_terms.specs.declared.violations.ModelViolation.{ModelViolation}
use Rattle.inv_terms.specs.Lacking.{first_missing}

-- the first lack of a context of an invoice
abbrev pub missing_in : List Entry → Context → Option ModelViolation
missing_in es context = first_missing (map seat_of (filter (λ (e : Entry). is_inside context e.context) es)) context

-- ---- the contexts of an invoice

-- the contexts that begin with an entry in a context, behind one in the context before
abbrev pub opens_outer : Context → Context → Bool
opens_outer before context = not (same_slot before.outer context.outer) && is_some context.outer

abbrev pub opens_inner : Context → Context → Bool
opens_inner before context = not (same_context before context) && is_some context.inner

abbrev pub opened : Context → Context → List Context
opened before context =
    (if opens_outer before context then outer_context context ∷ [] else []) ++ (if opens_inner before context then context ∷ [] else [])

abbrev pub contexts_behind : Context → List Entry → List Context
contexts_behind before [] = []
contexts_behind before (e ∷ es) = opened before e.context ++ contexts_behind e.context es

-- the invoice itself, and each occurrence of a group where its first entry stands
abbrev pub contexts : List Entry → List Context
contexts es = root_context ∷ contexts_behind root_context es

-- ---- codes that aren't listed

abbrev pub list_of : Term → Context → Option CodeList
list_of term context = list_in term (slot_group context.outer) (slot_group context.inner)

abbrev pub code_in : Value → Option (List ℕ)
code_in (values.Code code) = Some code
code_in (values.Text _) = None
code_in (values.Identifier _) = None
code_in (values.Amount _) = None
code_in (values.Quantity _) = None
code_in (values.Percent _) = None
code_in (values.Date _) = None
code_in (values.Base64 _) = None

-- There is a list and a code, and the list doesn't allow the code.
abbrev pub is_outside : Lists → Option CodeList → Option (List ℕ) → Bool
is_outside lists None code = false
is_outside lists (Some list) None = false
is_outside lists (Some list) (Some code) = not (allows lists list code)

-- The entry's value is a code that isn't in its term's list.
abbrev pub is_unlisted : Lists → Entry → Bool
is_unlisted lists e = is_outside lists (list_of e.term e.context) (code_in e.value)

-- the lack of an entry, whose code isn't listed
abbrev pub unlisted : Lists → Entry → Option ModelViolation
unlisted lists e =
    if is_unlisted lists e
    then option_map (λ place. record { place = place; fault = faults.CodeNotListed e.term }) (place_of e.term e.context)
    else None

-- ---- the first lack

abbrev pub earlier : Option ModelViolation → Option ModelViolation → Option ModelViolation
earlier None b = b
earlier (Some a) None = Some a
earlier (Some a) (Some b) = if precedes b.place a.place then Some b else Some a

-- the lack with the first place
abbrev pub first_violation : List Entry → Lists → Option ModelViolation
first_violation es lists = fold earlier None (map (missing_in es) (contexts es) ++ map (unlisted lists) es)

abbrev pub answer_of : Option ModelViolation → Result (Unit {0}) TermFault
answer_of None = Ok tt
answer_of (Some violation) = Err violation.fault
