-- The calls of an invoice's members are those of its entries, from the first to the last.
use Rattle.std.proofs.Common.{◌≡◌, ℕ, Bool, true, false, List, [], ◌∷◌, ◌++◌, Option, Some, None, refl, sym, ap, ◌∙◌, append_assoc, append-nil}
use Rattle.std.specs.Prelude.{if◌then◌else◌}
use Rattle.term_table.specs.declared.contexts.Slot.{Slot}
use Rattle.term_table.specs.declared.contexts.Context.{Context}
use Rattle.term_table.specs.Contexts.{root_context}
use Rattle.inv_terms.specs.declared.entries.Entry.{Entry}
use Rattle.json_text.specs.declared.state.Container.TheVariants.{Object}
use Rattle.json_text.specs.Json.{Json, nothing}
use Rattle.json_text.specs.Calls.{Call, call_begin, call_end, calls_of}
use Rattle.invoice_json.specs.InvoiceJson.{in_one_object, with_entries, outer_slot, inner_slot, terms_of, occurrence, passed_member, invoice_json}
use Rattle.invoice_json.specs.Streaming.{entry_calls, leave_calls, enter_calls, slot_calls, inner_in, turn_calls, stream_calls, closing_calls}
use Rattle.invoice_json.proofs.RunLemmas.{stream, Level, Inside, content_by, leaving_by, own_first, own_next, own_end}
use Rattle.invoice_json.proofs.LevelLemmas.{level-streams}

-- ---- the two levels

abbrev inner_level : Level
inner_level = record { slot = inner_slot; inside = terms_of; first = entry_calls; next = λ before x. entry_calls x; end = λ before. [] }

abbrev outer_level : Level
outer_level = record { slot = outer_slot; inside = occurrence; first = own_first inner_level; next = own_next inner_level; end = own_end inner_level }

inside-inner : Inside inner_level
inside-inner x [] = refl
inside-inner x (y ∷ ys) = ap (λ calls. entry_calls x ++ calls) (inside-inner y ys)

inside-outer : Inside outer_level
inside-outer x xs =
    level-streams inner_level inside-inner nothing x xs
    ∙ ap (λ calls. own_first inner_level x ++ calls) (append-nil (stream (own_next inner_level) (own_end inner_level) x xs))

-- ---- from one context to another

abbrev contexts : Option Slot → Option Slot → Context
contexts outer inner = record { outer = outer; inner = inner }

-- the calls of an entry inside an outer occurrence, by its inner slot: first, behind another, and what ends behind it
abbrev first_inside : List Call → Option Slot → List Call
first_inside entry now = enter_calls None now ++ content_by entry entry now

abbrev next_inside : List Call → Option Slot → Option Slot → List Call
next_inside entry before now =
    if in_one_object before now then entry else leaving_by [] now before ++ (enter_calls before now ++ content_by entry entry now)

abbrev end_inside : Option Slot → List Call
end_inside before = leaving_by [] None before

first_inside-turn : (entry : List Call) (now : Option Slot) → first_inside entry now ≡ slot_calls None now ++ entry
first_inside-turn entry None = refl
first_inside-turn entry (Some slot) = refl

end_inside-turn : (before : Option Slot) → end_inside before ≡ slot_calls before None
end_inside-turn None = refl
end_inside-turn (Some slot) = refl

content_by-same : (entry : List Call) (now : Option Slot) → content_by entry entry now ≡ entry
content_by-same entry None = refl
content_by-same entry (Some slot) = refl

leaving_by-nil : (now before : Option Slot) → leaving_by [] now before ≡ leave_calls before now
leaving_by-nil now None = refl
leaving_by-nil now (Some slot) = refl

next_inside-turn : (entry : List Call) (before now : Option Slot) → next_inside entry before now ≡ slot_calls before now ++ entry
next_inside-turn entry before now = by (in_one_object before now)
  where
    by : (q : Bool) → (if q then entry else leaving_by [] now before ++ (enter_calls before now ++ content_by entry entry now))
        ≡ (if q then [] else leave_calls before now ++ enter_calls before now) ++ entry
    by true = refl
    by false =
        ap (λ calls. calls ++ (enter_calls before now ++ content_by entry entry now)) (leaving_by-nil now before)
        ∙ (ap (λ calls. leave_calls before now ++ (enter_calls before now ++ calls)) (content_by-same entry now)
        ∙ sym (append_assoc (leave_calls before now) (enter_calls before now) entry))

-- the same of an entry in the invoice
first-turn : (entry : List Call) (outer inner : Option Slot)
    → enter_calls None outer ++ content_by entry (first_inside entry inner) outer ≡ turn_calls root_context (contexts outer inner) ++ entry
first-turn entry None inner = refl
first-turn entry (Some slot) inner = ap (λ calls. enter_calls None (Some slot) ++ calls) (first_inside-turn entry inner)

turn_lists : (a l e s entry : List Call) → (a ++ l) ++ (e ++ (s ++ entry)) ≡ (a ++ (l ++ (e ++ s))) ++ entry
turn_lists a l e s entry = simp append_assoc

content-turn : (entry : List Call) (outer inner : Option Slot)
    → content_by entry (first_inside entry inner) outer ≡ slot_calls None (inner_in outer inner) ++ entry
content-turn entry None inner = refl
content-turn entry (Some slot) inner = first_inside-turn entry inner

leaving-turn : (outer inner now : Option Slot) → leaving_by (end_inside inner) now outer ≡ slot_calls (inner_in outer inner) None ++ leave_calls outer now
leaving-turn None inner now = refl
leaving-turn (Some slot) inner now = ap (λ calls. calls ++ leave_calls (Some slot) now) (end_inside-turn inner)

object-inner : (outer other inner : Option Slot) → in_one_object outer other ≡ true → (inner_in outer inner ≡ inner) × (inner_in other inner ≡ inner)
object-inner None other inner e = cc
object-inner (Some slot) None inner e = cc
object-inner (Some slot) (Some other) inner e = (refl, refl)

next-turn : (entry : List Call) (outer inner other now : Option Slot)
    → (if in_one_object outer other
    then next_inside entry inner now
    else leaving_by (end_inside inner) other outer ++ (enter_calls outer other ++ content_by entry (first_inside entry now) other))
    ≡ turn_calls (contexts outer inner) (contexts other now) ++ entry
next-turn entry outer inner other now = by (in_one_object outer other) refl
  where
    by : (q : Bool) → in_one_object outer other ≡ q
        → (if q
        then next_inside entry inner now
        else leaving_by (end_inside inner) other outer ++ (enter_calls outer other ++ content_by entry (first_inside entry now) other))
        ≡ (if q
        then slot_calls (inner_in outer inner) (inner_in other now)
        else
        slot_calls (inner_in outer inner) None
        ++ (leave_calls outer other ++ (enter_calls outer other ++ slot_calls None (inner_in other now)))) ++ entry
    by true e =
        next_inside-turn entry inner now
        ∙ (λ i. slot_calls (sym (object-inner outer other inner e).0 i) (sym (object-inner outer other now e).1 i) ++ entry)
    by false e =
        ap (λ calls. calls ++ (enter_calls outer other ++ content_by entry (first_inside entry now) other)) (leaving-turn outer inner other)
        ∙ (ap (λ calls. (slot_calls (inner_in outer inner) None ++ leave_calls outer other) ++ (enter_calls outer other ++ calls))
        (content-turn entry other now)
        ∙ turn_lists (slot_calls (inner_in outer inner) None) (leave_calls outer other) (enter_calls outer other)
        (slot_calls None (inner_in other now)) entry)

end-turn : (outer inner : Option Slot) → leaving_by (end_inside inner) None outer ≡ turn_calls (contexts outer inner) root_context
end-turn None inner = refl
end-turn (Some slot) inner = ap (λ calls. calls ++ leave_calls (Some slot) None) (end_inside-turn inner)

-- ---- all entries

stream-calls : (before : Entry) (es : List Entry) (last : List Call)
    → stream (own_next outer_level) (own_end outer_level) before es ++ last ≡ stream_calls before.context es last
stream-calls before [] last = ap (λ calls. calls ++ last) (end-turn before.context.outer before.context.inner)
stream-calls before (e ∷ es) last =
    let after : List Call = stream (own_next outer_level) (own_end outer_level) e es in
    let turn : List Call = turn_calls before.context e.context in
    ap (λ calls. (calls ++ after) ++ last)
    (next-turn (entry_calls e) before.context.outer before.context.inner e.context.outer e.context.inner)
    ∙ (append_assoc (turn ++ entry_calls e) after last
    ∙ (append_assoc turn (entry_calls e) (after ++ last)
    ∙ ap (λ calls. turn ++ (entry_calls e ++ calls)) (stream-calls e es last)))

-- The calls of the members, and more.
pub members-calls : (es : List Entry) (rest : Json) (more : List Call)
    → calls_of (with_entries outer_slot occurrence es rest) ++ more ≡ stream_calls root_context es (calls_of rest ++ more)
members-calls [] rest more = refl
members-calls (e ∷ es) rest more =
    let after : List Call = stream (own_next outer_level) (own_end outer_level) e es in
    let turn : List Call = turn_calls root_context e.context in
    ap (λ calls. calls ++ more) (level-streams outer_level inside-outer rest e es)
    ∙ (ap (λ calls. (calls ++ (after ++ calls_of rest)) ++ more) (first-turn (entry_calls e) e.context.outer e.context.inner)
    ∙ (append_assoc (turn ++ entry_calls e) (after ++ calls_of rest) more
    ∙ (append_assoc turn (entry_calls e) ((after ++ calls_of rest) ++ more)
    ∙ ap (λ calls. turn ++ (entry_calls e ++ calls)) (append_assoc after (calls_of rest) more ∙ stream-calls e es (calls_of rest ++ more)))))

-- The calls of an invoice.
pub invoice-calls : (es : List Entry) (passed_over : ℕ)
    → calls_of (invoice_json es passed_over) ≡ call_begin Object ∷ stream_calls root_context es (closing_calls passed_over)
unfolding invoice_json
invoice-calls es passed_over = ap (λ calls. call_begin Object ∷ calls) (members-calls es (passed_member passed_over) (call_end Object ∷ []))
