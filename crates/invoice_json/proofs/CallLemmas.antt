-- What the functions write, by the tests that they make.
use Rattle.std.proofs.Common.{◌≡◌, ℕ, ◌≤◌, zero, suc, Bool, true, false, List, [], ◌∷◌, ◌++◌, Option}
use Rattle.std.proofs.Common.{Some, None, refl, sym, ap, ◌∙◌, codes, ◌≢◌, lit≤, ◌+◌, ◌<◌, length, get_or, drop}
use Rattle.std.specs.Prelude.{if◌then◌else◌}
use Rattle.std.proofs.lemmas.List.{drop_more, drop_all}
use Rattle.term_table.specs.declared.contexts.Slot.{Slot}
use Rattle.term_table.specs.declared.contexts.Context.{Context}
use Rattle.term_table.specs.Contexts.{root_context}
use Rattle.inv_terms.specs.declared.entries.Entry.{Entry}
use Rattle.json_text.specs.declared.state.Container.TheVariants.{Object, Array}
use Rattle.json_text.specs.Calls.{Call, call_name, call_number, call_begin, call_end, calls_of}
use Rattle.invoice_json.specs.InvoiceJson.{array_name, in_one_array, in_one_object, passed_member}
use Rattle.invoice_json.specs.Streaming.{leave_calls, enter_calls, slot_calls, inner_of, turn_calls, kept_depth, entry_calls, stream_calls}

pub passed-made : (n m : ℕ) (name : List ℕ) → name ≡ codes "passed_over" → m ≡ n → n ≢ 0 → call_name name ∷ call_number m ∷ [] ≡ calls_of (passed_member n)
passed-made zero m name e f h = absurd (h refl)
passed-made (suc n) m name e f h = λ i. call_name (e i) ∷ call_number (f i) ∷ []

-- an occurrence is left with its array
pub leave-apart : (before now : Option Slot) (slot : Slot) → before ≡ Some slot → in_one_array before now ≡ false
    → call_end Object ∷ call_end Array ∷ [] ≡ leave_calls before now
leave-apart None now slot is e = cc
leave-apart (Some s) now slot is e = sym (ap (λ q. call_end Object ∷ (if q then [] else call_end Array ∷ [])) e)

-- one is entered with its array
pub enter-apart : (before now : Option Slot) (slot : Slot) (name : List ℕ) → now ≡ Some slot → name ≡ array_name slot.group
    → in_one_array before (Some slot) ≡ false
    → call_name name ∷ call_begin Array ∷ call_begin Object ∷ [] ≡ enter_calls before now
enter-apart before now slot name is named e =
    ap (λ n. call_name n ∷ call_begin Array ∷ call_begin Object ∷ []) named
    ∙ (sym (ap (λ q. (if q then [] else call_name (array_name slot.group) ∷ call_begin Array ∷ []) ++ call_begin Object ∷ []) e)
    ∙ ap (enter_calls before) (sym is))

pub slot-apart : (before now : Option Slot) → in_one_object before now ≡ false → leave_calls before now ++ enter_calls before now ≡ slot_calls before now
slot-apart before now e = sym (ap (λ q. if q then [] else leave_calls before now ++ enter_calls before now) e)

pub turn-apart : (before now : Context) (a b : Option Slot) → in_one_object before.outer now.outer ≡ false → a ≡ inner_of before → b ≡ inner_of now
    → slot_calls a None ++ (leave_calls before.outer now.outer ++ (enter_calls before.outer now.outer ++ slot_calls None b)) ≡ turn_calls before now
turn-apart before now a b e f h =
    (λ i. slot_calls (f i) None ++ (leave_calls before.outer now.outer ++ (enter_calls before.outer now.outer ++ slot_calls None (h i))))
    ∙ sym (ap (λ q.
    if q
    then slot_calls (inner_of before) (inner_of now)
    else
    slot_calls (inner_of before) None
    ++ (leave_calls before.outer now.outer ++ (enter_calls before.outer now.outer ++ slot_calls None (inner_of now)))) e)

pub kept_depth-most : (before now : Option Slot) → kept_depth before now ≤ 1
kept_depth-most before now = by (in_one_array before now)
  where
    by : (q : Bool) → (if q then 1 else 0) ≤ 1
    by true = lit≤ tt
    by false = lit≤ tt

-- the next entry of a loop, and its end
pub loop-next : (es : List Entry) (k : ℕ) (e : Entry) (before : Context) (last : List Call) → k < length es → e ≡ get_or es k e
    → stream_calls before (drop k es) last ≡ turn_calls before e.context ++ (entry_calls e ++ stream_calls e.context (drop (k + 1) es) last)
loop-next es k e before last h is = ap (λ xs. stream_calls before xs last) (drop_more es k e h ∙ ap (λ x. x ∷ drop (k + 1) es) (sym is))

pub loop-end : (es : List Entry) (k : ℕ) (before : Context) (last : List Call) → length es ≤ k
    → stream_calls before (drop k es) last ≡ turn_calls before root_context ++ last
loop-end es k before last h = ap (λ xs. stream_calls before xs last) (drop_all k es h)
