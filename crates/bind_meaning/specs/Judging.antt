-- The faults of a document as an invoice of a table, and where they stand.
use Rattle.std.specs.Prelude.{ℕ, ◌-◌, Bool, true, false, not, ◌&&◌, ◌||◌, List, [], ◌∷◌, ◌++◌, codes, filter, map, Option, Some, None, option_and_then, is_none}
use Rattle.std.specs.Prelude.{is_some}
use Rattle.std.specs.List.{list_any}
use Rattle.std.specs.Ordering.{nat_cmp, is_lt}
use Rattle.std.specs.Cmp.Lexicographic.{slice_cmp}
use Rattle.std.specs.Str.{bytes_eq}
use Rattle.inv_base.specs.Tree.{Node}
use Rattle.code_lists.specs.CodeFiles.{Lists}
use Rattle.term_table.specs.declared.terms.DataType.TheVariants as data_types
use Rattle.inv_terms.specs.declared.values.Value.{Value}
use Rattle.term_table.specs.declared.contexts.Context.{Context}
use Rattle.inv_terms.specs.declared.violations.Name.{Name}
use Rattle.inv_terms.specs.declared.violations.Name.TheVariants as names
use Rattle.inv_terms.specs.declared.violations.TermFault.TheVariants as violations
use Rattle.inv_terms.specs.declared.violations.TermFault.{TermFault}
use Rattle.term_table.specs.Contexts.{same_context, is_inside}
use Rattle.term_table.specs.declared.contexts.Seat.{Seat}
use Rattle.term_table.specs.SemanticModel.{same_term}
use Rattle.inv_terms.specs.Values.{trimmed, same_value}
use Rattle.inv_terms.specs.Lacking.{first_missing}
use Rattle.inv_terms.specs.Validity.{list_of, code_in, is_outside}
use Rattle.node_arena.specs.Moves.{last_inside}
use Rattle.bind_rows.specs.declared.rows.Repeats.{Repeats}
use Rattle.bind_rows.specs.declared.rows.Repeats.TheVariants as repeats
use Rattle.bind_rows.specs.declared.rows.Written.TheVariants as written
use Rattle.bind_rows.specs.declared.rows.Check.{Check}
use Rattle.bind_rows.specs.declared.rows.Check.TheVariants as checks
use Rattle.bind_meaning.specs.declared.fault.BindKind.{BindKind}
use Rattle.bind_meaning.specs.declared.fault.BindKind.TheVariants as kinds
use Rattle.bind_meaning.specs.declared.fault.BindFault.{BindFault}
use Rattle.bind_meaning.specs.Elements.{string_at, attributes_named, has_element_inside, is_one_of, is_blank_at}
use Rattle.bind_meaning.specs.Picks.{Pick, term_in}
use Rattle.bind_meaning.specs.Seats.{Placed, context_of, Room}
use Rattle.bind_meaning.specs.Currencies.{Currencies, amount_currency}
use Rattle.bind_meaning.specs.Values.{ParsedValue, parsed, form_for, type_of}

-- A fault with its place in the order of faults: of two the one with the smaller place is told.
pub record Found : Type 0 where
  pub place : List ℕ
  pub fault : BindFault

abbrev pub found : List ℕ → BindKind → Name → ℕ → Found
found place kind name node = record { place = place; fault = record { kind = kind; name = name; node = node } }

-- ---- what picks say

-- something that a pick says, in its context
pub record Told : Type 0 where
  pub placed : Placed
  pub parsed : ParsedValue

abbrev pub parsed_by : List Node → Placed → List ParsedValue
parsed_by nodes p = elim (term_in p.pick.row.content) [ None ↦ [] | Some term ↦ parsed p.pick.row.form term (string_at nodes p.pick.node) ]

abbrev pub told_by : List Node → Placed → List Told
told_by nodes p = map (λ s. record { placed = p; parsed = s }) (parsed_by nodes p)

-- Both are of one term in one context.
abbrev pub is_of_seat : Told → Told → Bool
is_of_seat a b = elim (same_term a.parsed.term b.parsed.term) [ true ↦ same_context (context_of a.placed) (context_of b.placed) | false ↦ false ]

-- the first of the same term and context among those before
abbrev pub first_before : List Told → Told → Option Told
first_before [] t = None
first_before (a ∷ before) t = elim (is_of_seat a t) [ true ↦ Some a | false ↦ first_before before t ]

-- ---- faults at a node, in the order of their kinds

abbrev pub may_repeat : Repeats → Bool
may_repeat repeats.Once = false
may_repeat repeats.Agreeing = true
may_repeat repeats.Spread = true

abbrev pub is_excess : Option Told → Told → Bool
is_excess before t = is_some before && not (may_repeat t.placed.pick.row.repeats)

-- the attribute has a string that isn't blank
abbrev pub has_attribute : List Node → List ℕ → ℕ → Bool
has_attribute nodes local n = list_any (λ m. not (is_blank_at nodes m)) (attributes_named nodes local n)

abbrev pub is_other_format : List Node → ℕ → Bool
is_other_format nodes n = list_any (λ m. not (is_blank_at nodes m) && not (bytes_eq (trimmed (string_at nodes m)) (codes "102")))
    (attributes_named nodes (codes "format") n)

abbrev pub breaks : List Node → Check → ℕ → Bool
breaks nodes checks.Nothing n = false
breaks nodes checks.Scheme n = not (has_attribute nodes (codes "schemeID") n)
breaks nodes checks.Format n = is_other_format nodes n
breaks nodes (checks.Indicator term) n = false

abbrev pub is_bad : List Node → Told → Bool
is_bad nodes t = is_none t.parsed.value || breaks nodes t.placed.pick.row.check t.placed.pick.node

abbrev pub is_not_listed : Lists → Told → Bool
is_not_listed lists t = is_outside lists (list_of t.parsed.term (context_of t.placed)) (option_and_then code_in t.parsed.value)

abbrev pub is_amount : Told → Bool
is_amount t = elim (type_of (form_for t.placed.pick.row.form t.parsed.term) t.parsed.term) [ Some data_types.A ↦ true | _ ↦ false ]

abbrev pub is_accounting_total : Pick → Bool
is_accounting_total pick = elim pick.row.written [ written.AccountingVatTotal ↦ true | _ ↦ false ]

-- the amount's currency isn't that of the invoice, where both are named
abbrev pub differs : Option (List ℕ) → Option (List ℕ) → Bool
differs None currency = false
differs (Some invoice) None = false
differs (Some invoice) (Some currency) = not (bytes_eq invoice currency)

abbrev pub is_foreign : List Node → Currencies → Told → Bool
is_foreign nodes c t = elim (is_amount t && not (is_accounting_total t.placed.pick)) [
  | true ↦ differs c.invoice (amount_currency nodes t.placed.pick.node)
  | false ↦ false
]

abbrev pub disagree : Option Value → Option Value → Bool
disagree None b = false
disagree (Some a) None = false
disagree (Some a) (Some b) = not (same_value a b)

abbrev pub is_disagreeing : Option Told → Told → Bool
is_disagreeing None t = false
is_disagreeing (Some first) t = disagree first.parsed.value t.parsed.value

-- A fault with whether it is there, and the first that is.
pub record Cause : Type 0 where
  pub kind : BindKind
  pub holds : Unit {0} → Bool

abbrev pub first_cause : List Cause → Option BindKind
first_cause [] = None
first_cause (cause ∷ causes) = elim (cause.holds tt) [ true ↦ Some cause.kind | false ↦ first_cause causes ]

abbrev pub causes : List Node → Lists → Currencies → Option Told → Told → List Cause
causes nodes lists c before t =
    record { kind = kinds.Excess; holds = λ _. is_excess before t }
    ∷ (record { kind = kinds.ElementInValue; holds = λ _. has_element_inside nodes t.placed.pick.node }
    ∷ (record { kind = kinds.BadValue; holds = λ _. is_bad nodes t }
    ∷ (record { kind = kinds.CodeNotListed; holds = λ _. is_not_listed lists t }
    ∷ (record { kind = kinds.CurrencyDiffers; holds = λ _. is_foreign nodes c t }
    ∷ (record { kind = kinds.Disagree; holds = λ _. is_disagreeing before t } ∷ [])))))

abbrev pub rank : BindKind → ℕ
rank kinds.UnknownRoot = 0
rank kinds.Excess = 1
rank kinds.ElementInValue = 2
rank kinds.BadValue = 3
rank kinds.CodeNotListed = 4
rank kinds.CurrencyDiffers = 5
rank kinds.Disagree = 6
rank kinds.Missing = 7
rank kinds.Memory = 8

-- ordered by the node, then by the row, then by the kind
abbrev pub place_at : Pick → BindKind → List ℕ
place_at pick kind = pick.node ∷ (0 ∷ (pick.place ∷ (rank kind ∷ [])))

abbrev pub fault_of : List Node → Lists → Currencies → Option Told → Told → List Found
fault_of nodes lists c before t = elim (first_cause (causes nodes lists c before t)) [
  | None ↦ []
  | Some kind ↦ found (place_at t.placed.pick kind) kind (names.Term t.parsed.term) t.placed.pick.node ∷ []
]

-- of each, with those before it
abbrev pub faults_behind : List Node → Lists → Currencies → List Told → List Told → List Found
faults_behind nodes lists c before [] = []
faults_behind nodes lists c before (t ∷ ts) = fault_of nodes lists c (first_before before t) t ++ faults_behind nodes lists c (before ++ (t ∷ [])) ts

-- ---- indicators of allowances and charges: one of four words

abbrev pub words : List (List ℕ)
words = codes "true" ∷ (codes "false" ∷ (codes "1" ∷ (codes "0" ∷ [])))

abbrev pub wrong_word : List Node → Pick → List Found
wrong_word nodes pick = elim pick.row.check [
  | (checks.Indicator term) ↦ elim (is_one_of words (trimmed (string_at nodes pick.node))) [
    | true ↦ []
    | false ↦ found (place_at pick kinds.BadValue) kinds.BadValue (names.Term term) pick.node ∷ []
  ]
  | _ ↦ []
]

-- ---- what is missing, behind all that is inside the element of its context: in an inner context first, then in listing order

abbrev pub depth : Context → ℕ
depth context = elim context.outer [ None ↦ 0 | Some a ↦ elim context.inner [ None ↦ 1 | Some b ↦ 2 ] ]

abbrev pub name_of : TermFault → Name
name_of (violations.Missing name) = name
name_of (violations.CodeNotListed term) = names.Term term

abbrev pub missing_place : List Node → Room → List ℕ → List ℕ
missing_place nodes room place = last_inside nodes room.element ∷ (1 ∷ ((2 - depth room.context) ∷ place))

abbrev pub seat_of : Told → Seat
seat_of t = record { term = t.parsed.term; context = context_of t.placed }

abbrev pub missing_in : List Node → List Seat → Room → List Found
missing_in nodes seats room = elim (first_missing (filter (λ (seat : Seat). is_inside room.context seat.context) seats) room.context) [
  | None ↦ []
  | Some violation ↦ found (missing_place nodes room violation.place) kinds.Missing (name_of violation.fault) room.element ∷ []
]

-- ---- the first of all

abbrev pub earlier : Found → Found → Found
earlier a b = elim (is_lt (slice_cmp nat_cmp b.place a.place)) [ true ↦ b | false ↦ a ]

abbrev pub least_from : Found → List Found → Found
least_from a [] = a
least_from a (b ∷ others) = least_from (earlier a b) others

abbrev pub least : List Found → Option Found
least [] = None
least (a ∷ others) = Some (least_from a others)
