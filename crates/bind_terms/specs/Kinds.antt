-- What is wrong with a value at a node, from what stands there: the causes of faults over the parts that the code has.
use Rattle.std.specs.Prelude.{ℕ, Bool, true, false, not, ◌&&◌, ◌||◌, List, [], ◌∷◌, codes, Option, None, Some, option_and_then, is_none, is_some}
use Rattle.std.specs.Str.{bytes_eq}
use Rattle.inv_base.specs.Tree.{Node}
use Rattle.code_lists.specs.CodeFiles.{Lists}
use Rattle.term_table.specs.declared.terms.DataType.TheVariants as data_types
use Rattle.term_table.specs.declared.terms.Term.{Term}
use Rattle.term_table.specs.declared.contexts.Context.{Context}
use Rattle.inv_terms.specs.Values.{is_blank, trimmed}
use Rattle.inv_terms.specs.Validity.{list_of, code_in, is_outside}
use Rattle.bind_rows.specs.declared.rows.Row.{Row}
use Rattle.bind_rows.specs.declared.rows.Written.{Written}
use Rattle.bind_rows.specs.declared.rows.Written.TheVariants as written
use Rattle.bind_meaning.specs.declared.fault.BindKind.{BindKind}
use Rattle.bind_meaning.specs.declared.fault.BindKind.TheVariants as kinds
use Rattle.bind_meaning.specs.Elements.{string_at, has_element_inside}
use Rattle.bind_meaning.specs.Currencies.{amount_currency}
use Rattle.bind_meaning.specs.Values.{ParsedValue, form_for, type_of}
use Rattle.bind_meaning.specs.Judging.{Cause, first_cause, may_repeat, breaks, differs, disagree}

-- The text isn't blank, and isn't `102` with white space around it.
abbrev pub is_other : List ℕ → Bool
is_other text = not (is_blank text) && not (bytes_eq (trimmed text) (codes "102"))

abbrev pub is_other_at : List Node → ℕ → Bool
is_other_at nodes n = is_other (string_at nodes n)

abbrev pub trimmed_at : List Node → ℕ → List ℕ
trimmed_at nodes n = trimmed (string_at nodes n)

-- ---- the causes, with `first` for what the first pick of the term in the context said, where this isn't the first

abbrev pub is_not_listed : Lists → Context → ParsedValue → Bool
is_not_listed lists context parsed = is_outside lists (list_of parsed.term context) (option_and_then code_in parsed.value)

abbrev pub is_accounting_total : Written → Bool
is_accounting_total w = elim w [ written.AccountingVatTotal ↦ true | _ ↦ false ]

-- The row's values of the term are amounts.
abbrev pub is_amount : Row → Term → Bool
is_amount row term = elim (type_of (form_for row.form term) term) [ Some data_types.A ↦ true | _ ↦ false ]

abbrev pub is_foreign : List Node → Option (List ℕ) → Row → ℕ → Term → Bool
is_foreign nodes invoice row n term = elim
    (is_amount row term && not (is_accounting_total row.written)) [ true ↦ differs invoice (amount_currency nodes n) | false ↦ false ]

abbrev pub is_disagreeing : Option ParsedValue → ParsedValue → Bool
is_disagreeing None parsed = false
is_disagreeing (Some first) parsed = disagree first.value parsed.value

abbrev pub causes_of : List Node → Lists → Option (List ℕ) → Row → ℕ → Context → Option ParsedValue → ParsedValue → List Cause
causes_of nodes lists invoice row n context first parsed =
    record { kind = kinds.Excess; holds = λ _. is_some first && not (may_repeat row.repeats) }
    ∷ (record { kind = kinds.ElementInValue; holds = λ _. has_element_inside nodes n }
    ∷ (record { kind = kinds.BadValue; holds = λ _. is_none parsed.value || breaks nodes row.check n }
    ∷ (record { kind = kinds.CodeNotListed; holds = λ _. is_not_listed lists context parsed }
    ∷ (record { kind = kinds.CurrencyDiffers; holds = λ _. is_foreign nodes invoice row n parsed.term }
    ∷ (record { kind = kinds.Disagree; holds = λ _. is_disagreeing first parsed } ∷ [])))))

abbrev pub kind_of : List Node → Lists → Option (List ℕ) → Row → ℕ → Context → Option ParsedValue → ParsedValue → Option BindKind
kind_of nodes lists invoice row n context first parsed = first_cause (causes_of nodes lists invoice row n context first parsed)
