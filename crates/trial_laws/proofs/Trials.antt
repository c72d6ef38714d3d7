-- What a trial comes to: both readings are the generated invoice, so the terms are the same.
use Rattle.std.proofs.Common.{◌≡◌, ℕ, ◌*◌, true, ◌&&◌, List, [], ◌∷◌, Some, refl, ap, ◌∙◌, arith}
use Rattle.std.specs.Prelude.{◌==◌}
use Rattle.std.proofs.lemmas.Bool.Decides.{nat_tests}
use Rattle.std.specs.Str.{bytes_eq}
use Rattle.std.specs.Ordering.{int_cmp, is_eq, ordering_reverse}
use Rattle.std.specs.declared.cmp.Ordering.{Ordering}
use Rattle.std.specs.declared.cmp.Ordering.TheVariants.{Less, Equal, Greater}
use Rattle.std.proofs.lemmas.Cmp.{int_cmp_total}
use Rattle.std.proofs.lemmas.Slice.Eq.{bytes_eq-Decides}
use Rattle.inv_decimal.specs.CivilDay.{day_cmp}
use Rattle.inv_decimal.proofs.DayBack.{day_cmp_total}
use Rattle.code_lists.specs.CodeFiles.{built_in_lists}
use Rattle.term_table.specs.declared.terms.Term.{Term}
use Rattle.term_table.specs.SemanticModel.{same_term}
use Rattle.term_table.specs.Contexts.{same_context}
use Rattle.inv_terms.specs.declared.values.Value.{Value}
use Rattle.inv_terms.specs.declared.values.Value.TheVariants as values
use Rattle.inv_terms.specs.declared.entries.Entry.{Entry}
use Rattle.inv_terms.specs.Values.{spelled, same_value}
use Rattle.inv_terms.proofs.PushLemmas.{same_slot_itself, and_pair}
use Rattle.bind_meaning.specs.declared.tables.Syntax.{Syntax}
use Rattle.bind_meaning.specs.declared.tables.Syntax.TheVariants as syntaxes
use Rattle.written_laws.specs.Texts.{text_in, exactly, AreReadAs}
use Rattle.held_rules.specs.Texts.{nodes_in, unless_refused}
use Rattle.trial_invoice.specs.Amounts.{sum_of_nets}
use Rattle.trial_invoice.specs.Generated.{amount, trial_entries}
use Rattle.trial_run.specs.Comparing.{same_entry, same_entries}
use Rattle.trial_run.specs.Memory.{written, entries_of, terms_in, terms_read}
use Rattle.trial_run.specs.Trials.{terms_of_ubl, terms_of_cii, total_in, same_terms, trial_of}

-- ---- entries compared with themselves

text-itself : (a : List ℕ) → bytes_eq a a ≡ true
text-itself a = (bytes_eq-Decides a a).1 refl

equal-itself : (o : Ordering) → o ≡ ordering_reverse o → is_eq o ≡ true
equal-itself Less h = absurd (let k : Less ≡ Greater = h in cc)
equal-itself Equal h = refl
equal-itself Greater h = absurd (let k : Greater ≡ Less = h in cc)

value-itself : (v : Value) → same_value v v ≡ true
value-itself (values.Text text) = text-itself text
value-itself (values.Identifier text) = text-itself text
value-itself (values.Code text) = text-itself text
value-itself (values.Amount number) = equal-itself (int_cmp number.value number.value) (int_cmp_total.antisymm number.value number.value)
value-itself (values.Quantity number) = equal-itself (int_cmp number.value number.value) (int_cmp_total.antisymm number.value number.value)
value-itself (values.Percent number) = equal-itself (int_cmp number.value number.value) (int_cmp_total.antisymm number.value number.value)
value-itself (values.Date day) = equal-itself (day_cmp day day) (day_cmp_total.antisymm day day)
value-itself (values.Base64 text) = text-itself text

term-itself : (t : Term) → same_term t t ≡ true
term-itself t =
    let a : (t.number == t.number) ≡ true = grind (arith, nat_tests) in
    let b : (t.part == t.part) ≡ true = grind (arith, nat_tests) in
    and_pair (t.number == t.number) (t.part == t.part) a b

entry-itself : (e : Entry) → same_entry e e ≡ true
unfolding same_entry
entry-itself e =
    and_pair (same_term e.term e.term) (same_context e.context e.context && same_value e.value e.value) (term-itself e.term)
    (and_pair (same_context e.context e.context) (same_value e.value e.value)
    (and_pair _ _ (same_slot_itself e.context.outer) (same_slot_itself e.context.inner)) (value-itself e.value))

entries-itself : (es : List Entry) → same_entries es es ≡ true
entries-itself [] = refl
entries-itself (e ∷ es) = and_pair (same_entry e e) (same_entries es es) (entry-itself e) (entries-itself es)

-- ---- what is read

read-back : (syntax : Syntax) (es : List Entry) → AreReadAs (text_in syntax es) built_in_lists (exactly es) → terms_read (written syntax es) ≡ es
unfolding terms_read written nodes_in
read-back syntax es read = ap (λ r. terms_in (unless_refused r)) read.is ∙ ap entries_of read.invoice

-- Both syntaxes read the generated invoice of so many lines back.
abbrev pub AreReadBack : ℕ → Type 0
AreReadBack n = (syntax : Syntax) → AreReadAs (text_in syntax (trial_entries n)) built_in_lists (exactly (trial_entries n))

pub first-terms : (n : ℕ) → AreReadBack n → terms_of_ubl n ≡ trial_entries n
first-terms n read = read-back syntaxes.Ubl (trial_entries n) (read syntaxes.Ubl)

pub last-terms : (n : ℕ) → AreReadBack n → terms_of_cii n ≡ trial_entries n
last-terms n read = ap (λ es. terms_read (written syntaxes.Cii es)) (first-terms n read) ∙ read-back syntaxes.Cii (trial_entries n) (read syntaxes.Cii)

pub terms-same : (n steps : ℕ) → AreReadBack n → (trial_of n steps).same_terms ≡ true
unfolding trial_of
terms-same n steps read =
    let moved : same_terms (trial_entries n) (terms_of_ubl n) (terms_of_cii n) ≡ same_terms (trial_entries n) (trial_entries n) (trial_entries n) =
    λ i. same_terms (trial_entries n) (first-terms n read i) (last-terms n read i) in
    moved
    ∙ and_pair (same_entries (trial_entries n) (trial_entries n)) (same_entries (trial_entries n) (trial_entries n)) (entries-itself (trial_entries n))
    (entries-itself (trial_entries n))

total-is : (n : ℕ) → total_in (trial_entries n) ≡ Some (spelled (amount (120 * sum_of_nets n)))
unfolding trial_entries
total-is n = refl

pub total-told : (n steps : ℕ) → AreReadBack n → (trial_of n steps).total ≡ Some (spelled (amount (120 * sum_of_nets n)))
unfolding trial_of
total-told n steps read = ap total_in (last-terms n read) ∙ total-is n
