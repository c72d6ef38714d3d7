-- Terms are guessed of their texts.
use Rattle.std.proofs.Common.{◌≡◌, ℕ, zero, suc, ◌+◌, ◌-◌, ◌<◌, Bool, true, false, ◌&&◌, inl, inr, List, [], ◌∷◌, ◌++◌, map, refl, sym, ap, ◌∙◌, codes, decimal, arith, true≢false, nat_eq, not, ◌||◌}
use Rattle.std.specs.Prelude.{nat_lt, nat_le, if◌then◌else◌}
use Rattle.std.specs.Int.Digits.{digits_of}
use Rattle.std.specs.List.{list_all}
use Rattle.std.proofs.lemmas.Bool.{cases_Bool, eqb-true, eqb-false, ltb-true, ltb-false, leb-true}
use Rattle.std.proofs.lemmas.Fmt.{decimal-digits_of}
use Rattle.term_table.proofs.GroupLemmas.{both}
use Rattle.term_table.proofs.SeatLemmas.{same_term_is}
use Rattle.term_table.specs.declared.terms.Term.{Term}
use Rattle.term_table.specs.declared.terms.TermRow.{TermRow}
use Rattle.term_table.specs.SemanticModel.{same_term, terms, is_extension}
use Rattle.extension_files.specs.declared.terms.ExtTerm.{ExtTerm}
use Rattle.extension_files.specs.Extensions.{are_terms, are_paths}
use Rattle.term_table.specs.Rows.{is_base64}
use Rattle.inv_listing.specs.Listing.{part_text, term_text}
use Rattle.invoice_data.specs.Guesses.{guess_read, guessed}
use Rattle.invoice_data.specs.Names.{added_row}

-- ---- texts of terms by digits that compute

abbrev digits : ℕ → List ℕ
digits n = map (λ d. 48 + d) (digits_of 10 n)

abbrev part_digits : ℕ → List ℕ
part_digits part = if nat_eq part 0 then [] else 0x2D ∷ digits part

abbrev model_digits : Term → List ℕ
model_digits term = codes "BT-" ++ (digits term.number ++ part_digits term.part)

abbrev added_digits : Term → List ℕ
added_digits term = codes "EXT-" ++ digits (term.number - 1000)

digits_are : (n : ℕ) → 0 < n → n < 65536 → decimal n ≡ digits n
digits_are n h k = decimal-digits_of n h (omega arith)

by_false : (b : Bool) (xs ys : List ℕ) → b ≡ false → (if b then xs else ys) ≡ ys
by_false true xs ys h = absurd (true≢false h)
by_false false xs ys h = refl

not_true : (b : Bool) → not b ≡ true → b ≡ false
not_true true h = absurd (true≢false (sym h))
not_true false h = refl

by_true : (b : Bool) (xs ys : List ℕ) → b ≡ true → (if b then xs else ys) ≡ xs
by_true true xs ys h = refl
by_true false xs ys h = absurd (true≢false (sym h))

part_is : (part : ℕ) → part < 65536 → part_text part ≡ part_digits part
part_is part k = elim (cases_Bool (nat_eq part 0)) [
  | inl h ↦ by_true (nat_eq part 0) _ _ h ∙ sym (by_true (nat_eq part 0) _ _ h)
  | inr h ↦
      let some = eqb-false part 0 h in
      by_false (nat_eq part 0) _ _ h
      ∙ (ap (λ ds. 0x2D ∷ ds) (digits_are part (omega arith) k) ∙ sym (by_false (nat_eq part 0) _ _ h))
]

added_text : (term : Term) → is_extension term ≡ true → 0 < term.number - 1000 → term.number - 1000 < 65536 → term_text term ≡ added_digits term
added_text term a b c = by_true (is_extension term) _ _ a ∙ ap (λ ds. codes "EXT-" ++ ds) (digits_are (term.number - 1000) b c)

-- ---- the model's terms

abbrev is_small : Term → Bool
is_small term = nat_lt 0 term.number && (nat_lt term.number 65536 && (nat_lt term.part 65536 && not (is_extension term)))

model_text : (term : Term) → is_small term ≡ true → term_text term ≡ model_digits term
model_text term h =
    let a = both (nat_lt 0 term.number) _ h in
    let b = both (nat_lt term.number 65536) _ a.1 in
    let c = both (nat_lt term.part 65536) (not (is_extension term)) b.1 in
    by_false (is_extension term) _ _ (not_true (is_extension term) c.1)
    ∙ (ap (λ ds. codes "BT-" ++ (ds ++ part_text term.part)) (digits_are term.number (ltb-true 0 term.number a.0) (ltb-true term.number 65536 b.0))
    ∙ ap (λ ps. codes "BT-" ++ (digits term.number ++ ps)) (part_is term.part (ltb-true term.part 65536 c.0)))

abbrev is_guessed : TermRow → Bool
is_guessed row = is_small row.term && same_term (guessed (model_digits row.term)) row.term

-- Each row's term is the one that is guessed of its text.
abbrev pub AreGuessed : List TermRow → Type 0
AreGuessed [] = Unit {0}
AreGuessed (row ∷ rows) = (guessed (term_text row.term) ≡ row.term) × AreGuessed rows

are_guessed : (rows : List TermRow) → list_all is_guessed rows ≡ true → AreGuessed rows
are_guessed [] h = tt
are_guessed (row ∷ rows) h =
    let parts = both (is_guessed row) (list_all is_guessed rows) h in
    let here = both (is_small row.term) (same_term (guessed (model_digits row.term)) row.term) parts.0 in
    (ap guessed (model_text row.term here.0) ∙ same_term_is (guessed (model_digits row.term)) row.term here.1, are_guessed rows parts.1)

pub model_guessed : AreGuessed terms
unfolding terms guessed guess_read
model_guessed = are_guessed terms refl

-- ---- terms that a table adds

abbrev added_term : ℕ → Term
added_term n = record { number = 1000 + n; part = 0 }

abbrev is_added_guessed : ℕ → Bool
is_added_guessed n =
    nat_eq n 0
    || (is_extension (added_term n) && (nat_eq (1000 + n - 1000) n && same_term (guessed (added_digits (added_term n))) (added_term n)))

abbrev all_below : (ℕ → Bool) → ℕ → Bool
all_below p zero = true
all_below p (suc k) = p k && all_below p k

at_below : (p : ℕ → Bool) (k n : ℕ) → all_below p k ≡ true → n < k → p n ≡ true
at_below p zero n h l = absurd (omega arith)
at_below p (suc k) n h l =
    let parts = both (p k) (all_below p k) h in
    elim (cases_Bool (nat_lt n k)) [
      | inl below ↦ at_below p k n parts.1 (ltb-true n k below)
      | inr not_below ↦ let e : n ≡ k = (let more = ltb-false n k not_below in omega arith) in rw e parts.0
    ]

added_table : all_below is_added_guessed 100 ≡ true
unfolding guessed guess_read
added_table = refl

of_two : (a b : Bool) → (a || b) ≡ true → a ≡ false → b ≡ true
of_two true b h k = absurd (true≢false k)
of_two false b h k = h

not_zero : (n : ℕ) → 0 < n → nat_eq n 0 ≡ false
not_zero n h = elim (cases_Bool (nat_eq n 0)) [ inl e ↦ absurd (let none = eqb-true n 0 e in omega arith) | inr e ↦ e ]

pub added_extension : (n : ℕ) → 0 < n → n < 100 → is_extension (record { number = 1000 + n; part = 0 }) ≡ true
added_extension n h k =
    let row = of_two (nat_eq n 0) _ (at_below is_added_guessed 100 n added_table k) (not_zero n h) in
    (both (is_extension (added_term n)) _ row).0

added_guessed_at : (n : ℕ) → 0 < n → n < 100 → guessed (term_text (added_term n)) ≡ added_term n
added_guessed_at n h k =
    let row = of_two (nat_eq n 0) _ (at_below is_added_guessed 100 n added_table k) (not_zero n h) in
    let a = both (is_extension (added_term n)) _ row in
    let b = both (nat_eq (1000 + n - 1000) n) (same_term (guessed (added_digits (added_term n))) (added_term n)) a.1 in
    ap guessed (added_text (added_term n) a.0 (omega arith) (omega arith)) ∙ same_term_is (guessed (added_digits (added_term n))) (added_term n) b.1

pub added_guessed : (before : ℕ) (added : List ExtTerm) → are_terms before added ≡ true → AreGuessed (map added_row added)
added_guessed before [] h = tt
added_guessed before (e ∷ added) h =
    let a = both (nat_lt before e.number) _ h in
    let b = both (nat_le e.number 99) _ a.1 in
    let c = both (not (is_base64 e.data_type)) _ b.1 in
    let d = both (are_paths e.paths) (are_terms e.number added) c.1 in
    let low = ltb-true before e.number a.0 in
    let high = leb-true e.number 99 b.0 in
    (added_guessed_at e.number (omega arith) (omega arith), added_guessed e.number added d.1)

pub guessed_append : (rows more : List TermRow) → AreGuessed rows → AreGuessed more → AreGuessed (rows ++ more)
guessed_append [] more h k = k
guessed_append (row ∷ rows) more h k = (h.0, guessed_append rows more h.1 k)
