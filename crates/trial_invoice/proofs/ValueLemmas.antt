-- The values of the generated invoice are ones that some text has.
use Rattle.std.proofs.Common.{◌≡◌, ℕ, ◌^◌, ◌<◌, true, List, [], ◌∷◌, ◌++◌, length, Some, None, refl, sym, ap, ◌∙◌, arith}
use Rattle.std.specs.Prelude.{decimal, codes, if◌then◌else◌}
use Rattle.std.specs.Option.{option_map}
use Rattle.std.proofs.lemmas.Fmt.{decimal_nonempty}
use Rattle.inv_base.specs.Characters.{is_char, is_white_space}
use Rattle.inv_decimal.specs.Number.{ScaledDecimal, IsScaled}
use Rattle.inv_decimal.specs.WrittenNumber.{read_scaled, scaled_text, written_units}
use Rattle.term_table.specs.declared.terms.DataType.TheVariants as data_types
use Rattle.term_table.specs.declared.terms.Term.{Term}
use Rattle.term_table.specs.Rows.{HasType}
use Rattle.inv_terms.specs.declared.values.Value.TheVariants as values
use Rattle.inv_terms.specs.Values.{without_leading, without_trailing, trimmed, identifier_in, value_of}
use Rattle.inv_terms.specs.Listing.{Fits}
use Rattle.trial_invoice.specs.Amounts.{hundredths, ones}
use Rattle.trial_invoice.specs.Written.{hundredths_text}
use Rattle.trial_invoice.proofs.NumberLemmas.{hundredths-scaled, hundredths-text, ones-scaled, ones-text}
use Rattle.trial_invoice.proofs.DigitLemmas.{is_plain, are_plain, both, plain-black, plain-chars, plain-decimal, plain-hundredths}

-- A printed number is read back as that number.
abbrev pub ReadsBack : Type 0
ReadsBack = (s : ScaledDecimal) → IsScaled s → read_scaled (scaled_text s) ≡ Some s

-- ---- texts of digits and points aren't trimmed

leading-plain : (text : List ℕ) → are_plain text ≡ true → without_leading text ≡ text
leading-plain [] h = refl
leading-plain (c ∷ text) h = rw (plain-black c (both (is_plain c) (are_plain text) h).0) refl

trailing-plain : (text : List ℕ) → are_plain text ≡ true → without_trailing text ≡ text
trailing-plain [] h = refl
trailing-plain (c ∷ text) h =
    let parts = both (is_plain c) (are_plain text) h in
    rw (plain-black c parts.0) (ap (λ t. c ∷ t) (trailing-plain text parts.1))

trimmed-plain : (text : List ℕ) → are_plain text ≡ true → trimmed text ≡ text
trimmed-plain text h = ap without_trailing (leading-plain text h) ∙ trailing-plain text h

-- ---- numbers as values

pub read-hundredths : ReadsBack → (n : ℕ) → n < 10 ^ 18 → read_scaled (hundredths_text n) ≡ Some (hundredths n)
read-hundredths law n h = ap read_scaled (sym (hundredths-text n)) ∙ law (hundredths n) (hundredths-scaled n h)

pub read-ones : ReadsBack → (n : ℕ) → n < 10 ^ 18 → read_scaled (decimal n) ≡ Some (ones n)
read-ones law n h = ap read_scaled (sym (ones-text n)) ∙ law (ones n) (ones-scaled n h)

amount-value : (text : List ℕ) (s : ScaledDecimal) → are_plain text ≡ true → read_scaled text ≡ Some s → value_of data_types.A text ≡ Some (values.Amount s)
unfolding value_of
amount-value text s h k =
    ap (λ b. if b then option_map values.Amount (read_scaled (trimmed text)) else None) (plain-chars text h)
    ∙ (ap (λ t. option_map values.Amount (read_scaled t)) (trimmed-plain text h) ∙ ap (option_map values.Amount) k)

quantity-value : (text : List ℕ) (s : ScaledDecimal) → are_plain text ≡ true → read_scaled text ≡ Some s → value_of data_types.Q text ≡ Some (values.Quantity s)
unfolding value_of
quantity-value text s h k =
    ap (λ b. if b then option_map values.Quantity (read_scaled (trimmed text)) else None) (plain-chars text h)
    ∙ (ap (λ t. option_map values.Quantity (read_scaled t)) (trimmed-plain text h) ∙ ap (option_map values.Quantity) k)

pub fits-amount : ReadsBack → (term : Term) (n : ℕ) → HasType term data_types.A → n < 10 ^ 18 → Fits term (values.Amount (hundredths n))
fits-amount law term n typed h = record {
  data_type = data_types.A;
  text = hundredths_text n;
  typed = typed;
  read = amount-value (hundredths_text n) (hundredths n) (plain-hundredths n (omega arith)) (read-hundredths law n h);
}

pub fits-quantity : ReadsBack → (term : Term) (n : ℕ) → HasType term data_types.Q → n < 10 ^ 18 → Fits term (values.Quantity (ones n))
fits-quantity law term n typed h = record {
  data_type = data_types.Q;
  text = decimal n;
  typed = typed;
  read = quantity-value (decimal n) (ones n) (plain-decimal n (omega arith)) (read-ones law n h);
}

pub fits-rate : (term : Term) → HasType term data_types.P → Fits term (values.Percent (ones 20))
unfolding value_of is_char is_white_space read_scaled written_units
fits-rate term typed = record { data_type = data_types.P; text = codes "20"; typed = typed; read = refl }

-- ---- texts of digits as values

identifier_there : (text : List ℕ) → 0 < length text → identifier_in text ≡ Some text
identifier_there [] h = absurd (omega arith)
identifier_there (c ∷ text) h = refl

identifier-value : (text : List ℕ) → are_plain text ≡ true → 0 < length text → value_of data_types.I text ≡ Some (values.Identifier text)
unfolding value_of
identifier-value text h k =
    ap (λ b. if b then option_map values.Identifier (identifier_in (trimmed text)) else None) (plain-chars text h)
    ∙ (ap (λ t. option_map values.Identifier (identifier_in t)) (trimmed-plain text h) ∙ ap (option_map values.Identifier) (identifier_there text k))

pub fits-number : (term : Term) (n : ℕ) → HasType term data_types.I → n < 2 ^ 64 → Fits term (values.Identifier (decimal n))
fits-number term n typed h = record {
  data_type = data_types.I;
  text = decimal n;
  typed = typed;
  read = identifier-value (decimal n) (plain-decimal n h) (decimal_nonempty n h);
}

item-value : (n : ℕ) → n < 2 ^ 64 → value_of data_types.T (codes "Item " ++ decimal n) ≡ Some (values.Text (codes "Item " ++ decimal n))
unfolding value_of is_char is_white_space
item-value n h = ap (λ b. if b then Some (values.Text (codes "Item " ++ decimal n)) else None) (plain-chars (decimal n) (plain-decimal n h))

pub fits-item : (term : Term) (n : ℕ) → HasType term data_types.T → n < 2 ^ 64 → Fits term (values.Text (codes "Item " ++ decimal n))
fits-item term n typed h = record { data_type = data_types.T; text = codes "Item " ++ decimal n; typed = typed; read = item-value n h }
