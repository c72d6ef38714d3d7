-- How numbers are read.
use Rattle.std.proofs.Common.{◌≡◌, ℕ, ◌+◌, ◌^◌, suc, zero, ◌<◌, ◌≤◌, true, cond, ◌==◌, List, [], ◌∷◌, ◌++◌, length, get_or, Option, Some, None, Ok}
use Rattle.std.proofs.Common.{refl, ap, sym, ◌∙◌, subst, arith}
use Rattle.std.specs.Fmt.{decimal}
use Rattle.std.proofs.lemmas.Bool.{and_from, le-leb, ne_eqb}
use Rattle.std.proofs.lemmas.Fmt.{decimal_is_IsNumeral, decimal_digit, first_decimal}
use Rattle.std.proofs.lemmas.Str.Parse.{digit_at}
use Rattle.json_reading.specs.declared.item.Item.{Item}
use Rattle.json_reading.specs.declared.item.ItemKind.TheVariants as kinds
use Rattle.json_reading.specs.declared.item.Span.{Span}
use Rattle.json_reading.specs.declared.mode.Form.{Form}
use Rattle.json_reading.specs.declared.mode.Form.TheVariants as form
use Rattle.json_reading.specs.declared.mode.Mode.{Mode}
use Rattle.json_reading.specs.declared.mode.Mode.TheVariants as mode
use Rattle.json_reading.specs.declared.reader.Open.{Open}
use Rattle.json_reading.specs.Bytes.{is_digit}
use Rattle.json_reading.specs.Numbers.{form_behind}
use Rattle.json_reading.specs.Turns.{turn, in_number}
use Rattle.json_reading.specs.Reading.{State, number_ended, has_ended_by, settled_by, span, act, turned, step, run}
use Rattle.json_reading.proofs.IdleLemmas.{goes_on, run_step}
use lib.Utf8.{encodes}
use Rattle.read_back_laws.specs.Items.{width, item}
use Rattle.read_back_laws.proofs.Bytes.{encode-decimal}
use Rattle.read_back_laws.proofs.States.{state, number, one, moved}

-- No byte of a number comes next.
abbrev pub Ends : List ℕ → Type 0
Ends [] = ⊥
Ends (b ∷ more) = (form_behind form.Zero b ≡ None) × (form_behind form.Integer b ≡ None)

abbrev pub EndsBy : Form → List ℕ → Type 0
EndsBy f [] = ⊥
EndsBy f (b ∷ more) = form_behind f b ≡ None

-- what the first digit leaves
abbrev pub first_form : ℕ → Form
first_form b = cond (b == 0x30) form.Zero form.Integer

-- the digits, one by one
abbrev AreDigits : List ℕ → Type 0
AreDigits ds = (i : ℕ) → i < length ds → (48 ≤ get_or ds i 0) × (get_or ds i 0 ≤ 57)

pub is_digit_of : (b : ℕ) → (48 ≤ b) × (b ≤ 57) → is_digit b ≡ true
is_digit_of b h = and_from _ _ (le-leb 48 b h.0) (le-leb b 57 h.1)

goes_on_digit : (b : ℕ) → is_digit b ≡ true → form_behind form.Integer b ≡ Some form.Integer
unfolding form_behind
goes_on_digit b h = rw h refl

module _ (deepest : ℕ) (name : Option Span) (around : List Open) (items : List Item) (start : ℕ) where
  abbrev pub counting : Form → State
  counting f = state (number start f) name around items

  -- the number has been read
  abbrev pub counted : ℕ → State
  counted end = state mode.Behind None around (items ++ item kinds.Number name (span start end) 0 ∷ [])

  digit_step : (at b : ℕ) → is_digit b ≡ true → step deepest at b (counting form.Integer) ≡ Ok (counting form.Integer)
  unfolding step number_ended turn in_number act
  digit_step at b h = let on : form_behind form.Integer b ≡ Some form.Integer = goes_on_digit b h in rw (on, on) refl

  digits_read : (ds : List ℕ) (at : ℕ) (more : List ℕ) → AreDigits ds
      → run deepest at (ds ++ more) (counting form.Integer) ≡ run deepest (at + length ds) more (counting form.Integer)
  digits_read [] at more h = moved deepest at (at + 0) more _ (omega arith)
  digits_read (d ∷ ds) at more h =
      one deepest at d (ds ++ more) _ _ (digit_step at d (is_digit_of d (h 0 (omega arith))))
      ∙ (digits_read ds (at + 1) more (λ i l. h (suc i) (omega arith)) ∙ moved deepest _ _ more _ (omega arith))

  -- At a byte that belongs to no number it is told.
  pub ends_step : (at b : ℕ) (f : Form) → form_behind f b ≡ None → has_ended_by f None ≡ true
      → step deepest at b (counting f) ≡ step deepest at b (counted at)
  unfolding step number_ended
  ends_step at b f e whole =
      ap (λ o. turned deepest at b (settled_by at (counting f) (cond (has_ended_by f o) (Some (record { start = start; form = f })) None))) e
      ∙ ap (λ t. turned deepest at b (settled_by at (counting f) (cond t (Some (record { start = start; form = f })) None))) whole

  number_ends : (at : ℕ) (f : Form) (more : List ℕ) → has_ended_by f None ≡ true → EndsBy f more
      → run deepest at more (counting f) ≡ run deepest at more (counted at)
  number_ends at f [] whole ends = absurd ends
  number_ends at f (b ∷ more) whole ends =
      run_step deepest at b more (counting f)
      ∙ (ap (goes_on deepest (suc at) more) (ends_step at b f ends whole) ∙ sym (run_step deepest at b more (counted at)))

ends_zero : (more : List ℕ) → Ends more → EndsBy form.Zero more
ends_zero [] ends = ends
ends_zero (b ∷ more) ends = ends.0

ends_integer : (more : List ℕ) → Ends more → EndsBy form.Integer more
ends_integer [] ends = ends
ends_integer (b ∷ more) ends = ends.1

module _ (deepest : ℕ) (m : Mode) (name : Option Span) (around : List Open) (items : List Item) (at : ℕ) where
  -- the digits in a row are read as a number
  abbrev AreRead : List ℕ → List ℕ → Type 0
  AreRead ds more =
      run deepest at (ds ++ more) (state m name around items)
      ≡ run deepest (at + length ds) more (counted deepest name around items at (at + length ds))

  abbrev Begins : Type 0
  Begins = (b : ℕ) → is_digit b ≡ true → step deepest at b (state m name around items) ≡ Ok (counting deepest name around items at (first_form b))

  zero_read : (more : List ℕ) → Begins → Ends more → AreRead (0x30 ∷ []) more
  zero_read more begins ends =
      one deepest at 0x30 more _ _ (begins 0x30 refl)
      ∙ number_ends deepest name around items at (at + 1) form.Zero more refl (ends_zero more ends)

  positive_read : (ds more : List ℕ) → AreDigits ds → 48 < get_or ds 0 0 → Begins → Ends more → AreRead ds more
  positive_read [] more all first begins ends = absurd (omega arith)
  positive_read (d ∷ ds) more all first begins ends =
      let form_is : first_form d ≡ form.Integer = ap (λ b. cond b form.Zero form.Integer) (ne_eqb d 0x30 (λ e. omega arith)) in
      let begun = begins d (is_digit_of d (all 0 (omega arith))) ∙ ap (λ f. Ok (counting deepest name around items at f)) form_is in
      let place : (at + 1) + length ds ≡ at + length (d ∷ ds) = omega arith in
      one deepest at d (ds ++ more) _ (counting deepest name around items at form.Integer) begun
      ∙ (digits_read deepest name around items at ds (at + 1) more (λ i l. all (suc i) (omega arith))
      ∙ (number_ends deepest name around items at ((at + 1) + length ds) form.Integer more refl (ends_integer more ends)
      ∙ ap (λ n. run deepest n more (counted deepest name around items at n)) place))

  decimal_read : (n : ℕ) (more : List ℕ) → n < 2 ^ 64 → Begins → Ends more → AreRead (decimal n) more
  decimal_read zero more h begins ends = subst (λ ds. AreRead ds more) (sym (decimal_digit 0 (omega arith))) (zero_read more begins ends)
  decimal_read (suc n) more h begins ends =
      positive_read (decimal (suc n)) more (λ i l. digit_at _ i (decimal_is_IsNumeral (suc n) h).0.1 l) (first_decimal (suc n) (omega arith) h) begins ends

  -- A number is read, and told when it has ended.
  pub number_read : (n : ℕ) (more : List ℕ) → n < 2 ^ 64 → Begins → Ends more
      → run deepest at (encodes (decimal n) ++ more) (state m name around items)
      ≡ run deepest (at + width (decimal n)) more
      (state mode.Behind None around (items ++ item kinds.Number name (span at (at + width (decimal n))) 0 ∷ []))
  number_read n more h begins ends =
      subst (λ ds. run deepest at (ds ++ more) (state m name around items)
      ≡ run deepest (at + length ds) more (counted deepest name around items at (at + length ds)))
      (sym (encode-decimal n h)) (decimal_read n more h begins ends)
