-- How numbers of the grammar are read.
use Rattle.std.proofs.Common.{◌≡◌, ℕ, ◌+◌, suc, Bool, true, false, cond, ◌==◌, ◌&&◌, List, [], ◌∷◌, ◌++◌, length, Option, Some, None, Ok, inl, inr}
use Rattle.std.proofs.Common.{refl, ap, sym, ◌∙◌, arith, append_assoc, length-append, true≢false}
use Rattle.std.proofs.lemmas.Bool.{and_parts, or_cases, eqb-true}
use Rattle.json_reading.specs.declared.item.Item.{Item}
use Rattle.json_reading.specs.declared.item.ItemKind.TheVariants as kinds
use Rattle.json_reading.specs.declared.item.Span.{Span}
use Rattle.json_reading.specs.declared.mode.Form.{Form}
use Rattle.json_reading.specs.declared.mode.Form.TheVariants as form
use Rattle.json_reading.specs.declared.mode.Mode.{Mode}
use Rattle.json_reading.specs.declared.mode.Mode.TheVariants as mode
use Rattle.json_reading.specs.declared.reader.Open.{Open}
use Rattle.json_reading.specs.Bytes.{is_digit, is_exponent, is_sign}
use Rattle.json_reading.specs.Numbers.{form_behind, is_whole as is_ended}
use Rattle.json_reading.specs.Turns.{value_begun, plain_begun, turn, in_number}
use Rattle.json_reading.specs.Reading.{State, number_ended, settled_by, ended, ended_by, ended_behind, span, act, step, run}
use Rattle.json_reading.proofs.IdleLemmas.{goes_on, run_step}
use Rattle.json_grammar.specs.Numbers.{Power, Number, minus_text, fraction_text, sign_text, power_text, number_text, are_digits, is_empty, some_digits}
use Rattle.json_grammar.specs.Numbers.{is_whole}
use Rattle.json_grammar.specs.Numbers.{is_fraction, is_sign_if_any, is_power, is_number}
use Rattle.json_grammar.specs.Items.{item}
use Rattle.json_grammar.proofs.Outcomes.{outcome, leads_on, AtEnd, Follows}
use Rattle.read_back_laws.proofs.States.{state, number, one, moved}
use Rattle.read_back_laws.proofs.Numbers.{first_form, counting, counted, ends_step}
use Rattle.read_back_laws.proofs.Values.{Ready, digit_begins, digit_apart}

-- ---- what each byte leaves

integer_digit : (b : ℕ) → is_digit b ≡ true → form_behind form.Integer b ≡ Some form.Integer
unfolding form_behind
integer_digit b h = rw h refl

fraction_digit : (b : ℕ) → is_digit b ≡ true → form_behind form.Fraction b ≡ Some form.Fraction
unfolding form_behind
fraction_digit b h = rw h refl

power_digit : (b : ℕ) → is_digit b ≡ true → form_behind form.Power b ≡ Some form.Power
unfolding form_behind
power_digit b h = rw h refl

point_digit : (b : ℕ) → is_digit b ≡ true → form_behind form.Point b ≡ Some form.Fraction
unfolding form_behind
point_digit b h = rw h refl

sign_digit : (b : ℕ) → is_digit b ≡ true → form_behind form.Sign b ≡ Some form.Power
unfolding form_behind
sign_digit b h = rw h refl

exponent_digit : (b : ℕ) → is_digit b ≡ true → form_behind form.Exponent b ≡ Some form.Power
unfolding form_behind
exponent_digit b h =
    let plus : (b == 0x2B) ≡ false = digit_apart b 0x2B h (omega arith) in
    let minus : (b == 0x2D) ≡ false = digit_apart b 0x2D h (omega arith) in
    rw (plus, minus, h) refl

sign_begun : (b : ℕ) → is_sign b ≡ true → form_behind form.Exponent b ≡ Some form.Sign
unfolding form_behind
sign_begun b h = rw h refl

minus_digit : (b : ℕ) → is_digit b ≡ true → form_behind form.Minus b ≡ Some (first_form b)
unfolding form_behind
minus_digit b h = by (b == 0x30)
  where
    by : (t : Bool) → cond t (Some form.Zero) (cond (is_digit b) (Some form.Integer) None) ≡ Some (cond t form.Zero form.Integer)
    by true = refl
    by false = ap (λ t. cond t (Some form.Integer) None) h

-- the digits before a point have ended, or all digits of a number without an exponent
data IsInteger (f : Form) : Type 0 where
  zero_alone : f ≡ form.Zero → IsInteger f
  digits : f ≡ form.Integer → IsInteger f

point_begun : (f : Form) → IsInteger f → form_behind f 0x2E ≡ Some form.Point
unfolding form_behind
point_begun f (zero_alone e) = ap (λ g. form_behind g 0x2E) e
point_begun f (digits e) = ap (λ g. form_behind g 0x2E) e

letter_begun : (f : Form) (b : ℕ) → (form_behind f 0x45 ≡ Some form.Exponent) → (form_behind f 0x65 ≡ Some form.Exponent) → is_exponent b ≡ true
    → form_behind f b ≡ Some form.Exponent
letter_begun f b upper lower h = elim (or_cases (b == 0x45) (b == 0x65) h) [
  | inl e ↦ ap (form_behind f) (eqb-true b 0x45 e) ∙ upper
  | inr e ↦ ap (form_behind f) (eqb-true b 0x65 e) ∙ lower
]

integer_letter : (f : Form) → IsInteger f → (form_behind f 0x45 ≡ Some form.Exponent) × (form_behind f 0x65 ≡ Some form.Exponent)
unfolding form_behind
integer_letter f (zero_alone e) = (ap (λ g. form_behind g 0x45) e, ap (λ g. form_behind g 0x65) e)
integer_letter f (digits e) = (ap (λ g. form_behind g 0x45) e, ap (λ g. form_behind g 0x65) e)

fraction_letter : (form_behind form.Fraction 0x45 ≡ Some form.Exponent) × (form_behind form.Fraction 0x65 ≡ Some form.Exponent)
unfolding form_behind
fraction_letter = (refl, refl)

integer_ended : (f : Form) → IsInteger f → is_ended f ≡ true
integer_ended f (zero_alone e) = ap is_ended e
integer_ended f (digits e) = ap is_ended e

first_is_integer : (b : ℕ) → IsInteger (first_form b)
first_is_integer b = by (b == 0x30)
  where
    by : (t : Bool) → IsInteger (cond t form.Zero form.Integer)
    by true = zero_alone refl
    by false = digits refl

-- ---- the parts of a number, one behind another

module _ (deepest : ℕ) (name : Option Span) (around : List Open) (items : List Item) (start : ℕ) where
  abbrev amid : Form → State
  amid f = counting deepest name around items start f

  -- bytes lead from what was read last to what is read last then
  abbrev Passes : Form → List ℕ → Form → Type 0
  Passes f bytes g = (at : ℕ) (more : List ℕ) → run deepest at (bytes ++ more) (amid f) ≡ run deepest (at + length bytes) more (amid g)

  passes_step : (at b : ℕ) (f g : Form) → form_behind f b ≡ Some g → step deepest at b (amid f) ≡ Ok (amid g)
  unfolding step number_ended turn in_number act
  passes_step at b f g h = rw (h, h) refl

  passes_one : (b : ℕ) (f g : Form) → form_behind f b ≡ Some g → Passes f (b ∷ []) g
  passes_one b f g h at more = one deepest at b more (amid f) (amid g) (passes_step at b f g h)

  passes_none : (f : Form) → Passes f [] f
  passes_none f at more = moved deepest at (at + 0) more (amid f) (omega arith)

  passes_both : (xs ys : List ℕ) (f g h : Form) → Passes f xs g → Passes g ys h → Passes f (xs ++ ys) h
  passes_both xs ys f g h a b at more =
      ap (λ x. run deepest at x (amid f)) (append_assoc xs ys more)
      ∙ (a at (ys ++ more) ∙ (b (at + length xs) more ∙ moved deepest (at + length xs + length ys) _ more (amid h) (omega (arith, length-append xs ys))))

  passes_digits : (f : Form) → ((b : ℕ) → is_digit b ≡ true → form_behind f b ≡ Some f) → (ds : List ℕ) → are_digits ds ≡ true → Passes f ds f
  passes_digits f on [] h = passes_none f
  passes_digits f on (d ∷ ds) h =
      let parts = and_parts (is_digit d) (are_digits ds) h in
      passes_both (d ∷ []) ds f f f (passes_one d f f (on d parts.0)) (passes_digits f on ds parts.1)

  -- they lead to where a number may end
  record Ended (f : Form) (bytes : List ℕ) : Type 0 where
    last : Form
    ended : is_ended last ≡ true
    passes : Passes f bytes last

  fraction_passes : (f : Form) (ds : List ℕ) → IsInteger f → some_digits ds ≡ true → Passes f (0x2E ∷ ds) form.Fraction
  fraction_passes f [] is h = absurd (true≢false (sym h))
  fraction_passes f (d ∷ ds) is h =
      let parts = and_parts (is_digit d) (are_digits ds) h in
      passes_both (0x2E ∷ []) (d ∷ ds) f form.Point form.Fraction (passes_one 0x2E f form.Point (point_begun f is))
      (passes_both (d ∷ []) ds form.Point form.Fraction form.Fraction (passes_one d form.Point form.Fraction (point_digit d parts.0))
      (passes_digits form.Fraction fraction_digit ds parts.1))

  exponent_passes : (f : Form) (ds : List ℕ) → ((b : ℕ) → is_digit b ≡ true → form_behind f b ≡ Some form.Power) → some_digits ds ≡ true
      → Passes f ds form.Power
  exponent_passes f [] on h = absurd (true≢false (sym h))
  exponent_passes f (d ∷ ds) on h =
      let parts = and_parts (is_digit d) (are_digits ds) h in
      passes_both (d ∷ []) ds f form.Power form.Power (passes_one d f form.Power (on d parts.0)) (passes_digits form.Power power_digit ds parts.1)

  signed_passes : (sign : Option ℕ) (ds : List ℕ) → is_sign_if_any sign ≡ true → some_digits ds ≡ true
      → Passes form.Exponent (sign_text sign ++ ds) form.Power
  signed_passes (Some b) ds s h =
      passes_both (b ∷ []) ds form.Exponent form.Sign form.Power (passes_one b form.Exponent form.Sign (sign_begun b s))
      (exponent_passes form.Sign ds sign_digit h)
  signed_passes None ds s h = exponent_passes form.Exponent ds exponent_digit h

  power_passes : (f : Form) (power : Option Power) → is_ended f ≡ true
      → ((form_behind f 0x45 ≡ Some form.Exponent) × (form_behind f 0x65 ≡ Some form.Exponent)) → is_power power ≡ true → Ended f (power_text power)
  power_passes f None e letters h = record { last = f; ended = e; passes = passes_none f }
  power_passes f (Some p) e letters h =
      let parts = and_parts (is_exponent p.letter) (is_sign_if_any p.sign && some_digits p.digits) h in
      let signed = and_parts (is_sign_if_any p.sign) (some_digits p.digits) parts.1 in
      record {
        last = form.Power;
        ended = refl;
        passes = passes_both (p.letter ∷ []) (sign_text p.sign ++ p.digits) f form.Exponent form.Power
            (passes_one p.letter f form.Exponent (letter_begun f p.letter letters.0 letters.1 parts.0))
            (signed_passes p.sign p.digits signed.0 signed.1);
      }

  -- what stands behind the digits before the point
  tail_passes : (f : Form) (fraction : Option (List ℕ)) (power : Option Power) → IsInteger f → is_fraction fraction ≡ true → is_power power ≡ true
      → Ended f (fraction_text fraction ++ power_text power)
  tail_passes f None power is h k = power_passes f power (integer_ended f is) (integer_letter f is) k
  tail_passes f (Some ds) power is h k =
      let rest = power_passes form.Fraction power refl fraction_letter k in
      record {
        last = rest.last;
        ended = rest.ended;
        passes = passes_both (0x2E ∷ ds) (power_text power) f form.Fraction rest.last (fraction_passes f ds is h) rest.passes;
      }

  whole_passes_by : (d : ℕ) (ds : List ℕ) (t : Bool) → cond t (is_empty ds) (is_digit d && are_digits ds) ≡ true
      → Passes (cond t form.Zero form.Integer) ds (cond t form.Zero form.Integer)
  whole_passes_by d [] true h = passes_none form.Zero
  whole_passes_by d (e ∷ ds) true h = absurd (true≢false (sym h))
  whole_passes_by d ds false h = passes_digits form.Integer integer_digit ds (and_parts (is_digit d) (are_digits ds) h).1

  -- the digits before the point behind the first
  whole_passes : (d : ℕ) (ds : List ℕ) → is_whole (d ∷ ds) ≡ true → Passes (first_form d) ds (first_form d)
  whole_passes d ds h = whole_passes_by d ds (d == 0x30) h

  -- all behind the first digit
  behind_passes : (d : ℕ) (ds : List ℕ) (fraction : Option (List ℕ)) (power : Option Power) → is_whole (d ∷ ds) ≡ true → is_fraction fraction ≡ true
      → is_power power ≡ true → Ended (first_form d) (ds ++ (fraction_text fraction ++ power_text power))
  behind_passes d ds fraction power h k l =
      let rest = tail_passes (first_form d) fraction power (first_is_integer d) k l in
      record {
        last = rest.last;
        ended = rest.ended;
        passes = passes_both ds (fraction_text fraction ++ power_text power) (first_form d) (first_form d) rest.last (whole_passes d ds h) rest.passes;
      }

whole_digit : (d : ℕ) (ds : List ℕ) → is_whole (d ∷ ds) ≡ true → is_digit d ≡ true
whole_digit d ds h = by (d == 0x30) refl h
  where
    by : (t : Bool) → (d == 0x30) ≡ t → cond t (is_empty ds) (is_digit d && are_digits ds) ≡ true → is_digit d ≡ true
    by true e k = ap is_digit (eqb-true d 0x30 e)
    by false e k = (and_parts (is_digit d) (are_digits ds) k).0

-- ---- a number is told when it has ended

module _ (deepest : ℕ) (name : Option Span) (around : List Open) (items : List Item) (start : ℕ) where
  told_at_end : (n : ℕ) (f : Form) → is_ended f ≡ true
      → ended n (counting deepest name around items start f) ≡ ended n (counted deepest name around items start n)
  unfolding number_ended
  told_at_end n f h =
      ap (λ t. ended_by n (settled_by n (counting deepest name around items start f) (cond t (Some (record { start = start; form = f })) None))) h

  no_more : (b : ℕ) (f : Form) → is_ended f ≡ true → AtEnd b → form_behind f b ≡ None
  no_more b form.Minus h ends = absurd (true≢false (sym h))
  no_more b form.Zero h ends = ends.zero
  no_more b form.Integer h ends = ends.integer
  no_more b form.Point h ends = absurd (true≢false (sym h))
  no_more b form.Fraction h ends = ends.fraction
  no_more b form.Exponent h ends = absurd (true≢false (sym h))
  no_more b form.Sign h ends = absurd (true≢false (sym h))
  no_more b form.Power h ends = ends.power

  number_told : (more : List ℕ) (at : ℕ) (f : Form) → is_ended f ≡ true → Follows more
      → outcome deepest at more (counting deepest name around items start f) ≡ outcome deepest at more (counted deepest name around items start at)
  number_told [] at f h follows =
      let here : at + 0 ≡ at = omega arith in
      ap (λ n. ended n (counting deepest name around items start f)) here
      ∙ (told_at_end at f h ∙ ap (λ n. ended n (counted deepest name around items start at)) (sym here))
  number_told (b ∷ more) at f h ends =
      ap (ended_behind (at + length (b ∷ more)))
      (run_step deepest at b more (counting deepest name around items start f)
      ∙ (ap (goes_on deepest (suc at) more) (ends_step deepest name around items start at b f (no_more b f h ends) h)
      ∙ sym (run_step deepest at b more (counted deepest name around items start at))))

-- ---- whole numbers

module _ (deepest : ℕ) (m : Mode) (ready : Ready deepest m) (name : Option Span) (around : List Open) (items : List Item) (at : ℕ) where
  minus_begins : step deepest at 0x2D (state m name around items) ≡ Ok (state (number at form.Minus) name around items)
  unfolding value_begun plain_begun act
  minus_begins = ready at 0x2D name around items refl refl refl

  -- A number's bytes lead to where it may end.
  ended_of : (minus : Bool) (whole : List ℕ) (fraction : Option (List ℕ)) (power : Option Power) → is_whole whole ≡ true → is_fraction fraction ≡ true
      → is_power power ≡ true → (f : Form) × (is_ended f ≡ true) × ((more : List ℕ)
      → run deepest at ((minus_text minus ++ (whole ++ (fraction_text fraction ++ power_text power))) ++ more) (state m name around items)
      ≡ run deepest (at + length (minus_text minus ++ (whole ++ (fraction_text fraction ++ power_text power)))) more (counting deepest name around items at f))
  ended_of minus [] fraction power h k l = absurd (true≢false (sym h))
  ended_of true (d ∷ ds) fraction power h k l =
      let rest = behind_passes deepest name around items at d ds fraction power h k l in
      let others = ds ++ (fraction_text fraction ++ power_text power) in (
        rest.last,
        rest.ended,
        λ more. one deepest at 0x2D (d ∷ others ++ more) _ (counting deepest name around items at form.Minus) minus_begins
            ∙ (one deepest (at + 1) d (others ++ more) _ _
            (passes_step deepest name around items at (at + 1) d form.Minus (first_form d) (minus_digit d (whole_digit d ds h)))
            ∙ (rest.passes (at + 1 + 1) more ∙ moved deepest (at + 1 + 1 + length others) _ more _ (omega arith))),
      )
  ended_of false (d ∷ ds) fraction power h k l =
      let rest = behind_passes deepest name around items at d ds fraction power h k l in
      let others = ds ++ (fraction_text fraction ++ power_text power) in (
        rest.last,
        rest.ended,
        λ more. one deepest at d (others ++ more) _ (counting deepest name around items at (first_form d))
            (digit_begins deepest m ready name around items at d (whole_digit d ds h))
            ∙ (rest.passes (at + 1) more ∙ moved deepest (at + 1 + length others) _ more _ (omega arith)),
      )

  pub number_is_read : (n : Number) (more : List ℕ) → is_number n ≡ true → Follows more
      → outcome deepest at (number_text n ++ more) (state m name around items)
      ≡ outcome deepest (at + length (number_text n)) more
      (state mode.Behind None around (items ++ item kinds.Number name (span at (at + length (number_text n))) 0 ∷ []))
  number_is_read n more h follows =
      let parts = and_parts (is_whole n.whole) (is_fraction n.fraction && is_power n.power) h in
      let others = and_parts (is_fraction n.fraction) (is_power n.power) parts.1 in
      let read = ended_of n.minus n.whole n.fraction n.power parts.0 others.0 others.1 in
      leads_on deepest at (number_text n) more (state m name around items) (counting deepest name around items at read.0) (read.2 more)
      ∙ number_told deepest name around items at more (at + length (number_text n)) read.0 read.1 follows
