-- What is read of a number is in the grammar: what may still come behind what was read last.
use Rattle.std.proofs.Common.{◌≡◌, ℕ, Bool, true, false, cond, ◌==◌, ◌&&◌, List, [], ◌∷◌, ◌++◌, Option, Some, None, refl, ap, sym, ◌∙◌, subst, true≢false}
use Rattle.std.proofs.lemmas.Bool.{and_from, eqb-true}
use Rattle.json_reading.specs.declared.mode.Form.{Form}
use Rattle.json_reading.specs.declared.mode.Form.TheVariants as form
use Rattle.json_reading.specs.Bytes.{is_digit, is_exponent, is_sign}
use Rattle.json_reading.specs.Numbers.{form_behind, is_whole as is_ended, integer_begun, form_begun, digit_to, exponent_begun, behind_zero}
use Rattle.json_grammar.specs.Numbers.{Power, Number, minus_text, fraction_text, sign_text, power_text, number_text, are_digits, is_empty, some_digits}
use Rattle.json_grammar.specs.Numbers.{is_whole}
use Rattle.json_grammar.specs.Numbers.{is_fraction, is_sign_if_any, is_power, is_number}

-- a whole number, its fraction and its exponent
pub record IsWhole (w : List ℕ) : Type 0 where
  whole : List ℕ
  fraction : Option (List ℕ)
  power : Option Power
  digits : is_whole whole ≡ true
  point : is_fraction fraction ≡ true
  exponent : is_power power ≡ true
  spelled : w ≡ whole ++ (fraction_text fraction ++ power_text power)

-- the same where digits have begun
pub record IsDigits (w : List ℕ) : Type 0 where
  whole : List ℕ
  fraction : Option (List ℕ)
  power : Option Power
  digits : are_digits whole ≡ true
  point : is_fraction fraction ≡ true
  exponent : is_power power ≡ true
  spelled : w ≡ whole ++ (fraction_text fraction ++ power_text power)

-- a fraction and an exponent
pub record IsTail (w : List ℕ) : Type 0 where
  fraction : Option (List ℕ)
  power : Option Power
  point : is_fraction fraction ≡ true
  exponent : is_power power ≡ true
  spelled : w ≡ fraction_text fraction ++ power_text power

-- the digits of a fraction by a test, and an exponent
pub record IsFraction (test : List ℕ → Bool) (w : List ℕ) : Type 0 where
  digits : List ℕ
  power : Option Power
  point : test digits ≡ true
  exponent : is_power power ≡ true
  spelled : w ≡ digits ++ power_text power

-- the rest of an exponent
pub record IsSigned (w : List ℕ) : Type 0 where
  sign : Option ℕ
  digits : List ℕ
  signed : is_sign_if_any sign ≡ true
  some : some_digits digits ≡ true
  spelled : w ≡ sign_text sign ++ digits

-- what may still come of a number
abbrev pub IsRest : Form → List ℕ → Type 0
IsRest form.Minus w = IsWhole w
IsRest form.Zero w = IsTail w
IsRest form.Integer w = IsDigits w
IsRest form.Point w = IsFraction some_digits w
IsRest form.Fraction w = IsFraction are_digits w
IsRest form.Exponent w = IsSigned w
IsRest form.Sign w = some_digits w ≡ true
IsRest form.Power w = are_digits w ≡ true

abbrev pub IsRestOf : Option Form → List ℕ → Type 0
IsRestOf (Some f) w = IsRest f w
IsRestOf None w = ⊥

-- nothing more where the number may end
pub rest_ended : (f : Form) → is_ended f ≡ true → IsRest f []
rest_ended form.Minus h = absurd (true≢false (sym h))
rest_ended form.Zero h = record { fraction = None; power = None; point = refl; exponent = refl; spelled = refl }
rest_ended form.Integer h = record { whole = []; fraction = None; power = None; digits = refl; point = refl; exponent = refl; spelled = refl }
rest_ended form.Point h = absurd (true≢false (sym h))
rest_ended form.Fraction h = record { digits = []; power = None; point = refl; exponent = refl; spelled = refl }
rest_ended form.Exponent h = absurd (true≢false (sym h))
rest_ended form.Sign h = absurd (true≢false (sym h))
rest_ended form.Power h = refl

-- by a test
choose : (w : List ℕ) (P : Type 0) (t : Bool) (x y : Option Form) → (t ≡ true → IsRestOf x w → P) → (t ≡ false → IsRestOf y w → P)
    → IsRestOf (cond t x y) w → P
choose w P true x y f g h = f refl h
choose w P false x y f g h = g refl h

digit_rest : (f : Form) (b : ℕ) (w : List ℕ) (P : Type 0) → (is_digit b ≡ true → IsRest f w → P) → IsRestOf (digit_to f b) w → P
digit_rest f b w P k = choose w P (is_digit b) (Some f) None k (λ e h. absurd h)

whole_rest : (b : ℕ) (w : List ℕ) → IsRestOf (integer_begun b) w → IsWhole (b ∷ w)
whole_rest b w =
    choose w (IsWhole (b ∷ w)) (b == 0x30) (Some form.Zero) (digit_to form.Integer b)
    (λ e h. record {
      whole = b ∷ [];
      fraction = h.fraction;
      power = h.power;
      digits = ap (λ t. cond t true (is_digit b && true)) e;
      point = h.point;
      exponent = h.exponent;
      spelled = ap (λ x. b ∷ x) h.spelled;
    })
    (λ e. digit_rest form.Integer b w (IsWhole (b ∷ w)) (λ d h. record {
      whole = b ∷ h.whole;
      fraction = h.fraction;
      power = h.power;
      digits = ap (λ t. cond t (is_empty h.whole) (is_digit b && are_digits h.whole)) e ∙ and_from (is_digit b) (are_digits h.whole) d h.digits;
      point = h.point;
      exponent = h.exponent;
      spelled = ap (λ x. b ∷ x) h.spelled;
    }))

-- an exponent behind its letter
power_rest : (b : ℕ) (w : List ℕ) (P : Type 0) → ((p : Power) → is_power (Some p) ≡ true → b ∷ w ≡ power_text (Some p) → P)
    → IsRestOf (exponent_begun b) w → P
power_rest b w P k =
    choose w P (is_exponent b) (Some form.Exponent) None
    (λ e h. k (record { letter = b; sign = h.sign; digits = h.digits })
    (and_from (is_exponent b) (is_sign_if_any h.sign && some_digits h.digits) e (and_from (is_sign_if_any h.sign) (some_digits h.digits) h.signed h.some))
    (ap (λ x. b ∷ x) h.spelled))
    (λ e h. absurd h)

tail_rest : (b : ℕ) (w : List ℕ) → IsRestOf (behind_zero b) w → IsTail (b ∷ w)
tail_rest b w =
    choose w (IsTail (b ∷ w)) (b == 0x2E) (Some form.Point) (exponent_begun b)
    (λ e h. record {
      fraction = Some h.digits;
      power = h.power;
      point = h.point;
      exponent = h.exponent;
      spelled = ap (λ c. c ∷ w) (eqb-true b 0x2E e) ∙ ap (λ x. 0x2E ∷ x) h.spelled;
    })
    (λ e. power_rest b w (IsTail (b ∷ w)) (λ p h s. record { fraction = None; power = Some p; point = refl; exponent = h; spelled = s }))

-- one byte more
pub rest_more : (f : Form) (b : ℕ) (w : List ℕ) → IsRestOf (form_behind f b) w → IsRest f (b ∷ w)
unfolding form_behind
rest_more form.Minus b w = whole_rest b w
rest_more form.Zero b w = tail_rest b w
rest_more form.Integer b w =
    choose w (IsDigits (b ∷ w)) (is_digit b) (Some form.Integer) (behind_zero b)
    (λ e h. record {
      whole = b ∷ h.whole;
      fraction = h.fraction;
      power = h.power;
      digits = and_from (is_digit b) (are_digits h.whole) e h.digits;
      point = h.point;
      exponent = h.exponent;
      spelled = ap (λ x. b ∷ x) h.spelled;
    })
    (λ e h. let t = tail_rest b w h in record {
      whole = [];
      fraction = t.fraction;
      power = t.power;
      digits = refl;
      point = t.point;
      exponent = t.exponent;
      spelled = t.spelled;
    })
rest_more form.Point b w =
    digit_rest form.Fraction b w (IsFraction some_digits (b ∷ w)) (λ d h. record {
      digits = b ∷ h.digits;
      power = h.power;
      point = and_from (is_digit b) (are_digits h.digits) d h.point;
      exponent = h.exponent;
      spelled = ap (λ x. b ∷ x) h.spelled;
    })
rest_more form.Fraction b w =
    choose w (IsFraction are_digits (b ∷ w)) (is_digit b) (Some form.Fraction) (exponent_begun b)
    (λ d h. record {
      digits = b ∷ h.digits;
      power = h.power;
      point = and_from (is_digit b) (are_digits h.digits) d h.point;
      exponent = h.exponent;
      spelled = ap (λ x. b ∷ x) h.spelled;
    })
    (λ e. power_rest b w (IsFraction are_digits (b ∷ w)) (λ p h s. record { digits = []; power = Some p; point = refl; exponent = h; spelled = s }))
rest_more form.Exponent b w =
    choose w (IsSigned (b ∷ w)) (is_sign b) (Some form.Sign) (digit_to form.Power b)
    (λ e h. record { sign = Some b; digits = w; signed = e; some = h; spelled = refl })
    (λ e. digit_rest form.Power b w (IsSigned (b ∷ w)) (λ d h. record {
      sign = None;
      digits = b ∷ w;
      signed = refl;
      some = and_from (is_digit b) (are_digits w) d h;
      spelled = refl;
    }))
rest_more form.Sign b w = digit_rest form.Power b w (some_digits (b ∷ w) ≡ true) (λ d h. and_from (is_digit b) (are_digits w) d h)
rest_more form.Power b w = digit_rest form.Power b w (are_digits (b ∷ w) ≡ true) (λ d h. and_from (is_digit b) (are_digits w) d h)

-- a number of the grammar, by its bytes
pub record IsNumber (w : List ℕ) : Type 0 where
  pub number : Number
  pub made : is_number number ≡ true
  pub spelled : w ≡ number_text number

numbered : (minus : Bool) (w : List ℕ) → IsWhole w → IsNumber (minus_text minus ++ w)
numbered minus w h = record {
  number = record { minus = minus; whole = h.whole; fraction = h.fraction; power = h.power };
  made = and_from (is_whole h.whole) (is_fraction h.fraction && is_power h.power) h.digits
      (and_from (is_fraction h.fraction) (is_power h.power) h.point h.exponent);
  spelled = ap (λ x. minus_text minus ++ x) h.spelled;
}

-- What begins as a number is one, with the rest.
pub number_begun : (b : ℕ) (w : List ℕ) → IsRestOf (form_begun b) w → IsNumber (b ∷ w)
number_begun b w =
    choose w (IsNumber (b ∷ w)) (b == 0x2D) (Some form.Minus) (integer_begun b)
    (λ e h. subst (λ c. IsNumber (c ∷ w)) (sym (eqb-true b 0x2D e)) (numbered true w h))
    (λ e h. numbered false (b ∷ w) (whole_rest b w h))
