-- The codes of BT-8, found one after another.
use Rattle.std.proofs.Common.{◌≡◌, ℕ, Bool, true, false, List, [], ◌∷◌, Option, Some, None, Result, Ok, Err, IfOk, refl, sym, ap, ◌∙◌}
use Rattle.std.specs.Prelude.{nat_lt, codes, bytes_eq}
use Rattle.std.specs.List.{list_all}
use Rattle.std.specs.Str.{chars, IsAscii}
use Rattle.std.proofs.lemmas.Bool.{ltb-true}
use Rattle.std.proofs.lemmas.Str.{chars-IsAscii}
use Rattle.std.proofs.lemmas.Str.Ascii.{IsAscii-nil, IsAscii-cons}
use Rattle.inv_terms.specs.declared.values.Value.{Value}
use Rattle.inv_terms.specs.declared.values.Value.TheVariants as values
use Rattle.bind_meaning.specs.Values.{images, image_among}
use Rattle.term_table.proofs.GroupLemmas.{both}

ascii : (bytes : List ℕ) → list_all (λ b. nat_lt b 128) bytes ≡ true → IsAscii bytes
ascii [] e = IsAscii-nil
ascii (b ∷ bytes) e = let parts = both (nat_lt b 128) (list_all (λ b. nat_lt b 128) bytes) e in
    IsAscii-cons b bytes (ltb-true b 128 parts.0) (ascii bytes parts.1)

-- a literal's characters
pub literal : (bytes : List ℕ) → list_all (λ b. nat_lt b 128) bytes ≡ true → chars bytes ≡ bytes
literal bytes h = chars-IsAscii bytes (ascii bytes h)

-- The text is that of the literal, or isn't.
pub written : (bytes text : List ℕ) (b c : Bool) → list_all (λ b. nat_lt b 128) bytes ≡ true → c ≡ bytes_eq (chars bytes) text → c ≡ b → bytes_eq bytes text ≡ b
written bytes text b c plain h k = ap (λ x. bytes_eq x text) (sym (literal bytes plain)) ∙ (sym h ∙ k)

found : {E : Type 0} (r : Result (Option Value) E) (code : List ℕ) (o : Option Value) → list_all (λ b. nat_lt b 128) code ≡ true → o ≡ Some (values.Code code)
    → IfOk r (λ value. value ≡ Some (values.Code (chars code))) → IfOk r (λ value. value ≡ o)
found (Ok value) code o plain e h = h ∙ (ap (λ x. Some (values.Code x)) (literal code plain) ∙ sym e)
found (Err e) code o plain k h = tt

pub first-image : {E : Type 0} (r : Result (Option Value) E) (text : List ℕ) → bytes_eq (codes "5") text ≡ true
    → IfOk r (λ value. value ≡ Some (values.Code (chars (codes "3")))) → IfOk r (λ value. value ≡ image_among images text)
first-image r text a h = found r (codes "3") (image_among images text) refl (rw a refl) h

pub second-image : {E : Type 0} (r : Result (Option Value) E) (text : List ℕ) → bytes_eq (codes "5") text ≡ false → bytes_eq (codes "29") text ≡ true
    → IfOk r (λ value. value ≡ Some (values.Code (chars (codes "35")))) → IfOk r (λ value. value ≡ image_among images text)
second-image r text a b h = found r (codes "35") (image_among images text) refl (rw (a, b) refl) h

pub third-image : {E : Type 0} (r : Result (Option Value) E) (text : List ℕ) → bytes_eq (codes "5") text ≡ false → bytes_eq (codes "29") text ≡ false
    → bytes_eq (codes "72") text ≡ true
    → IfOk r (λ value. value ≡ Some (values.Code (chars (codes "432")))) → IfOk r (λ value. value ≡ image_among images text)
third-image r text a b c h = found r (codes "432") (image_among images text) refl (rw (a, b, c) refl) h

pub no-image : (text : List ℕ) → bytes_eq (codes "5") text ≡ false → bytes_eq (codes "29") text ≡ false → bytes_eq (codes "72") text ≡ false
    → None ≡ image_among images text
no-image text a b c = rw (a, b, c) refl
