-- Texts by their bytes and by their characters.
use Rattle.std.proofs.Common.{◌≡◌, ℕ, List, [], ◌∷◌, ◌++◌, length, take, Bool, true, false, refl, ap, sym, ◌∙◌, arith, ◌⊎◌, inl, inr}
use Rattle.std.specs.Prelude.{◌==◌, bytes_eq, codes, if◌then◌else◌, Result, Ok, Err, is_ok}
use Rattle.std.specs.Str.{chars, IsUtf8}
use Rattle.std.proofs.lemmas.Str.{chars-nil, chars-append, encodes-chars}
use Rattle.std.proofs.lemmas.Slice.Eq.{bytes_eq-Decides}
use Rattle.std.proofs.lemmas.Bool.{false≢true}
use Rattle.std.proofs.lemmas.Bool.Decides.{nat_tests}
use Rattle.std.proofs.lemmas.Grind.{common_steps}
use Rattle.xpath_meaning.specs.Items.{is_empty}
use Rattle.xpath_operators.specs.Texts.{Puts}
use lib.Utf8.{encodes}

bool_cases : (b : Bool) → (b ≡ true) ⊎ (b ≡ false)
bool_cases true = inl refl
bool_cases false = inr refl

pub same_text : (x y : List ℕ) → IsUtf8 x → IsUtf8 y → bytes_eq x y ≡ bytes_eq (chars x) (chars y)
same_text x y u v = elim (bool_cases (bytes_eq x y)) [
  | inl same ↦ same ∙ sym ((bytes_eq-Decides (chars x) (chars y)).1 (ap chars ((bytes_eq-Decides x y).0 same)))
  | inr apart ↦ apart ∙ sym (go (bytes_eq (chars x) (chars y)) refl apart)
]
  where
    go : (b : Bool) → bytes_eq (chars x) (chars y) ≡ b → bytes_eq x y ≡ false → bytes_eq (chars x) (chars y) ≡ false
    go false e apart = e
    go true e apart =
        let same : x ≡ y = sym (encodes-chars x u) ∙ (ap encodes ((bytes_eq-Decides (chars x) (chars y)).0 e) ∙ encodes-chars y v) in
        absurd (false≢true (sym apart ∙ (bytes_eq-Decides x y).1 same))

some_characters : (cs : List ℕ) (b : ℕ) (bs : List ℕ) → encodes cs ≡ b ∷ bs → is_empty cs ≡ false
some_characters [] b bs e = cc
some_characters (c ∷ cs) b bs e = refl

pub no_characters : (s : List ℕ) → IsUtf8 s → (length s == 0) ≡ is_empty (chars s)
no_characters [] u = ap is_empty (sym chars-nil)
no_characters (b ∷ s) u = let e : (length (b ∷ s) == 0) ≡ false = grind (arith, nat_tests) in e ∙
    sym (some_characters (chars (b ∷ s)) b s (encodes-chars (b ∷ s) u))

pub pushed : {E : Type 0} (r : Result (Unit {0}) E) (old new t : List ℕ) → IsUtf8 old → IsUtf8 t → new ≡ (if is_ok r then old ++ t else old) →
    Puts r (chars t) old new
pushed (Ok x) old new t uo ut e = ap chars e ∙ chars-append old t uo
pushed (Err x) old new t uo ut e = e

pub take_front : (xs ys : List ℕ) (n : ℕ) → n ≡ length xs → take n (xs ++ ys) ≡ xs
take_front xs ys n h = grind (arith, common_steps)

-- words of ASCII are their characters

pub chars-true : chars (codes "true") ≡ codes "true"
unfolding chars
chars-true = refl

pub chars-false : chars (codes "false") ≡ codes "false"
unfolding chars
chars-false = refl

pub chars-one : chars (codes "1") ≡ codes "1"
unfolding chars
chars-one = refl

pub chars-zero : chars (codes "0") ≡ codes "0"
unfolding chars
chars-zero = refl

pub ruleset words = (chars-true, chars-false, chars-one, chars-zero)
