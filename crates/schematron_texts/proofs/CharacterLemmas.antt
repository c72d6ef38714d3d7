-- Characters pushed behind a text.
use Rattle.std.proofs.Common.{◌≡◌, ℕ, suc, ◌+◌, ◌<◌, List, [], ◌∷◌, ◌++◌, length, drop, get_or, refl, ap, sym, ◌∙◌, add-one}
use Rattle.std.specs.Prelude.{Result, Ok, Err, is_ok, OnOk, if◌then◌else◌}
use Rattle.std.specs.Str.{chars, IsUtf8, bytes_eq}
use Rattle.std.specs.Prelude.{encode_utf8_all}
use Rattle.std.proofs.Math.Seq.{drop-cons}
use Rattle.std.proofs.lemmas.List.{append-nil}
use Rattle.std.proofs.lemmas.Bool.Decides.{same_from_decides, Decides-like}
use Rattle.std.proofs.lemmas.Slice.Eq.{bytes_eq-Decides}
use Rattle.std.proofs.lemmas.Str.{chars-nil, chars-append, chars_past_char, encodes-chars}
use lib.Utf8.{encode}

-- texts are equal where their characters are
pub same_text : (a b : List ℕ) → IsUtf8 a → IsUtf8 b → bytes_eq (chars a) (chars b) ≡ bytes_eq a b
same_text a b u v = same_from_decides _ _ (bytes_eq-Decides (chars a) (chars b))
    (Decides-like _ (λ e. ap chars e) (λ e. sym (encodes-chars a u) ∙ (ap encode_utf8_all e ∙ encodes-chars b v)) (bytes_eq-Decides a b))

pub one_character : (c : ℕ) → IsUtf8 (encode c) → chars (encode c) ≡ c ∷ []
one_character c u = ap chars (sym (append-nil (encode c))) ∙
    (chars_past_char (encode c ++ []) [] c (let e : IsUtf8 (encode c ++ []) = rw append-nil u in e) refl ∙ ap (λ x. c ∷ x) chars-nil)

pub character_behind : (old new : List ℕ) (c : ℕ) → IsUtf8 old → IsUtf8 (encode c) → new ≡ old ++ encode c → chars new ≡ chars old ++ c ∷ []
character_behind old new c uo uc e = ap chars e ∙ (chars-append old (encode c) uo ∙ ap (λ x. chars old ++ x) (one_character c uc))

pub character_pushed : {E : Type 0} (r : Result (Unit {0}) E) (old new : List ℕ) (c : ℕ) → IsUtf8 old → IsUtf8 (encode c) →
    new ≡ (if is_ok r then old ++ encode c else old) → OnOk r (chars new ≡ chars old ++ c ∷ [])
character_pushed (Ok x) old new c uo uc e = character_behind old new c uo uc e
character_pushed (Err x) old new c uo uc e = tt

pub text_behind : (old piece new : List ℕ) → IsUtf8 old → new ≡ old ++ piece → chars new ≡ chars old ++ chars piece
text_behind old piece new u e = ap chars e ∙ chars-append old piece u

-- the member at the place, and those behind it
pub rest_at : {X : Type 0} (xs : List X) (k : ℕ) (x : X) → (k < length xs) × (x ≡ get_or xs k x) → drop k xs ≡ x ∷ drop (k + 1) xs
rest_at xs k x h = drop-cons xs k x h.0 ∙ (ap (λ y. y ∷ drop (suc k) xs) (sym h.1) ∙ ap (λ n. x ∷ drop n xs) (sym (add-one k)))
