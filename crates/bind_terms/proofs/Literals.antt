-- Texts beside literals.
use Rattle.std.proofs.Common.{◌≡◌, ℕ, Bool, true, false, ◌||◌, List, [], ◌∷◌, Result, IfOk, refl, ap, ◌∙◌, subst}
use Rattle.std.specs.Prelude.{nat_lt, codes, bytes_eq}
use Rattle.std.specs.List.{list_all}
use Rattle.std.specs.Str.{chars}
use Rattle.bind_meaning.specs.Elements.{is_one_of}
use Rattle.bind_meaning.specs.Judging.{words}
use Rattle.bind_terms.proofs.Images.{literal}

-- a text compared with a literal
pub same-literal : (r : Bool) (text other code : List ℕ) → list_all (λ b. nat_lt b 128) code ≡ true → r ≡ bytes_eq text (chars code) → text ≡ other
    → r ≡ bytes_eq other code
same-literal r text other code plain h e = h ∙ (ap (bytes_eq text) (literal code plain) ∙ ap (λ x. bytes_eq x code) e)

pub one-false : (b : Bool) → b ≡ (b || false)
one-false true = refl
one-false false = refl

pub first-word : (text : List ℕ) → bytes_eq text (codes "true") ≡ true → true ≡ is_one_of words text
first-word text h = rw h refl

pub second-word : (text : List ℕ) → bytes_eq text (codes "true") ≡ false → bytes_eq text (codes "false") ≡ true → true ≡ is_one_of words text
second-word text h k = rw (h, k) refl

pub later-word : (text : List ℕ) → bytes_eq text (codes "true") ≡ false → bytes_eq text (codes "false") ≡ false
    → is_one_of (codes "1" ∷ codes "0" ∷ []) text ≡ is_one_of words text
later-word text h k = rw (h, k) refl

pub first-number : (text : List ℕ) → bytes_eq text (codes "1") ≡ true → true ≡ is_one_of (codes "1" ∷ codes "0" ∷ []) text
first-number text h = rw h refl

pub second-number : (text : List ℕ) (r : Bool) → bytes_eq text (codes "1") ≡ false → r ≡ bytes_eq text (codes "0")
    → r ≡ is_one_of (codes "1" ∷ codes "0" ∷ []) text
second-number text r h e = e ∙ (one-false (bytes_eq text (codes "0")) ∙ rw h refl)

-- ---- attributes by the literal of their name

pub by-literal : {E : Type 0} (r : Result Bool E) (code : List ℕ) (f : List ℕ → Bool) → list_all (λ b. nat_lt b 128) code ≡ true
    → IfOk r (λ b. b ≡ f (chars code)) → IfOk r (λ b. b ≡ f code)
by-literal r code f plain h = subst (λ x. IfOk r (λ b. b ≡ f x)) (literal code plain) h

pub along : {E : Type 0} (r : Result Bool E) (f g : Bool) → f ≡ g → IfOk r (λ b. b ≡ f) → IfOk r (λ b. b ≡ g)
along r f g e h = subst (λ x. IfOk r (λ b. b ≡ x)) e h
