-- A text is blank exactly where it is without the white space around it.
use Rattle.std.proofs.Common.{◌≡◌, ℕ, Bool, true, false, cond, List, [], ◌∷◌, refl, ap, ◌∙◌}
use Rattle.std.specs.Prelude.{◌&&◌}
use Rattle.std.proofs.lemmas.Bool.{and_left}
use Rattle.inv_base.specs.Characters.{is_white_space}
use Rattle.inv_terms.specs.Values.{is_blank, without_leading, without_trailing, trimmed}

leading-at : (c : ℕ) (text : List ℕ) (b : Bool) → is_white_space c ≡ b → is_blank (without_leading text) ≡ is_blank text
    → is_blank (cond b (without_leading text) (c ∷ text)) ≡ (b && is_blank text)
leading-at c text true e later = later
leading-at c text false e later = and_left (is_white_space c) (is_blank text) e

blank-leading : (text : List ℕ) → is_blank (without_leading text) ≡ is_blank text
blank-leading [] = refl
blank-leading (c ∷ text) = leading-at c text (is_white_space c) refl (blank-leading text)

trailing-at : (c : ℕ) (text : List ℕ) (b : Bool) → (is_white_space c && is_blank text) ≡ b → is_blank (without_trailing text) ≡ is_blank text
    → is_blank (cond b [] (c ∷ without_trailing text)) ≡ b
trailing-at c text true e later = refl
trailing-at c text false e later = ap (λ b. is_white_space c && b) later ∙ e

blank-trailing : (text : List ℕ) → is_blank (without_trailing text) ≡ is_blank text
blank-trailing [] = refl
blank-trailing (c ∷ text) = trailing-at c text (is_white_space c && is_blank text) refl (blank-trailing text)

pub blank-trimmed : (text : List ℕ) → is_blank (trimmed text) ≡ is_blank text
blank-trimmed text = blank-trailing (without_leading text) ∙ blank-leading text
