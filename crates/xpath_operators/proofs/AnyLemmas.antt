-- Going through a list for the first member that decides.
use Rattle.std.proofs.Common.{◌≡◌, ℕ, suc, ◌+◌, ◌<◌, Bool, true, false, List, ◌∷◌, length, drop, get_or, Result, Ok, Err, ap, sym, ◌∙◌, add-one}
use Rattle.std.proofs.Math.Seq.{drop-cons}
use Rattle.xpath_items.specs.declared.outcome.DynError.{DynError}
use Rattle.xpath_meaning.specs.Values.{then_}
use Rattle.xpath_meaning.specs.Comparing.{any_of}

-- the member at the place, and those behind it
pub rest_at : {X : Type 0} (xs : List X) (k : ℕ) (x : X) → k < length xs → x ≡ get_or xs k x → drop k xs ≡ x ∷ drop (k + 1) xs
rest_at xs k x l e = drop-cons xs k x l ∙ (ap (λ y. y ∷ drop (suc k) xs) (sym e) ∙ ap (λ n. x ∷ drop n xs) (sym (add-one k)))

-- what is found in what is left is what is found in all
pub any_passed : {X : Type 0} (f : X → Result Bool DynError) (xs : List X) (k : ℕ) (x : X) → k < length xs → x ≡ get_or xs k x →
    any_of f (drop k xs) ≡ any_of f xs → Ok false ≡ f x → any_of f (drop (k + 1) xs) ≡ any_of f xs
any_passed f xs k x l e h p =
    ap (λ r. then_ r (λ b. elim b [ true ↦ Ok true | false ↦ any_of f (drop (k + 1) xs) ])) p ∙ (sym (ap (any_of f) (rest_at xs k x l e)) ∙ h)

pub any_found : {X : Type 0} (f : X → Result Bool DynError) (xs : List X) (k : ℕ) (x : X) → k < length xs → x ≡ get_or xs k x →
    any_of f (drop k xs) ≡ any_of f xs → Ok true ≡ f x → Ok true ≡ any_of f xs
any_found f xs k x l e h p =
    ap (λ r. then_ r (λ b. elim b [ true ↦ Ok true | false ↦ any_of f (drop (k + 1) xs) ])) p ∙ (sym (ap (any_of f) (rest_at xs k x l e)) ∙ h)

pub any_erred : {X : Type 0} (f : X → Result Bool DynError) (xs : List X) (k : ℕ) (x : X) (error : DynError) → k < length xs → x ≡ get_or xs k x →
    any_of f (drop k xs) ≡ any_of f xs → Err error ≡ f x → Err error ≡ any_of f xs
any_erred f xs k x error l e h p =
    ap (λ r. then_ r (λ b. elim b [ true ↦ Ok true | false ↦ any_of f (drop (k + 1) xs) ])) p ∙ (sym (ap (any_of f) (rest_at xs k x l e)) ∙ h)
