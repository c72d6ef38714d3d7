-- A loop over the characters of a text.
use Rattle.std.proofs.Common.{◌≡◌, ℕ, suc, ◌+◌, ◌<◌, List, ◌∷◌, length, drop, get_or, sym, ap, ◌∙◌, add-one}
use Rattle.std.proofs.Math.Seq.{drop-cons}

-- at its place the text goes on with the character that the loop reads there
pub goes_on : {X : Type 0} (text : List X) (i : ℕ) (x : X) → i < length text → x ≡ get_or text i x → drop i text ≡ x ∷ drop (i + 1) text
goes_on text i x h e = drop-cons text i x h ∙ (let k : i + 1 ≡ suc i = add-one i in ap (λ m. get_or text i x ∷ drop m text) (sym k)) ∙
    ap (λ y. y ∷ drop (i + 1) text) (sym e)
