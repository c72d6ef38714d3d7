-- Parts one behind the other.
use Rattle.std.proofs.Common.{◌≡◌, ℕ, Bool, ◌||◌, List, ◌∷◌, ◌++◌, ap, sym, ◌∙◌, append_assoc}
use Rattle.page_tables.specs.Tables.{Part}
use Rattle.page_values.specs.Places.{Place}
use Rattle.page_values.specs.Parts.{stands, part_text, parts_behind}

pub parts-next : (place : Place) (b b' : Bool) (p : Part) (ps xs : List Part) (done whole : List ℕ) → xs ≡ p ∷ ps → b' ≡ (b || stands place p)
    → done ++ parts_behind b place xs ≡ whole → (done ++ part_text b place p) ++ parts_behind b' place ps ≡ whole
parts-next place b b' p ps xs done whole is next so_far =
    append_assoc done (part_text b place p) (parts_behind b' place ps)
    ∙ (ap (λ x. done ++ (part_text b place p ++ parts_behind x place ps)) next ∙ (ap (λ ys. done ++ parts_behind b place ys) (sym is) ∙ so_far))
