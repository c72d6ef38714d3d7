-- Values beside one another.
use Rattle.std.proofs.Common.{◌≡◌, ℕ, min, zero, suc, List, [], ◌∷◌, length, take, drop, refl, sym, ap, ◌∙◌, arith}
use Rattle.std.proofs.Math.Nat.{zero-min, suc-min-suc}
use Rattle.std.proofs.lemmas.List.{take_min}
use Rattle.json_reading.specs.declared.item.Item.{Item}
use Rattle.invoice_data.specs.Parts.{parts_behind, parts, part}

parts_dropped : (n : ℕ) (items : List Item) → parts_behind n items ≡ parts_behind 0 (drop n items)
parts_dropped zero [] = refl
parts_dropped (suc n) [] = refl
parts_dropped zero (i ∷ items) = refl
parts_dropped (suc n) (i ∷ items) = parts_dropped n items

-- so many behind the least of a number and the length are so many behind the number
parts_min : (n : ℕ) (items : List Item) → parts_behind (min n (length items)) items ≡ parts_behind n items
parts_min n [] = elim n [ zero ↦ refl | suc n ↦ refl ]
parts_min zero (i ∷ items) = ap (λ n. parts_behind n (i ∷ items)) (zero-min (length (i ∷ items)))
parts_min (suc n) (i ∷ items) = ap (λ n. parts_behind n (i ∷ items)) (suc-min-suc n (length items)) ∙ parts_min n items

pub parts_taken : (i : Item) (items : List Item) → parts (i ∷ items) ≡ part i (take i.inside items) ∷ parts (drop i.inside items)
unfolding parts
parts_taken i items = ap (λ ps. part i (take i.inside items) ∷ ps) (parts_dropped i.inside items)

pub parts_none : (items : List Item) → length items ≡ 0 → parts items ≡ []
unfolding parts
parts_none [] h = refl
parts_none (i ∷ items) h = absurd (omega arith)

pub parts_split : (i : Item) (items inside next : List Item)
    → inside ≡ take (min i.inside (length items)) items → next ≡ drop (min i.inside (length items)) items
    → parts (i ∷ items) ≡ part i inside ∷ parts next
unfolding parts
parts_split i items inside next a b =
    ap (λ ps. part i (take i.inside items) ∷ ps) (sym (parts_min i.inside items) ∙ (parts_dropped (min i.inside (length items)) items ∙ ap (parts_behind 0) (sym b)))
    ∙ ap (λ taken. part i taken ∷ parts_behind 0 next) (sym (a ∙ take_min i.inside items))
