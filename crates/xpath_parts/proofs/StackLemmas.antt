-- The stack of turns.
use Rattle.std.proofs.Common.{◌≡◌, List, [], ◌∷◌, ◌++◌, reverse, Some, None, sym, ap, ◌∙◌}
use Rattle.xpath_items.specs.declared.item.Item.{Item}
use Rattle.xpath_parts.specs.Turns.{advanced, TakesFirst}
use Rattle.xpath_parts.proofs.WithinLemmas.{reverse-push}

-- turns that are through are dropped
pub still_advanced : (turns turns' : List (List Item)) (turn turn' : List Item) → turns ≡ turns' ++ turn ∷ [] → TakesFirst turn None turn' →
    advanced (reverse turns) ≡ advanced (reverse turns')
still_advanced turns turns' turn turn' is through =
    ap (λ turns. advanced (reverse turns)) is ∙ (ap advanced (reverse-push turns' turn) ∙ ap (λ turn. advanced (turn ∷ reverse turns')) through)

-- the next item
pub now_advanced : (turns turns' : List (List Item)) (turn turn' : List Item) (item : Item) → turns ≡ turns' ++ turn ∷ [] → TakesFirst turn (Some item) turn'
    → advanced (reverse turns) ≡ Some (item, reverse (turns' ++ turn' ∷ []))
now_advanced turns turns' turn turn' item is next =
    ap (λ turns. advanced (reverse turns)) is ∙ (ap advanced (reverse-push turns' turn) ∙ (ap (λ turn. advanced (turn ∷ reverse turns')) next
    ∙ ap (λ around. Some (item, around)) (sym (reverse-push turns' turn'))))
