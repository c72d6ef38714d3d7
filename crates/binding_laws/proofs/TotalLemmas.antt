-- The currency beside the amounts that a row picks, and rows that lead to the same elements.
use Rattle.std.proofs.Common.{◌≡◌, ℕ, true, List, [], ◌∷◌, map, inl, inr, sym, ap, ◌∙◌, subst}
use Rattle.inv_base.specs.Tree.{no_more, Node}
use Rattle.inv_terms.specs.declared.entries.Entry.{Entry}
use Rattle.inv_terms.specs.Values.{trimmed}
use Rattle.bind_rows.specs.declared.names.Leaf.TheVariants as leaves
use Rattle.bind_rows.specs.declared.rows.Step.{Step}
use Rattle.bind_rows.specs.declared.rows.Row.{Row}
use Rattle.bind_meaning.specs.Currencies.{currency_id, first_full, amount_currency}
use Rattle.bind_meaning.specs.Elements.{attributes_named, string_at, is_full}
use Rattle.bind_meaning.specs.Picks.{Pick, ways, last_of, leaves_of, picks_of_way, nodes_picked}
use Rattle.bind_meaning.specs.Trees.{with_text}
use Rattle.binding_laws.specs.Written.{values_named}
use Rattle.binding_laws.proofs.TreeLemmas.{Each}
use Rattle.binding_laws.proofs.NodeLemmas.{string-is}
use Rattle.binding_laws.proofs.ListLemmas.{map-map}
use Rattle.binding_laws.proofs.AttributeLemmas.{attributes-are}
use Rattle.binding_laws.proofs.ReachLemmas.{Among}
use Rattle.binding_laws.proofs.RowLemmas.{Place, IsAt, ArePlaced}
use Rattle.binding_laws.proofs.CountLemmas.{each-among}
use Rattle.binding_laws.proofs.PlaceLemmas.{of-flat_map, of-map, of-filter-any}
use Rattle.binding_laws.proofs.GuardLemmas.{text-texts}
use Rattle.binding_laws.proofs.CurrencyLemmas.{IsCurrency, IsOwnCurrency, currency_at, first-currency}

-- a pick of a row is that row's
pub row-of : (nodes : List Node) (k : ℕ) (row : Row) (pick : Pick) → Among pick (nodes_picked nodes k row) → pick.row ≡ row
row-of nodes k row pick m =
    let w = of-flat_map (picks_of_way nodes k row) pick (ways nodes row.path 0) m in
    let v = of-map (λ n. record { place = k; row = row; elements = w.0; node = n }) pick (leaves_of nodes row.leaf (last_of w.0)) w.1.1 in
    sym (ap (λ (x : Pick). x.row) v.1.1)

-- ---- the currency beside an amount

only-one : {X : Type 0} (x y : X) → Among y (x ∷ []) → x ≡ y
only-one x y (inl s) = s
only-one x y (inr z) = absurd z

-- what is picked of an element is in the currency that is written beside it, and its text isn't blank
pub amount-of : (nodes : List Node) (es : List Entry) (place : Place) → IsAt nodes es place → (n : ℕ) →
    Among n (leaves_of nodes leaves.Element (last_of place.way)) → (amount_currency nodes n ≡ currency_at place.spot) × (is_full place.spot.text ≡ true)
amount-of nodes es place at n a =
    let w = of-filter-any (λ x. is_full (string_at nodes x)) n (last_of place.way ∷ []) a in
    let node : last_of place.way ≡ n = only-one (last_of place.way) n w.0 in
    let text : string_at nodes (last_of place.way) ≡ place.spot.text =
    string-is nodes at.above (last_of place.way) at.name place.spot.attributes (with_text place.spot.text no_more) at.more at.lies ∙
    text-texts place.spot.text in (
      sym (ap (λ l. first_full (map trimmed l))
          (sym (attributes-are nodes at.above (last_of place.way) at.name place.spot.attributes
          (with_text place.spot.text no_more) at.more at.lies currency_id))
          ∙ (ap first_full (map-map trimmed (string_at nodes) (attributes_named nodes currency_id (last_of place.way))) ∙
          ap (λ m. first_full (map (λ x. trimmed (string_at nodes x)) (attributes_named nodes currency_id m))) node)),
      ap is_full (sym text) ∙ (ap (λ m. is_full (string_at nodes m)) node ∙ w.1),
    )

-- what is picked at an element on one of the ways of a path that is placed, is in the currency of the invoice, or in none
pub own-amount : (nodes : List Node) (es : List Entry) (path : List Step) (them : List Place) → ArePlaced nodes es path them →
    ((place : Place) → Among place them → Each (IsCurrency es) (values_named currency_id place.spot.attributes))
    → (k : ℕ) (row : Row) → row.leaf ≡ leaves.Element → ways nodes row.path 0 ≡ ways nodes path 0 → (pick : Pick) → Among pick (nodes_picked nodes k row) →
    IsOwnCurrency es (amount_currency nodes pick.node)
own-amount nodes es path them placed currency k row leaf same pick m =
    let w = of-flat_map (picks_of_way nodes k row) pick (ways nodes row.path 0) m in
    let v = of-map (λ (q : Place). q.way) w.0 them (subst (Among w.0) (same ∙ placed.ways_are) w.1.0) in
    let place : Place = v.0 in
    let u = of-map (λ n. record { place = k; row = row; elements = w.0; node = n }) pick (leaves_of nodes row.leaf (last_of w.0)) w.1.1 in
    let at = each-among (IsAt nodes es) place them placed.each v.1.0 in
    let there : Among u.0 (leaves_of nodes leaves.Element (last_of w.0)) = subst (λ l. Among u.0 (leaves_of nodes l (last_of w.0))) leaf u.1.0 in
    let here : Among u.0 (leaves_of nodes leaves.Element (last_of place.way)) =
    subst (λ way. Among u.0 (leaves_of nodes leaves.Element (last_of way))) (sym v.1.1) there in
    let amount : amount_currency nodes pick.node ≡ currency_at place.spot = ap (λ (x : Pick). amount_currency nodes x.node) (sym u.1.1) ∙
    (amount-of nodes es place at u.0 here).0 in
    subst (IsOwnCurrency es) (sym amount) (first-currency es (values_named currency_id place.spot.attributes) (currency place v.1.0))
