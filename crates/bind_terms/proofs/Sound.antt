-- What the rows of a table pick are nodes of the document, and each pick has the number of its row.
use Rattle.std.proofs.Common.{◌≡◌, ℕ, suc, ◌+◌, ◌<◌, Bool, true, false, not, List, [], ◌∷◌, length, map, filter, flat_map, All, Option, Some, None, is_some}
use Rattle.std.proofs.Common.{option_map, refl, sym, ap, ◌∙◌, subst, arith}
use Rattle.std.specs.Prelude.{◌||◌, ◌==◌, is_none, slice_get, option_and_then}
use Rattle.std.specs.Option.{ForSome}
use Rattle.std.proofs.lemmas.Option.{same_Some}
use Rattle.std.proofs.lemmas.List.Elements.{All-nil, All-cons, All-head, All-tail, All-append, All-map, All-filter, All-weaker, All-from_get_or}
use Rattle.inv_base.specs.declared.tree.Kind.TheVariants as kinds
use Rattle.inv_base.specs.Tree.{Node}
use Rattle.term_table.specs.declared.groups.Group.{Group}
use Rattle.node_arena.specs.Moves.{is_child, is_attribute_of}
use Rattle.node_arena.proofs.FoundLemmas.{AreInOrder}
use Rattle.bind_rows.specs.declared.names.Leaf.{Leaf}
use Rattle.bind_rows.specs.declared.names.Leaf.TheVariants as leaves
use Rattle.bind_rows.specs.declared.rows.Step.{Step}
use Rattle.bind_rows.specs.declared.rows.Row.{Row}
use Rattle.bind_rows.specs.Same.{same_or_none}
use Rattle.bind_meaning.specs.declared.picked.Picked.{Picked}
use Rattle.bind_meaning.specs.declared.picked.Seated.{Seated}
use Rattle.bind_meaning.specs.Names.{has_element_name, has_plain_name}
use Rattle.bind_meaning.specs.Elements.{number, both, children_named, attributes_named, is_blank_at, are_met, met}
use Rattle.bind_meaning.specs.Picks.{Pick, ways, last_of, filled, leaves_of, picks_of_way, nodes_picked, Numbered, numbered, rows_where, all_picked}
use Rattle.bind_meaning.specs.Picks.{without_placeholders, is_placeholder, carrier, carrier_in, has_any_term}
use Rattle.bind_meaning.specs.Currencies.{Currencies, is_in_its_currency, in_their_currencies}
use Rattle.bind_meaning.specs.Kept.{kept, kept_placed, all_kept, all_kept_placed}
use Rattle.bind_meaning.specs.Seats.{placed, outer_at, inner_at, inner_within}
use Rattle.bind_meaning.specs.Terms.{in_order, term_picks, place_all}
use Rattle.bind_terms.specs.Steps.{row_numbered, IsOfRow, IsPickOfRow, IsWithin}

-- ---- lists joined

pub all-flat_map : {X Y : Type 0} (P : Y → Type 0) (Q : X → Type 0) (f : X → List Y) → ((x : X) → Q x → All P (f x)) → (xs : List X) → All Q xs
    → All P (flat_map f xs)
all-flat_map P Q f h [] all = All-nil P
all-flat_map P Q f h (x ∷ xs) all = All-append P (f x) (flat_map f xs) (h x (All-head Q x xs all)) (all-flat_map P Q f h xs (All-tail Q x xs all))

abbrev any_of : {X : Type 0} → X → Type 0
any_of x = Unit {0}

all-any : {X : Type 0} (xs : List X) → All any_of xs
all-any xs k d h = tt

for-none : {X : Type 0} (P : X → Type 0) → ForSome None P
for-none P x e = absurd (let k : None ≡ Some x = e in cc)

for-some : {X : Type 0} (P : X → Type 0) (x : X) → P x → ForSome (Some x) P
for-some P x p y e = subst P (same_Some _ _ e) p

module _ (nodes : List Node) (order : AreInOrder nodes) (some : 0 < length nodes) where
  abbrev below : ℕ → Type 0
  below n = n < length nodes

  numbers-below : All (λ (node : Node). node.number < length nodes) nodes
  numbers-below = All-from_get_or (λ (node : Node). node.number < length nodes) nodes
      (record { number = 0; kind = kinds.Document; name = None; above = []; text = [] })
      (λ k h. subst below (sym (order k h)) h)

  filtered-below : (p : Node → Bool) → All below (map number (filter p nodes))
  filtered-below p = All-map below number (filter p nodes) (All-filter p (λ (node : Node). node.number < length nodes) nodes numbers-below)

  met-below : (step : Step) (n : ℕ) → All below (met nodes step n)
  met-below step n = All-filter (are_met nodes step.guards) below (children_named nodes step.name n)
      (filtered-below (both (is_child n) (has_element_name step.name)))

  ways-below : (path : List Step) (n : ℕ) → All (All below) (ways nodes path n)
  ways-below [] n = All-cons (All below) [] [] (All-nil below) (All-nil (All below))
  ways-below (step ∷ path) n =
      all-flat_map (All below) below (λ m. map (λ way. m ∷ way) (ways nodes path m))
      (λ m h. All-map (All below) (λ way. m ∷ way) (ways nodes path m)
      (All-weaker (All below) (λ way. All below (m ∷ way)) (λ way k. All-cons below m way h k) (ways nodes path m) (ways-below path m)))
      (met nodes step n) (met-below step n)

  last-below : (way : List ℕ) → All below way → below (last_of way)
  last-below [] h = some
  last-below (n ∷ []) h = All-head below n [] h
  last-below (n ∷ (m ∷ ns)) h = last-below (m ∷ ns) (All-tail below n (m ∷ ns) h)

  leaves-below : (leaf : Leaf) (n : ℕ) → below n → All below (leaves_of nodes leaf n)
  leaves-below leaves.Element n h = All-filter (λ m. not (is_blank_at nodes m)) below (n ∷ []) (All-cons below n [] h (All-nil below))
  leaves-below (leaves.Attribute local) n h =
      all-flat_map below any_of (λ m. filled nodes (attributes_named nodes local m))
      (λ m k. All-filter (λ j. not (is_blank_at nodes j)) below (attributes_named nodes local m)
      (filtered-below (both (is_attribute_of m) (has_plain_name local))))
      (filled nodes (n ∷ [])) (all-any (filled nodes (n ∷ [])))

  module _ (rows : List Row) where
    -- the pick's node and elements are the document's, and its number is its row's
    pub record IsSound (pick : Pick) : Type 0 where
      pub node : pick.node < length nodes
      pub elements : All below pick.elements
      pub of_row : row_numbered rows pick.place ≡ Some pick.row

    way-sound : (k : ℕ) (row : Row) → row_numbered rows k ≡ Some row → (way : List ℕ) → All below way → All IsSound (picks_of_way nodes k row way)
    way-sound k row e way h =
        All-map IsSound (λ n. record { place = k; row = row; elements = way; node = n }) (leaves_of nodes row.leaf (last_of way))
        (All-weaker below (λ n. IsSound (record { place = k; row = row; elements = way; node = n })) (λ n b. record { node = b; elements = h; of_row = e })
        (leaves_of nodes row.leaf (last_of way))
        (leaves-below row.leaf (last_of way) (last-below way h)))

    row-sound : (k : ℕ) (row : Row) → row_numbered rows k ≡ Some row → All IsSound (nodes_picked nodes k row)
    row-sound k row e = all-flat_map IsSound (All below) (picks_of_way nodes k row) (way-sound k row e) (ways nodes row.path 0) (ways-below row.path 0)

    abbrev is_numbered : Numbered → Type 0
    is_numbered r = row_numbered rows r.place ≡ Some r.row

    numbered-from : (k j : ℕ) (rest : List Row) → k ≡ suc j → ((i : ℕ) → slice_get rest i ≡ slice_get rows (j + i)) → All is_numbered (numbered k rest)
    numbered-from k j [] e h = All-nil is_numbered
    numbered-from k j (row ∷ rest) e h =
        All-cons is_numbered (record { place = k; row = row }) (numbered (k + 1) rest)
        (ap (row_numbered rows) e ∙ (ap (slice_get rows) (let z : j ≡ j + 0 = omega arith in z) ∙ sym (h 0)))
        (numbered-from (k + 1) (suc j) rest (omega (arith, e)) (λ i. h (suc i) ∙ ap (slice_get rows) (let z : j + suc i ≡ suc j + i = omega arith in z)))

    picked-sound : (test : Row → Bool) → All IsSound (all_picked nodes (rows_where test rows))
    picked-sound test =
        all-flat_map IsSound is_numbered (λ (r : Numbered). nodes_picked nodes r.place r.row) (λ r e. row-sound r.place r.row e) (rows_where test rows)
        (All-filter (λ (r : Numbered). test r.row) is_numbered (numbered 1 rows)
        (numbered-from 1 0 rows refl (λ i. ap (slice_get rows) (let z : i ≡ 0 + i = omega arith in z))))

    ordered-sound : (picks : List Pick) → All IsSound picks → All IsSound (in_order nodes picks)
    ordered-sound picks h =
        all-flat_map IsSound any_of (λ (node : Node). filter (λ (pick : Pick). pick.node == node.number) picks)
        (λ node k. All-filter (λ (pick : Pick). pick.node == node.number) IsSound picks h) nodes (all-any nodes)

    pub terms-sound : (c : Currencies) → All IsSound (term_picks nodes c rows)
    terms-sound c =
        let all = all_picked nodes (rows_where has_any_term rows) in
        ordered-sound (in_their_currencies nodes c (without_placeholders nodes all))
        (All-filter (is_in_its_currency nodes c) IsSound (without_placeholders nodes all)
        (All-filter (λ pick. not (is_placeholder nodes all pick)) IsSound all (picked-sound has_any_term)))

    pub rows-sound : (test : Row → Bool) → All IsSound (in_order nodes (all_picked nodes (rows_where test rows)))
    rows-sound test = ordered-sound (all_picked nodes (rows_where test rows)) (picked-sound test)

    pub unordered-sound : (test : Row → Bool) → All IsSound (all_picked nodes (rows_where test rows))
    unordered-sound test = picked-sound test

    -- ---- as the code has them

    carrier-below : (group : Group) (path : List Step) (way : List ℕ) → All below way → ForSome (carrier group path way) below
    carrier-below group [] way h = for-none below
    carrier-below group (step ∷ path) [] h = for-none below
    carrier-below group (step ∷ path) (n ∷ way) h = go (same_or_none step.group (Some group)) (carrier-below group path way (All-tail below n way h))
      where
        go : (b : Bool) → ForSome (carrier group path way) below → ForSome (elim b [ true ↦ Some n | false ↦ carrier group path way ]) below
        go true k = for-some below n (All-head below n way h)
        go false k = k

    seat-below : (o : Option ℕ) (f : ℕ → Seated) → ((n : ℕ) → (f n).element ≡ n) → ForSome o below
        → ForSome (option_map f o) (λ (s : Seated). s.element < length nodes)
    seat-below None f e h = for-none (λ (s : Seated). s.element < length nodes)
    seat-below (Some n) f e h = for-some (λ (s : Seated). s.element < length nodes) (f n) (subst below (sym (e n)) (h n refl))

    outer-below : (picks : List Pick) (pick : Pick) → IsSound pick → (o : Option Group)
        → ForSome (option_and_then (λ group. option_map (outer_at nodes picks group) (carrier_in pick group)) o) (λ (s : Seated). s.element < length nodes)
    outer-below picks pick h None = for-none (λ (s : Seated). s.element < length nodes)
    outer-below picks pick h (Some group) = seat-below (carrier_in pick group) (outer_at nodes picks group) (λ n. refl)
        (carrier-below group pick.row.path pick.elements h.elements)

    inner-in : (picks : List Pick) (pick : Pick) → IsSound pick → (outer : Group) (n : ℕ) (o : Option Group)
        → ForSome (option_and_then (λ group. option_map (inner_at nodes picks outer n group) (carrier_in pick group)) o)
        (λ (s : Seated). s.element < length nodes)
    inner-in picks pick h outer n None = for-none (λ (s : Seated). s.element < length nodes)
    inner-in picks pick h outer n (Some group) =
        seat-below (carrier_in pick group) (inner_at nodes picks outer n group) (λ m. refl) (carrier-below group pick.row.path pick.elements h.elements)

    inner-then : (picks : List Pick) (pick : Pick) → IsSound pick → (outer : Group) (o : Option ℕ)
        → ForSome (option_and_then (inner_within nodes picks pick outer) o) (λ (s : Seated). s.element < length nodes)
    inner-then picks pick h outer None = for-none (λ (s : Seated). s.element < length nodes)
    inner-then picks pick h outer (Some n) = inner-in picks pick h outer n pick.row.inner

    inner-below : (picks : List Pick) (pick : Pick) → IsSound pick → (o : Option Group)
        → ForSome (option_and_then (λ outer. option_and_then (inner_within nodes picks pick outer) (carrier_in pick outer)) o)
        (λ (s : Seated). s.element < length nodes)
    inner-below picks pick h None = for-none (λ (s : Seated). s.element < length nodes)
    inner-below picks pick h (Some outer) = inner-then picks pick h outer (carrier_in pick outer)

    nested-then : (picks : List Pick) (pick : Pick) (group : Group) (o : Option ℕ)
        → (is_some (option_map (outer_at nodes picks group) o) || is_none (option_and_then (inner_within nodes picks pick group) o)) ≡ true
    nested-then picks pick group None = refl
    nested-then picks pick group (Some n) = refl

    nested-seats : (picks : List Pick) (pick : Pick) (o : Option Group)
        → (is_some (option_and_then (λ group. option_map (outer_at nodes picks group) (carrier_in pick group)) o)
        || is_none (option_and_then (λ outer. option_and_then (inner_within nodes picks pick outer) (carrier_in pick outer)) o)) ≡ true
    nested-seats picks pick None = refl
    nested-seats picks pick (Some group) = nested-then picks pick group (carrier_in pick group)

    pub seated-within : (picks : List Pick) → All IsSound picks → All (IsWithin (length nodes)) (all_kept_placed (place_all nodes picks))
    seated-within picks h =
        All-map (IsWithin (length nodes)) kept_placed (place_all nodes picks)
        (All-map (λ p. IsWithin (length nodes) (kept_placed p)) (placed nodes picks) picks
        (All-weaker IsSound (λ pick. IsWithin (length nodes) (kept_placed (placed nodes picks pick)))
        (λ pick s. record {
          node = s.node;
          outer = outer-below picks pick s pick.row.outer;
          inner = inner-below picks pick s pick.row.outer;
          nested = nested-seats picks pick pick.row.outer;
        }) picks h))

    pub seated-rows : (picks : List Pick) → All IsSound picks → All (IsOfRow rows) (place_all nodes picks)
    seated-rows picks h = All-map (IsOfRow rows) (placed nodes picks) picks
        (All-weaker IsSound (λ pick. IsOfRow rows (placed nodes picks pick)) (λ pick s. s.of_row) picks h)

    pub kept-within : (picks : List Pick) → All IsSound picks → All (λ (p : Picked). p.node < length nodes) (all_kept picks)
    kept-within picks h = All-map (λ (p : Picked). p.node < length nodes) kept picks
        (All-weaker IsSound (λ pick. pick.node < length nodes) (λ pick s. s.node) picks h)

    pub kept-rows : (picks : List Pick) → All IsSound picks → All (IsPickOfRow rows) picks
    kept-rows picks h = All-weaker IsSound (IsPickOfRow rows) (λ pick s. s.of_row) picks h
