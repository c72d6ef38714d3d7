-- The occurrences by marks are those of the definition.
use Rattle.std.proofs.Common.{◌≡◌, ℕ, ◌+◌, ◌<◌, ◌^◌, zero, suc, Bool, true, false, ◌&&◌, ◌||◌, List, [], ◌∷◌, length, Option, Some, None, refl, sym, ap, subst}
use Rattle.std.proofs.Common.{◌∙◌, inl, inr, arith}
use Rattle.std.specs.Prelude.{◌==◌, filter, flat_map, option_map, option_and_then, Ok, slice_get}
use Rattle.std.specs.List.{All}
use Rattle.std.specs.Option.{ForSome}
use Rattle.std.proofs.lemmas.Bool.{cases_Bool}
use Rattle.std.proofs.lemmas.Bool.Decides.{nat_tests}
use Rattle.std.proofs.lemmas.List.Elements.{All-nil, All-cons, All-weaker, All-filter}
use Rattle.inv_base.specs.Tree.{Node, is_among}
use Rattle.term_table.specs.declared.groups.Group.{Group}
use Rattle.term_table.specs.declared.groups.Group.TheVariants as groups
use Rattle.term_table.specs.Groups.{same_group}
use Rattle.bind_rows.specs.declared.rows.Step.{Step}
use Rattle.bind_rows.specs.declared.rows.Row.{Row}
use Rattle.bind_rows.specs.Same.{same_or_none}
use Rattle.bind_table.specs.WellFormed.{first_fault}
use Rattle.bind_meaning.specs.declared.picked.Picked.{Picked}
use Rattle.bind_meaning.specs.declared.picked.Seated.{Seated}
use Rattle.bind_meaning.specs.declared.picked.PlacedPick.{PlacedPick}
use Rattle.bind_meaning.specs.Picks.{Pick, carrier, carrier_in}
use Rattle.bind_meaning.specs.Seats.{is_of_outer, is_of_inner, listed, outer_elements, is_inside_of, inner_elements, place_among, outer_at, inner_at, placed}
use Rattle.bind_meaning.specs.Kept.{kept, all_kept, kept_placed, all_kept_placed}
use Rattle.bind_meaning.specs.Terms.{place_all}
use Rattle.bind_seats.specs.declared.marks.Mark.{Mark}
use Rattle.bind_seats.specs.Marks.{same_mark, has_mark, place_of}
use Rattle.bind_seats.specs.Rowed.{row_at, IsRowed}
use Rattle.bind_seats.specs.Occurrences.{group_mark, outer_mark, inner_mark, outer_marks, inner_marks, seat_at, outer_seat_of, inner_seat_of, seated, IsSeated}
use Rattle.bind_seats.proofs.ListLemmas.{passes, any-filter_map, any-map, any-alike, any-filter, among-flat_map, map-alike, map-twice, All-flat_map}
use Rattle.bind_seats.specs.Nodes.{Sound}
use Rattle.bind_seats.proofs.WayLemmas.{IsWay}
use Rattle.bind_seats.proofs.NumberLemmas.{place-is}
use Rattle.bind_seats.proofs.PlaceholderLemmas.{IsPick, row-is}
use Rattle.bind_seats.proofs.GroupLemmas.{StepLaw, same_group-is, nested-row}

-- ---- elements of groups are nodes

abbrev carrier_by : ℕ → Option ℕ → Bool → Option ℕ
carrier_by n rest b = elim b [ true ↦ Some n | false ↦ rest ]

carrier-within : (nodes : List Node) (group : Group) (path : List Step) (m : ℕ) (way : List ℕ) (n : ℕ) → IsWay nodes m way → carrier group path way ≡ Some n
    → n < length nodes
carrier-within nodes group [] m way n w h = absurd (let bad : None ≡ Some n = h in cc)
carrier-within nodes group (step ∷ path) m [] n w h = absurd (let bad : None ≡ Some n = h in cc)
carrier-within nodes group (step ∷ path) m (k ∷ way) n w h = elim (cases_Bool (same_or_none step.group (Some group))) [
  | inl e ↦ (let found : Some k ≡ Some n = sym (ap (carrier_by k (carrier group path way)) e) ∙ h in let same : k ≡ n = cc in
      subst (λ x. x < length nodes) same w.0.0)
  | inr e ↦ carrier-within nodes group path k way n w.1 (sym (ap (carrier_by k (carrier group path way)) e) ∙ h)
]

in-within : (nodes : List Node) (rows : List Row) (p : Pick) (group : Group) (n : ℕ) → IsPick nodes rows p → carrier_in p group ≡ Some n → n < length nodes
in-within nodes rows p group n is h = carrier-within nodes group p.row.path 0 p.elements n is.placed.way h

listed-within : (nodes : List Node) (rows : List Row) (p : Pick) (group : Group) → IsPick nodes rows p
    → All (λ k. k < length nodes) (listed (carrier_in p group))
listed-within nodes rows p group is = go (carrier_in p group) refl
  where
    go : (o : Option ℕ) → carrier_in p group ≡ o → All (λ k. k < length nodes) (listed o)
    go None e = All-nil (λ k. k < length nodes)
    go (Some n) e = All-cons (λ k. k < length nodes) n [] (in-within nodes rows p group n is e) (All-nil (λ k. k < length nodes))

elements-within : (nodes : List Node) (rows : List Row) (ps : List Pick) → All (IsPick nodes rows) ps → (test : Pick → Bool) (group : Group)
    → All (λ k. k < length nodes) (flat_map (λ p. listed (carrier_in p group)) (filter test ps))
elements-within nodes rows ps h test group =
    All-flat_map (λ k. k < length nodes) (λ p. listed (carrier_in p group)) (filter test ps)
    (All-weaker (IsPick nodes rows) (λ p. All (λ k. k < length nodes) (listed (carrier_in p group))) (λ p is. listed-within nodes rows p group is)
    (filter test ps)
    (All-filter test (IsPick nodes rows) ps h))

-- ---- kept picks are of the table and of nodes with numbers of 32 bits

few-in : (nodes : List Node) (rows : List Row) (p : Pick) → length nodes < 2 ^ 32 → IsPick nodes rows p → (o : Option Group)
    → ForSome (option_and_then (carrier_in p) o) (λ n. n + 1 < 2 ^ 32)
few-in nodes rows p few is None = λ n e. absurd (let bad : None ≡ Some n = e in cc)
few-in nodes rows p few is (Some group) = λ n e. let l = in-within nodes rows p group n is e in omega arith

slice-short : {X : Type 0} (xs : List X) (i : ℕ) (x : X) → slice_get xs i ≡ Some x → i < length xs
slice-short [] i x h = absurd (let bad : None ≡ Some x = h in cc)
slice-short (y ∷ xs) zero x h = omega arith
slice-short (y ∷ xs) (suc i) x h = let l = slice-short xs i x h in omega arith

pub kept-rowed : (nodes : List Node) (rows : List Row) (p : Pick) → length nodes < 2 ^ 32 → IsPick nodes rows p → IsRowed (length rows) (kept p)
kept-rowed nodes rows p few is =
    let place = is.of_row.place in
    let l = slice-short rows is.of_row.at p.row is.of_row.row in
    record { row = omega arith; within = omega arith; outer = few-in nodes rows p few is p.row.outer; inner = few-in nodes rows p few is p.row.inner }

-- ---- marks of outer groups

same-outer : (g : Group) (n k : ℕ) → same_mark (group_mark 0 g n) (group_mark 0 g k) ≡ (n == k)
same-outer g n k = grind (arith, nat_tests)

other-kind : (g h : Group) (w v n k : ℕ) → same_group h g ≡ false → same_mark (group_mark w g n) (group_mark v h k) ≡ false
other-kind g h w v n k e = grind (arith, nat_tests)

or-none : (b : Bool) → b ≡ (b || false)
or-none true = refl
or-none false = refl

outer-point : StepLaw → (p : Pick) (g : Group) (n : ℕ) (o : Option Group)
    → passes (same_mark (group_mark 0 g n)) (option_and_then (λ h. option_map (group_mark 0 h) (option_and_then (carrier_in p) o)) o)
    ≡ (same_or_none o (Some g) && is_among n (listed (carrier_in p g)))
outer-point law p g n None = refl
outer-point law p g n (Some h) = elim (cases_Bool (same_group h g)) [
  | inl e ↦ (let same : h ≡ g = same_group-is law h g e in
      rw e (ap (λ (x : Group). passes (same_mark (group_mark 0 g n)) (option_map (group_mark 0 x) (carrier_in p x))) same ∙ own (carrier_in p g)))
  | inr e ↦ rw e (other e (carrier_in p h))
]
  where
    own : (c : Option ℕ) → passes (same_mark (group_mark 0 g n)) (option_map (group_mark 0 g) c) ≡ is_among n (listed c)
    own None = refl
    own (Some k) = same-outer g n k ∙ or-none (n == k)

    other : same_group h g ≡ false → (c : Option ℕ) → passes (same_mark (group_mark 0 g n)) (option_map (group_mark 0 h) c) ≡ false
    other e None = refl
    other e (Some k) = other-kind g h 0 0 n k e

outer-among : StepLaw → (nodes : List Node) (rows : List Row) (ps : List Pick) → All (IsPick nodes rows) ps → (g : Group) (n : ℕ)
    → has_mark (outer_marks rows (all_kept ps)) (group_mark 0 g n) ≡ is_among n (outer_elements ps g)
outer-among law nodes rows ps h g n =
    let test : Mark → Bool = same_mark (group_mark 0 g n) in
    let mark : Picked → Option Mark = λ (q : Picked). outer_mark (row_at rows q.row) q in
    any-filter_map test mark (all_kept ps)
    ∙ (any-map (λ q. passes test (mark q)) kept ps
    ∙ (any-alike (λ p. passes test (mark (kept p))) (λ p. is_of_outer g p && is_among n (listed (carrier_in p g))) ps
    (All-weaker (IsPick nodes rows) (λ p. passes test (mark (kept p)) ≡ (is_of_outer g p && is_among n (listed (carrier_in p g))))
    (λ p is. ap (λ (r : Row). passes test (outer_mark r (kept p))) (row-is rows p is.of_row) ∙ outer-point law p g n p.row.outer) ps h)
    ∙ (sym (any-filter (λ p. is_among n (listed (carrier_in p g))) (is_of_outer g) ps)
    ∙ sym (among-flat_map n (λ p. listed (carrier_in p g)) (filter (is_of_outer g) ps)))))

-- ---- marks of inner groups

-- An inner group is in invoice lines.
abbrev IsNested : Pick → Type 0
IsNested p = (inner : Group) → p.row.inner ≡ Some inner → p.row.outer ≡ Some groups.InvoiceLine

same-inner : (g : Group) (n m k j : ℕ) → same_mark (group_mark n g m) (group_mark k g j) ≡ ((n == k) && (m == j))
same-inner g n m k j = grind (arith, nat_tests)

and-ors : (a b : Bool) → (a && b) ≡ ((a || false) && (b || false))
and-ors true true = refl
and-ors true false = refl
and-ors false true = refl
and-ors false false = refl

and-false : (b : Bool) → false ≡ (b && false)
and-false true = refl
and-false false = refl

inner-point : StepLaw → (p : Pick) (g : Group) (n m : ℕ) (o i : Option Group) → ((h : Group) → i ≡ Some h → o ≡ Some groups.InvoiceLine)
    → passes (same_mark (group_mark n g m)) (option_and_then
    (λ h. option_and_then (λ k. option_map (group_mark k h) (option_and_then (carrier_in p) i)) (option_and_then (carrier_in p) o)) i)
    ≡ ((same_or_none i (Some g) && is_among n (listed (carrier_in p groups.InvoiceLine))) && is_among m (listed (carrier_in p g)))
inner-point law p g n m o None nest = refl
inner-point law p g n m o (Some h) nest =
    ap (λ (x : Option Group). passes (same_mark (group_mark n g m))
    (option_and_then (λ k. option_map (group_mark k h) (carrier_in p h)) (option_and_then (carrier_in p) x))) (nest h refl)
    ∙ elim (cases_Bool (same_group h g)) [
      | inl e ↦ (let same : h ≡ g = same_group-is law h g e in
          rw e (ap (λ (x : Group). passes (same_mark (group_mark n g m))
          (option_and_then (λ k. option_map (group_mark k x) (carrier_in p x)) (carrier_in p groups.InvoiceLine))) same
          ∙ own (carrier_in p groups.InvoiceLine) (carrier_in p g)))
      | inr e ↦ rw e (other e (carrier_in p groups.InvoiceLine) (carrier_in p h))
    ]
  where
    own : (c d : Option ℕ) → passes (same_mark (group_mark n g m)) (option_and_then (λ k. option_map (group_mark k g) d) c)
        ≡ (is_among n (listed c) && is_among m (listed d))
    own None d = refl
    own (Some k) None = and-false ((n == k) || false)
    own (Some k) (Some j) = same-inner g n m k j ∙ and-ors (n == k) (m == j)

    other : same_group h g ≡ false → (c d : Option ℕ) → passes (same_mark (group_mark n g m)) (option_and_then (λ k. option_map (group_mark k h) d) c) ≡ false
    other e None d = refl
    other e (Some k) None = refl
    other e (Some k) (Some j) = other-kind g h n k m j e

inner-among : StepLaw → (nodes : List Node) (rows : List Row) (ps : List Pick) → All (IsPick nodes rows) ps → ((p : Pick) → IsPick nodes rows p → IsNested p)
    → (g : Group) (n m : ℕ)
    → has_mark (inner_marks rows (all_kept ps)) (group_mark n g m) ≡ is_among m (inner_elements ps groups.InvoiceLine n g)
inner-among law nodes rows ps h nest g n m =
    let test : Mark → Bool = same_mark (group_mark n g m) in
    let mark : Picked → Option Mark = λ (q : Picked). inner_mark (row_at rows q.row) q in
    let stands : Pick → Bool = λ p. is_of_inner g p && is_inside_of groups.InvoiceLine n p in
    any-filter_map test mark (all_kept ps)
    ∙ (any-map (λ q. passes test (mark q)) kept ps
    ∙ (any-alike (λ p. passes test (mark (kept p))) (λ p. stands p && is_among m (listed (carrier_in p g))) ps
    (All-weaker (IsPick nodes rows) (λ p. passes test (mark (kept p)) ≡ (stands p && is_among m (listed (carrier_in p g))))
    (λ p is. ap (λ (r : Row). passes test (inner_mark r (kept p))) (row-is rows p is.of_row)
    ∙ inner-point law p g n m p.row.outer p.row.inner (nest p is)) ps h)
    ∙ (sym (any-filter (λ p. is_among m (listed (carrier_in p g))) stands ps) ∙ sym (among-flat_map m (λ p. listed (carrier_in p g)) (filter stands ps)))))

-- ---- seats

option-alike : {X Y : Type 0} (f g : X → Y) (o : Option X) → ((x : X) → f x ≡ g x) → option_map f o ≡ option_map g o
option-alike f g None h = refl
option-alike f g (Some x) h = ap Some (h x)

seat-alike : (g : Group) (n a b : ℕ) → a ≡ b
    → ◌≡◌ {A = Seated} (record { slot = record { group = g; index = a }; element = n }) (record { slot = record { group = g; index = b }; element = n })
seat-alike g n a b e = λ i. record { slot = record { group = g; index = e i }; element = n }

outer-seats : (nodes : List Node) (ps : List Pick) (marks : List Mark)
    → ((g : Group) (n : ℕ) → place_of marks (group_mark 0 g n) ≡ place_among nodes (outer_elements ps g) n)
    → (p : Pick) (o : Option Group)
    → option_and_then (λ g. option_map (seat_at marks 0 g) (option_and_then (carrier_in p) o)) o
    ≡ option_and_then (λ g. option_map (outer_at nodes ps g) (carrier_in p g)) o
outer-seats nodes ps marks h p None = refl
outer-seats nodes ps marks h p (Some g) =
    option-alike (seat_at marks 0 g) (outer_at nodes ps g) (carrier_in p g)
    (λ n. seat-alike g n (place_of marks (group_mark 0 g n)) (place_among nodes (outer_elements ps g) n) (h g n))

inner-seats : (nodes : List Node) (ps : List Pick) (marks : List Mark)
    → ((g : Group) (n m : ℕ) → place_of marks (group_mark n g m) ≡ place_among nodes (inner_elements ps groups.InvoiceLine n g) m)
    → (p : Pick) (o i : Option Group) → ((g : Group) → i ≡ Some g → o ≡ Some groups.InvoiceLine)
    → option_and_then (λ g. option_and_then (λ n. option_map (seat_at marks n g) (option_and_then (carrier_in p) i)) (option_and_then (carrier_in p) o)) i
    ≡ option_and_then (λ outer. option_and_then (λ n. option_and_then (λ g. option_map (inner_at nodes ps outer n g) (carrier_in p g)) i) (carrier_in p outer))
    o
inner-seats nodes ps marks h p None None nest = refl
inner-seats nodes ps marks h p (Some outer) None nest = go (carrier_in p outer)
  where
    go : (c : Option ℕ) → None ≡ option_and_then (λ n. option_and_then (λ g. option_map (inner_at nodes ps outer n g) (carrier_in p g)) None) c
    go None = refl
    go (Some n) = refl
inner-seats nodes ps marks h p None (Some g) nest = absurd (let bad : None ≡ Some groups.InvoiceLine = nest g refl in cc)
inner-seats nodes ps marks h p (Some outer) (Some g) nest =
    let line : Some outer ≡ Some groups.InvoiceLine = nest g refl in
    let is : outer ≡ groups.InvoiceLine = cc in
    go (carrier_in p outer) ∙ ap (λ (x : Group). option_and_then (λ n. option_map (inner_at nodes ps x n g) (carrier_in p g)) (carrier_in p outer)) (sym is)
  where
    go : (c : Option ℕ) → option_and_then (λ n. option_map (seat_at marks n g) (carrier_in p g)) c
        ≡ option_and_then (λ n. option_map (inner_at nodes ps groups.InvoiceLine n g) (carrier_in p g)) c
    go None = refl
    go (Some n) = option-alike (seat_at marks n g) (inner_at nodes ps groups.InvoiceLine n g) (carrier_in p g)
        (λ m. seat-alike g m (place_of marks (group_mark n g m)) (place_among nodes (inner_elements ps groups.InvoiceLine n g) m) (h g n m))

-- What is seated by the marks of picks is seated as the definition says.
pub seated-are : StepLaw → (nodes : List Node) → Sound nodes → (rows : List Row) → first_fault rows ≡ Ok tt → (ps : List Pick) → All (IsPick nodes rows) ps
    → (seats : List PlacedPick)
    → IsSeated rows (all_kept ps) seats → seats ≡ all_kept_placed (place_all nodes ps)
seated-are law nodes s rows formed ps h seats is =
    let nest : (p : Pick) → IsPick nodes rows p → IsNested p = λ p w. nested-row law rows formed w.of_row.at p.row w.of_row.row w.of_row.term in
    let outer_places : (g : Group) (n : ℕ) → place_of is.outers (group_mark 0 g n) ≡ place_among nodes (outer_elements ps g) n =
    λ g n. place-is nodes s.numbered (group_mark 0 g n) is.outers is.outer_order (outer_elements ps g) (elements-within nodes rows ps h (is_of_outer g) g)
    (λ x. is.outer_same (group_mark 0 g x) ∙ outer-among law nodes rows ps h g x) in
    let inner_places : (g : Group) (n m : ℕ) → place_of is.inners (group_mark n g m) ≡ place_among nodes (inner_elements ps groups.InvoiceLine n g) m =
    λ g n m. place-is nodes s.numbered (group_mark n g m) is.inners is.inner_order (inner_elements ps groups.InvoiceLine n g)
    (elements-within nodes rows ps h (λ p. is_of_inner g p && is_inside_of groups.InvoiceLine n p) g)
    (λ x. is.inner_same (group_mark n g x) ∙ inner-among law nodes rows ps h nest g n x) in
    is.seats_are
    ∙ (map-twice (seated rows is.outers is.inners) kept ps
    ∙ (map-alike (λ p. seated rows is.outers is.inners (kept p)) (λ p. kept_placed (placed nodes ps p)) ps
    (All-weaker (IsPick nodes rows) (λ p. seated rows is.outers is.inners (kept p) ≡ kept_placed (placed nodes ps p))
    (λ p w. ap (λ (r : Row). record {
      node = p.node;
      row = p.place;
      outer = outer_seat_of is.outers r (kept p);
      inner = inner_seat_of is.inners r (kept p);
    })
    (row-is rows p w.of_row)
    ∙ (λ i. record {
      node = p.node;
      row = p.place;
      outer = outer-seats nodes ps is.outers outer_places p p.row.outer i;
      inner = inner-seats nodes ps is.inners inner_places p p.row.outer p.row.inner (nest p w) i;
    })) ps h)
    ∙ sym (map-twice kept_placed (placed nodes ps) ps)))
