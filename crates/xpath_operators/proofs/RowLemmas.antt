-- Many items beside many others.
use Rattle.std.proofs.Common.{◌≡◌, ℕ, suc, zero, ◌+◌, ◌<◌, ◌≤◌, Bool, true, false, List, [], ◌∷◌, length, get_or, map, Result, Ok, Err, is_ok, refl, ap, sym}
use Rattle.std.proofs.Common.{subst, ◌∙◌, arith, ⊎_elim, inl, inr, ◌⊎◌}
use Rattle.std.specs.Prelude.{◌||◌, ◌&&◌, ◌==◌, cond}
use Rattle.std.specs.List.{list_any, list_all}
use Rattle.std.specs.List.Sorted.{IsSorted, IsBinarySearchResult, IsSearchInRange, IsPermutation}
use Rattle.std.specs.Ordering.{is_eq, is_lt, is_gt, is_le, is_ge, is_ne, ordering_reverse, ordering_then, nat_cmp, int_cmp, bool_cmp}
use Rattle.std.specs.Cmp.Lexicographic.{slice_cmp}
use Rattle.std.specs.Cmp.{alike_right, tied_itself}
use Rattle.std.specs.declared.cmp.Ordering.{Ordering}
use Rattle.std.specs.declared.cmp.Ordering.TheVariants.{Less, Equal, Greater}
use Rattle.std.proofs.lemmas.List.Sorted.{searchable_from_sorted, list_any-IsPermutation}
use Rattle.std.proofs.lemmas.List.Folds.{list_any_at}
use Rattle.std.proofs.lemmas.Bool.{false≢true, cases_lt, and_parts, or_cases, eqb-true}
use Rattle.xpath_grammar.specs.declared.operators.Op.{Op}
use Rattle.xpath_grammar.specs.declared.operators.Op.TheVariants as c
use Rattle.xpath_items.specs.declared.item.Item.{Item}
use Rattle.xpath_items.specs.declared.item.Item.TheVariants as i
use Rattle.xpath_items.specs.declared.outcome.DynError.{DynError}
use Rattle.xpath_meaning.specs.Values.{then_}
use Rattle.xpath_meaning.specs.Comparing.{compare, holds, any_of, some_pair, is_general, beside, read_beside, made_alike, ordering}
use Rattle.xpath_meaning.specs.Reading.{read_boolean, read_day, read_number, number_item, boolean_item, day_item}
use Rattle.xpath_operators.specs.Ranks.{rank, item_cmp, item_cmp_total, has_alike}
use Rattle.xpath_operators.specs.Rows.{is_typed, is_typed_as, is_textual, are_comparable, of_kind, row, rows, holds_of_some, ranked_cmp, is_in, decides}
use Rattle.xpath_operators.specs.Rows.{is_order}
use Rattle.xpath_operators.specs.declared.ranking.Ranked.{Ranked}

-- ---- searching

none_passes : {X : Type 0} (p : X → Bool) (xs : List X) → ((k : ℕ) (d : X) → k < length xs → p (get_or xs k d) ≡ false) → list_any p xs ≡ false
none_passes p [] h = refl
none_passes p (x ∷ xs) h = ap (λ b. b || list_any p xs) (h 0 x (omega arith)) ∙ none_passes p xs (λ k d l. h (suc k) d (omega (arith, l)))

turned : (x y : Item) → is_eq (item_cmp x y) ≡ is_eq (item_cmp y x)
turned x y = ap is_eq (item_cmp_total.antisymm x y) ∙ same (item_cmp y x)
  where
    same : (o : Ordering) → is_eq (ordering_reverse o) ≡ is_eq o
    same Less = refl
    same Equal = refl
    same Greater = refl

pub searched_is : (ranked : List Ranked) (x : Item) (r : Result ℕ ℕ) → IsSorted ranked_cmp ranked → IsSearchInRange r (length ranked) →
    IsBinarySearchResult (λ k. item_cmp k.item.now x) ranked r → is_ok r ≡ is_in ranked x
searched_is ranked x (Ok k) sorted bound found = go ranked k bound found
  where
    go : (ks : List Ranked) (n : ℕ) → n < length ks → ((d : Ranked) → item_cmp (get_or ks n d).item.now x ≡ Equal) → true ≡ is_in ks x
    go [] n l f = absurd (omega (arith, l))
    go (y ∷ ks) n l f = sym (list_any_at (λ k. is_eq (item_cmp x k.item.now)) (y ∷ ks) n y l (turned x (get_or (y ∷ ks) n y).item.now ∙ ap is_eq (f y)))
searched_is ranked x (Err k) sorted bound found =
    let parts = found (searchable_from_sorted item_cmp_total (λ k. k.item.now) ranked x sorted) in
    sym (none_passes (λ y. is_eq (item_cmp x y.item.now)) ranked (λ n d l. turned x (get_or ranked n d).item.now ∙ ⊎_elim
    (λ (below : n < k). ap is_eq (parts.0 n d (omega arith) below))
    (λ (above : k ≤ n). ap is_eq (parts.1 n d above l))
    (cases_lt n k)))

pub any_mapped : (a : Item) (ks : List Ranked) → is_in ks a ≡ list_any (λ y. is_eq (item_cmp a y)) (map (λ k. k.item.now) ks)
any_mapped a [] = refl
any_mapped a (k ∷ ks) = ap (λ b. is_eq (item_cmp a k.item.now) || b) (any_mapped a ks)

-- what is sorted has the same items
pub sorted_same : (ks sorted : List Ranked) (items : List Item) (a : Item) → IsPermutation ks sorted → map (λ k. k.item.now) ks ≡ items →
    is_in sorted a ≡ list_any (λ y. is_eq (item_cmp a y)) items
sorted_same ks sorted items a p e =
    sym (list_any-IsPermutation (λ k. is_eq (item_cmp a k.item.now)) ks sorted p) ∙ (any_mapped a ks ∙ ap (list_any (λ y. is_eq (item_cmp a y))) e)

-- ---- two items, as a general comparison reads them

then_equal : (o : Ordering) → ordering_then o Equal ≡ o
then_equal Less = refl
then_equal Equal = refl
then_equal Greater = refl

bool_order : (a b : Bool) → bool_cmp a b ≡ item_cmp (i.Boolean a) (i.Boolean b)
bool_order true true = refl
bool_order true false = refl
bool_order false true = refl
bool_order false false = refl

pub assoc : {X Y Z : Type 0} (r : Result X DynError) (f : X → Result Y DynError) (g : Y → Result Z DynError) →
    then_ (then_ r f) g ≡ then_ r (λ x. then_ (f x) g)
assoc (Ok x) f g = refl
assoc (Err x) f g = refl

then_alike : {X Y : Type 0} (r : Result X DynError) (f g : X → Result Y DynError) → ((x : X) → f x ≡ g x) → then_ r f ≡ then_ r g
then_alike (Ok x) f g h = h x
then_alike (Err x) f g h = refl

-- whether the comparison holds of items so read
abbrev held : Op → Item → Item → Result Bool DynError
held op y a = Ok (holds op (item_cmp a y))

-- Beside an item that has a type, one of the same type is compared, and any other isn't.
typed : (op : Op) (a y : Item) → is_typed y ≡ true → then_ (ordering a y) (λ o. Ok (holds op o)) ≡ then_ (of_kind (rank y) a) (held op y)
typed op a (i.Node n) t = absurd (false≢true t)
typed op a (i.Untyped s) t = absurd (false≢true t)
typed op (i.Boolean a) (i.Boolean b) t = ap (λ o. Ok (holds op o)) (bool_order a b)
typed op (i.Number a) (i.Number b) t = ap (λ o. Ok (holds op o)) (sym (then_equal (int_cmp a b)))
typed op (i.String a) (i.String b) t = ap (λ o. Ok (holds op o)) (sym (then_equal (slice_cmp nat_cmp a b)))
typed op (i.Date a) (i.Date b) t = refl
typed op (i.Node a) (i.Boolean b) t = refl
typed op (i.Node a) (i.Number b) t = refl
typed op (i.Node a) (i.String b) t = refl
typed op (i.Node a) (i.Date b) t = refl
typed op (i.Untyped a) (i.Boolean b) t = refl
typed op (i.Untyped a) (i.Number b) t = refl
typed op (i.Untyped a) (i.String b) t = refl
typed op (i.Untyped a) (i.Date b) t = refl
typed op (i.Boolean a) (i.Number b) t = refl
typed op (i.Boolean a) (i.String b) t = refl
typed op (i.Boolean a) (i.Date b) t = refl
typed op (i.Number a) (i.Boolean b) t = refl
typed op (i.Number a) (i.String b) t = refl
typed op (i.Number a) (i.Date b) t = refl
typed op (i.String a) (i.Boolean b) t = refl
typed op (i.String a) (i.Number b) t = refl
typed op (i.String a) (i.Date b) t = refl
typed op (i.Date a) (i.Boolean b) t = refl
typed op (i.Date a) (i.Number b) t = refl
typed op (i.Date a) (i.String b) t = refl

pub typed_beside : (x y : Item) → is_typed y ≡ true → beside x y ≡ Ok y
typed_beside x (i.Node n) t = absurd (false≢true t)
typed_beside x (i.Untyped s) t = absurd (false≢true t)
typed_beside x (i.Boolean b) t = refl
typed_beside x (i.Number z) t = refl
typed_beside x (i.String s) t = refl
typed_beside x (i.Date day) t = refl

abbrev pub by_order : Op → Item × Item → Result Bool DynError
by_order op pair = then_ (ordering pair.0 pair.1) (λ order. Ok (holds op order))

pub general : (op : Op) (x y : Item) → is_general op ≡ true → compare op x y ≡ then_ (made_alike true x y) (by_order op)
unfolding compare
general op x y g = ap (λ b. then_ (made_alike b x y) (by_order op)) g

kind_row : (op : Op) (x y : Item) → is_general op ≡ true → is_typed y ≡ true → compare op x y ≡ then_ (row y x) (held op y)
kind_row op x y g t =
    general op x y g
    ∙ (ap (λ r. then_ (then_ (beside y x) (λ a. then_ r (λ b. Ok (a, b)))) (by_order op)) (typed_beside x y t)
    ∙ (assoc (beside y x) (λ a. Ok (a, y)) (by_order op)
    ∙ (then_alike (beside y x) (λ a. then_ (ordering a y) (λ o. Ok (holds op o))) (λ a. then_ (of_kind (rank y) a) (held op y)) (λ a. typed op a y t)
    ∙ sym (assoc (beside y x) (of_kind (rank y)) (held op y)))))

text_row : (op : Op) (x y : Item) → is_general op ≡ true → is_textual x ≡ true → is_textual y ≡ true → compare op x y ≡ then_ (row y x) (held op y)
text_row op (i.String s) (i.String t) g p q = kind_row op (i.String s) (i.String t) g refl
text_row op (i.Untyped s) (i.String t) g p q = kind_row op (i.Untyped s) (i.String t) g refl
text_row op (i.String s) (i.Untyped t) g p q = general op (i.String s) (i.Untyped t) g ∙ ap (λ o. Ok (holds op o)) (sym (then_equal (slice_cmp nat_cmp s t)))
text_row op (i.Untyped s) (i.Untyped t) g p q = general op (i.Untyped s) (i.Untyped t) g ∙ ap (λ o. Ok (holds op o)) (sym (then_equal (slice_cmp nat_cmp s t)))
text_row op (i.Node n) y g p q = absurd (false≢true p)
text_row op (i.Boolean b) y g p q = absurd (false≢true p)
text_row op (i.Number z) y g p q = absurd (false≢true p)
text_row op (i.Date day) y g p q = absurd (false≢true p)
text_row op (i.String s) (i.Node n) g p q = absurd (false≢true q)
text_row op (i.String s) (i.Boolean b) g p q = absurd (false≢true q)
text_row op (i.String s) (i.Number z) g p q = absurd (false≢true q)
text_row op (i.String s) (i.Date day) g p q = absurd (false≢true q)
text_row op (i.Untyped s) (i.Node n) g p q = absurd (false≢true q)
text_row op (i.Untyped s) (i.Boolean b) g p q = absurd (false≢true q)
text_row op (i.Untyped s) (i.Number z) g p q = absurd (false≢true q)
text_row op (i.Untyped s) (i.Date day) g p q = absurd (false≢true q)

-- Beside items of one kind an item is read alike.

pub beside_alike : (y z : Item) → ((t : List ℕ) → read_beside y t ≡ read_beside z t) → (x : Item) → beside y x ≡ beside z x
beside_alike y z h (i.Untyped t) = h t
beside_alike y z h (i.Node n) = refl
beside_alike y z h (i.Boolean b) = refl
beside_alike y z h (i.Number n) = refl
beside_alike y z h (i.String s) = refl
beside_alike y z h (i.Date day) = refl

-- the kind by which text is read
abbrev pub reads_as : ℕ → List ℕ → Result Item DynError
reads_as kind t = elim (kind == 1) [
  | true ↦ boolean_item (read_boolean t)
  | false ↦ elim (kind == 2) [ true ↦ number_item (read_number t) | false ↦ elim (kind == 4) [ true ↦ day_item (read_day t) | false ↦ Ok (i.String t) ] ]
]

pub reads_by : (y : Item) (t : List ℕ) → read_beside y t ≡ reads_as (rank y) t
reads_by (i.Untyped s) t = refl
reads_by (i.Node n) t = refl
reads_by (i.Boolean b) t = refl
reads_by (i.Number z) t = refl
reads_by (i.String s) t = refl
reads_by (i.Date day) t = refl

same_row : (y z : Item) → rank y ≡ rank z → (x : Item) → row y x ≡ row z x
same_row y z e x =
    ap (λ r. then_ r (of_kind (rank y))) (beside_alike y z (λ t. reads_by y t ∙ (ap (λ k. reads_as k t) e ∙ sym (reads_by z t))) x)
    ∙ ap (λ k. then_ (beside z x) (of_kind k)) e

-- ---- rows

pub any_alike : {X : Type 0} (f g : X → Result Bool DynError) (p : X → Bool) → ((x : X) → p x ≡ true → f x ≡ g x) → (xs : List X) → list_all p xs ≡ true →
    any_of f xs ≡ any_of g xs
any_alike f g p h [] e = refl
any_alike f g p h (x ∷ xs) e =
    let parts = and_parts (p x) (list_all p xs) e in
    ap (λ r. then_ r (λ found. elim found [ true ↦ Ok true | false ↦ any_of f xs ])) (h x parts.0)
    ∙ ap (λ r. then_ (g x) (λ found. elim found [ true ↦ Ok true | false ↦ r ])) (any_alike f g p h xs parts.1)

all_pass : {X : Type 0} (xs : List X) → list_all (λ _. true) xs ≡ true
all_pass [] = refl
all_pass (x ∷ xs) = all_pass xs

any_same : {X : Type 0} (f g : X → Result Bool DynError) → ((x : X) → f x ≡ g x) → (xs : List X) → any_of f xs ≡ any_of g xs
any_same f g h xs = any_alike f g (λ _. true) (λ x e. h x) xs (all_pass xs)

abbrev or_rest : Bool → Result Bool DynError → Result Bool DynError
or_rest b r = elim b [ true ↦ Ok true | false ↦ r ]

ok_or : (b : Bool) (r : Result Bool DynError) (rest : Bool) → r ≡ Ok rest → or_rest b r ≡ Ok (b || rest)
ok_or true r rest h = refl
ok_or false r rest h = h

any_ok : {X : Type 0} (t : X → Bool) (xs : List X) → any_of (λ x. Ok (t x)) xs ≡ Ok (list_any t xs)
any_ok t [] = refl
any_ok t (x ∷ xs) = ok_or (t x) (any_of (λ y. Ok (t y)) xs) (list_any t xs) (any_ok t xs)

-- one item beside some, which it is read for once
row_of_some : (r : Result Item DynError) (t : Item → Item → Bool) (y : Item) (ys : List Item) →
    any_of (λ z. then_ r (λ a. Ok (t a z))) (y ∷ ys) ≡ then_ r (λ a. Ok (list_any (t a) (y ∷ ys)))
row_of_some (Ok a) t y ys = any_ok (t a) (y ∷ ys)
row_of_some (Err error) t y ys = refl

-- Items are compared as in the rows.
abbrev IsRow : Op → Item → Item → Item → Type 0
IsRow op other x y = compare op x y ≡ then_ (row other x) (held op y)

kind_is_row : (op : Op) (other x y : Item) → is_general op ≡ true → is_typed_as (rank other) y ≡ true → IsRow op other x y
kind_is_row op other x y g t =
    let parts = and_parts (is_typed y) (rank y == rank other) t in
    kind_row op x y g parts.0 ∙ ap (λ r. then_ r (held op y)) (same_row y other (eqb-true (rank y) (rank other) parts.1) x)

textual_rank : (y : Item) → is_textual y ≡ true → rank y ≡ 3
textual_rank (i.String s) t = refl
textual_rank (i.Untyped s) t = refl
textual_rank (i.Node n) t = absurd (false≢true t)
textual_rank (i.Boolean b) t = absurd (false≢true t)
textual_rank (i.Number z) t = absurd (false≢true t)
textual_rank (i.Date day) t = absurd (false≢true t)

text_is_row : (op : Op) (other x y : Item) → is_general op ≡ true → is_textual other ≡ true → is_textual x ≡ true → is_textual y ≡ true → IsRow op other x y
text_is_row op other x y g o p q =
    text_row op x y g p q ∙ ap (λ r. then_ r (held op y)) (same_row y other (textual_rank y q ∙ sym (textual_rank other o)) x)

pair_of_kind : (op : Op) (other : Item) (xs : List Item) (y : Item) (ys : List Item) → is_general op ≡ true →
    list_all (is_typed_as (rank other)) (y ∷ ys) ≡ true
    → some_pair op xs (y ∷ ys) ≡ rows other (holds_of_some op (y ∷ ys)) xs
pair_of_kind op other xs y ys g t = any_same
    (λ x. any_of (λ z. compare op x z) (y ∷ ys)) (λ x. then_ (row other x) (λ a. Ok (holds_of_some op (y ∷ ys) a)))
    (λ x. any_alike (λ z. compare op x z) (λ z. then_ (row other x) (held op z)) (is_typed_as (rank other)) (λ z e. kind_is_row op other x z g e) (y ∷ ys) t
    ∙ row_of_some (row other x) (λ a z. holds op (item_cmp a z)) y ys)
    xs

pair_of_texts : (op : Op) (other : Item) (xs : List Item) (y : Item) (ys : List Item) → is_general op ≡ true → is_textual other ≡ true →
    list_all is_textual xs ≡ true → list_all is_textual (y ∷ ys) ≡ true
    → some_pair op xs (y ∷ ys) ≡ rows other (holds_of_some op (y ∷ ys)) xs
pair_of_texts op other xs y ys g o p t = any_alike
    (λ x. any_of (λ z. compare op x z) (y ∷ ys)) (λ x. then_ (row other x) (λ a. Ok (holds_of_some op (y ∷ ys) a))) is_textual
    (λ x q. any_alike (λ z. compare op x z) (λ z. then_ (row other x) (held op z)) is_textual (λ z e. text_is_row op other x z g o q e) (y ∷ ys) t
    ∙ row_of_some (row other x) (λ a z. holds op (item_cmp a z)) y ys)
    xs p

-- Comparable sides are compared row by row.
pub pair_is : (op : Op) (xs : List Item) (y : Item) (ys : List Item) → is_general op ≡ true → are_comparable xs (y ∷ ys) ≡ true →
    some_pair op xs (y ∷ ys) ≡ rows y (holds_of_some op (y ∷ ys)) xs
pair_is op xs y ys g c = ⊎_elim
    (λ (kind : list_all (is_typed_as (rank y)) (y ∷ ys) ≡ true). pair_of_kind op y xs y ys g kind)
    (λ (texts : (list_all is_textual xs && list_all is_textual (y ∷ ys)) ≡ true).
    let parts = and_parts (list_all is_textual xs) (list_all is_textual (y ∷ ys)) texts in
    pair_of_texts op y xs y ys g (and_parts (is_textual y) (list_all is_textual ys) parts.1).0 parts.0 parts.1)
    (or_cases (list_all (is_typed_as (rank y)) (y ∷ ys)) (list_all is_textual xs && list_all is_textual (y ∷ ys)) c)

all_at : (p : Item → Bool) (ys : List Item) (k : ℕ) (d : Item) → k < length ys → list_all p ys ≡ true → p (get_or ys k d) ≡ true
all_at p [] k d l h = absurd (omega (arith, l))
all_at p (y ∷ ys) zero d l h = (and_parts (p y) (list_all p ys) h).0
all_at p (y ∷ ys) (suc k) d l h = all_at p ys k d (omega (arith, l)) (and_parts (p y) (list_all p ys) h).1

-- beside one of the right side
pub beside_one : (op : Op) (xs : List Item) (y : Item) (ys : List Item) (k : ℕ) (z : Item) → is_general op ≡ true → are_comparable xs (y ∷ ys) ≡ true →
    k < length (y ∷ ys) → z ≡ get_or (y ∷ ys) k z
    → any_of (λ x. compare op x z) xs ≡ rows y (λ a. holds op (item_cmp a z)) xs
beside_one op xs y ys k z g c l at = ⊎_elim
    (λ (kind : list_all (is_typed_as (rank y)) (y ∷ ys) ≡ true).
    any_same (λ x. compare op x z) (λ x. then_ (row y x) (held op z))
    (λ x. kind_is_row op y x z g (ap (is_typed_as (rank y)) at ∙ all_at (is_typed_as (rank y)) (y ∷ ys) k z l kind)) xs)
    (λ (texts : (list_all is_textual xs && list_all is_textual (y ∷ ys)) ≡ true).
    let parts = and_parts (list_all is_textual xs) (list_all is_textual (y ∷ ys)) texts in
    any_alike (λ x. compare op x z) (λ x. then_ (row y x) (held op z)) is_textual
    (λ x q. text_is_row op y x z g (and_parts (is_textual y) (list_all is_textual ys) parts.1).0 q
    (ap is_textual at ∙ all_at is_textual (y ∷ ys) k z l parts.1)) xs parts.0)
    (or_cases (list_all (is_typed_as (rank y)) (y ∷ ys)) (list_all is_textual xs && list_all is_textual (y ∷ ys)) c)

pub rows_alike : (other : Item) (s t : Item → Bool) → ((a : Item) → s a ≡ t a) → (xs : List Item) → rows other s xs ≡ rows other t xs
rows_alike other s t h xs = any_same (λ x. then_ (row other x) (λ a. Ok (s a))) (λ x. then_ (row other x) (λ a. Ok (t a)))
    (λ x. then_alike (row other x) (λ a. Ok (s a)) (λ a. Ok (t a)) (λ a. ap Ok (h a))) xs

-- ---- the one that decides

not_greater : (o : Ordering) → is_gt o ≡ false → (o ≡ Less) ⊎ (o ≡ Equal)
not_greater Less h = inl refl
not_greater Equal h = inr refl
not_greater Greater h = absurd (false≢true (sym h))

not_less : (o : Ordering) → is_lt o ≡ false → (o ≡ Greater) ⊎ (o ≡ Equal)
not_less Greater h = inl refl
not_less Equal h = inr refl
not_less Less h = absurd (false≢true (sym h))

back_from : (x y : Item) → item_cmp x y ≡ Greater → item_cmp y x ≡ Less
back_from x y e = item_cmp_total.antisymm y x ∙ ap ordering_reverse e

back_to : (x y : Item) → item_cmp x y ≡ Less → item_cmp y x ≡ Greater
back_to x y e = item_cmp_total.antisymm y x ∙ ap ordering_reverse e

-- a below b, and b not above c
less_upto : (a b c : Item) → item_cmp a b ≡ Less → is_gt (item_cmp b c) ≡ false → item_cmp a c ≡ Less
less_upto a b c l h = ⊎_elim
    (λ (less : item_cmp b c ≡ Less). item_cmp_total.trans a b c l less)
    (λ (tied : item_cmp b c ≡ Equal). sym (alike_right item_cmp_total b c a tied) ∙ l)
    (not_greater (item_cmp b c) h)

upto_less : (a b c : Item) → is_gt (item_cmp a b) ≡ false → item_cmp b c ≡ Less → item_cmp a c ≡ Less
upto_less a b c h l = ⊎_elim
    (λ (less : item_cmp a b ≡ Less). item_cmp_total.trans a b c less l)
    (λ (tied : item_cmp a b ≡ Equal). item_cmp_total.congr a b c tied ∙ l)
    (not_greater (item_cmp a b) h)

-- a above b, and b not below c
greater_from : (a b c : Item) → item_cmp a b ≡ Greater → is_lt (item_cmp b c) ≡ false → item_cmp a c ≡ Greater
greater_from a b c l h = ⊎_elim
    (λ (greater : item_cmp b c ≡ Greater). back_to c a (item_cmp_total.trans c b a (back_from b c greater) (back_from a b l)))
    (λ (tied : item_cmp b c ≡ Equal). sym (alike_right item_cmp_total b c a tied) ∙ l)
    (not_less (item_cmp b c) h)

from_greater : (a b c : Item) → is_lt (item_cmp a b) ≡ false → item_cmp b c ≡ Greater → item_cmp a c ≡ Greater
from_greater a b c h l = ⊎_elim
    (λ (greater : item_cmp a b ≡ Greater). back_to c a (item_cmp_total.trans c b a (back_from b c l) (back_from a b greater)))
    (λ (tied : item_cmp a b ≡ Equal). item_cmp_total.congr a b c tied ∙ l)
    (not_less (item_cmp a b) h)

is_greater : (o : Ordering) → is_gt o ≡ true → o ≡ Greater
is_greater Less h = absurd (false≢true h)
is_greater Equal h = absurd (false≢true h)
is_greater Greater h = refl

is_less : (o : Ordering) → is_lt o ≡ true → o ≡ Less
is_less Less h = refl
is_less Equal h = absurd (false≢true h)
is_less Greater h = absurd (false≢true h)

-- what doesn't decide over one doesn't over another that does
greatest_keeps : (x best k : Item) → is_gt (item_cmp x best) ≡ false → is_gt (item_cmp k best) ≡ true → is_gt (item_cmp x k) ≡ false
greatest_keeps x best k h t = ap is_gt (upto_less x best k h (back_from k best (is_greater (item_cmp k best) t)))

least_keeps : (x best k : Item) → is_lt (item_cmp x best) ≡ false → is_lt (item_cmp k best) ≡ true → is_lt (item_cmp x k) ≡ false
least_keeps x best k h t = ap is_lt (from_greater x best k h (back_to k best (is_less (item_cmp k best) t)))

pub decides_keeps : (op : Op) (x best k : Item) → decides op (item_cmp x best) ≡ false → decides op (item_cmp k best) ≡ true → decides op (item_cmp x k) ≡ false
decides_keeps c.Less x best k = greatest_keeps x best k
decides_keeps c.LessOrEqual x best k = greatest_keeps x best k
decides_keeps _ x best k = least_keeps x best k

pub decides_not : (op : Op) (x : Item) → decides op (item_cmp x x) ≡ false
decides_not c.Less x = ap is_gt (tied_itself item_cmp_total x)
decides_not c.LessOrEqual x = ap is_gt (tied_itself item_cmp_total x)
decides_not _ x = ap is_lt (tied_itself item_cmp_total x)

is_upto : (o : Ordering) → is_le o ≡ true → (o ≡ Less) ⊎ (o ≡ Equal)
is_upto Less h = inl refl
is_upto Equal h = inr refl
is_upto Greater h = absurd (false≢true h)

is_from : (o : Ordering) → is_ge o ≡ true → (o ≡ Greater) ⊎ (o ≡ Equal)
is_from Greater h = inl refl
is_from Equal h = inr refl
is_from Less h = absurd (false≢true h)

le_of : (o : Ordering) → is_gt o ≡ false → is_le o ≡ true
le_of Less h = refl
le_of Equal h = refl
le_of Greater h = absurd (false≢true (sym h))

ge_of : (o : Ordering) → is_lt o ≡ false → is_ge o ≡ true
ge_of Greater h = refl
ge_of Equal h = refl
ge_of Less h = absurd (false≢true (sym h))

-- What holds beside one holds beside the one that decides.
holds_on : (op : Op) → is_order op ≡ true → (a y z : Item) → decides op (item_cmp y z) ≡ false → holds op (item_cmp a y) ≡ true → holds op (item_cmp a z) ≡ true
holds_on c.Less o a y z d h = ap is_lt (less_upto a y z (is_less (item_cmp a y) h) d)
holds_on c.Greater o a y z d h = ap is_gt (greater_from a y z (is_greater (item_cmp a y) h) d)
holds_on c.LessOrEqual o a y z d h = ⊎_elim
    (λ (less : item_cmp a y ≡ Less). ap is_le (less_upto a y z less d))
    (λ (tied : item_cmp a y ≡ Equal). ap is_le (item_cmp_total.congr a y z tied) ∙ le_of (item_cmp y z) d)
    (is_upto (item_cmp a y) h)
holds_on c.GreaterOrEqual o a y z d h = ⊎_elim
    (λ (greater : item_cmp a y ≡ Greater). ap is_ge (greater_from a y z greater d))
    (λ (tied : item_cmp a y ≡ Equal). ap is_ge (item_cmp_total.congr a y z tied) ∙ ge_of (item_cmp y z) d)
    (is_from (item_cmp a y) h)
holds_on c.Equal o a y z d h = absurd (false≢true o)
holds_on c.NotEqual o a y z d h = absurd (false≢true o)
holds_on c.Eq o a y z d h = absurd (false≢true o)
holds_on c.Ne o a y z d h = absurd (false≢true o)
holds_on c.Lt o a y z d h = absurd (false≢true o)
holds_on c.Le o a y z d h = absurd (false≢true o)
holds_on c.Gt o a y z d h = absurd (false≢true o)
holds_on c.Ge o a y z d h = absurd (false≢true o)

orders_general : (op : Op) → is_order op ≡ true → is_general op ≡ true
orders_general c.Less o = refl
orders_general c.Greater o = refl
orders_general c.LessOrEqual o = refl
orders_general c.GreaterOrEqual o = refl
orders_general c.Equal o = refl
orders_general c.NotEqual o = refl
orders_general c.Eq o = absurd (false≢true o)
orders_general c.Ne o = absurd (false≢true o)
orders_general c.Lt o = absurd (false≢true o)
orders_general c.Le o = absurd (false≢true o)
orders_general c.Gt o = absurd (false≢true o)
orders_general c.Ge o = absurd (false≢true o)

false_unless : (b c : Bool) → (b ≡ true → c ≡ true) → c ≡ false → b ≡ false
false_unless true c h e = absurd (false≢true (sym e ∙ h refl))
false_unless false c h e = refl

-- the one that decides holds for all
one_for_all : (op : Op) (ys : List Item) (k : ℕ) (z : Item) → is_order op ≡ true → k < length ys → z ≡ get_or ys k z
    → ((n : ℕ) (d : Item) → n < length ys → decides op (item_cmp (get_or ys n d) z) ≡ false) → (a : Item) → holds op (item_cmp a z) ≡ holds_of_some op ys a
one_for_all op ys k z o l at best a = go (holds op (item_cmp a z)) refl
  where
    go : (b : Bool) → holds op (item_cmp a z) ≡ b → b ≡ holds_of_some op ys a
    go true h = sym (list_any_at (λ y. holds op (item_cmp a y)) ys k z l (ap (λ y. holds op (item_cmp a y)) (sym at) ∙ h))
    go false h = sym (none_passes (λ y. holds op (item_cmp a y)) ys
        (λ n d m. false_unless (holds op (item_cmp a (get_or ys n d))) (holds op (item_cmp a z)) (holds_on op o a (get_or ys n d) z (best n d m)) h))

pub ordered_is : (op : Op) (xs ys : List Item) (k : ℕ) (z : Item) → is_order op ≡ true → are_comparable xs ys ≡ true → k < length ys → z ≡ get_or ys k z
    → ((n : ℕ) (d : Item) → n < length ys → decides op (item_cmp (get_or ys n d) z) ≡ false) → any_of (λ x. compare op x z) xs ≡ some_pair op xs ys
ordered_is op xs [] k z o c l at best = absurd (omega (arith, l))
ordered_is op xs (y ∷ ys) k z o c l at best =
    beside_one op xs y ys k z (orders_general op o) c l at
    ∙ (rows_alike y (λ a. holds op (item_cmp a z)) (holds_of_some op (y ∷ ys)) (one_for_all op (y ∷ ys) k z o l at best) xs
    ∙ sym (pair_is op xs y ys (orders_general op o) c))

-- ---- equal and unequal ones

pub equal_is : (xs ys : List Item) (ranked : List Ranked) (other : Item) → are_comparable xs ys ≡ true → 0 < length ys → other ≡ get_or ys 0 other
    → ((a : Item) → is_in ranked a ≡ list_any (λ y. is_eq (item_cmp a y)) ys) → rows other (is_in ranked) xs ≡ some_pair c.Equal xs ys
equal_is xs [] ranked other both l at same = absurd (omega (arith, l))
equal_is xs (y ∷ ys) ranked other both l at same =
    ap (λ z. rows z (is_in ranked) xs) at ∙ (rows_alike y (is_in ranked) (holds_of_some c.Equal (y ∷ ys)) same xs ∙ sym (pair_is c.Equal xs y ys refl both))

tied_differs : (a y z : Item) → is_eq (item_cmp y z) ≡ true → is_ne (item_cmp a z) ≡ is_ne (item_cmp a y)
tied_differs a y z e = ap is_ne (sym (alike_right item_cmp_total y z a (tied (item_cmp y z) e)))
  where
    tied : (o : Ordering) → is_eq o ≡ true → o ≡ Equal
    tied Less h = absurd (false≢true h)
    tied Equal h = refl
    tied Greater h = absurd (false≢true h)

all_tied : (a y : Item) (zs : List Item) → list_all (λ z. is_eq (item_cmp y z)) zs ≡ true →
    is_ne (item_cmp a y) ≡ (is_ne (item_cmp a y) || list_any (λ z. is_ne (item_cmp a z)) zs)
all_tied a y [] h = sym (or_false (is_ne (item_cmp a y)))
  where
    or_false : (b : Bool) → (b || false) ≡ b
    or_false true = refl
    or_false false = refl
all_tied a y (z ∷ zs) h =
    let parts = and_parts (is_eq (item_cmp y z)) (list_all (λ w. is_eq (item_cmp y w)) zs) h in
    all_tied a y zs parts.1
    ∙ (twice (is_ne (item_cmp a y)) (list_any (λ w. is_ne (item_cmp a w)) zs)
    ∙ ap (λ b. is_ne (item_cmp a y) || (b || list_any (λ w. is_ne (item_cmp a w)) zs)) (sym (tied_differs a y z parts.0)))
  where
    twice : (b c : Bool) → (b || c) ≡ (b || (b || c))
    twice true c = refl
    twice false c = refl

pub alike_is : (xs ys : List Item) (y : Item) → are_comparable xs ys ≡ true → 0 < length ys → y ≡ get_or ys 0 y → list_all (λ z. is_eq (item_cmp y z)) ys ≡ true
    → any_of (λ x. compare c.NotEqual x y) xs ≡ some_pair c.NotEqual xs ys
alike_is xs [] y both l at h = absurd (omega (arith, l))
alike_is xs (z ∷ ys) y both l at h =
    let rest = (and_parts (is_eq (item_cmp z z)) (list_all (λ w. is_eq (item_cmp z w)) ys) (ap (λ v. list_all (λ w. is_eq (item_cmp v w)) (z ∷ ys)) (sym at) ∙
    h)).1 in
    beside_one c.NotEqual xs z ys 0 y refl both l at
    ∙ (rows_alike z (λ a. is_ne (item_cmp a y)) (holds_of_some c.NotEqual (z ∷ ys)) (λ a. ap (λ v. is_ne (item_cmp a v)) at ∙ all_tied a z ys rest) xs
    ∙ sym (pair_is c.NotEqual xs z ys refl both))

or_parts : (b c : Bool) → (b || c) ≡ false → (b ≡ false) × (c ≡ false)
or_parts true c h = absurd (false≢true (sym h))
or_parts false c h = (refl, h)

tied_unless : (o : Ordering) → is_ne o ≡ false → o ≡ Equal
tied_unless Less h = absurd (false≢true (sym h))
tied_unless Equal h = refl
tied_unless Greater h = absurd (false≢true (sym h))

all_from_none : (a y : Item) → item_cmp a y ≡ Equal → (zs : List Item) → list_any (λ z. is_ne (item_cmp a z)) zs ≡ false →
    list_all (λ z. is_eq (item_cmp y z)) zs ≡ true
all_from_none a y e [] h = refl
all_from_none a y e (z ∷ zs) h =
    let parts = or_parts (is_ne (item_cmp a z)) (list_any (λ w. is_ne (item_cmp a w)) zs) h in
    ap (λ o. is_eq o && list_all (λ w. is_eq (item_cmp y w)) zs) (sym (item_cmp_total.congr a y z e) ∙ tied_unless (item_cmp a z) parts.0) ∙
    all_from_none a y e zs parts.1

-- Where not all are equal, each item differs from one of them.
some_differ : (y : Item) (ys : List Item) → list_all (λ z. is_eq (item_cmp y z)) (y ∷ ys) ≡ false → (a : Item) → holds_of_some c.NotEqual (y ∷ ys) a ≡ true
some_differ y ys h a = go (holds_of_some c.NotEqual (y ∷ ys) a) refl
  where
    go : (b : Bool) → holds_of_some c.NotEqual (y ∷ ys) a ≡ b → b ≡ true
    go true e = refl
    go false e =
        let head = (or_parts (is_ne (item_cmp a y)) (list_any (λ w. is_ne (item_cmp a w)) ys) e).0 in
        absurd (false≢true (sym h ∙ all_from_none a y (tied_unless (item_cmp a y) head) (y ∷ ys) e))

decided : (r : Result Item DynError) (s : Item → Bool) (rest : Result Bool DynError) → ((a : Item) → s a ≡ true)
    → then_ r (λ a. Ok (s a)) ≡ then_ (then_ r (λ a. Ok (s a))) (λ found. elim found [ true ↦ Ok true | false ↦ rest ])
decided (Ok a) s rest h = ap Ok (h a) ∙ sym (ap (λ (b : Bool). elim b [ true ↦ Ok true | false ↦ rest ]) (h a))
decided (Err error) s rest h = refl

first_row : (op : Op) (x : Item) (xs : List Item) (y : Item) (ys : List Item) → is_general op ≡ true → are_comparable (x ∷ xs) (y ∷ ys) ≡ true
    → any_of (λ z. compare op x z) (y ∷ ys) ≡ then_ (row y x) (λ a. Ok (holds_of_some op (y ∷ ys) a))
first_row op x xs y ys g c = ⊎_elim
    (λ (kind : list_all (is_typed_as (rank y)) (y ∷ ys) ≡ true).
    any_alike (λ z. compare op x z) (λ z. then_ (row y x) (held op z)) (is_typed_as (rank y)) (λ z e. kind_is_row op y x z g e) (y ∷ ys) kind
    ∙ row_of_some (row y x) (λ a z. holds op (item_cmp a z)) y ys)
    (λ (texts : (list_all is_textual (x ∷ xs) && list_all is_textual (y ∷ ys)) ≡ true).
    let parts = and_parts (list_all is_textual (x ∷ xs)) (list_all is_textual (y ∷ ys)) texts in
    any_alike (λ z. compare op x z) (λ z. then_ (row y x) (held op z)) is_textual
    (λ z e. text_is_row op y x z g (and_parts (is_textual y) (list_all is_textual ys) parts.1).0
    (and_parts (is_textual x) (list_all is_textual xs) parts.0).0 e) (y ∷ ys) parts.1
    ∙ row_of_some (row y x) (λ a z. holds op (item_cmp a z)) y ys)
    (or_cases (list_all (is_typed_as (rank y)) (y ∷ ys)) (list_all is_textual (x ∷ xs) && list_all is_textual (y ∷ ys)) c)

pub unlike_is : (xs ys : List Item) (x y : Item) → are_comparable xs ys ≡ true → 0 < length xs → 0 < length ys → x ≡ get_or xs 0 x → y ≡ get_or ys 0 y →
    list_all (λ z. is_eq (item_cmp y z)) ys ≡ false
    → any_of (λ z. compare c.NotEqual x z) ys ≡ some_pair c.NotEqual xs ys
unlike_is [] ys x y both l m ax ay h = absurd (omega (arith, l))
unlike_is (w ∷ xs) [] x y both l m ax ay h = absurd (omega (arith, m))
unlike_is (w ∷ xs) (z ∷ ys) x y both l m ax ay h =
    let hs : Item → Bool = holds_of_some c.NotEqual (z ∷ ys) in
    ap (λ v. any_of (λ u. compare c.NotEqual v u) (z ∷ ys)) ax
    ∙ (first_row c.NotEqual w xs z ys refl both
    ∙ (decided (row z w) hs (rows z hs xs) (some_differ z ys (ap (λ v. list_all (λ u. is_eq (item_cmp v u)) (z ∷ ys)) (sym ay) ∙ h))
    ∙ sym (pair_is c.NotEqual (w ∷ xs) z ys refl both)))

-- one place further
pub up_to : (op : Op) (items : List Item) (k n : ℕ) (best d : Item) → n < k + 1 → decides op (item_cmp (get_or items k d) best) ≡ false
    → (n < k → decides op (item_cmp (get_or items n d) best) ≡ false) → decides op (item_cmp (get_or items n d) best) ≡ false
up_to op items k n best d l last before = ⊎_elim
    (λ (below : n < k). before below)
    (λ (above : k ≤ n). subst (λ m. decides op (item_cmp (get_or items m d) best) ≡ false) (same n k l above) last)
    (cases_lt n k)
  where
    same : (m j : ℕ) → m < j + 1 → j ≤ m → j ≡ m
    same m j a b = omega (arith, a, b)

pub some_right : (xs ys : List Item) → are_comparable xs ys ≡ true → 0 < length ys
some_right xs [] h = absurd (false≢true h)
some_right xs (y ∷ ys) h = omega arith

-- ---- one item more that is known

or_cond : (b old : Bool) → cond b true old ≡ (old || b)
or_cond true true = refl
or_cond true false = refl
or_cond false true = refl
or_cond false false = refl

pub added_is : (keys grown : List Ranked) (key : Ranked) (item x : Item) (items : List Item) → key.item.now ≡ item → map (λ k. k.item.now) keys ≡ items
    → is_in grown x ≡ cond (is_eq (item_cmp key.item.now x)) true (is_in keys x) →
    has_alike (map (λ k. k.item.now) grown) x ≡ (has_alike items x || is_eq (item_cmp x item))
added_is keys grown key item x items e view updated =
    sym (any_mapped x grown)
    ∙ (updated
    ∙ (or_cond (is_eq (item_cmp key.item.now x)) (is_in keys x)
    ∙ (ap (λ b. b || is_eq (item_cmp key.item.now x)) (any_mapped x keys ∙ ap (λ ys. has_alike ys x) view)
    ∙ ap (λ b. has_alike items x || b) (turned key.item.now x ∙ ap (λ y. is_eq (item_cmp x y)) e))))
