-- What loops over slices keep.
use Rattle.std.proofs.Common.{◌≡◌, ℕ, ◌+◌, ◌<◌, ◌≤◌, zero, suc, true, ⊎_elim, List, [], ◌∷◌, ◌++◌, length, map, drop, get_or, Some, Result, Ok, Err, OnOk, ap}
use Rattle.std.proofs.Common.{sym, subst, ◌∙◌, append_assoc, append-nil, arith}
use Rattle.std.specs.Prelude.{◌==◌, slice_get, Vec}
use Rattle.std.specs.Vec.{with_items}
use Rattle.std.specs.List.{All, flat_map}
use Rattle.std.proofs.lemmas.Bool.{or_left, or_right, or_cases, eqb-true, eq-eqb, false≢true}
use Rattle.std.proofs.lemmas.List.{drop_more, drop_all, get_or-map, length-map, map-append, with_items_is}
use Rattle.std.proofs.lemmas.List.Elements.{All-push}
use Rattle.std.proofs.lemmas.List.Concat.{flat_map-cons}
use Rattle.std.proofs.lemmas.Option.{get_or_from_slice_get, slice_get_within}
use Rattle.inv_base.specs.Tree.{is_among}
use Rattle.xpath_items.specs.declared.item.Item.{Item}
use Rattle.xpath_operators.specs.Nodes.{IsWithin, AreWithin}
use Rattle.xpath_walks.specs.Order.{node_items}
use Rattle.schematron_run.specs.Firsts.{AreBelow}

pub on_ok : {X E : Type 0} (r : Result X E) {P Q : Type 0} → (P → Q) → OnOk r P → OnOk r Q
on_ok (Ok x) f p = f p
on_ok (Err x) f p = tt

pub drop_item : {X : Type 0} (xs : List X) (i : ℕ) (x : X) → x ≡ get_or xs i x → i < length xs → drop i xs ≡ x ∷ drop (i + 1) xs
drop_item xs i x at l = drop_more xs i x l ∙ ap (λ y. y ∷ drop (i + 1) xs) (sym at)

-- what is found of items, one after the other
pub flat_next-plain : {X Z : Type 0} (f : X → List Z) (xs : List X) (i : ℕ) (x : X) (old new : List Z) {whole : List Z}
    → drop i xs ≡ x ∷ drop (i + 1) xs → new ≡ old ++ f x
    → old ++ flat_map f (drop i xs) ≡ whole → new ++ flat_map f (drop (i + 1) xs) ≡ whole
flat_next-plain f xs i x old new is put h =
    ap (λ zs. zs ++ flat_map f (drop (i + 1) xs)) put
    ∙ (append_assoc old (f x) (flat_map f (drop (i + 1) xs))
    ∙ (ap (λ zs. old ++ zs) (sym (flat_map-cons f x (drop (i + 1) xs)))
    ∙ (ap (λ ys. old ++ flat_map f ys) (sym is) ∙ h)))

pub flat_done-plain : {X Z : Type 0} (f : X → List Z) (xs : List X) (i : ℕ) (old : List Z) {whole : List Z}
    → length xs ≤ i → old ++ flat_map f (drop i xs) ≡ whole → old ≡ whole
flat_done-plain f xs i old l h = sym (append-nil old) ∙ (ap (λ ys. old ++ flat_map f ys) (sym (drop_all i xs l)) ∙ h)

-- what holds of all items that are seen holds of each
pub all_at : {X Y : Type 0} (P : Y → Type 0) (g : X → Y) (xs : List X) (i : ℕ) (x : X) → All P (map g xs) → x ≡ get_or xs i x → i < length xs → P (g x)
all_at P g xs i x h at l =
    subst P (get_or-map g xs i x (g x) l ∙ ap g (sym at)) (h i (g x) (subst (λ n. i < n) (sym (length-map xs g)) l))

pub all_of : {X Y : Type 0} (P : Y → Type 0) (g : X → Y) (xs : List X) (i : ℕ) (x : X) → All P (map g xs) → slice_get xs i ≡ Some x → P (g x)
all_of P g xs i x h e = all_at P g xs i x h (sym (get_or_from_slice_get xs i x x e)) (slice_get_within xs i x e)

-- A list that is made of another one, item by item, is seen as that one.
pub made_next : {X Y Z : Type 0} (f : Y → Z) (g : X → Z) (xs : List X) (i : ℕ) (x : X) (old new : List Y) (y : Y) {whole : List Z}
    → x ≡ get_or xs i x → i < length xs → new ≡ old ++ y ∷ [] → f y ≡ g x
    → map f old ++ map g (drop i xs) ≡ whole → map f new ++ map g (drop (i + 1) xs) ≡ whole
made_next f g xs i x old new y at l put same h =
    ap (λ ys. map f ys ++ map g (drop (i + 1) xs)) put
    ∙ (ap (λ zs. zs ++ map g (drop (i + 1) xs)) (map-append f old (y ∷ []))
    ∙ (append_assoc (map f old) (f y ∷ []) (map g (drop (i + 1) xs))
    ∙ (ap (λ z. map f old ++ z ∷ map g (drop (i + 1) xs)) same
    ∙ (ap (λ ys. map f old ++ map g ys) (sym (drop_item xs i x at l)) ∙ h))))

pub made_end : {X Y Z : Type 0} (f : Y → Z) (g : X → Z) (xs : List X) (i : ℕ) (made : List Y) {whole : List Z}
    → length xs ≤ i → map f made ++ map g (drop i xs) ≡ whole → map f made ≡ whole
made_end f g xs i made l h = sym (append-nil (map f made)) ∙ (ap (λ ys. map f made ++ map g ys) (sym (drop_all i xs l)) ∙ h)

pub all_pushed : {Y : Type 0} (P : Y → Type 0) (old new : List Y) (y : Y) → new ≡ old ++ y ∷ [] → All P old → P y → All P new
all_pushed P old new y put h p = subst (All P) (sym put) (All-push P old y h p)

-- a number at a place is among the numbers
pub among_at : (ns : List ℕ) (i n : ℕ) → n ≡ get_or ns i n → i < length ns → is_among n ns ≡ true
among_at [] i n at l = absurd (omega (arith, l))
among_at (m ∷ ns) zero n at l = or_left (n == m) (is_among n ns) (eq-eqb n m at)
among_at (m ∷ ns) (suc i) n at l = or_right (n == m) (is_among n ns) (among_at ns i n at (omega (arith, l)))

pub below_at : (count : ℕ) (ns : List ℕ) (i n : ℕ) → AreBelow count ns → n ≡ get_or ns i n → i < length ns → n < count
below_at count ns i n h at l = h n (among_at ns i n at l)

pub below_within : (count : ℕ) (ns : List ℕ) → AreWithin count (node_items ns) → AreBelow count ns
below_within count [] h n e = absurd (false≢true e)
below_within count (m ∷ ns) h n e = ⊎_elim
    (λ (here : (n == m) ≡ true). subst (λ k. k < count) (sym (eqb-true n m here)) h.0)
    (λ (there : is_among n ns ≡ true). below_within count ns h.1 n there)
    (or_cases (n == m) (is_among n ns) e)

pub item_at : (count : ℕ) (items : List Item) (i : ℕ) (x : Item) → AreWithin count items → x ≡ get_or items i x → i < length items → IsWithin count x
item_at count [] i x h at l = absurd (omega (arith, l))
item_at count (y ∷ items) zero x h at l = subst (IsWithin count) (sym at) h.0
item_at count (y ∷ items) (suc i) x h at l = item_at count items i x h.1 at (omega (arith, l))

-- Items that are changed one after the other, and seen as they were
pub drop_seen : {X Y : Type 0} (see : X → Y) (xs first : List X) (k : ℕ) (d : X) → k < length xs → map see xs ≡ map see first
    → drop k (map see first) ≡ see (get_or xs k d) ∷ drop (k + 1) (map see first)
drop_seen see xs first k d within same =
    let long : k < length (map see xs) = omega (arith, within, length-map xs see) in
    ap (drop k) (sym same)
    ∙ (drop_more (map see xs) k (see (get_or xs k d)) long
    ∙ (ap (λ y. y ∷ drop (k + 1) (map see xs)) (get_or-map see xs k d (see (get_or xs k d)) within)
    ∙ ap (λ ys. see (get_or xs k d) ∷ drop (k + 1) ys) same))

pub all_seen : {X Y : Type 0} (see : X → Y) (xs first : List X) (k : ℕ) → length xs ≤ k → map see xs ≡ map see first → length (map see first) ≤ k
all_seen see xs first k l same = subst (λ n. n ≤ k) (sym (length-map xs see) ∙ ap length same) l

pub flat_seen : {X Y Z : Type 0} (f : Y → List Z) (see : X → Y) (xs first : List X) (k : ℕ) (d : X) (old new : List Z) {whole : List Z}
    → k < length xs → map see xs ≡ map see first → new ≡ old ++ f (see (get_or xs k d))
    → old ++ flat_map f (drop k (map see first)) ≡ whole → new ++ flat_map f (drop (k + 1) (map see first)) ≡ whole
flat_seen f see xs first k d old new within same put h =
    flat_next-plain f (map see first) k (see (get_or xs k d)) old new (drop_seen see xs first k d within same) put h

pub flat_seen-done : {X Y Z : Type 0} (f : Y → List Z) (see : X → Y) (xs first : List X) (k : ℕ) (old : List Z) {whole : List Z}
    → length xs ≤ k → map see xs ≡ map see first → old ++ flat_map f (drop k (map see first)) ≡ whole → old ≡ whole
flat_seen-done f see xs first k old l same h = flat_done-plain f (map see first) k old (all_seen see xs first k l same) h

-- Items that are lent as a slice and written back, seen as they were
module _ {X Y Z : Type 0} (see : X → Y) (v : Vec X Z) (old new : List X) (long : length old ≡ v.len) (same : map see new ≡ map see old) where
  pub back_is : (with_items v new).items ≡ new
  back_is = with_items_is v new (sym (length-map new see) ∙ (ap length same ∙ (length-map old see ∙ long)))

  pub back_seen : old ≡ v.items → map see (with_items v new).items ≡ map see v.items
  back_seen is = ap (map see) back_is ∙ (same ∙ ap (map see) is)

  pub back_all : (P : X → Type 0) → All P new → All P (with_items v new).items
  back_all P h = subst (All P) (sym back_is) h
