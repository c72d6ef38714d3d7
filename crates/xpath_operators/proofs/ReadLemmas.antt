-- Items of one type beside others that are each read as one of that type.
use Rattle.std.proofs.Common.{◌≡◌, ℕ, ◌<◌, Bool, true, false, List, [], ◌∷◌, length, map, Result, Ok, Err, Some, None, Option, option_map, IfOk, is_ok, refl}
use Rattle.std.proofs.Common.{ap, sym, ◌∙◌, arith}
use Rattle.std.specs.Prelude.{◌||◌, ◌&&◌, ◌==◌, if◌then◌else◌}
use Rattle.std.specs.List.{list_all}
use Rattle.std.proofs.lemmas.Bool.{false≢true, and_parts, eqb-true}
use Rattle.xpath_grammar.specs.declared.operators.Op.{Op}
use Rattle.xpath_items.specs.declared.item.Item.{Item}
use Rattle.xpath_items.specs.declared.outcome.DynError.{DynError}
use Rattle.xpath_items.specs.declared.outcome.DynError.TheVariants as e
use Rattle.xpath_meaning.specs.Values.{then_}
use Rattle.xpath_meaning.specs.Comparing.{compare, any_of, some_pair, is_general, beside}
use Rattle.xpath_operators.specs.Ranks.{rank}
use Rattle.xpath_operators.specs.Rows.{is_typed, is_typed_as, is_textual, are_comparable, of_kind, row, AreRead, AreAlike}
use Rattle.xpath_operators.proofs.RowLemmas.{assoc, typed_beside, general, beside_alike, reads_as, reads_by, by_order, any_alike}

abbrev ok_or_other : {X E : Type 0} → X → Result X E → X
ok_or_other other (Ok x) = x
ok_or_other other (Err error) = other

not_ok : {X E Y : Type 0} (error : E) (x : X) → Err error ≡ Ok x → Y
not_ok {X} {E} error x h = absurd (false≢true (ap (λ (r : Result X E). is_ok r) h))

abbrev kept : Bool → Item → Result Item DynError
kept typed b = if typed then Ok b else Err e.XPTY0004

row_found : (kind : ℕ) (r : Result Item DynError) (a : Item) → then_ r (of_kind kind) ≡ Ok a → (r ≡ Ok a) × (is_typed_as kind a ≡ true)
row_found kind (Err error) a h = not_ok error a h
row_found kind (Ok b) a h = by (is_typed_as kind b) refl h
  where
    by : (t : Bool) → is_typed_as kind b ≡ t → kept t b ≡ Ok a → (kept true b ≡ Ok a) × (is_typed_as kind a ≡ true)
    by true t h = (h, sym (ap (λ r. is_typed_as kind (ok_or_other b r)) h) ∙ t)
    by false t h = not_ok e.XPTY0004 a h

-- Beside an item of the type one is compared as it is read.
typed_pair : (op : Op) (x y : Item) → is_general op ≡ true → is_typed x ≡ true → compare op x y ≡ then_ (beside x y) (λ b. by_order op (x, b))
typed_pair op x y g t =
    general op x y g
    ∙ (ap (λ r. then_ (then_ r (λ a. then_ (beside x y) (λ b. Ok (a, b)))) (by_order op)) (typed_beside y x t)
    ∙ assoc (beside x y) (λ b. Ok (x, b)) (by_order op))

pair_read : (op : Op) (other x y a : Item) → is_general op ≡ true → is_typed_as (rank other) x ≡ true → row other y ≡ Ok a → compare op x y ≡ compare op x a
pair_read op other x y a g t h =
    let parts = and_parts (is_typed x) (rank x == rank other) t in
    let found = row_found (rank other) (beside other y) a h in
    let same : rank x ≡ rank other = eqb-true (rank x) (rank other) parts.1 in
    typed_pair op x y g parts.0
    ∙ (ap (λ r. then_ r (λ b. by_order op (x, b)))
    (beside_alike x other (λ t. reads_by x t ∙ (ap (λ k. reads_as k t) same ∙ sym (reads_by other t))) y
    ∙ (found.0 ∙ sym (typed_beside x a (and_parts (is_typed a) (rank a == rank other) found.1).0)))
    ∙ sym (typed_pair op x a g parts.0))

-- ---- all of them

abbrev has_some : {X : Type 0} → List X → Bool
has_some [] = false
has_some (x ∷ xs) = true

abbrev first_or : {X : Type 0} → X → List X → X
first_or other [] = other
first_or other (x ∷ xs) = x

abbrev others : {X : Type 0} → List X → List X
others [] = []
others (x ∷ xs) = xs

pairs_read : (op : Op) (other x : Item) → is_general op ≡ true → is_typed_as (rank other) x ≡ true → (ys read : List Item) → map (row other) ys ≡ map Ok read
    → any_of (λ y. compare op x y) ys ≡ any_of (λ y. compare op x y) read
pairs_read op other x g t [] [] h = refl
pairs_read op other x g t [] (a ∷ read) h = absurd (false≢true (ap has_some h))
pairs_read op other x g t (y ∷ ys) [] h = absurd (false≢true (sym (ap has_some h)))
pairs_read op other x g t (y ∷ ys) (a ∷ read) h =
    ap (λ r. then_ r (λ found. elim found [ true ↦ Ok true | false ↦ any_of (λ y. compare op x y) ys ])) (pair_read op other x y a g t (ap (first_or (Ok a)) h))
    ∙ ap (λ r. then_ (compare op x a) (λ found. elim found [ true ↦ Ok true | false ↦ r ])) (pairs_read op other x g t ys read (ap others h))

all_pairs_read : (op : Op) (other : Item) (xs ys read : List Item) → is_general op ≡ true → list_all (is_typed_as (rank other)) xs ≡ true →
    map (row other) ys ≡ map Ok read
    → some_pair op xs ys ≡ some_pair op xs read
all_pairs_read op other xs ys read g t h =
    any_alike (λ x. any_of (λ y. compare op x y) ys) (λ x. any_of (λ y. compare op x y) read) (is_typed_as (rank other))
    (λ x typed. pairs_read op other x g typed ys read h) xs t

all_typed : (other : Item) (ys read : List Item) → map (row other) ys ≡ map Ok read → list_all (is_typed_as (rank other)) read ≡ true
all_typed other ys [] h = refl
all_typed other [] (a ∷ read) h = absurd (false≢true (ap has_some h))
all_typed other (y ∷ ys) (a ∷ read) h =
    ap (λ b. b && list_all (is_typed_as (rank other)) read) (row_found (rank other) (beside other y) a (ap (first_or (Ok a)) h)).1
    ∙ all_typed other ys read (ap others h)

read_comparable : (other : Item) (xs ys read : List Item) → 0 < length ys → map (row other) ys ≡ map Ok read → are_comparable xs read ≡ true
read_comparable other xs [] read l h = absurd (omega (arith, l))
read_comparable other xs (y ∷ ys) [] l h = absurd (false≢true (sym (ap has_some h)))
read_comparable other xs (y ∷ ys) (a ∷ read) l h =
    let typed = all_typed other (y ∷ ys) (a ∷ read) h in
    let first = and_parts (is_typed_as (rank other) a) (list_all (is_typed_as (rank other)) read) typed in
    let same : rank a ≡ rank other = eqb-true (rank a) (rank other) (and_parts (is_typed a) (rank a == rank other) first.0).1 in
    ap (λ b. b || (list_all is_textual xs && list_all is_textual (a ∷ read))) (ap (λ k. list_all (is_typed_as k) (a ∷ read)) same ∙ typed)

pub alike_read : (other : Item) (xs ys : List Item) (read : Option (List Item)) → list_all (is_typed_as (rank other)) xs ≡ true → 0 < length ys →
    AreRead other ys read → AreAlike xs ys read
alike_read other xs ys None t l h = tt
alike_read other xs ys (Some read) t l h = (read_comparable other xs ys read l h, λ op g. all_pairs_read op other xs ys read g t h)

pub alike_answered : {V F : Type 0} (items : V → List Item) (other : Item) (xs ys : List Item) (result : Result (Option V) F) →
    list_all (is_typed_as (rank other)) xs ≡ true → 0 < length ys
    → IfOk result (λ read. AreRead other ys (option_map items read)) → IfOk result (λ read. AreAlike xs ys (option_map items read))
alike_answered items other xs ys (Ok read) t l h = alike_read other xs ys (option_map items read) t l h
alike_answered items other xs ys (Err fault) t l h = h
