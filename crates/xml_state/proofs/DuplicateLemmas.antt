-- Names and numbers that stand twice.
use Rattle.std.proofs.Common.{◌≡◌, Bool, true, false, ◌||◌, List, [], ◌∷◌, ◌++◌, map, refl, sym, ap, ◌∙◌}
use Rattle.std.specs.List.{list_any}
use Rattle.xml_state.specs.Admission.{has_twice}
use Rattle.xml_state.specs.StartTags.{twice_behind}

pub any-map : {X Y : Type 0} (p : Y → Bool) (f : X → Y) (xs : List X) → list_any p (map f xs) ≡ list_any (λ x. p (f x)) xs
any-map p f [] = refl
any-map p f (x ∷ xs) = ap (λ b. p (f x) || b) (any-map p f xs)

-- Standing twice, by what stands before and by what stands behind.
abbrev crosses_at : {A : Type 0} → (A → A → Bool) → List A → List A → Bool
crosses_at same before list = list_any (λ m. list_any (λ n. same n m) list) before

crosses-nil : {A : Type 0} (same : A → A → Bool) (before : List A) → crosses_at same before [] ≡ false
crosses-nil same [] = refl
crosses-nil same (m ∷ before) = crosses-nil same before

or_swap : (a b c d : Bool) → ((a || b) || (c || d)) ≡ ((a || c) || (b || d))
or_swap true b c d = refl
or_swap false true true d = refl
or_swap false true false d = refl
or_swap false false true d = refl
or_swap false false false d = refl

or_assoc : (a b c : Bool) → ((a || b) || c) ≡ (a || (b || c))
or_assoc true b c = refl
or_assoc false b c = refl

or_false : (a : Bool) → (a || false) ≡ a
or_false true = refl
or_false false = refl

crosses-cons : {A : Type 0} (same : A → A → Bool) (before : List A) (x : A) (list : List A) →
    crosses_at same before (x ∷ list) ≡ (list_any (same x) before || crosses_at same before list)
crosses-cons same [] x list = refl
crosses-cons same (m ∷ before) x list =
    ap (λ b. (same x m || list_any (λ n. same n m) list) || b) (crosses-cons same before x list)
    ∙ or_swap (same x m) (list_any (λ n. same n m) list) (list_any (same x) before) (crosses_at same before list)

crosses-push : {A : Type 0} (same : A → A → Bool) (before : List A) (x : A) (list : List A) →
    crosses_at same (before ++ x ∷ []) list ≡ (crosses_at same before list || list_any (λ n. same n x) list)
crosses-push same [] x list = or_false (list_any (λ n. same n x) list)
crosses-push same (m ∷ before) x list =
    ap (λ b. list_any (λ n. same n m) list || b) (crosses-push same before x list)
    ∙ sym (or_assoc (list_any (λ n. same n m) list) (crosses_at same before list) (list_any (λ n. same n x) list))

any_like : {A : Type 0} (p q : A → Bool) → ((x : A) → p x ≡ q x) → (list : List A) → list_any p list ≡ list_any q list
any_like p q e [] = refl
any_like p q e (x ∷ list) = ap (λ b. b || list_any p list) (e x) ∙ ap (λ b. q x || b) (any_like p q e list)

twice-crosses : {A : Type 0} (same : A → A → Bool) → ((x y : A) → same x y ≡ same y x) → (before list : List A) →
    twice_behind same before list ≡ (crosses_at same before list || has_twice same list)
twice-crosses same flips before [] = sym (or_false (crosses_at same before []) ∙ crosses-nil same before)
twice-crosses same flips before (x ∷ list) =
    ap (λ b. list_any (same x) before || b)
    (twice-crosses same flips (before ++ x ∷ []) list
    ∙ (ap (λ b. b || has_twice same list) (crosses-push same before x list ∙
    ap (λ b. crosses_at same before list || b) (any_like (λ n. same n x) (same x) (λ n. flips n x) list))
    ∙ or_assoc (crosses_at same before list) (list_any (same x) list) (has_twice same list)))
    ∙ (sym (or_assoc (list_any (same x) before) (crosses_at same before list) (list_any (same x) list || has_twice same list))
    ∙ ap (λ b. b || (list_any (same x) list || has_twice same list)) (sym (crosses-cons same before x list)))

pub twice_behind-nil : {A : Type 0} (same : A → A → Bool) → ((x y : A) → same x y ≡ same y x) → (list : List A) →
    twice_behind same [] list ≡ has_twice same list
twice_behind-nil same flips list = twice-crosses same flips [] list

pub has_twice-map : {X Y : Type 0} (same : Y → Y → Bool) (f : X → Y) (list : List X) → has_twice same (map f list) ≡ has_twice (λ a b. same (f a) (f b)) list
has_twice-map same f [] = refl
has_twice-map same f (x ∷ list) = ap (λ b. b || has_twice same (map f list)) (any-map (same (f x)) f list) ∙
    ap (λ b. list_any (λ y. same (f x) (f y)) list || b) (has_twice-map same f list)
