-- What is among numbers that are put together, filtered and mapped.
use Rattle.std.proofs.Common.{◌≡◌, ℕ, zero, suc, ◌<◌, Bool, true, false, cond, ◌||◌, ◌==◌, ◌⊎◌, inl, inr, ⊎_elim, List, [], ◌∷◌, ◌++◌, length, refl, ap, sym}
use Rattle.std.proofs.Common.{◌∙◌, arith}
use Rattle.std.specs.Prelude.{filter}
use Rattle.std.specs.List.{flat_map, list_any}
use Rattle.std.proofs.lemmas.List.Concat.{flat_map-cons}
use Rattle.std.proofs.lemmas.Bool.{cases_Bool, or_cases, or_left, or_right, eqb-true, eq-eqb, false≢true, false_from_ne_true}
use Rattle.inv_base.specs.Tree.{Node, is_among}
use Rattle.node_arena.specs.Moves.{tree_node}
use Rattle.xpath_walks.specs.Walks.{node_numbers}
use Rattle.xpath_walks.proofs.FilterLemmas.{AreCounted}

pub in_front : (m : ℕ) (xs ys : List ℕ) → is_among m xs ≡ true → is_among m (xs ++ ys) ≡ true
in_front m [] ys e = absurd (false≢true e)
in_front m (x ∷ xs) ys e = ⊎_elim
    (λ (here : (m == x) ≡ true). or_left (m == x) (is_among m (xs ++ ys)) here)
    (λ (there : is_among m xs ≡ true). or_right (m == x) (is_among m (xs ++ ys)) (in_front m xs ys there))
    (or_cases (m == x) (is_among m xs) e)

pub in_back : (m : ℕ) (xs ys : List ℕ) → is_among m ys ≡ true → is_among m (xs ++ ys) ≡ true
in_back m [] ys e = e
in_back m (x ∷ xs) ys e = or_right (m == x) (is_among m (xs ++ ys)) (in_back m xs ys e)

pub in_either : (m : ℕ) (xs ys : List ℕ) → is_among m (xs ++ ys) ≡ true → (is_among m xs ≡ true) ⊎ (is_among m ys ≡ true)
in_either m [] ys e = inr e
in_either m (x ∷ xs) ys e = ⊎_elim
    (λ (here : (m == x) ≡ true). inl (or_left (m == x) (is_among m xs) here))
    (λ (there : is_among m (xs ++ ys) ≡ true). ⊎_elim
    (λ (front : is_among m xs ≡ true). inl (or_right (m == x) (is_among m xs) front))
    (λ (back : is_among m ys ≡ true). inr back)
    (in_either m xs ys there))
    (or_cases (m == x) (is_among m (xs ++ ys)) e)

pub among_both : (m : ℕ) (xs ys : List ℕ) → is_among m (xs ++ ys) ≡ (is_among m xs || is_among m ys)
among_both m [] ys = refl
among_both m (x ∷ xs) ys = ap (λ b. m == x || b) (among_both m xs ys) ∙ or_assoc (m == x) (is_among m xs) (is_among m ys)
  where
    or_assoc : (a b c : Bool) → (a || (b || c)) ≡ ((a || b) || c)
    or_assoc true b c = refl
    or_assoc false b c = refl

-- A number of what a function gives of some of the numbers.
pub record IsFrom (f : ℕ → List ℕ) (xs : List ℕ) (k : ℕ) : Type 0 where
  pub origin : ℕ
  pub among : is_among origin xs ≡ true
  pub from : is_among k (f origin) ≡ true

pub from_any : (f : ℕ → List ℕ) (xs : List ℕ) (k : ℕ) → list_any (λ n. is_among k (f n)) xs ≡ true → IsFrom f xs k
from_any f [] k e = absurd (false≢true e)
from_any f (x ∷ xs) k e = ⊎_elim
    (λ (here : is_among k (f x) ≡ true). record { origin = x; among = or_left (x == x) (is_among x xs) (eq-eqb x x refl); from = here })
    (λ (there : list_any (λ n. is_among k (f n)) xs ≡ true).
    let i : IsFrom f xs k = from_any f xs k there in
    record { origin = i.origin; among = or_right (i.origin == x) (is_among i.origin xs) i.among; from = i.from })
    (or_cases (is_among k (f x)) (list_any (λ n. is_among k (f n)) xs) e)

pub any_from : (f : ℕ → List ℕ) (xs : List ℕ) (m k : ℕ) → is_among m xs ≡ true → is_among k (f m) ≡ true → list_any (λ n. is_among k (f n)) xs ≡ true
any_from f [] m k e h = absurd (false≢true e)
any_from f (x ∷ xs) m k e h = ⊎_elim
    (λ (here : (m == x) ≡ true). or_left (is_among k (f x)) (list_any (λ n. is_among k (f n)) xs) (ap (λ n. is_among k (f n)) (sym (eqb-true m x here)) ∙ h))
    (λ (there : is_among m xs ≡ true). or_right (is_among k (f x)) (list_any (λ n. is_among k (f n)) xs) (any_from f xs m k there h))
    (or_cases (m == x) (is_among m xs) e)

pub mapped_from : (f : ℕ → List ℕ) (xs : List ℕ) (k : ℕ) → is_among k (flat_map f xs) ≡ true → IsFrom f xs k
mapped_from f [] k e = absurd (false≢true e)
mapped_from f (x ∷ xs) k e = ⊎_elim
    (λ (here : is_among k (f x) ≡ true). record { origin = x; among = or_left (x == x) (is_among x xs) (eq-eqb x x refl); from = here })
    (λ (there : is_among k (flat_map f xs) ≡ true).
    let i : IsFrom f xs k = mapped_from f xs k there in
    record { origin = i.origin; among = or_right (i.origin == x) (is_among i.origin xs) i.among; from = i.from })
    (in_either k (f x) (flat_map f xs) (ap (is_among k) (sym (flat_map-cons f x xs)) ∙ e))

pub from_mapped : (f : ℕ → List ℕ) (xs : List ℕ) (m k : ℕ) → is_among m xs ≡ true → is_among k (f m) ≡ true → is_among k (flat_map f xs) ≡ true
from_mapped f [] m k e h = absurd (false≢true e)
from_mapped f (x ∷ xs) m k e h = ap (is_among k) (flat_map-cons f x xs) ∙ ⊎_elim
    (λ (here : (m == x) ≡ true). in_front k (f x) (flat_map f xs) (ap (λ n. is_among k (f n)) (sym (eqb-true m x here)) ∙ h))
    (λ (there : is_among m xs ≡ true). in_back k (f x) (flat_map f xs) (from_mapped f xs m k there h))
    (or_cases (m == x) (is_among m xs) e)

-- The number is that of a node that passes.
pub record IsNumberOf (q : Node → Bool) (nodes : List Node) (k : ℕ) : Type 0 where
  pub place : ℕ
  pub within : place < length nodes
  pub number : (tree_node nodes place).number ≡ k
  pub passes : q (tree_node nodes place) ≡ true

later : (q : Node → Bool) (node : Node) (nodes : List Node) (k : ℕ) → IsNumberOf q nodes k → IsNumberOf q (node ∷ nodes) k
later q node nodes k i = record { place = suc i.place; within = omega (arith, i.within); number = i.number; passes = i.passes }

pub filtered_from : (q : Node → Bool) (nodes : List Node) (k : ℕ) → is_among k (node_numbers (filter q nodes)) ≡ true → IsNumberOf q nodes k
filtered_from q [] k e = absurd (false≢true e)
filtered_from q (node ∷ nodes) k e = ⊎_elim
    (λ (so : q node ≡ true). ⊎_elim
    (λ (here : (k == node.number) ≡ true). record { place = 0; within = omega arith; number = sym (eqb-true k node.number here); passes = so })
    (λ (there : is_among k (node_numbers (filter q nodes)) ≡ true). later q node nodes k (filtered_from q nodes k there))
    (or_cases (k == node.number) (is_among k (node_numbers (filter q nodes)))
    (ap (λ b. is_among k (node_numbers (cond b (node ∷ filter q nodes) (filter q nodes)))) (sym so) ∙ e)))
    (λ (not_so : q node ≡ false). later q node nodes k (filtered_from q nodes k
    (ap (λ b. is_among k (node_numbers (cond b (node ∷ filter q nodes) (filter q nodes)))) (sym not_so) ∙ e)))
    (cases_Bool (q node))

pub any_place : (q : Node → Bool) (nodes : List Node) → list_any q nodes ≡ true → (k : ℕ) × IsNumberOf q nodes k
any_place q [] e = absurd (false≢true e)
any_place q (node ∷ nodes) e = ⊎_elim
    (λ (here : q node ≡ true). first here)
    (λ (there : list_any q nodes ≡ true). let i : (k : ℕ) × IsNumberOf q nodes k = any_place q nodes there in (i.0, later q node nodes i.0 i.1))
    (or_cases (q node) (list_any q nodes) e)
  where
    first : q node ≡ true → (k : ℕ) × IsNumberOf q (node ∷ nodes) k
    first here = (node.number, record { place = 0; within = omega arith; number = refl; passes = here })

pub same_truth : (b c : Bool) → (b ≡ true → c ≡ true) → (c ≡ true → b ≡ true) → b ≡ c
same_truth true c f g = sym (f refl)
same_truth false c f g = sym (false_from_ne_true c (λ e. false≢true (g e)))

-- what is among all that a function gives
pub flat_any : (f : ℕ → List ℕ) (xs : List ℕ) (k : ℕ) → is_among k (flat_map f xs) ≡ list_any (λ n. is_among k (f n)) xs
flat_any f xs k = same_truth (is_among k (flat_map f xs)) (list_any (λ n. is_among k (f n)) xs)
    (λ e. let i : IsFrom f xs k = mapped_from f xs k e in any_from f xs i.origin k i.among i.from)
    (λ e. let i : IsFrom f xs k = from_any f xs k e in from_mapped f xs i.origin k i.among i.from)

filtered_at : (q : Node → Bool) (nodes : List Node) (k : ℕ) → k < length nodes → q (tree_node nodes k) ≡ true
    → is_among (tree_node nodes k).number (node_numbers (filter q nodes)) ≡ true
filtered_at q [] k within so = absurd (omega (arith, within))
filtered_at q (node ∷ nodes) zero within so =
    ap (λ b. is_among node.number (node_numbers (cond b (node ∷ filter q nodes) (filter q nodes)))) so
    ∙ or_left (node.number == node.number) (is_among node.number (node_numbers (filter q nodes))) (eq-eqb node.number node.number refl)
filtered_at q (node ∷ nodes) (suc k) within so = behind (q node) (filtered_at q nodes k (omega (arith, within)) so)
  where
    behind : (b : Bool) → is_among (tree_node nodes k).number (node_numbers (filter q nodes)) ≡ true
        → is_among (tree_node nodes k).number (node_numbers (cond b (node ∷ filter q nodes) (filter q nodes))) ≡ true
    behind true e = or_right ((tree_node nodes k).number == node.number) (is_among (tree_node nodes k).number (node_numbers (filter q nodes))) e
    behind false e = e

-- A node is among those that pass where it passes.
pub among_passing : (q : Node → Bool) (nodes : List Node) (k : ℕ) → AreCounted nodes → k < length nodes
    → is_among k (node_numbers (filter q nodes)) ≡ q (tree_node nodes k)
among_passing q nodes k counted within = same_truth (is_among k (node_numbers (filter q nodes))) (q (tree_node nodes k))
    (λ e.
    let at : IsNumberOf q nodes k = filtered_from q nodes k e in
    ap (λ n. q (tree_node nodes n)) (sym (sym (counted at.place at.within) ∙ at.number)) ∙ at.passes)
    (λ so. ap (λ n. is_among n (node_numbers (filter q nodes))) (sym (counted k within)) ∙ filtered_at q nodes k within so)
