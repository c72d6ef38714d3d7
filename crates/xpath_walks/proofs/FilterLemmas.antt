-- Filters of nodes by their places, and the first of a sort.
use Rattle.std.proofs.Common.{◌≡◌, ℕ, zero, suc, ◌+◌, ◌-◌, ◌<◌, ◌≤◌, Bool, true, false, cond, ◌&&◌, ⊎_elim, List, [], ◌∷◌, ◌++◌, length, drop, Option, Some}
use Rattle.std.proofs.Common.{None, IfSome, option_map, find, refl, ap, sym, ◌∙◌, arith}
use Rattle.std.specs.Prelude.{filter}
use Rattle.std.proofs.lemmas.List.{get_or-drop, length-drop}
use Rattle.std.proofs.lemmas.Bool.{cases_Bool}
use Rattle.inv_base.specs.Tree.{Node}
use Rattle.node_arena.specs.Moves.{tree_node, first_that}
use Rattle.xpath_walks.specs.Walks.{from_on}

pub right_none : (b : Bool) → (b && false) ≡ false
right_none true = refl
right_none false = refl

filter-no : (p : Node → Bool) (node : Node) (nodes : List Node) → p node ≡ false → filter p (node ∷ nodes) ≡ filter p nodes
filter-no p node nodes e = ap (λ b. cond b (node ∷ filter p nodes) (filter p nodes)) e

-- what gives nothing before a place
pub skip : (p : Node → Bool) (from to : ℕ) (nodes : List Node) → from ≤ to → ((k : ℕ) → from ≤ k → k < to → k < length nodes → p (tree_node nodes k) ≡ false)
    → filter p (drop from nodes) ≡ filter p (drop to nodes)
skip p zero zero nodes le h = refl
skip p (suc from) zero nodes le h = absurd (omega (arith, le))
skip p zero (suc to) [] le h = refl
skip p (suc from) (suc to) [] le h = refl
skip p zero (suc to) (node ∷ nodes) le h =
    filter-no p node nodes (h 0 (omega arith) (omega arith) (omega arith))
    ∙ skip p zero to nodes (omega arith) (λ k a b c. h (suc k) (omega arith) (omega (arith, b)) (omega (arith, c)))
skip p (suc from) (suc to) (node ∷ nodes) le h = skip p from to nodes (omega (arith, le))
    (λ k a b c. h (suc k) (omega (arith, a)) (omega (arith, b)) (omega (arith, c)))

pub alike : (p q : Node → Bool) (from : ℕ) (nodes : List Node) → ((k : ℕ) → from ≤ k → k < length nodes → p (tree_node nodes k) ≡ q (tree_node nodes k))
    → filter p (drop from nodes) ≡ filter q (drop from nodes)
alike p q zero [] h = refl
alike p q (suc from) [] h = refl
alike p q zero (node ∷ nodes) h =
    ap (λ b. cond b (node ∷ filter p nodes) (filter p nodes)) (h 0 (omega arith) (omega arith))
    ∙ ap (λ ns. cond (q node) (node ∷ ns) ns) (alike p q zero nodes (λ k a b. h (suc k) (omega arith) (omega (arith, b))))
alike p q (suc from) (node ∷ nodes) h = alike p q from nodes (λ k a b. h (suc k) (omega (arith, a)) (omega (arith, b)))

pub none_from : (p : Node → Bool) (from : ℕ) (nodes : List Node) → ((k : ℕ) → from ≤ k → k < length nodes → p (tree_node nodes k) ≡ false)
    → filter p (drop from nodes) ≡ []
none_from p zero [] h = refl
none_from p (suc from) [] h = refl
none_from p zero (node ∷ nodes) h =
    filter-no p node nodes (h 0 (omega arith) (omega arith)) ∙ none_from p zero nodes (λ k a b. h (suc k) (omega arith) (omega (arith, b)))
none_from p (suc from) (node ∷ nodes) h = none_from p from nodes (λ k a b. h (suc k) (omega (arith, a)) (omega (arith, b)))

cond-split : (b : Bool) (node : Node) (nodes : List Node) → cond b (node ∷ nodes) nodes ≡ cond b (node ∷ []) [] ++ nodes
cond-split true node nodes = refl
cond-split false node nodes = refl

pub one_more : (p : Node → Bool) (n : ℕ) (nodes : List Node) → n < length nodes
    → filter p (drop n nodes) ≡ cond (p (tree_node nodes n)) (tree_node nodes n ∷ []) [] ++ filter p (drop (suc n) nodes)
one_more p n [] h = absurd (omega (arith, h))
one_more p zero (node ∷ nodes) h = cond-split (p node) node (filter p nodes)
one_more p (suc n) (node ∷ nodes) h = one_more p n nodes (omega (arith, h))

-- The first that is so stands at the place.
record IsFirst (is_so : Node → Bool) (nodes : List Node) (m : ℕ) : Type 0 where
  pub place : ℕ
  pub within : place < length nodes
  pub number : (tree_node nodes place).number ≡ m
  pub is : is_so (tree_node nodes place) ≡ true
  pub before : (k : ℕ) → k < place → is_so (tree_node nodes k) ≡ false

first_step : (is_so : Node → Bool) (node : Node) (nodes : List Node) (m : ℕ) → is_so node ≡ false → IsFirst is_so nodes m → IsFirst is_so (node ∷ nodes) m
first_step is_so node nodes m not_so f = record {
  place = suc f.place;
  within = omega (arith, f.within);
  number = f.number;
  is = f.is;
  before = before;
}
  where
    before : (k : ℕ) → k < suc f.place → is_so (tree_node (node ∷ nodes) k) ≡ false
    before zero h = not_so
    before (suc k) h = f.before k (omega arith)

pub number_is : (n m : ℕ) → ◌≡◌ {A = Option ℕ} (Some n) (Some m) → n ≡ m
number_is n m e = cc

first_in : (is_so : Node → Bool) (nodes : List Node) (m : ℕ) → first_that is_so nodes ≡ Some m → IsFirst is_so nodes m
first_in is_so [] m e = cc
first_in is_so (node ∷ nodes) m e = ⊎_elim
    (λ (so : is_so node ≡ true). record {
      place = 0;
      within = omega arith;
      number = number_is node.number m (ap (λ b. option_map (λ (x : Node). x.number) (cond b (Some node) (find is_so nodes))) (sym so) ∙ e);
      is = so;
      before = λ k h. absurd (omega (arith, h));
    })
    (λ (not_so : is_so node ≡ false). first_step is_so node nodes m not_so
    (first_in is_so nodes m (ap (λ b. option_map (λ (x : Node). x.number) (cond b (Some node) (find is_so nodes))) (sym not_so) ∙ e)))
    (cases_Bool (is_so node))

none_in : (is_so : Node → Bool) (nodes : List Node) → first_that is_so nodes ≡ None → (k : ℕ) → k < length nodes → is_so (tree_node nodes k) ≡ false
none_in is_so [] e k h = absurd (omega (arith, h))
none_in is_so (node ∷ nodes) e k h = ⊎_elim
    (λ (so : is_so node ≡ true). let none : ◌≡◌ {A = Option ℕ} (Some node.number) None =
    ap (λ b. option_map (λ (x : Node). x.number) (cond b (Some node) (find is_so nodes))) (sym so) ∙ e in cc)
    (λ (not_so : is_so node ≡ false). at k h not_so
    (none_in is_so nodes (ap (λ b. option_map (λ (x : Node). x.number) (cond b (Some node) (find is_so nodes))) (sym not_so) ∙ e)))
    (cases_Bool (is_so node))
  where
    at : (k : ℕ) → k < length (node ∷ nodes) → is_so node ≡ false → ((k : ℕ) → k < length nodes → is_so (tree_node nodes k) ≡ false)
        → is_so (tree_node (node ∷ nodes) k) ≡ false
    at zero h not_so rest = not_so
    at (suc k) h not_so rest = rest k (omega (arith, h))

abbrev pub AreCounted : List Node → Type 0
AreCounted nodes = (k : ℕ) → k < length nodes → (tree_node nodes k).number ≡ k

-- The first from a place on is the one of that number.
pub record IsFirstFrom (is_so : Node → Bool) (from : ℕ) (nodes : List Node) (m : ℕ) : Type 0 where
  pub behind_it : from ≤ m
  pub within : m < length nodes
  pub is : is_so (tree_node nodes m) ≡ true
  pub before : (k : ℕ) → from ≤ k → k < m → is_so (tree_node nodes k) ≡ false

at_drop : (is_so : Node → Bool) (from k : ℕ) (nodes : List Node) → is_so (tree_node (drop from nodes) k) ≡ is_so (tree_node nodes (from + k))
at_drop is_so from k nodes = ap is_so (get_or-drop from nodes k _)

place-sum : (from k d : ℕ) (nodes : List Node) (is_so : Node → Bool) → from ≤ k → is_so (tree_node nodes (from + (k - from))) ≡ is_so (tree_node nodes k)
place-sum from k d nodes is_so le = ap (λ n. is_so (tree_node nodes n)) (omega arith)

pub first_from : (is_so : Node → Bool) (from : ℕ) (nodes : List Node) (m : ℕ) → AreCounted nodes → first_that is_so (drop from nodes) ≡ Some m
    → IsFirstFrom is_so from nodes m
first_from is_so from nodes m counted e =
    let f = first_in is_so (drop from nodes) m e in
    let long = length-drop from nodes in
    let at : from + f.place < length nodes = omega (arith, f.within, long) in
    let same : from + f.place ≡ m = sym (counted (from + f.place) at) ∙ (ap (λ (x : Node). x.number) (sym (get_or-drop from nodes f.place _)) ∙ f.number) in
    record {
      behind_it = omega (arith, same);
      within = omega (arith, same, at);
      is = ap (λ n. is_so (tree_node nodes n)) (sym same) ∙ (sym (at_drop is_so from f.place nodes) ∙ f.is);
      before = λ k a b. sym (place-sum from k 0 nodes is_so a) ∙ (sym (at_drop is_so from (k - from) nodes) ∙ f.before (k - from) (omega (arith, a, b, same)));
    }

pub first_so : (is_so : Node → Bool) (from : ℕ) (nodes : List Node) (next : Option ℕ) → AreCounted nodes → next ≡ first_that is_so (drop from nodes)
    → IfSome next (λ m. is_so (tree_node nodes m) ≡ true)
first_so is_so from nodes None counted e = tt
first_so is_so from nodes (Some m) counted e = (first_from is_so from nodes m counted (sym e)).is

pub none_first : (is_so : Node → Bool) (nodes : List Node) → ((k : ℕ) → k < length nodes → is_so (tree_node nodes k) ≡ false) → None ≡ first_that is_so nodes
none_first is_so [] h = refl
none_first is_so (node ∷ nodes) h =
    none_first is_so nodes (λ k l. h (suc k) (omega (arith, l)))
    ∙ ap (λ b. option_map (λ (x : Node). x.number) (cond b (Some node) (find is_so nodes))) (sym (h 0 (omega arith)))

pub none_that : (is_so : Node → Bool) (from : ℕ) (nodes : List Node) → first_that is_so (drop from nodes) ≡ None
    → (k : ℕ) → from ≤ k → k < length nodes → is_so (tree_node nodes k) ≡ false
none_that is_so from nodes e k a b =
    sym (place-sum from k 0 nodes is_so a)
    ∙ (sym (at_drop is_so from (k - from) nodes) ∙ none_in is_so (drop from nodes) e (k - from) (omega (arith, a, b, length-drop from nodes)))

-- A filter that passes only what is so begins at the first that is so.
pub from_first : (p is_so : Node → Bool) (from : ℕ) (nodes : List Node) (first : Option ℕ) → AreCounted nodes
    → ((node : Node) → is_so node ≡ false → p node ≡ false) → first ≡ first_that is_so (drop from nodes)
    → filter p (drop from nodes) ≡ filter p (from_on first nodes)
from_first p is_so from nodes None counted only e = none_from p from nodes (λ k a b. only (tree_node nodes k) (none_that is_so from nodes (sym e) k a b))
from_first p is_so from nodes (Some m) counted only e =
    let f = first_from is_so from nodes m counted (sym e) in
    skip p from m nodes f.behind_it (λ k a b c. only (tree_node nodes k) (f.before k a b))
