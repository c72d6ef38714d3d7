-- The first and the last node of a sort, by their places.
use Rattle.std.proofs.Common.{◌≡◌, ℕ, zero, suc, ◌+◌, ◌-◌, ◌<◌, ◌≤◌, Bool, true, false, cond, ◌⊎◌, inl, inr, ⊎_elim, List, [], ◌∷◌, length, drop, Option, Some}
use Rattle.std.proofs.Common.{None, option_map, find, refl, ap, sym, ◌∙◌, arith}
use Rattle.std.proofs.lemmas.List.{get_or-drop, length-drop}
use Rattle.std.proofs.lemmas.Bool.{cases_Bool}
use Rattle.inv_base.specs.declared.tree.Kind.TheVariants as kinds
use Rattle.inv_base.specs.Tree.{Node}
use Rattle.node_arena.specs.Moves.{tree_node, first_that, last_that}

-- The first that is so stands at the place.
record IsFirst (is_so : Node → Bool) (nodes : List Node) (m : ℕ) : Type 0 where
  pub place : ℕ
  pub within : place < length nodes
  pub number : (tree_node nodes place).number ≡ m
  pub is : is_so (tree_node nodes place) ≡ true
  pub before : (k : ℕ) → k < place → is_so (tree_node nodes k) ≡ false

first_step : (is_so : Node → Bool) (node : Node) (nodes : List Node) (m : ℕ) → is_so node ≡ false → IsFirst is_so nodes m → IsFirst is_so (node ∷ nodes) m
first_step is_so node nodes m not_so f = record {
  place = suc f.place;
  within = omega (arith, f.within);
  number = f.number;
  is = f.is;
  before = before;
}
  where
    before : (k : ℕ) → k < suc f.place → is_so (tree_node (node ∷ nodes) k) ≡ false
    before zero h = not_so
    before (suc k) h = f.before k (omega arith)

number_of : Option Node → Option ℕ
number_of found = option_map (λ (node : Node). node.number) found

number_is : (n m : ℕ) → ◌≡◌ {A = Option ℕ} (Some n) (Some m) → n ≡ m
number_is n m e = cc

first_in : (is_so : Node → Bool) (nodes : List Node) (m : ℕ) → first_that is_so nodes ≡ Some m → IsFirst is_so nodes m
first_in is_so [] m e = cc
first_in is_so (node ∷ nodes) m e = ⊎_elim
    (λ (so : is_so node ≡ true). record {
      place = 0;
      within = omega arith;
      number = number_is node.number m (ap (λ b. option_map (λ (x : Node). x.number) (cond b (Some node) (find is_so nodes))) (sym so) ∙ e);
      is = so;
      before = λ k h. absurd (omega (arith, h));
    })
    (λ (not_so : is_so node ≡ false). first_step is_so node nodes m not_so
    (first_in is_so nodes m (ap (λ b. option_map (λ (x : Node). x.number) (cond b (Some node) (find is_so nodes))) (sym not_so) ∙ e)))
    (cases_Bool (is_so node))

none_in : (is_so : Node → Bool) (nodes : List Node) → first_that is_so nodes ≡ None → (k : ℕ) → k < length nodes → is_so (tree_node nodes k) ≡ false
none_in is_so [] e k h = absurd (omega (arith, h))
none_in is_so (node ∷ nodes) e k h = ⊎_elim
    (λ (so : is_so node ≡ true). let none : ◌≡◌ {A = Option ℕ} (Some node.number) None =
    ap (λ b. option_map (λ (x : Node). x.number) (cond b (Some node) (find is_so nodes))) (sym so) ∙ e in cc)
    (λ (not_so : is_so node ≡ false). at k h not_so
    (none_in is_so nodes (ap (λ b. option_map (λ (x : Node). x.number) (cond b (Some node) (find is_so nodes))) (sym not_so) ∙ e)))
    (cases_Bool (is_so node))
  where
    at : (k : ℕ) → k < length (node ∷ nodes) → is_so node ≡ false → ((k : ℕ) → k < length nodes → is_so (tree_node nodes k) ≡ false)
        → is_so (tree_node (node ∷ nodes) k) ≡ false
    at zero h not_so rest = not_so
    at (suc k) h not_so rest = rest k (omega (arith, h))

-- The last that is so stands at the place.
record IsLast (is_so : Node → Bool) (nodes : List Node) (m : ℕ) : Type 0 where
  pub place : ℕ
  pub within : place < length nodes
  pub number : (tree_node nodes place).number ≡ m
  pub is : is_so (tree_node nodes place) ≡ true
  pub behind_it : (k : ℕ) → place < k → k < length nodes → is_so (tree_node nodes k) ≡ false

record IsNone (is_so : Node → Bool) (nodes : List Node) (n m : ℕ) : Type 0 where
  pub same : m ≡ n
  pub none : (k : ℕ) → k < length nodes → is_so (tree_node nodes k) ≡ false

last_step : (is_so : Node → Bool) (node : Node) (nodes : List Node) (m : ℕ) → IsLast is_so nodes m → IsLast is_so (node ∷ nodes) m
last_step is_so node nodes m f = record { place = suc f.place; within = omega (arith, f.within); number = f.number; is = f.is; behind_it = behind_it }
  where
    behind_it : (k : ℕ) → suc f.place < k → k < length (node ∷ nodes) → is_so (tree_node (node ∷ nodes) k) ≡ false
    behind_it zero h w = absurd (omega (arith, h))
    behind_it (suc k) h w = f.behind_it k (omega (arith, h)) (omega (arith, w))

last_here : (is_so : Node → Bool) (node : Node) (nodes : List Node) (m : ℕ) → is_so node ≡ true → IsNone is_so nodes node.number m →
    IsLast is_so (node ∷ nodes) m
last_here is_so node nodes m so none = record { place = 0; within = omega arith; number = sym none.same; is = so; behind_it = behind_it }
  where
    behind_it : (k : ℕ) → 0 < k → k < length (node ∷ nodes) → is_so (tree_node (node ∷ nodes) k) ≡ false
    behind_it zero h w = absurd (omega (arith, h))
    behind_it (suc k) h w = none.none k (omega (arith, w))

none_step : (is_so : Node → Bool) (node : Node) (nodes : List Node) (n m : ℕ) → is_so node ≡ false → IsNone is_so nodes n m → IsNone is_so (node ∷ nodes) n m
none_step is_so node nodes n m not_so none = record { same = none.same; none = at }
  where
    at : (k : ℕ) → k < length (node ∷ nodes) → is_so (tree_node (node ∷ nodes) k) ≡ false
    at zero h = not_so
    at (suc k) h = none.none k (omega (arith, h))

last_in : (is_so : Node → Bool) (nodes : List Node) (n m : ℕ) → last_that is_so n nodes ≡ m → IsNone is_so nodes n m ⊎ IsLast is_so nodes m
last_in is_so [] n m e = inl (record { same = sym e; none = λ k h. absurd (omega (arith, h)) })
last_in is_so (node ∷ nodes) n m e = ⊎_elim
    (λ (so : is_so node ≡ true). ⊎_elim
    (λ (none : IsNone is_so nodes node.number m). inr (last_here is_so node nodes m so none))
    (λ (last : IsLast is_so nodes m). inr (last_step is_so node nodes m last))
    (last_in is_so nodes node.number m (ap (λ b. last_that is_so (cond b node.number n) nodes) (sym so) ∙ e)))
    (λ (not_so : is_so node ≡ false). ⊎_elim
    (λ (none : IsNone is_so nodes n m). inl (none_step is_so node nodes n m not_so none))
    (λ (last : IsLast is_so nodes m). inr (last_step is_so node nodes m last))
    (last_in is_so nodes n m (ap (λ b. last_that is_so (cond b node.number n) nodes) (sym not_so) ∙ e)))
    (cases_Bool (is_so node))

-- The same in a list of nodes that have the numbers of their places, from a place on.
abbrev pub AreInOrder : List Node → Type 0
AreInOrder nodes = (k : ℕ) → k < length nodes → (tree_node nodes k).number ≡ k

pub record IsFirstFrom (is_so : Node → Bool) (nodes : List Node) (start m : ℕ) : Type 0 where
  pub from : start ≤ m
  pub within : m < length nodes
  pub is : is_so (tree_node nodes m) ≡ true
  pub before : (k : ℕ) → start ≤ k → k < m → is_so (tree_node nodes k) ≡ false

dropped : (start k : ℕ) (nodes : List Node) (is_so : Node → Bool) (b : Bool) → is_so (tree_node (drop start nodes) k) ≡ b →
    is_so (tree_node nodes (start + k)) ≡ b
dropped start k nodes is_so b e = ap is_so (sym (get_or-drop start nodes k (record { number = 0; kind = kinds.Document; name = None; above = []; text = [] })))
    ∙ e

dropped_at : (start m k : ℕ) (nodes : List Node) (is_so : Node → Bool) (b : Bool) → m ≡ start + k → is_so (tree_node (drop start nodes) k) ≡ b →
    is_so (tree_node nodes m) ≡ b
dropped_at start m k nodes is_so b at e = ap (λ j. is_so (tree_node nodes j)) at ∙ dropped start k nodes is_so b e

pub first_from : (is_so : Node → Bool) (nodes : List Node) → AreInOrder nodes → (start m : ℕ) → first_that is_so (drop start nodes) ≡ Some m →
    IsFirstFrom is_so nodes start m
first_from is_so nodes ordered start m e =
    let f = first_in is_so (drop start nodes) m e in
    let long = length-drop start nodes in
    let at : (tree_node nodes (start + f.place)).number ≡ (tree_node (drop start nodes) f.place).number =
    ap (λ (node : Node). node.number) (sym (get_or-drop start nodes f.place (record { number = 0; kind = kinds.Document; name = None; above = []; text = [] })))
    in
    let is : m ≡ start + f.place = sym (f.number) ∙ (sym at ∙ ordered (start + f.place) (omega (arith, f.within, long))) in
    record {
      from = omega (arith, is);
      within = omega (arith, is, f.within, long);
      is = dropped_at start m f.place nodes is_so true is f.is;
      before = λ k h below. let back : k ≡ start + (k - start) = omega (arith, h) in
          dropped_at start k (k - start) nodes is_so false back (f.before (k - start) (omega (arith, is, h, below)));
    }

pub none_from : (is_so : Node → Bool) (nodes : List Node) (start : ℕ) → first_that is_so (drop start nodes) ≡ None
    → (k : ℕ) → start ≤ k → k < length nodes → is_so (tree_node nodes k) ≡ false
none_from is_so nodes start e k h within =
    let long = length-drop start nodes in
    dropped_at start k (k - start) nodes is_so false (omega (arith, h)) (none_in is_so (drop start nodes) e (k - start) (omega (arith, h, within, long)))

pub record IsLastFrom (is_so : Node → Bool) (nodes : List Node) (start n m : ℕ) : Type 0 where
  pub here : (m ≡ n) ⊎ ((start ≤ m) × (m < length nodes) × (is_so (tree_node nodes m) ≡ true))
  pub behind_it : (k : ℕ) → start ≤ k → m < k → k < length nodes → is_so (tree_node nodes k) ≡ false

pub last_from : (is_so : Node → Bool) (nodes : List Node) → AreInOrder nodes → (start n : ℕ) →
    IsLastFrom is_so nodes start n (last_that is_so n (drop start nodes))
last_from is_so nodes ordered start n =
    let m = last_that is_so n (drop start nodes) in
    let long = length-drop start nodes in ⊎_elim
    (λ (none : IsNone is_so (drop start nodes) n m). record {
      here = inl none.same;
      behind_it = λ k h above within. dropped_at start k (k - start) nodes is_so false (omega (arith, h))
          (none.none (k - start) (omega (arith, h, within, long)));
    })
    (λ (f : IsLast is_so (drop start nodes) m).
    let at : (tree_node nodes (start + f.place)).number ≡ (tree_node (drop start nodes) f.place).number =
    ap (λ (node : Node). node.number) (sym (get_or-drop start nodes f.place (record { number = 0; kind = kinds.Document; name = None; above = []; text = [] })))
    in
    let is : m ≡ start + f.place = sym (f.number) ∙ (sym at ∙ ordered (start + f.place) (omega (arith, f.within, long))) in
    record {
      here = inr (omega (arith, is), omega (arith, is, f.within, long), dropped_at start m f.place nodes is_so true is f.is);
      behind_it = λ k h above within. dropped_at start k (k - start) nodes is_so false (omega (arith, h))
          (f.behind_it (k - start) (omega (arith, is, h, above)) (omega (arith, h, within, long)));
    })
    (last_in is_so (drop start nodes) n m refl)
