-- Marks: one and more, and those of all nodes.
use Rattle.std.proofs.Common.{◌≡◌, ℕ, zero, suc, ◌+◌, ◌-◌, ◌<◌, ◌≤◌, Bool, true, false, ◌||◌, ◌==◌, List, [], ◌∷◌, ◌++◌, length, map, drop, get_or, replicate}
use Rattle.std.proofs.Common.{refl, ap, sym, ◌∙◌, subst, arith}
use Rattle.std.specs.Prelude.{slice_set}
use Rattle.std.specs.List.{flat_map}
use Rattle.std.proofs.lemmas.Bool.{eq-eqb, ne_eqb}
use Rattle.std.proofs.lemmas.List.{drop_more, length-drop, nil_from_length}
use Rattle.inv_base.specs.Tree.{Node, is_among}
use Rattle.bind_walk.proofs.OrderLemmas.{From}
use Rattle.bind_said.specs.Marks.{mark_from, mark_all}
use Rattle.bind_said.proofs.ListLemmas.{or-or, or-false, among-append}

pub mark-none : (k : ℕ) (marks : List Bool) → mark_from k marks [] ≡ marks
mark-none k [] = refl
mark-none k (b ∷ marks) = ap (λ c. c ∷ mark_from (k + 1) marks []) (or-false b) ∙ ap (λ bs. b ∷ bs) (mark-none (k + 1) marks)

mark-more-from : (k : ℕ) (marks : List Bool) (ns ms : List ℕ) → mark_from k (mark_from k marks ns) ms ≡ mark_from k marks (ns ++ ms)
mark-more-from k [] ns ms = refl
mark-more-from k (b ∷ marks) ns ms =
    ap (λ c. c ∷ mark_from (k + 1) (mark_from (k + 1) marks ns) ms)
    (or-or b (is_among k ns) (is_among k ms) ∙ ap (λ c. b || c) (sym (among-append k ns ms)))
    ∙ ap (λ bs. (b || is_among k (ns ++ ms)) ∷ bs) (mark-more-from (k + 1) marks ns ms)

-- Nodes that are marked one behind another are marked together.
pub mark-more : (marks : List Bool) (ns ms : List ℕ) → mark_all (mark_all marks ns) ms ≡ mark_all marks (ns ++ ms)
mark-more marks ns ms = mark-more-from 0 marks ns ms

-- the same by what was marked
pub marked-more : (old new newer : List Bool) (ns ms : List ℕ) → new ≡ mark_all old ns → newer ≡ mark_all new ms → newer ≡ mark_all old (ns ++ ms)
marked-more old new newer ns ms e f = f ∙ (ap (λ bs. mark_all bs ms) e ∙ mark-more old ns ms)

pub marked-none : (marks : List Bool) → marks ≡ mark_all marks []
marked-none marks = sym (mark-none 0 marks)

-- by a test that chooses whether these are marked
pub unmarked-by : (marks : List Bool) (b r : Bool) (ns : List ℕ) → r ≡ b → r ≡ false
    → marks ≡ mark_all marks (elim b as (λ _. List ℕ) [ true ↦ ns | false ↦ [] ])
unmarked-by marks b r ns e f = marked-none marks ∙ ap (λ c. mark_all marks (elim c as (λ _. List ℕ) [ true ↦ ns | false ↦ [] ])) (sym f ∙ e)

pub marked-by : (marks new : List Bool) (b r : Bool) (ns : List ℕ) → r ≡ b → r ≡ true → new ≡ mark_all marks ns
    → new ≡ mark_all marks (elim b as (λ _. List ℕ) [ true ↦ ns | false ↦ [] ])
marked-by marks new b r ns e f m = m ∙ ap (λ c. mark_all marks (elim c as (λ _. List ℕ) [ true ↦ ns | false ↦ [] ])) (sym f ∙ e)

-- ---- one node

-- a node before these, or behind them
past : (k n : ℕ) (marks : List Bool) → n < k → mark_from k marks (n ∷ []) ≡ marks
past k n [] h = refl
past k n (b ∷ marks) h =
    ap (λ c. (b || (c || false)) ∷ mark_from (k + 1) marks (n ∷ [])) (ne_eqb k n (λ e. omega (arith, e, h)))
    ∙ (ap (λ c. c ∷ mark_from (k + 1) marks (n ∷ [])) (or-false b) ∙ ap (λ bs. b ∷ bs) (past (k + 1) n marks (omega (arith, h))))

beyond : (k n : ℕ) (marks : List Bool) → k + length marks ≤ n → mark_from k marks (n ∷ []) ≡ marks
beyond k n [] h = refl
beyond k n (b ∷ marks) h =
    ap (λ c. (b || (c || false)) ∷ mark_from (k + 1) marks (n ∷ [])) (ne_eqb k n (λ e. omega (arith, e, h)))
    ∙ (ap (λ c. c ∷ mark_from (k + 1) marks (n ∷ [])) (or-false b) ∙ ap (λ bs. b ∷ bs) (beyond (k + 1) n marks (omega (arith, h))))

or-true : (b : Bool) → true ≡ (b || true)
or-true true = refl
or-true false = refl

here : (k j n : ℕ) (marks : List Bool) → n ≡ k + j → slice_set marks j true ≡ mark_from k marks (n ∷ [])
here k j n [] e = refl
here k zero n (b ∷ marks) e =
    let hit : (k == n) ≡ true = eq-eqb k n (omega (arith, e)) in
    ap (λ c. c ∷ marks) (or-true b)
    ∙ (ap (λ c. (b || (c || false)) ∷ marks) (sym hit) ∙ ap (λ bs. (b || ((k == n) || false)) ∷ bs) (sym (past (k + 1) n marks (omega (arith, e)))))
here k (suc j) n (b ∷ marks) e =
    let miss : (k == n) ≡ false = ne_eqb k n (λ f. omega (arith, e, f)) in
    ap (λ bs. b ∷ bs) (here (k + 1) j n marks (omega (arith, e)))
    ∙ (ap (λ c. c ∷ mark_from (k + 1) marks (n ∷ [])) (sym (or-false b)) ∙ ap (λ c. (b || (c || false)) ∷ mark_from (k + 1) marks (n ∷ [])) (sym miss))

pub mark-one : (marks : List Bool) (n : ℕ) → slice_set marks n true ≡ mark_all marks (n ∷ [])
mark-one marks n = here 0 n n marks (omega arith)

pub mark-outside : (marks : List Bool) (n : ℕ) → length marks ≤ n → marks ≡ mark_all marks (n ∷ [])
mark-outside marks n h = sym (beyond 0 n marks (omega (arith, h)))

-- ---- all nodes

pub mark-whole : (k : ℕ) (nodes : List Node) (ns : List ℕ) → From k nodes
    → mark_from k (replicate (length nodes) false) ns ≡ map (λ (node : Node). is_among node.number ns) nodes
mark-whole k [] ns h = refl
mark-whole k (node ∷ nodes) ns h =
    ap (λ bs. is_among k ns ∷ bs) (mark-whole (k + 1) nodes ns h.1)
    ∙ ap (λ n. is_among n ns ∷ map (λ (node : Node). is_among node.number ns) nodes) (sym h.0)

-- ---- a loop over a list

module _ {X : Type 0} (f : X → List ℕ) (xs : List X) (old : List Bool) where
  -- What was marked, and what is still to come, is what all are.
  abbrev pub IsLeft : ℕ → List Bool → Type 0
  IsLeft i marks = mark_all marks (flat_map f (drop i xs)) ≡ mark_all old (flat_map f xs)

  pub left-more : (i : ℕ) (x : X) (marks after : List Bool) → i < length xs → x ≡ get_or xs i x → IsLeft i marks → after ≡ mark_all marks (f x)
      → IsLeft (i + 1) after
  left-more i x marks after within is h e =
      ap (λ bs. mark_all bs (flat_map f (drop (i + 1) xs))) (e ∙ ap (λ y. mark_all marks (f y)) is)
      ∙ (mark-more marks (f (get_or xs i x)) (flat_map f (drop (i + 1) xs))
      ∙ (ap (λ ys. mark_all marks (flat_map f ys)) (sym (drop_more xs i x within)) ∙ h))

  pub left-end : (i : ℕ) (marks : List Bool) → length xs ≤ i → IsLeft i marks → marks ≡ mark_all old (flat_map f xs)
  left-end i marks past h =
      marked-none marks ∙ (ap (λ ys. mark_all marks (flat_map f ys)) (sym (nil_from_length (drop i xs)
      (length-drop i xs ∙ (let e : length xs - i ≡ 0 = omega (arith, past) in e)))) ∙ h)
