-- The numbers of entries, by one induction on the nodes.
use Rattle.std.proofs.Common.{◌≡◌, ℕ, suc, ◌+◌, ◌<◌, ◌≤◌, Bool, true, false, List, [], ◌∷◌, ◌++◌, length, refl, ◌∙◌, arith}
use Rattle.std.specs.List.{All, AllPairs}
use Rattle.std.proofs.lemmas.List.Elements.{All-nil, All-cons, All-weaker}
use Rattle.std.proofs.lemmas.List.Kept.{AllPairs-cons}
use Rattle.inv_base.specs.Tree.{Node}
use Rattle.node_arena.specs.Moves.{tree_node}
use Rattle.schematron_meaning.specs.declared.around.Around.{Around}
use Rattle.schematron_meaning.specs.Entries.{Entry, entries, entries_behind, listed}
use Rattle.schematron_entries.specs.Order.{AreInOrder, NumbersRise, NumbersAreBelow}

-- the nodes have the numbers of their places, the first this one
abbrev pub NumberedFrom : ℕ → List Node → Type 0
NumberedFrom from nodes = (k : ℕ) → k < length nodes → (tree_node nodes k).number ≡ from + k

pub numbered_rest : (from : ℕ) (node : Node) (nodes : List Node) → NumberedFrom from (node ∷ nodes) → NumberedFrom (from + 1) nodes
numbered_rest from node nodes h = λ k l. h (suc k) (omega (arith, l)) ∙ omega arith

pub number_first : (from : ℕ) (node : Node) (nodes : List Node) → NumberedFrom from (node ∷ nodes) → node.number ≡ from
number_first from node nodes h = h 0 (omega arith) ∙ omega arith

pub listed_all : (P : Entry → Type 0) (b : Bool) (e : Entry) (rest : List Entry) → (b ≡ true → P e) → All P rest → All P (listed b e ++ rest)
listed_all P true e rest h all = All-cons P e rest (h refl) all
listed_all P false e rest h all = all

pub listed_pairs : (R : Entry → Entry → Type 0) (b : Bool) (e : Entry) (rest : List Entry) → All (R e) rest → AllPairs R rest → AllPairs R (listed b e ++ rest)
listed_pairs R true e rest all pairs = AllPairs-cons R e rest all pairs
listed_pairs R false e rest all pairs = pairs

-- the entry has a number from one on, below another
abbrev IsBetween : ℕ → ℕ → Entry → Type 0
IsBetween from to e = (from ≤ e.number) × (e.number < to)

pub between : (from : ℕ) (seen : List Around) (nodes : List Node) → NumberedFrom from nodes →
    All (IsBetween from (from + length nodes)) (entries_behind seen nodes)
between from seen [] h = All-nil _
between from seen (node ∷ nodes) h =
    let n : node.number ≡ from = number_first from node nodes h in
    listed_all (IsBetween from (from + length (node ∷ nodes))) _ _ _ (λ _. (omega (arith, n), omega (arith, n)))
    (All-weaker (IsBetween (from + 1) (from + 1 + length nodes)) (IsBetween from (from + length (node ∷ nodes)))
    (λ e w. (omega (arith, w.0), omega (arith, w.1))) _
    (between (from + 1) _ nodes (numbered_rest from node nodes h)))

pub rise : (from : ℕ) (seen : List Around) (nodes : List Node) → NumberedFrom from nodes → NumbersRise (entries_behind seen nodes)
rise from seen [] h = λ i j d l m. absurd (omega (arith, m))
rise from seen (node ∷ nodes) h =
    let n : node.number ≡ from = number_first from node nodes h in
    listed_pairs (λ (a b : Entry). a.number < b.number) _ _ _
    (All-weaker (IsBetween (from + 1) (from + 1 + length nodes)) (λ (b : Entry). node.number < b.number) (λ e w. omega (arith, n, w.0)) _
    (between (from + 1) _ nodes (numbered_rest from node nodes h)))
    (rise (from + 1) _ nodes (numbered_rest from node nodes h))

pub from_start : (nodes : List Node) → AreInOrder nodes → NumberedFrom 0 nodes
from_start nodes o = λ k l. o.numbered k l ∙ omega arith

pub entries_rise : (nodes : List Node) → AreInOrder nodes → NumbersRise (entries nodes)
unfolding entries
entries_rise nodes o = rise 0 [] nodes (from_start nodes o)

pub entries_below : (nodes : List Node) → AreInOrder nodes → NumbersAreBelow (length nodes) (entries nodes)
unfolding entries
entries_below nodes o = All-weaker (IsBetween 0 (0 + length nodes)) (λ (e : Entry). e.number < length nodes) (λ e w. omega (arith, w.1)) _
    (between 0 [] nodes (from_start nodes o))
