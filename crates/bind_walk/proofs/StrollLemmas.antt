-- What is found child by child is what is found line by line, in another order: every sum over both is the same.
use Rattle.std.proofs.Common.{◌≡◌, ℕ, ◌+◌, Bool, true, false, List, [], ◌∷◌, ◌++◌, refl, ap, arith}
use Rattle.std.specs.List.{flat_map, sum_by}
use Rattle.std.proofs.lemmas.List.Sums.{sum_by-append}
use Rattle.node_arena.specs.Document.{Document}
use Rattle.node_arena.specs.Moves.{tree_nodes}
use Rattle.bind_table.specs.Lines.{Plan, nothing, a_line}
use Rattle.bind_table.specs.Picks.{walked, through, here}
use Rattle.bind_meaning.specs.Elements.{met}
use Rattle.bind_walk.specs.Chains.{children}
use Rattle.bind_walk.specs.declared.lines.FoundLine.{FoundLine}
use Rattle.bind_walk.specs.declared.walk.Carried.{Carried}
use Rattle.bind_walk.specs.declared.finds.Find.{Find}
use Rattle.bind_walk.specs.Walks.{sight, line_of, is_of, around_in, found_here, found_by, entered_by, entered_in, met_by, strolled, LeadsAlike}

module _ (f : Find → ℕ) where
  nowhere : (ns : List ℕ) → sum_by f (flat_map (λ (m : ℕ). []) ns) ≡ 0
  nowhere [] = refl
  nowhere (n ∷ ns) = nowhere ns

  sum-apart : (a b : ℕ → List Find) (ns : List ℕ) → sum_by f (flat_map (λ m. a m ++ b m) ns) ≡ sum_by f (flat_map a ns) + sum_by f (flat_map b ns)
  sum-apart a b [] = refl
  sum-apart a b (n ∷ ns) =
      let whole = sum_by-append f (a n ++ b n) (flat_map (λ m. a m ++ b m) ns) in
      let both = sum_by-append f (a n) (b n) in
      let ones = sum_by-append f (a n) (flat_map a ns) in
      let others = sum_by-append f (b n) (flat_map b ns) in
      let rest = sum-apart a b ns in
      omega (arith, whole, both, ones, others, rest)

  sum-alike : (a b : ℕ → List Find) → ((m : ℕ) → sum_by f (a m) ≡ sum_by f (b m)) → (ns : List ℕ) → sum_by f (flat_map a ns) ≡ sum_by f (flat_map b ns)
  sum-alike a b same [] = refl
  sum-alike a b same (n ∷ ns) =
      let ones = sum_by-append f (a n) (flat_map a ns) in
      let others = sum_by-append f (b n) (flat_map b ns) in
      let first = same n in
      let rest = sum-alike a b same ns in
      omega (arith, ones, others, first, rest)

  module _ (d : Document) where
    entered-alike : (line : FoundLine) (deeper other : List Carried → ℕ → List Find)
        → ((c : List Carried) (m : ℕ) → sum_by f (deeper c m) ≡ sum_by f (other c m))
        → (around : List Carried) (n : ℕ) → sum_by f (entered_by d line deeper around n) ≡ sum_by f (entered_by d line other around n)
    entered-alike line deeper other same around n = at (is_of d line n)
      where
        at : (b : Bool) → sum_by f (elim b as (λ _. List Find) [ true ↦ found_by d line deeper (around_in line.group n around) n | false ↦ [] ])
            ≡ sum_by f (elim b as (λ _. List Find) [ true ↦ found_by d line other (around_in line.group n around) n | false ↦ [] ])
        at true =
            let c : List Carried = around_in line.group n around in
            let ones = sum_by-append f (found_here d c n line.rows) (deeper c n) in
            let others = sum_by-append f (found_here d c n line.rows) (other c n) in
            let inside = same c n in
            omega (arith, ones, others, inside)
        at false = refl

    pub strolled-sum : LeadsAlike d → (plan : Plan) (around : List Carried) (n : ℕ)
        → sum_by f (strolled d plan around n) ≡ sum_by f (walked (sight d) plan around n)
    strolled-sum alike nothing around n = nowhere (children d n)
    strolled-sum alike (a_line s cells inside rest) around n =
        let line : FoundLine = line_of d s cells inside in
        let first : ℕ → List Find = entered_by d line (strolled d inside) around in
        let step : List Find = through (sight d) (λ c y. here (sight d) cells c y ++ walked (sight d) inside c y) s.group around (met (tree_nodes d) s n) in
        let apart = sum-apart first (met_by d rest around) (children d n) in
        let same = sum-alike first (entered_in d line inside around)
        (λ m. entered-alike line (strolled d inside) (walked (sight d) inside) (λ c k. strolled-sum alike inside c k) around m) (children d n) in
        let lead = ap (sum_by f) (alike s cells inside around n) in
        let others = strolled-sum alike rest around n in
        let both = sum_by-append f step (walked (sight d) rest around n) in
        omega (arith, apart, same, lead, others, both)
