-- A table of the first rule of each node.
use Rattle.std.specs.Prelude.{◌≡◌, ℕ, ◌+◌, ◌<◌, Bool, true, false, List, [], ◌∷◌, length, get_or, slice_get, Option, Some, None}
use Rattle.inv_base.specs.Tree.{Node, is_among}
use Rattle.node_arena.specs.Moves.{tree_node}
use Rattle.xpath_meaning.specs.Patterns.{matches}
use Rattle.schematron_findings.specs.declared.finding.Line.{Line}
use Rattle.schematron_meaning.specs.Rules.{Rule}
use Rattle.schematron_run.specs.Judging.{Variables, by_rule}

-- the number, where the test holds
abbrev pub given : Bool → ℕ → Option ℕ
given true k = Some k
given false k = None

-- the first of two numbers, or else the second
abbrev pub first_there : Option ℕ → Option ℕ → Option ℕ
first_there None other = other
first_there (Some k) other = Some k

abbrev pub is_there : Option ℕ → Bool
is_there None = false
is_there (Some k) = true

-- the number of the first rule whose context matches the node, where the first rule has the number
abbrev pub first_rule : List Node → Variables → Node → ℕ → List Rule → Option ℕ
first_rule nodes outer node k [] = None
first_rule nodes outer node k (rule ∷ rules) = first_there (given (matches nodes outer rule.context.expression node) k)
    (first_rule nodes outer node (k + 1) rules)

-- a node judged by the rule of a number, where there is one
abbrev pub by_entry : List Node → Variables → List Rule → ℕ → Option ℕ → List Line
by_entry nodes outer rules n None = []
by_entry nodes outer rules n (Some k) = elim (slice_get rules k) [ None ↦ [] | Some rule ↦ by_rule nodes outer n k rule ]

-- what the table keeps of a node
abbrev pub entry : List (Option ℕ) → ℕ → Option ℕ
entry table n = get_or table n None

-- The table keeps nothing.
abbrev pub IsClear : List (Option ℕ) → Type 0
IsClear table = (n : ℕ) → entry table n ≡ None

-- The numbers are those of the nodes of which the table keeps something.
abbrev pub AreTouched : List (Option ℕ) → List ℕ → Type 0
AreTouched table touched = (n : ℕ) → is_among n touched ≡ is_there (entry table n)

-- Where the table kept nothing of a node, it keeps the number now if the node is one of these.
abbrev pub Marked : List ℕ → ℕ → List (Option ℕ) → List (Option ℕ) → Type 0
Marked marks rule old new = (n : ℕ) → entry new n ≡ first_there (entry old n) (given (is_among n marks) rule)

-- The numbers are among so many.
abbrev pub AreBelow : ℕ → List ℕ → Type 0
AreBelow count ns = (n : ℕ) → is_among n ns ≡ true → n < count

-- The table keeps the first rule of each node.
abbrev pub AreFirsts : List Node → Variables → List Rule → List (Option ℕ) → Type 0
AreFirsts nodes outer rules table = (n : ℕ) → n < length nodes → entry table n ≡ first_rule nodes outer (tree_node nodes n) 0 rules

-- The table keeps what it kept, or the rule of that number where its context matches.
abbrev pub MarkedBy : List Node → Variables → Rule → ℕ → List (Option ℕ) → List (Option ℕ) → Type 0
MarkedBy nodes outer rule k old new =
    (n : ℕ) → n < length nodes → entry new n ≡ first_there (entry old n) (given (matches nodes outer rule.context.expression (tree_node nodes n)) k)
