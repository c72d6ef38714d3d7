-- The first rule of each node, and what it finds.
use Rattle.std.proofs.Common.{◌≡◌, ℕ, suc, ◌+◌, ◌<◌, ◌≤◌, Bool, true, false, cond, ⊎_elim, List, [], ◌∷◌, ◌++◌, length, map, drop, get_or, Option, Some, None}
use Rattle.std.proofs.Common.{refl, ap, sym, subst, ◌∙◌, arith}
use Rattle.std.specs.Prelude.{filter, slice_get, option_map}
use Rattle.std.proofs.lemmas.Option.{slice_get-map}
use Rattle.std.specs.List.{flat_map}
use Rattle.std.proofs.lemmas.Bool.{cases_lt, false_from_ne_true}
use Rattle.std.proofs.lemmas.List.{drop_all, get_or_past}
use Rattle.std.proofs.lemmas.List.Concat.{flat_map-cons}
use Rattle.inv_base.specs.Tree.{Node, is_among}
use Rattle.node_arena.specs.Moves.{tree_node}
use Rattle.xpath_meaning.specs.Patterns.{matches, marks}
use Rattle.xpath_walks.specs.Walks.{IsWalkable, node_numbers}
use Rattle.xpath_walks.specs.Order.{AreNumbers}
use Rattle.xpath_marks.proofs.AmongLemmas.{among_passing, IsNumberOf, filtered_from}
use Rattle.schematron_findings.specs.declared.finding.Line.{Line}
use Rattle.schematron_meaning.specs.Rules.{Rule as SeenRule}
use Rattle.schematron_rules.specs.declared.rules.Rule.{Rule}
use Rattle.schematron_rules.specs.declared.rules.Expanded.{Expanded}
use Rattle.schematron_rules.specs.Seen.{seen_rule, seen_pattern}
use Rattle.schematron_run.specs.declared.ready.ReadyRule.{ReadyRule}
use Rattle.schematron_run.specs.Judging.{Variables, by_rule, by_first, by_pattern, by_number}
use Rattle.schematron_run.specs.Ready.{ready_rule}
use Rattle.schematron_run.specs.Firsts.{entry, given, first_there, first_rule, is_there, by_entry, AreTouched, AreBelow, AreFirsts, IsClear, Marked, MarkedBy}
use Rattle.schematron_run.proofs.ListLemmas.{drop_item}
use Rattle.schematron_run.proofs.MarkLemmas.{firsts_assoc, there_first, kept_within}

-- The marks of a context are the nodes that it matches.
pub marked_by : (nodes : List Node) (w : IsWalkable nodes) (outer : Variables) (rule : SeenRule) (found : List ℕ) (k : ℕ) (old new : List (Option ℕ))
    → found ≡ marks nodes outer rule.context.expression → Marked found k old new → MarkedBy nodes outer rule k old new
marked_by nodes w outer rule found k old new e h n l =
    h n ∙ ap (λ b. first_there (entry old n) (given b k))
    (ap (is_among n) e ∙ among_passing (matches nodes outer rule.context.expression) nodes n w.counted l)

-- what the table keeps, and what the rules to come would
abbrev pub Coming : List Node → Variables → List SeenRule → ℕ → List SeenRule → List (Option ℕ) → Type 0
Coming nodes outer rules i rest table =
    (n : ℕ) → n < length nodes → first_there (entry table n) (first_rule nodes outer (tree_node nodes n) i rest) ≡ first_rule nodes outer
    (tree_node nodes n) 0 rules

pub coming_begin : (nodes : List Node) (outer : Variables) (rules : List SeenRule) (table : List (Option ℕ)) → IsClear table →
    Coming nodes outer rules 0 rules table
coming_begin nodes outer rules table h n l = ap (λ o. first_there o (first_rule nodes outer (tree_node nodes n) 0 rules)) (h n)

pub coming_next : (nodes : List Node) (outer : Variables) (rules : List Rule) (i : ℕ) (rule : Rule) (old new : List (Option ℕ)) → rule ≡ get_or rules i rule →
    i < length rules
    → MarkedBy nodes outer (seen_rule rule) i old new → Coming nodes outer (map seen_rule rules) i (map seen_rule (drop i rules)) old
    → Coming nodes outer (map seen_rule rules) (i + 1) (map seen_rule (drop (i + 1) rules)) new
coming_next nodes outer rules i rule old new at l marked h n within =
    let rest : Option ℕ = first_rule nodes outer (tree_node nodes n) (i + 1) (map seen_rule (drop (i + 1) rules)) in
    ap (λ o. first_there o rest) (marked n within)
    ∙ (firsts_assoc (entry old n) (given (matches nodes outer (seen_rule rule).context.expression (tree_node nodes n)) i) rest
    ∙ (ap (λ rs. first_there (entry old n) (first_rule nodes outer (tree_node nodes n) i (map seen_rule rs))) (sym (drop_item rules i rule at l))
    ∙ h n within))

pub coming_end : (nodes : List Node) (outer : Variables) (rules : List Rule) (i : ℕ) (table : List (Option ℕ)) → length rules ≤ i
    → Coming nodes outer (map seen_rule rules) i (map seen_rule (drop i rules)) table → AreFirsts nodes outer (map seen_rule rules) table
coming_end nodes outer rules i table l h n within =
    sym (there_first (entry table n))
    ∙ (ap (λ rs. first_there (entry table n) (first_rule nodes outer (tree_node nodes n) i (map seen_rule rs))) (sym (drop_all i rules l)) ∙ h n within)

-- the nodes of which something is kept

abbrev pub kept_nodes : List Node → List (Option ℕ) → List ℕ
kept_nodes nodes table = node_numbers (filter (λ (node : Node). is_there (entry table node.number)) nodes)

pub are_numbers : (nodes : List Node) (w : IsWalkable nodes) (table : List (Option ℕ)) (touched : List ℕ) → length table ≡ length nodes →
    AreTouched table touched → AreNumbers nodes touched
are_numbers nodes w table touched long h = record {
  counted = w.counted;
  within = λ n e. subst (λ k. n < k) long (kept_within table touched h n e);
}

pub kept_of : (nodes : List Node) (table : List (Option ℕ)) (touched : List ℕ) → AreTouched table touched
    → node_numbers (filter (λ (node : Node). is_among node.number touched) nodes) ≡ kept_nodes nodes table
kept_of nodes table touched h = λ i. node_numbers (filter (λ (node : Node). h node.number i) nodes)

pub kept_below : (nodes : List Node) (w : IsWalkable nodes) (table : List (Option ℕ)) (touched : List ℕ) → touched ≡ kept_nodes nodes table →
    AreBelow (length nodes) touched
kept_below nodes w table touched is n e =
    let at : IsNumberOf (λ (node : Node). is_there (entry table node.number)) nodes n =
    filtered_from (λ node. is_there (entry table node.number)) nodes n (ap (is_among n) (sym is) ∙ e) in
    subst (λ k. k < length nodes) (sym (w.counted at.place at.within) ∙ at.number) at.within

pub kept_touched : (nodes : List Node) (w : IsWalkable nodes) (table : List (Option ℕ)) (touched : List ℕ) → length table ≡ length nodes →
    touched ≡ kept_nodes nodes table
    → AreTouched table touched
kept_touched nodes w table touched long is n = ⊎_elim
    (λ (l : n < length nodes).
    ap (is_among n) is ∙ (among_passing (λ (node : Node). is_there (entry table node.number)) nodes n w.counted l ∙
    ap (λ k. is_there (entry table k)) (w.counted n l)))
    (λ (past : length nodes ≤ n).
    false_from_ne_true (is_among n touched) (λ e. let l : n < length nodes = kept_below nodes w table touched is n e in absurd (omega (arith, l, past)))
    ∙ sym (ap is_there (get_or_past table n None (subst (λ k. k ≤ n) (sym long) past))))
    (cases_lt n (length nodes))

-- A node judged by its first rule.
first_found : (nodes : List Node) (outer : Variables) (node : Node) (all : List SeenRule) (k : ℕ) (rules : List SeenRule)
    → ((i : ℕ) → slice_get all (k + i) ≡ slice_get rules i)
    → by_first nodes outer node k rules ≡ by_entry nodes outer all node.number (first_rule nodes outer node k rules)
first_found nodes outer node all k [] h = refl
first_found nodes outer node all k (rule ∷ rules) h =
    by_test (matches nodes outer rule.context.expression node)
    (first_found nodes outer node all (k + 1) rules (λ i. ap (slice_get all) (further i) ∙ h (suc i)))
  where
    further : (i : ℕ) → (k + 1) + i ≡ k + suc i
    further i = omega arith

    here : k ≡ k + 0
    here = omega arith

    first : slice_get all k ≡ Some rule
    first = ap (slice_get all) here ∙ h 0

    by_test : (b : Bool) → by_first nodes outer node (k + 1) rules ≡ by_entry nodes outer all node.number (first_rule nodes outer node (k + 1) rules)
        → (elim b [ true ↦ by_rule nodes outer node.number k rule | false ↦ by_first nodes outer node (k + 1) rules ])
        ≡ by_entry nodes outer all node.number (first_there (given b k) (first_rule nodes outer node (k + 1) rules))
    by_test true e = sym (ap (λ o. elim o [ None ↦ [] | Some found ↦ by_rule nodes outer node.number k found ]) first)
    by_test false e = e

flat_kept : (p : Node → Bool) (g : ℕ → List Line) (h : Node → List Line) (xs : List Node)
    → ((k : ℕ) → k < length xs → h (tree_node xs k) ≡ cond (p (tree_node xs k)) (g (tree_node xs k).number) [])
    → flat_map g (node_numbers (filter p xs)) ≡ flat_map h xs
flat_kept p g h [] at = refl
flat_kept p g h (x ∷ xs) at =
    by_test (p x) ∙ (ap (λ ls. ls ++ flat_map g (node_numbers (filter p xs))) (sym (at 0 (omega arith)))
    ∙ (ap (λ ls. h x ++ ls) (flat_kept p g h xs (λ k l. at (suc k) (omega (arith, l)))) ∙ sym (flat_map-cons h x xs)))
  where
    by_test : (b : Bool) → flat_map g (node_numbers (cond b (x ∷ filter p xs) (filter p xs))) ≡ cond b (g x.number) [] ++
        flat_map g (node_numbers (filter p xs))
    by_test true = flat_map-cons g x.number (node_numbers (filter p xs))
    by_test false = refl

-- Judging the nodes that are kept by what is kept of them is judging all nodes by the first rule.
pub all_found : (nodes : List Node) (w : IsWalkable nodes) (outer : Variables) (rules : List SeenRule) (table : List (Option ℕ)) (touched : List ℕ)
    → AreFirsts nodes outer rules table → touched ≡ kept_nodes nodes table
    → flat_map (λ n. by_entry nodes outer rules n (entry table n)) touched ≡ flat_map (λ (node : Node). by_first nodes outer node 0 rules) nodes
all_found nodes w outer rules table touched firsts is =
    ap (flat_map (λ n. by_entry nodes outer rules n (entry table n))) is
    ∙ flat_kept (λ (node : Node). is_there (entry table node.number)) (λ n. by_entry nodes outer rules n (entry table n))
    (λ (node : Node). by_first nodes outer node 0 rules) nodes
    (λ k l.
    let node : Node = tree_node nodes k in
    first_found nodes outer node rules 0 rules (λ i. ap (slice_get rules) (from_none i))
    ∙ (ap (by_entry nodes outer rules node.number) (sym (firsts k l) ∙ ap (entry table) (sym (w.counted k l)))
    ∙ where_there node.number (entry table node.number)))
  where
    from_none : (i : ℕ) → 0 + i ≡ i
    from_none i = omega arith

    where_there : (n : ℕ) (o : Option ℕ) → by_entry nodes outer rules n o ≡ cond (is_there o) (by_entry nodes outer rules n o) []
    where_there n None = refl
    where_there n (Some k) = refl

-- a node of which nothing is touched yet
pub untouched : (table : List (Option ℕ)) (touched : List ℕ) → IsClear table → touched ≡ [] → AreTouched table touched
untouched table touched h e n = ap (is_among n) e ∙ sym (ap is_there (h n))

pub no_entry : (nodes : List Node) (outer : Variables) (rules : List ReadyRule) (n k : ℕ) → slice_get rules k ≡ None →
    by_entry nodes outer (map ready_rule rules) n (Some k) ≡ []
no_entry nodes outer rules n k e =
    ap (λ o. elim o [ None ↦ [] | Some rule ↦ by_rule nodes outer n k rule ]) (slice_get-map ready_rule rules k ∙ ap (option_map ready_rule) e)

pub no_number : (nodes : List Node) (outer : Variables) (patterns : List Expanded) (k : ℕ) → slice_get patterns k ≡ None →
    by_number nodes outer (map seen_pattern patterns) k ≡ []
no_number nodes outer patterns k e =
    ap (λ o. elim o [ None ↦ [] | Some pattern ↦ by_pattern nodes outer pattern ]) (slice_get-map seen_pattern patterns k ∙ ap (option_map seen_pattern) e)

pub a_number : (nodes : List Node) (outer : Variables) (patterns : List Expanded) (k : ℕ) (pattern : Expanded) → slice_get patterns k ≡ Some pattern
    → by_number nodes outer (map seen_pattern patterns) k ≡ by_pattern nodes outer (seen_pattern pattern)
a_number nodes outer patterns k pattern e =
    ap (λ o. elim o [ None ↦ [] | Some found ↦ by_pattern nodes outer found ]) (slice_get-map seen_pattern patterns k ∙ ap (option_map seen_pattern) e)
