-- What works of patterns find, from what their parts find.
use Rattle.std.proofs.Common.{◌≡◌, ℕ, ◌+◌, ◌<◌, Bool, true, false, ◌||◌, ◌⊎◌, inl, inr, ⊎_elim, List, [], ◌∷◌, ◌++◌, length, get_or, take, Option, Some, None}
use Rattle.std.proofs.Common.{Result, Ok, Err, IfOk, refl, ap, sym, subst, ◌∙◌, arith}
use Rattle.std.specs.Prelude.{filter}
use Rattle.std.specs.List.{list_any}
use Rattle.std.proofs.lemmas.List.{take_more, map-append}
use Rattle.std.proofs.lemmas.Bool.{and_parts, false≢true, true≢false}
use Rattle.inv_base.specs.Tree.{Node, Name, is_among}
use Rattle.node_arena.specs.Moves.{tree_node}
use Rattle.xpath_tokens.specs.declared.token.Operator.{Operator}
use Rattle.xpath_tokens.specs.declared.token.Operator.TheVariants as o
use Rattle.xpath_meaning.specs.Items.{is_empty}
use Rattle.xpath_meaning.specs.Expressions as x
use Rattle.xpath_meaning.specs.Expressions.{Exp, NodeTest}
use Rattle.xpath_grammar.specs.declared.step.Axis.{Axis}
use Rattle.xpath_meaning.specs.Resolving.{Operand, all_inside, in_axis_order, chained, chained_on, linked, linked_by, kept_of, step_of}
use Rattle.xpath_plan.specs.declared.plan_node.Operation.{Operation}
use Rattle.xpath_plan.specs.declared.plan_node.Operation.TheVariants as kd
use Rattle.xpath_plan.specs.declared.plan_node.Separator.{Separator}
use Rattle.xpath_plan.specs.declared.plan_node.Separator.TheVariants as l
use Rattle.xpath_plan.specs.declared.plan_node.Simple.{Simple}
use Rattle.xpath_plan.specs.declared.plan_node.Simple.TheVariants as s
use Rattle.xpath_plan.specs.declared.plan_node.PlanNode.{PlanNode}
use Rattle.xpath_plan.specs.declared.plan_node.PlanNode.TheVariants as w
use Rattle.xpath_plan.specs.Plans.{seen, made, label_of, simple_seen, test_seen}
use Rattle.xpath_parts.proofs.SeenLemmas.{seen-simple}
use Rattle.xpath_parts.proofs.NamedLemmas.{chain_is}
use Rattle.xpath_walks.specs.Walks.{IsWalked, node_numbers}
use Rattle.xpath_walks.specs.Order.{AreNumbers}
use Rattle.xpath_walks.proofs.FilterLemmas.{alike}
use Rattle.xpath_walks.proofs.OrderLemmas.{rising}
use Rattle.xpath_parts.specs.declared.dynamic.DynamicContext.{DynamicContext}
use Rattle.xpath_parts.specs.Contexts.{operands_of}
use Rattle.xpath_parts.specs.Named.{is_chain}
use Rattle.xpath_parts.specs.Parts.{is_operator}
use Rattle.xpath_marks.specs.declared.marking.Joining.{Joining}
use Rattle.xpath_marks.specs.declared.marking.Joining.TheVariants as j
use Rattle.xpath_marks.specs.Shapes.{is_step, is_pattern}
use Rattle.xpath_marks.specs.Found.{is_found, all_found, all_reached}
use Rattle.xpath_marks.specs.Marking.{FoundByStep, Reached, Marked, nodes_of, is_first_part, is_root, joined_by, joining_of, united_of}
use Rattle.xpath_marks.specs.FirstSteps.{is_found_by_first}
use Rattle.xpath_marks.proofs.ShapeLemmas.{step_pattern}
use Rattle.xpath_marks.proofs.FoundLemmas.{path_found, bar_found, step_found}
use Rattle.xpath_marks.proofs.TurnLemmas.{node_seen, first_part_is, ordered_found, ordered_step}

-- ---- the document, and nothing

among_zero : (k : ℕ) (ns : List Node) → 0 < length ns → list_any (λ (node : Node). is_among k (0 ∷ [])) ns ≡ is_among k (0 ∷ [])
among_zero k [] h = absurd (omega (arith, h))
among_zero k (n ∷ []) h = or_false (is_among k (0 ∷ []))
  where
    or_false : (b : Bool) → (b || false) ≡ b
    or_false true = refl
    or_false false = refl
among_zero k (n ∷ (m ∷ ns)) h = ap (λ b. is_among k (0 ∷ []) || b) (among_zero k (m ∷ ns) (omega arith)) ∙ twice (is_among k (0 ∷ []))
  where
    twice : (b : Bool) → (b || b) ≡ b
    twice true = refl
    twice false = refl

pub root_found : (base : DynamicContext) → AreNumbers (nodes_of base) (0 ∷ []) → 0 < length (nodes_of base) → (ns : List ℕ) → ns ≡ 0 ∷ [] →
    ns ≡ all_found (nodes_of base) base.env.now x.the_root
root_found base are some ns e =
    e ∙ (rising (nodes_of base) (0 ∷ []) are refl
    ∙ ap node_numbers (alike (λ (node : Node). is_among node.number (0 ∷ [])) (λ (node : Node). is_found (nodes_of base) base.env.now x.the_root node.number) 0
    (nodes_of base)
    (λ k a b. sym (among_zero (tree_node (nodes_of base) k).number (nodes_of base) some))))

none_found : (base : DynamicContext) (ns : List Node) → node_numbers (filter (λ (node : Node). is_found (nodes_of base) base.env.now x.nothing node.number)
    ns) ≡ []
none_found base [] = refl
none_found base (n ∷ ns) = rw none_at (none_found base ns)
  where
    never_any : (ms : List Node) → list_any (λ (node : Node). false) ms ≡ false
    never_any [] = refl
    never_any (m ∷ ms) = never_any ms

    none_at : is_found (nodes_of base) base.env.now x.nothing n.number ≡ false
    none_at = never_any (nodes_of base)

pub nothing_found : (base : DynamicContext) (ns : List ℕ) → ns ≡ [] → ns ≡ all_found (nodes_of base) base.env.now x.nothing
nothing_found base ns e = e ∙ sym (none_found base (nodes_of base))

-- ---- steps alone

stepped_is : (axis : Axis) (test : Option NodeTest) → is_pattern (step_of axis test) ≡ true → is_step (step_of axis test) ≡ true
stepped_is axis None p = refl
stepped_is axis (Some test) p = p

simple_step : (names : List Name) (simple : Simple) → is_root simple ≡ false → is_pattern (simple_seen names simple) ≡ true →
    is_step (simple_seen names simple) ≡ true
simple_step names (s.Text text) r p = absurd (false≢true p)
simple_step names (s.Number number) r p = absurd (false≢true p)
simple_step names s.Nothing r p = refl
simple_step names s.Item r p = absurd (false≢true p)
simple_step names s.Root r p = absurd (true≢false r)
simple_step names (s.Variable height) r p = absurd (false≢true p)
simple_step names (s.Outer name) r p = absurd (false≢true p)
simple_step names (s.Step axis test) r p = stepped_is axis (test_seen names test) p
simple_step names (s.Called function) r p = absurd (false≢true p)

pub simple_marked : (base : DynamicContext) (work : PlanNode) (simple : Simple) (found : List ℕ) → work ≡ w.Simple simple → is_root simple ≡ false
    → FoundByStep base (seen base.names.now work) found → Marked base (seen base.names.now work) found
simple_marked base work simple found e r f = λ p.
    let is : seen base.names.now work ≡ simple_seen base.names.now simple = ap (seen base.names.now) e ∙ seen-simple base.names.now simple in
    f (ap is_step is ∙ simple_step base.names.now simple r (sym (ap is_pattern is) ∙ p))

pub root_marked : (base : DynamicContext) (work : PlanNode) (simple : Simple) (found : List ℕ) → work ≡ w.Simple simple → is_root simple ≡ true
    → Marked base x.the_root found → Marked base (seen base.names.now work) found
root_marked base work simple found e r m =
    subst (λ e. Marked base e found) (sym (ap (seen base.names.now) e ∙
    (seen-simple base.names.now simple ∙ ap (simple_seen base.names.now) (root_is simple r)))) m
  where
    root_is : (simple : Simple) → is_root simple ≡ true → simple ≡ s.Root
    root_is s.Root r = refl
    root_is (s.Text text) r = absurd (false≢true r)
    root_is (s.Number number) r = absurd (false≢true r)
    root_is s.Nothing r = absurd (false≢true r)
    root_is s.Item r = absurd (false≢true r)
    root_is (s.Variable height) r = absurd (false≢true r)
    root_is (s.Outer name) r = absurd (false≢true r)
    root_is (s.Step axis test) r = absurd (false≢true r)
    root_is (s.Called function) r = absurd (false≢true r)

no_parts_step : (kind : Operation) → is_pattern (made kind []) ≡ true → is_step (made kind []) ≡ true
no_parts_step kd.Chain p = refl
no_parts_step (kd.Bound binder) p = refl
no_parts_step kd.Conditional p = refl
no_parts_step (kd.Cast word function optional) p = absurd (false≢true p)
no_parts_step (kd.Signs signs) p = absurd (false≢true p)
no_parts_step kd.FilteredStep p = refl
no_parts_step kd.FreeStep p = refl
no_parts_step kd.Filtered p = refl
no_parts_step kd.Only p = refl
no_parts_step (kd.Once slot height) p = refl
no_parts_step (kd.Call function) p = absurd (false≢true p)
no_parts_step (kd.Matches pattern) p = absurd (false≢true p)
no_parts_step kd.Nothing p = refl

kept_pattern : (parts : List Operand) (e : Exp) (part : Operand) →
    is_pattern (kept_of (x.filtered e part.1) parts) ≡ is_step (kept_of (x.filtered e part.1) parts)
kept_pattern [] e part = refl
kept_pattern (next ∷ parts) e part = kept_pattern parts (x.filtered e part.1) next

other_step : (names : List Name) (kind : Operation) (link : Separator) (work : PlanNode) (others : List (Separator × PlanNode))
    → is_first_part kind link (is_empty others) ≡ false →
    is_chain kind ≡ false
    → is_pattern (made kind (operands_of names ((link, work) ∷ others))) ≡ true → is_step (made kind (operands_of names ((link, work) ∷ others))) ≡ true
other_step names kd.Only link work others h c p = absurd (true≢false h)
other_step names (kd.Once slot height) link work others h c p = absurd (true≢false h)
other_step names kd.Chain link work others h c p = absurd (true≢false c)
other_step names kd.Filtered link work [] h c p = absurd (true≢false h)
other_step names kd.Filtered link work (other ∷ others) h c p =
    sym (kept_pattern (operands_of names others) (seen names work) (label_of other.0, seen names other.1)) ∙ p
other_step names kd.FilteredStep link work others h c p = p
other_step names kd.FreeStep link work others h c p = p
other_step names (kd.Bound binder) link work [] h c p = absurd (true≢false h)
other_step names (kd.Bound binder) link work (other ∷ others) h c p = absurd (false≢true p)
other_step names kd.Conditional link work [] h c p = refl
other_step names kd.Conditional link work (a ∷ []) h c p = refl
other_step names kd.Conditional link work (a ∷ (b ∷ [])) h c p = absurd (false≢true p)
other_step names kd.Conditional link work (a ∷ (b ∷ (d ∷ others))) h c p = refl
other_step names (kd.Cast word function optional) link work others h c p = absurd (false≢true p)
other_step names (kd.Signs signs) link work others h c p = absurd (false≢true p)
other_step names (kd.Call function) link work others h c p = absurd (false≢true p)
other_step names (kd.Matches pattern) link work others h c p = absurd (false≢true p)
other_step names kd.Nothing link work others h c p = refl

-- ---- what the first part finds

ordered_marked : (base : DynamicContext) (e : Exp) (found : List ℕ) → Marked base e found → Marked base (x.stepped (in_axis_order e)) found
ordered_marked base e found m s =
    m (step_pattern e (sym (ordered_step e) ∙ s))
    ∙ (λ j. node_numbers (filter (λ (node : Node). list_any (λ (n : Node). is_among node.number (sym (ordered_found base e n.number) j)) (nodes_of base))
    (nodes_of base)))

first_finds : (base : DynamicContext) (kind : Operation) (link : Separator) (work : PlanNode) (others : List (Separator × PlanNode)) (found : List ℕ) →
    is_found_by_first kind link (is_empty others) ≡ true
    → Marked base (seen base.names.now work) found → Marked base (made kind (operands_of base.names.now ((link, work) ∷ others))) found
first_finds base kd.FilteredStep link work [] found h m = ordered_marked base (seen base.names.now work) found m
first_finds base kd.FreeStep link work [] found h m = ordered_marked base (seen base.names.now work) found m
first_finds base kd.FilteredStep link work (other ∷ others) found h m = absurd (false≢true h)
first_finds base kd.FreeStep link work (other ∷ others) found h m = absurd (false≢true h)
first_finds base kd.Only link work others found h m = subst (λ e. Marked base e found) (sym (first_part_is base.names.now kd.Only link work others h)) m
first_finds base (kd.Once slot height) link work others found h m =
    subst (λ e. Marked base e found) (sym (first_part_is base.names.now (kd.Once slot height) link work others h)) m
first_finds base kd.Filtered link work others found h m = subst (λ e. Marked base e found) (sym (first_part_is base.names.now kd.Filtered link work others h)) m
first_finds base (kd.Bound binder) link work others found h m =
    subst (λ e. Marked base e found) (sym (first_part_is base.names.now (kd.Bound binder) link work others h)) m
first_finds base kd.Chain link work others found h m = subst (λ e. Marked base e found) (sym (first_part_is base.names.now kd.Chain link work others h)) m
first_finds base kd.Conditional link work others found h m = absurd (false≢true h)
first_finds base (kd.Cast word function optional) link work others found h m = absurd (false≢true h)
first_finds base (kd.Signs signs) link work others found h m = absurd (false≢true h)
first_finds base (kd.Call function) link work others found h m = absurd (false≢true h)
first_finds base (kd.Matches pattern) link work others found h m = absurd (false≢true h)
first_finds base kd.Nothing link work others found h m = absurd (false≢true h)

not_first : (kind : Operation) (link : Separator) (alone : Bool) → is_found_by_first kind link alone ≡ false → is_first_part kind link alone ≡ false
not_first kd.FilteredStep link alone h = refl
not_first kd.FreeStep link alone h = refl
not_first kd.Only link alone h = h
not_first (kd.Once slot height) link alone h = h
not_first kd.Filtered link alone h = h
not_first (kd.Bound binder) link alone h = h
not_first kd.Chain link alone h = h
not_first kd.Conditional link alone h = h
not_first (kd.Cast word function optional) link alone h = h
not_first (kd.Signs signs) link alone h = h
not_first (kd.Call function) link alone h = h
not_first (kd.Matches pattern) link alone h = h
not_first kd.Nothing link alone h = h

-- ---- works with parts

module _ (base : DynamicContext) (work : PlanNode) (kind : Operation) (parts : List (Separator × PlanNode)) (is : work
    ≡ w.Node kind parts) (found : List ℕ) where
  node_is : seen base.names.now work ≡ made kind (operands_of base.names.now parts)
  node_is = ap (seen base.names.now) is ∙ node_seen base.names.now kind parts

  pub empty_marked : parts ≡ [] → FoundByStep base (seen base.names.now work) found → Marked base (seen base.names.now work) found
  empty_marked none f = λ p.
      let e : seen base.names.now work ≡ made kind [] = node_is ∙ ap (λ ps. made kind (operands_of base.names.now ps)) none in
      f (ap is_step e ∙ no_parts_step kind (sym (ap is_pattern e) ∙ p))

  module _ (first : Separator × PlanNode) (others : List (Separator × PlanNode)) (divided : parts ≡ first ∷ others) where
    divided_is : seen base.names.now work ≡ made kind (operands_of base.names.now (first ∷ others))
    divided_is = node_is ∙ ap (λ ps. made kind (operands_of base.names.now ps)) divided

    pub first_marked : is_found_by_first kind first.0 (is_empty others) ≡ true → Marked base (seen base.names.now first.1) found →
        Marked base (seen base.names.now work) found
    first_marked h m = subst (λ e. Marked base e found) (sym divided_is) (first_finds base kind first.0 first.1 others found h m)

    pub others_marked : is_found_by_first kind first.0 (is_empty others) ≡ false → is_chain kind ≡ false → FoundByStep base (seen base.names.now work) found
        → Marked base (seen base.names.now work) found
    others_marked h c f = λ p.
        f (ap is_step divided_is ∙ other_step base.names.now kind first.0 first.1 others (not_first kind first.0 (is_empty others) h) c
        (sym (ap is_pattern divided_is) ∙ p))

  pub chain_marked : is_chain kind ≡ true → Marked base (chained (operands_of base.names.now parts)) found → Marked base (seen base.names.now work) found
  chain_marked c m = subst (λ e. Marked base e found) (sym (node_is ∙ ap (λ k. made k (operands_of base.names.now parts)) (chain_is kind c))) m

-- ---- chains

pub from_root : (base : DynamicContext) (part : Separator × PlanNode) (others : List (Separator × PlanNode)) → is_operator (label_of part.0) ≡ true
    → chained (operands_of base.names.now (part ∷ others)) ≡ chained_on x.the_root (operands_of base.names.now (part ∷ others))
from_root base part others h = go part.0 part.1 h
  where
    go : (link : Separator) (work : PlanNode) → is_operator (label_of link) ≡ true
        → chained (operands_of base.names.now ((link, work) ∷ others)) ≡ chained_on x.the_root (operands_of base.names.now ((link, work) ∷ others))
    go (l.Operator operator) work h = refl
    go l.Comma work h = absurd (false≢true h)
    go l.Other work h = absurd (false≢true h)

pub from_first : (base : DynamicContext) (part : Separator × PlanNode) (others : List (Separator × PlanNode)) → is_operator (label_of part.0) ≡ false
    → chained (operands_of base.names.now (part ∷ others)) ≡ chained_on (seen base.names.now part.1) (operands_of base.names.now others)
from_first base part others h = go part.0 part.1 h
  where
    go : (link : Separator) (work : PlanNode) → is_operator (label_of link) ≡ false
        → chained (operands_of base.names.now ((link, work) ∷ others)) ≡ chained_on (seen base.names.now work) (operands_of base.names.now others)
    go (l.Operator operator) work h = absurd (true≢false h)
    go l.Comma work h = refl
    go l.Other work h = refl

chained_on-append : (e : Exp) (parts : List Operand) (part : Operand) → chained_on e (parts ++ part ∷ []) ≡ linked (chained_on e parts) part.0 part.1
chained_on-append e [] part = refl
chained_on-append e (first ∷ parts) part = chained_on-append (linked e first.0 first.1) parts part

pub chain_more : (base : DynamicContext) (parts : List (Separator × PlanNode)) (i : ℕ) (part : Separator × PlanNode) (e : Exp) → part ≡ get_or parts i part
    → i < length parts
    → chained_on e (operands_of base.names.now (take (i + 1) parts)) ≡ linked (chained_on e (operands_of base.names.now (take i parts))) (label_of part.0)
    (seen base.names.now part.1)
chain_more base parts i part e is h =
    ap (λ ps. chained_on e (operands_of base.names.now ps)) (take_more parts i part h ∙ ap (λ p. take i parts ++ p ∷ []) (sym is))
    ∙ (ap (chained_on e) (map-append (λ p. (label_of p.0, seen base.names.now p.1)) (take i parts) (part ∷ []))
    ∙ chained_on-append e (operands_of base.names.now (take i parts)) (label_of part.0, seen base.names.now part.1))

-- ---- what joins a part

op_of : Joining → Operator
op_of j.Below = o.Slash
op_of j.Inside = o.DoubleSlash
op_of j.Beside = o.Bar
op_of j.Otherwise = o.As

told : (operator : Operator) → (joined_by operator ≡ j.Otherwise) ⊎ (operator ≡ op_of (joined_by operator))
unfolding op_of
told o.Slash = inr refl
told o.DoubleSlash = inr refl
told o.Bar = inr refl
told o.Plus = inl refl
told o.Minus = inl refl
told o.Times = inl refl
told o.Equal = inl refl
told o.NotEqual = inl refl
told o.Less = inl refl
told o.LessOrEqual = inl refl
told o.Greater = inl refl
told o.GreaterOrEqual = inl refl
told o.And = inl refl
told o.Or = inl refl
told o.Div = inl refl
told o.Idiv = inl refl
told o.Mod = inl refl
told o.Eq = inl refl
told o.Ne = inl refl
told o.Lt = inl refl
told o.Le = inl refl
told o.Gt = inl refl
told o.Ge = inl refl
told o.To = inl refl
told o.Union = inl refl
told o.Intersect = inl refl
told o.Except = inl refl
told o.In = inl refl
told o.Return = inl refl
told o.Satisfies = inl refl
told o.Then = inl refl
told o.Else = inl refl
told o.Cast = inl refl
told o.Castable = inl refl
told o.As = inl refl

other_linked : (operator : Operator) (e f : Exp) → joined_by operator ≡ j.Otherwise → is_pattern (linked_by operator e f) ≡ true → ⊥
other_linked o.Slash e f h s = cc
other_linked o.DoubleSlash e f h s = cc
other_linked o.Bar e f h s = cc
other_linked o.Plus e f h s = absurd (false≢true s)
other_linked o.Minus e f h s = absurd (false≢true s)
other_linked o.Times e f h s = absurd (false≢true s)
other_linked o.Equal e f h s = absurd (false≢true s)
other_linked o.NotEqual e f h s = absurd (false≢true s)
other_linked o.Less e f h s = absurd (false≢true s)
other_linked o.LessOrEqual e f h s = absurd (false≢true s)
other_linked o.Greater e f h s = absurd (false≢true s)
other_linked o.GreaterOrEqual e f h s = absurd (false≢true s)
other_linked o.And e f h s = absurd (false≢true s)
other_linked o.Or e f h s = absurd (false≢true s)
other_linked o.Div e f h s = absurd (false≢true s)
other_linked o.Idiv e f h s = absurd (false≢true s)
other_linked o.Mod e f h s = absurd (false≢true s)
other_linked o.Eq e f h s = absurd (false≢true s)
other_linked o.Ne e f h s = absurd (false≢true s)
other_linked o.Lt e f h s = absurd (false≢true s)
other_linked o.Le e f h s = absurd (false≢true s)
other_linked o.Gt e f h s = absurd (false≢true s)
other_linked o.Ge e f h s = absurd (false≢true s)
other_linked o.To e f h s = absurd (false≢true s)
other_linked o.Union e f h s = absurd (false≢true s)
other_linked o.Intersect e f h s = absurd (false≢true s)
other_linked o.Except e f h s = absurd (false≢true s)
other_linked o.In e f h s = absurd (false≢true s)
other_linked o.Return e f h s = absurd (false≢true s)
other_linked o.Satisfies e f h s = absurd (false≢true s)
other_linked o.Then e f h s = absurd (false≢true s)
other_linked o.Else e f h s = absurd (false≢true s)
other_linked o.Cast e f h s = absurd (false≢true s)
other_linked o.Castable e f h s = absurd (false≢true s)
other_linked o.As e f h s = absurd (false≢true s)

pub otherwise_marked : (base : DynamicContext) (link : Separator) (e f : Exp) (found : List ℕ) → j.Otherwise ≡ joining_of link → found ≡ [] →
    Marked base (linked e (label_of link) f) found
otherwise_marked base (l.Operator operator) e f found h none p = absurd (other_linked operator e f (sym h) p)
otherwise_marked base l.Comma e f found h none p = absurd (false≢true p)
otherwise_marked base l.Other e f found h none p = nothing_found base found none

joined : (link : Separator) (joining : Joining) → joining ≡ joining_of link → (joining ≡ j.Otherwise) ⊎ (link ≡ l.Operator (op_of joining))
joined (l.Operator operator) joining h = ⊎_elim
    (λ (none : joined_by operator ≡ j.Otherwise). inl (h ∙ none))
    (λ (is : operator ≡ op_of (joined_by operator)). inr (ap l.Operator (is ∙ ap op_of (sym h))))
    (told operator)
joined l.Comma joining h = inl h
joined l.Other joining h = inl h

module _ (base : DynamicContext) (w : IsWalked base.doc.now) (link : Separator) (e f : Exp) (before found : List ℕ) (m : Marked base e before) where
  pub below_marked : j.Below ≡ joining_of link → Reached base f before found → Marked base (linked e (label_of link) f) found
  unfolding op_of
  below_marked h r = ⊎_elim (λ (no : j.Below ≡ j.Otherwise). cc)
      (λ (is : link ≡ l.Operator o.Slash). subst (λ link. Marked base (linked e (label_of link) f) found) (sym is) (λ p.
      let parts = and_parts (is_pattern e) (is_step f) p in
      r parts.1 ∙ (ap (all_reached (nodes_of base) base.env.now f) (m parts.0) ∙ path_found (nodes_of base) w.walkable base.env.now e f parts.0)))
      (joined link j.Below h)

  pub inside_marked : (inside : List ℕ) → j.Inside ≡ joining_of link → inside ≡ all_reached (nodes_of base) base.env.now all_inside before →
      Reached base f inside found
      → Marked base (linked e (label_of link) f) found
  unfolding op_of
  inside_marked inside h i r = ⊎_elim (λ (no : j.Inside ≡ j.Otherwise). cc)
      (λ (is : link ≡ l.Operator o.DoubleSlash). subst (λ link. Marked base (linked e (label_of link) f) found) (sym is) (λ p.
      let parts = and_parts (is_pattern (x.slash e all_inside)) (is_step f) p in
      let front = and_parts (is_pattern e) true parts.0 in
      r parts.1 ∙ (ap (all_reached (nodes_of base) base.env.now f)
      (i ∙ (ap (all_reached (nodes_of base) base.env.now all_inside) (m front.0) ∙ path_found (nodes_of base) w.walkable base.env.now e all_inside front.0))
      ∙ path_found (nodes_of base) w.walkable base.env.now (x.slash e all_inside) f parts.0)))
      (joined link j.Inside h)

  pub beside_marked : (other : List ℕ) → j.Beside ≡ joining_of link → Marked base f other → found ≡ united_of base before other →
      Marked base (linked e (label_of link) f) found
  unfolding op_of
  beside_marked other h n u = ⊎_elim (λ (no : j.Beside ≡ j.Otherwise). cc)
      (λ (is : link ≡ l.Operator o.Bar). subst (λ link. Marked base (linked e (label_of link) f) found) (sym is) (λ p.
      let parts = and_parts (is_pattern e) (is_pattern f) p in
      u ∙ (ap (λ xs. united_of base xs other) (m parts.0) ∙
      (ap (united_of base (all_found (nodes_of base) base.env.now e)) (n parts.1) ∙ bar_found (nodes_of base) w.walkable base.env.now e f))))
      (joined link j.Beside h)

-- ---- as calls have it

pub along_ok : {X E : Type 0} (r : Result X E) (P Q : X → Type 0) → ((x : X) → P x → Q x) → IfOk r P → IfOk r Q
along_ok (Ok x) P Q f p = f x p
along_ok (Err e) P Q f p = tt

pub step_everywhere : (base : DynamicContext) → IsWalked base.doc.now → (e : Exp) (all lent found : List ℕ) → all ≡ node_numbers (nodes_of base) → lent ≡ all →
    Reached base e lent found → FoundByStep base e found
step_everywhere base w e all lent found every same r = λ s.
    r s ∙ (ap (all_reached (nodes_of base) base.env.now e) (same ∙ every) ∙ step_found (nodes_of base) w.walkable base.env.now e)

pub none_of_none : {X : Type 0} (xs : List X) → length xs ≡ 0 → xs ≡ []
none_of_none [] e = refl
none_of_none (x ∷ xs) e = absurd (omega (arith, e))
