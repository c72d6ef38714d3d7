-- What a step finds at a node, by what its work is made of.
use Rattle.std.proofs.Common.{◌≡◌, ℕ, ◌<◌, zero, suc, arith, ◌==◌, get_or, drop, ◌+◌, ◌≤◌, Bool, true, false, List, [], ◌∷◌, ◌++◌, length, Option, Result, Ok}
use Rattle.std.proofs.Common.{Err, OnOk, refl, ap, sym, subst, ◌∙◌, append-nil, append_assoc}
use Rattle.std.specs.List.{flat_map}
use Rattle.std.specs.Prelude.{filter}
use Rattle.std.proofs.lemmas.List.{map-append, drop_more, drop_all}
use Rattle.std.proofs.lemmas.Bool.{false≢true, true≢false, ne_eqb}
use Rattle.inv_base.specs.Tree.{Node, Name}
use Rattle.xpath_tokens.specs.declared.token.Operator.{Operator}
use Rattle.xpath_tokens.specs.declared.token.Operator.TheVariants as o
use Rattle.xpath_grammar.specs.declared.step.Axis.{Axis}
use Rattle.xpath_grammar.specs.declared.expr.Label.{Label}
use Rattle.xpath_grammar.specs.declared.expr.Label.TheVariants as k
use Rattle.xpath_items.specs.declared.item.Item.TheVariants as i
use Rattle.xpath_meaning.specs.Expressions as x
use Rattle.xpath_meaning.specs.Expressions.{Exp, NodeTest}
use Rattle.xpath_meaning.specs.Items.{is_empty}
use Rattle.xpath_meaning.specs.Resolving.{Operand, linked, linked_by, chained_on, in_axis_order, kept_of}
use Rattle.xpath_meaning.specs.Patterns.{found_at, kept_nodes, is_kept, with_number}
use Rattle.xpath_meaning.specs.Steps.{keeps}
use Rattle.xpath_meaning.specs.Values.{Value, then_}
use Rattle.xpath_operators.specs.Nodes.{AreWithin}
use Rattle.xpath_plan.specs.declared.plan_node.Operation.{Operation}
use Rattle.xpath_plan.specs.declared.plan_node.Operation.TheVariants as kd
use Rattle.xpath_plan.specs.declared.plan_node.Separator.{Separator}
use Rattle.xpath_plan.specs.declared.plan_node.Separator.TheVariants as l
use Rattle.xpath_plan.specs.declared.plan_node.PlanNode.{PlanNode}
use Rattle.xpath_plan.specs.declared.plan_node.PlanNode.TheVariants as w
use Rattle.xpath_plan.specs.Plans.{seen, made, label_of}
use Rattle.xpath_parts.specs.declared.dynamic.DynamicContext.{DynamicContext}
use Rattle.xpath_parts.specs.Contexts.{count, operands_of}
use Rattle.xpath_parts.proofs.SeenLemmas.{seen-node}
use Rattle.xpath_steps.proofs.WithinLemmas.{append_within, below_within, filter_below}
use Rattle.xpath_steps.proofs.NodeLemmas.{document_below, items_of_numbers}
use Rattle.xpath_steps.proofs.PathLemmas.{axis_within}
use Rattle.xpath_walks.specs.Order.{node_items}
use Rattle.xpath_walks.specs.Walks.{IsWalked, axis_numbers, if_so, node_numbers}
use Rattle.xpath_marks.specs.Shapes.{is_step}
use Rattle.xpath_marks.specs.Marking.{AreNodes, Turned, Filtered, nodes_of, kept_by, kept_by_all, is_first_part, is_filter}

pub node_seen : (names : List Name) (kind : Operation) (parts : List (Separator × PlanNode)) → seen names (w.Node kind parts)
    ≡ made kind (operands_of names parts)
node_seen names kind parts = seen-node names kind parts

pub nodes_append : (base : DynamicContext) (ns ms : List ℕ) → AreNodes base ns → AreNodes base ms → AreNodes base (ns ++ ms)
nodes_append base ns ms h k =
    subst (AreWithin (count base)) (sym (map-append (λ (n : ℕ). i.Node n) ns ms)) (append_within (count base) (node_items ns) (node_items ms) h k)

pub axis_nodes_within : (base : DynamicContext) (w : IsWalked base.doc.now) (axis : Axis) (test : Option NodeTest) (n : ℕ) →
    AreNodes base (axis_numbers (nodes_of base) axis n test)
axis_nodes_within base w axis test n = axis_within (count base) (nodes_of base) axis test n (document_below base.doc.now w)

pub added_within : {X E : Type 0} (base : DynamicContext) (w : IsWalked base.doc.now) (axis : Axis) (test : Option NodeTest) (n : ℕ) (r : Result X E) (old new
    : List ℕ)
    → AreNodes base old → OnOk r (new ≡ old ++ axis_numbers (nodes_of base) axis n test) → OnOk r (AreNodes base new)
added_within base w axis test n (Ok x) old new h e = subst (AreNodes base) (sym e)
    (nodes_append base old (axis_numbers (nodes_of base) axis n test) h (axis_nodes_within base w axis test n))
added_within base w axis test n (Err x) old new h e = tt

-- a step that is one part of a chain alone, or nothing
linked_by_no_step : (operator : Operator) (e f : Exp) → is_step (linked_by operator e f) ≡ true → linked_by operator e f ≡ x.nothing
linked_by_no_step o.Slash e f s = absurd (false≢true s)
linked_by_no_step o.DoubleSlash e f s = absurd (false≢true s)
linked_by_no_step o.Bar e f s = absurd (false≢true s)
linked_by_no_step o.Plus e f s = absurd (false≢true s)
linked_by_no_step o.Minus e f s = absurd (false≢true s)
linked_by_no_step o.Times e f s = absurd (false≢true s)
linked_by_no_step o.Equal e f s = absurd (false≢true s)
linked_by_no_step o.NotEqual e f s = absurd (false≢true s)
linked_by_no_step o.Less e f s = absurd (false≢true s)
linked_by_no_step o.LessOrEqual e f s = absurd (false≢true s)
linked_by_no_step o.Greater e f s = absurd (false≢true s)
linked_by_no_step o.GreaterOrEqual e f s = absurd (false≢true s)
linked_by_no_step o.And e f s = absurd (false≢true s)
linked_by_no_step o.Or e f s = absurd (false≢true s)
linked_by_no_step o.Div e f s = absurd (false≢true s)
linked_by_no_step o.Idiv e f s = absurd (false≢true s)
linked_by_no_step o.Mod e f s = absurd (false≢true s)
linked_by_no_step o.Eq e f s = absurd (false≢true s)
linked_by_no_step o.Ne e f s = absurd (false≢true s)
linked_by_no_step o.Lt e f s = absurd (false≢true s)
linked_by_no_step o.Le e f s = absurd (false≢true s)
linked_by_no_step o.Gt e f s = absurd (false≢true s)
linked_by_no_step o.Ge e f s = absurd (false≢true s)
linked_by_no_step o.To e f s = absurd (false≢true s)
linked_by_no_step o.Union e f s = absurd (false≢true s)
linked_by_no_step o.Intersect e f s = absurd (false≢true s)
linked_by_no_step o.Except e f s = absurd (false≢true s)
linked_by_no_step o.In e f s = absurd (false≢true s)
linked_by_no_step o.Return e f s = absurd (false≢true s)
linked_by_no_step o.Satisfies e f s = absurd (false≢true s)
linked_by_no_step o.Then e f s = absurd (false≢true s)
linked_by_no_step o.Else e f s = absurd (false≢true s)
linked_by_no_step o.Cast e f s = absurd (false≢true s)
linked_by_no_step o.Castable e f s = absurd (false≢true s)
linked_by_no_step o.As e f s = absurd (false≢true s)

linked_no_step : (label : Label) (e f : Exp) → is_step (linked e label f) ≡ true → linked e label f ≡ x.nothing
linked_no_step (k.Link operator) e f s = linked_by_no_step operator e f s
linked_no_step k.Comma e f s = absurd (false≢true s)
linked_no_step k.First e f s = refl
linked_no_step (k.Binding binder name) e f s = refl
linked_no_step k.Condition e f s = refl
linked_no_step k.Then e f s = refl
linked_no_step (k.Signed signs) e f s = refl
linked_no_step k.Predicate e f s = refl
linked_no_step k.Again e f s = refl
linked_no_step k.Opened e f s = refl
linked_no_step (k.Calling name) e f s = refl

chain_no_step : (e : Exp) (part : Operand) (parts : List Operand) → is_step (chained_on e (part ∷ parts)) ≡ true → chained_on e (part ∷ parts) ≡ x.nothing
chain_no_step e part [] s = linked_no_step part.0 e part.1 s
chain_no_step e part (next ∷ parts) s = chain_no_step (linked e part.0 part.1) next parts s

nothing_turned : (base : DynamicContext) (e : Exp) (n : ℕ) (old new : List ℕ) → (is_step e ≡ true → e ≡ x.nothing) → new ≡ old → Turned base e n old new
nothing_turned base e n old new f same s =
    same ∙ (sym (append-nil old) ∙ ap (λ e. old ++ found_at (nodes_of base) base.env.now e n) (sym (f s)))

-- ---- what kinds make of their parts

no_parts : (kind : Operation) → is_step (made kind []) ≡ true → made kind [] ≡ x.nothing
no_parts kd.Chain s = refl
no_parts (kd.Bound binder) s = refl
no_parts kd.Conditional s = refl
no_parts (kd.Cast word function optional) s = absurd (false≢true s)
no_parts (kd.Signs signs) s = absurd (false≢true s)
no_parts kd.FilteredStep s = refl
no_parts kd.FreeStep s = refl
no_parts kd.Filtered s = refl
no_parts kd.Only s = refl
no_parts (kd.Once slot height) s = refl
no_parts (kd.Call function) s = absurd (false≢true s)
no_parts (kd.Matches pattern) s = absurd (false≢true s)
no_parts kd.Nothing s = refl

pub none_turned : (base : DynamicContext) (kind : Operation) (n : ℕ) (old new : List ℕ) → new ≡ old → Turned base (made kind []) n old new
none_turned base kind n old new same = nothing_turned base (made kind []) n old new (no_parts kind) same

-- the first part itself
pub first_part_is : (names : List Name) (kind : Operation) (link : Separator) (work : PlanNode) (others : List (Separator × PlanNode)) →
    is_first_part kind link (is_empty others) ≡ true
    → made kind (operands_of names ((link, work) ∷ others)) ≡ seen names work
first_part_is names kd.Only link work others h = refl
first_part_is names (kd.Once slot height) link work others h = refl
first_part_is names kd.Filtered link work [] h = refl
first_part_is names kd.Filtered link work (other ∷ others) h = absurd (false≢true h)
first_part_is names (kd.Bound binder) link work [] h = refl
first_part_is names (kd.Bound binder) link work (other ∷ others) h = absurd (false≢true h)
first_part_is names kd.Chain (l.Operator operator) work [] h = absurd (false≢true h)
first_part_is names kd.Chain l.Comma work [] h = refl
first_part_is names kd.Chain l.Other work [] h = refl
first_part_is names kd.Chain link work (other ∷ others) h = absurd (false≢true h)
first_part_is names kd.Conditional link work others h = absurd (false≢true h)
first_part_is names (kd.Cast word function optional) link work others h = absurd (false≢true h)
first_part_is names (kd.Signs signs) link work others h = absurd (false≢true h)
first_part_is names kd.FilteredStep link work others h = absurd (false≢true h)
first_part_is names kd.FreeStep link work others h = absurd (false≢true h)
first_part_is names (kd.Call function) link work others h = absurd (false≢true h)
first_part_is names (kd.Matches pattern) link work others h = absurd (false≢true h)
first_part_is names kd.Nothing link work others h = absurd (false≢true h)

-- neither that nor filtered: no step but nothing
pub no_step : (names : List Name) (kind : Operation) (link : Separator) (work : PlanNode) (others : List (Separator × PlanNode))
    → is_first_part kind link (is_empty others) ≡ false →
    is_filter kind ≡ false
    → is_step (made kind (operands_of names ((link, work) ∷ others))) ≡ true → made kind (operands_of names ((link, work) ∷ others)) ≡ x.nothing
no_step names kd.Only link work others h f s = absurd (true≢false h)
no_step names (kd.Once slot height) link work others h f s = absurd (true≢false h)
no_step names kd.Filtered link work others h f s = absurd (true≢false f)
no_step names kd.FilteredStep link work others h f s = absurd (true≢false f)
no_step names kd.FreeStep link work others h f s = absurd (true≢false f)
no_step names (kd.Bound binder) link work [] h f s = absurd (true≢false h)
no_step names (kd.Bound binder) link work (other ∷ others) h f s = absurd (false≢true s)
no_step names kd.Chain (l.Operator operator) work others h f s = chain_no_step x.the_root (k.Link operator, seen names work) (operands_of names others) s
no_step names kd.Chain l.Comma work [] h f s = absurd (true≢false h)
no_step names kd.Chain l.Comma work (other ∷ others) h f s = chain_no_step (seen names work) (label_of other.0, seen names other.1) (operands_of names others) s
no_step names kd.Chain l.Other work [] h f s = absurd (true≢false h)
no_step names kd.Chain l.Other work (other ∷ others) h f s = chain_no_step (seen names work) (label_of other.0, seen names other.1) (operands_of names others) s
no_step names kd.Conditional link work [] h f s = refl
no_step names kd.Conditional link work (a ∷ []) h f s = refl
no_step names kd.Conditional link work (a ∷ (b ∷ [])) h f s = absurd (false≢true s)
no_step names kd.Conditional link work (a ∷ (b ∷ (c ∷ others))) h f s = refl
no_step names (kd.Cast word function optional) link work others h f s = absurd (false≢true s)
no_step names (kd.Signs signs) link work others h f s = absurd (false≢true s)
no_step names (kd.Call function) link work others h f s = absurd (false≢true s)
no_step names (kd.Matches pattern) link work others h f s = absurd (false≢true s)
no_step names kd.Nothing link work others h f s = refl

pub other_turned : (base : DynamicContext) (kind : Operation) (part : Separator × PlanNode) (others : List (Separator × PlanNode)) (n : ℕ) (old new : List ℕ)
    → is_first_part kind part.0 (is_empty others) ≡ false → is_filter kind ≡ false → new ≡ old
    → Turned base (made kind (operands_of base.names.now (part ∷ others))) n old new
other_turned base kind part others n old new h f same =
    nothing_turned base (made kind (operands_of base.names.now (part ∷ others))) n old new (no_step base.names.now kind part.0 part.1 others h f) same

pub first_turned : (base : DynamicContext) (kind : Operation) (part : Separator × PlanNode) (others : List (Separator × PlanNode)) (n : ℕ) (old new : List ℕ)
    → is_first_part kind part.0 (is_empty others) ≡ true → Turned base (seen base.names.now part.1) n old new
    → Turned base (made kind (operands_of base.names.now (part ∷ others))) n old new
first_turned base kind part others n old new h t =
    subst (λ e. Turned base e n old new) (sym (first_part_is base.names.now kind part.0 part.1 others h)) t

-- ---- predicates

pub ordered_found : (base : DynamicContext) (e : Exp) (n : ℕ) → found_at (nodes_of base) base.env.now (in_axis_order e) n
    ≡ found_at (nodes_of base) base.env.now e n
ordered_found base (x.text t) n = refl
ordered_found base (x.number z) n = refl
ordered_found base x.nothing n = refl
ordered_found base x.the_item n = refl
ordered_found base x.the_root n = refl
ordered_found base (x.variable height) n = refl
ordered_found base (x.outer name) n = refl
ordered_found base (x.axis_step axis test) n = refl
ordered_found base (x.filtered e predicate) n = refl
ordered_found base (x.stepped e) n = refl
ordered_found base (x.slash e f) n = refl
ordered_found base (x.comma e f) n = refl
ordered_found base (x.both e f) n = refl
ordered_found base (x.either e f) n = refl
ordered_found base (x.operated operator e f) n = refl
ordered_found base (x.signed signs e) n = refl
ordered_found base (x.chosen c e f) n = refl
ordered_found base (x.bound binder e f) n = refl
ordered_found base (x.cast word type optional e) n = refl
ordered_found base (x.called function arguments) n = refl

pub ordered_step : (e : Exp) → is_step (in_axis_order e) ≡ is_step e
ordered_step (x.text t) = refl
ordered_step (x.number z) = refl
ordered_step x.nothing = refl
ordered_step x.the_item = refl
ordered_step x.the_root = refl
ordered_step (x.variable height) = refl
ordered_step (x.outer name) = refl
ordered_step (x.axis_step axis test) = refl
ordered_step (x.filtered e predicate) = refl
ordered_step (x.stepped e) = refl
ordered_step (x.slash e f) = refl
ordered_step (x.comma e f) = refl
ordered_step (x.both e f) = refl
ordered_step (x.either e f) = refl
ordered_step (x.operated operator e f) = refl
ordered_step (x.signed signs e) = refl
ordered_step (x.chosen c e f) = refl
ordered_step (x.bound binder e f) = refl
ordered_step (x.cast word type optional e) = refl
ordered_step (x.called function arguments) = refl

kept_step_is : (parts : List Operand) (e : Exp) → is_step (kept_of e parts) ≡ is_step e
kept_step_is [] e = refl
kept_step_is (part ∷ parts) e = kept_step_is parts (x.filtered e part.1)

kept_found : (base : DynamicContext) (parts : List Operand) (e : Exp) (n : ℕ) → found_at (nodes_of base) base.env.now (kept_of e parts) n
    ≡ kept_by_all base parts
    (found_at (nodes_of base) base.env.now e n)
kept_found base [] e n = refl
kept_found base (part ∷ parts) e n = kept_found base parts (x.filtered e part.1) n

-- what the first part finds at a node and the others keep
pub filter_found : (base : DynamicContext) (kind : Operation) (link : Separator) (e : Exp) (predicates : List Operand) (n : ℕ) → is_filter kind ≡ true
    → found_at (nodes_of base) base.env.now (made kind ((label_of link, e) ∷ predicates)) n ≡ kept_by_all base predicates
    (found_at (nodes_of base) base.env.now e n)
filter_found base kd.FilteredStep link e predicates n h = kept_found base predicates (in_axis_order e) n ∙
    ap (kept_by_all base predicates) (ordered_found base e n)
filter_found base kd.FreeStep link e predicates n h = kept_found base predicates (in_axis_order e) n ∙ ap (kept_by_all base predicates) (ordered_found base e n)
filter_found base kd.Filtered link e predicates n h = kept_found base predicates e n
filter_found base kd.Only link e predicates n h = absurd (false≢true h)
filter_found base (kd.Once slot height) link e predicates n h = absurd (false≢true h)
filter_found base (kd.Bound binder) link e predicates n h = absurd (false≢true h)
filter_found base kd.Chain link e predicates n h = absurd (false≢true h)
filter_found base kd.Conditional link e predicates n h = absurd (false≢true h)
filter_found base (kd.Cast word function optional) link e predicates n h = absurd (false≢true h)
filter_found base (kd.Signs signs) link e predicates n h = absurd (false≢true h)
filter_found base (kd.Call function) link e predicates n h = absurd (false≢true h)
filter_found base (kd.Matches pattern) link e predicates n h = absurd (false≢true h)
filter_found base kd.Nothing link e predicates n h = absurd (false≢true h)

filter_turned : (base : DynamicContext) (kind : Operation) (link : Separator) (e : Exp) (predicates : List Operand) (n : ℕ) (old new : List ℕ)
    → is_filter kind ≡ true →
    Filtered base e predicates n old new
    → Turned base (made kind ((label_of link, e) ∷ predicates)) n old new
filter_turned base kd.FilteredStep link e predicates n old new h f s =
    f (sym (kept_step_is predicates (in_axis_order e) ∙ ordered_step e) ∙ s) ∙
    ap (λ ns. old ++ ns) (sym (filter_found base kd.FilteredStep link e predicates n h))
filter_turned base kd.FreeStep link e predicates n old new h f s =
    f (sym (kept_step_is predicates (in_axis_order e) ∙ ordered_step e) ∙ s) ∙ ap (λ ns. old ++ ns) (sym (filter_found base kd.FreeStep link e predicates n h))
filter_turned base kd.Filtered link e predicates n old new h f s =
    f (sym (kept_step_is predicates e) ∙ s) ∙ ap (λ ns. old ++ ns) (sym (filter_found base kd.Filtered link e predicates n h))
filter_turned base kd.Only link e predicates n old new h f s = absurd (false≢true h)
filter_turned base (kd.Once slot height) link e predicates n old new h f s = absurd (false≢true h)
filter_turned base (kd.Bound binder) link e predicates n old new h f s = absurd (false≢true h)
filter_turned base kd.Chain link e predicates n old new h f s = absurd (false≢true h)
filter_turned base kd.Conditional link e predicates n old new h f s = absurd (false≢true h)
filter_turned base (kd.Cast word function optional) link e predicates n old new h f s = absurd (false≢true h)
filter_turned base (kd.Signs signs) link e predicates n old new h f s = absurd (false≢true h)
filter_turned base (kd.Call function) link e predicates n old new h f s = absurd (false≢true h)
filter_turned base (kd.Matches pattern) link e predicates n old new h f s = absurd (false≢true h)
filter_turned base kd.Nothing link e predicates n old new h f s = absurd (false≢true h)

pub filters_turned : (base : DynamicContext) (kind : Operation) (part : Separator × PlanNode) (others : List (Separator
    × PlanNode)) (n : ℕ) (old new : List ℕ) → is_filter kind ≡ true
    → Filtered base (seen base.names.now part.1) (operands_of base.names.now others) n old new
    → Turned base (made kind (operands_of base.names.now (part ∷ others))) n old new
filters_turned base kind part others n old new h f = filter_turned base kind part.0 (seen base.names.now part.1)
    (operands_of base.names.now others) n old new h f

pub along_ok : {X E : Type 0} (r : Result X E) (P Q : Type 0) → (P → Q) → OnOk r P → OnOk r Q
along_ok (Ok x) P Q f p = f p
along_ok (Err x) P Q f p = tt

pub alone_is : {X : Type 0} (xs : List X) → is_empty xs ≡ (length xs == 0)
alone_is [] = refl
alone_is (x ∷ xs) = sym (ne_eqb (length (x ∷ xs)) 0 (λ e. omega (arith, e)))

at_place : (base : DynamicContext) (ns : List ℕ) (k d : ℕ) → AreNodes base ns → k < length ns → get_or ns k d < count base
at_place base [] k d h l = absurd (omega (arith, l))
at_place base (n ∷ ns) zero d h l = h.0
at_place base (n ∷ ns) (suc k) d h l = at_place base ns k d h.1 (omega (arith, l))

pub item_within : (base : DynamicContext) (ns : List ℕ) (k n : ℕ) {lent : List ℕ} → n ≡ get_or lent k n → lent ≡ ns → AreNodes base ns → k < length lent →
    n < count base
item_within base ns k n {lent} e same h l =
    subst (λ m. m < count base) (sym e) (subst (λ xs. get_or xs k n < count base) (sym same) (at_place base ns k n h (subst (λ xs. k < length xs) same l)))

-- ---- predicates, one after the other

with_is : (b : Bool) (n : ℕ) (ns : List ℕ) → with_number b n ns ≡ if_so b n ++ ns
with_is true n ns = refl
with_is false n ns = refl

pub put_within : (base : DynamicContext) (b : Bool) (n : ℕ) (old new : List ℕ) → AreNodes base old → n < count base → new ≡ old ++ if_so b n → AreNodes base new
put_within base b n old new h l e = subst (AreNodes base) (sym e) (nodes_append base old (if_so b n) h (one b))
  where
    one : (b : Bool) → AreNodes base (if_so b n)
    one true = (l, tt)
    one false = tt

pub kept_next : (judge : ℕ → ℕ → ℕ → Value) (k : ℕ) (ns : List ℕ) (n : ℕ) (old new : List ℕ) (b : Bool) {whole : List ℕ} → n ≡ get_or ns k n → k < length ns
    → b ≡ is_kept (then_ (judge n (k + 1) (length ns)) (keeps (k + 1))) → new ≡ old ++ if_so b n
    → old ++ kept_nodes judge (length ns) (k + 1) (drop k ns) ≡ whole → new ++ kept_nodes judge (length ns) ((k + 1) + 1) (drop (k + 1) ns) ≡ whole
kept_next judge k ns n old new b e l is put h =
    let rest : List ℕ = kept_nodes judge (length ns) ((k + 1) + 1) (drop (k + 1) ns) in
    let here : drop k ns ≡ n ∷ drop (k + 1) ns = drop_more ns k n l ∙ ap (λ m. m ∷ drop (k + 1) ns) (sym e) in
    let next : suc (k + 1) ≡ (k + 1) + 1 = omega arith in
    ap (λ xs. xs ++ rest) put
    ∙ (append_assoc old (if_so b n) rest
    ∙ (ap (λ xs. old ++ xs) (sym (with_is b n rest)
    ∙ ap (λ c. with_number c n rest) is
    ∙ ap (λ p. with_number (is_kept (then_ (judge n (k + 1) (length ns)) (keeps (k + 1)))) n (kept_nodes judge (length ns) p (drop (k + 1) ns))) (sym next))
    ∙ (ap (λ xs. old ++ kept_nodes judge (length ns) (k + 1) xs) (sym here) ∙ h)))

pub all_next : (base : DynamicContext) (parts : List (Separator × PlanNode)) (k : ℕ) (part : Separator × PlanNode) (ns ns' : List ℕ) {whole : List ℕ} → part
    ≡ get_or parts k part →
    k < length parts
    → ns' ≡ kept_by base (seen base.names.now part.1) ns
    → kept_by_all base (operands_of base.names.now (drop k parts)) ns ≡ whole → kept_by_all base (operands_of base.names.now (drop (k + 1) parts)) ns' ≡ whole
all_next base parts k part ns ns' e l is h =
    let here : drop k parts ≡ part ∷ drop (k + 1) parts = drop_more parts k part l ∙ ap (λ p. p ∷ drop (k + 1) parts) (sym e) in
    ap (kept_by_all base (operands_of base.names.now (drop (k + 1) parts))) is
    ∙ (ap (λ ps. kept_by_all base (operands_of base.names.now ps) ns) (sym here) ∙ h)

pub all_done : (base : DynamicContext) (parts : List (Separator × PlanNode)) (k : ℕ) (ns : List ℕ) {whole : List ℕ} → length parts ≤ k
    → kept_by_all base (operands_of base.names.now (drop k parts)) ns ≡ whole → ns ≡ whole
all_done base parts k ns l h = ap (λ ps. kept_by_all base (operands_of base.names.now ps) ns) (sym (drop_all k parts l)) ∙ h

pub flat_done : (f : ℕ → List ℕ) (xs : List ℕ) (k : ℕ) (old : List ℕ) {whole : List ℕ} → length xs ≤ k → old ++ flat_map f (drop k xs) ≡ whole → old ≡ whole
flat_done f xs k old l h = sym (append-nil old) ∙ (ap (λ ys. old ++ flat_map f ys) (sym (drop_all k xs l)) ∙ h)

pub ordered_within : (base : DynamicContext) → IsWalked base.doc.now → (q : Node → Bool) → AreNodes base (node_numbers (filter q (nodes_of base)))
ordered_within base w q =
    subst (AreWithin (count base)) (sym (items_of_numbers (filter q (nodes_of base))))
    (below_within (count base) (filter q (nodes_of base)) (filter_below (count base) q (nodes_of base) (document_below base.doc.now w)))
