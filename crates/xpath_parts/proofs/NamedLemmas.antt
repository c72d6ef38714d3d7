-- Which works are walks along the chain of a name, and what they mean.
use Rattle.std.proofs.Common.{◌≡◌, ◌==◌, ◌+◌, ◌*◌, ◌≤◌, ℕ, suc, zero, Result, Ok, Err, OnOk, option_map, get_or, length, arith, Bool, true, false, List, []}
use Rattle.std.proofs.Common.{◌∷◌, map, Option, Some, None, IfSome, refl, ap, sym, ◌∙◌}
use Rattle.std.proofs.lemmas.Bool.{false≢true}
use Rattle.node_arena.specs.Moves.{tree_nodes}
use Rattle.xpath_grammar.specs.declared.expr.Label.TheVariants as b
use Rattle.xpath_grammar.specs.declared.step.Axis.{Axis}
use Rattle.xpath_grammar.specs.declared.step.Axis.TheVariants as a
use Rattle.xpath_items.specs.declared.item.Item.TheVariants as i
use Rattle.xpath_items.specs.declared.outcome.Focus.{Focus}
use Rattle.xpath_steps.specs.Lending.{lent_value}
use Rattle.xpath_steps.specs.declared.lending.Lent.{Lent}
use Rattle.xpath_meaning.specs.Values.{Value}
use Rattle.xpath_walks.specs.Walks.{Bounds}
use Rattle.xpath_plan.specs.declared.plan_node.Operation.{Operation}
use Rattle.xpath_plan.specs.declared.plan_node.Operation.TheVariants as m
use Rattle.xpath_plan.specs.declared.plan_node.Separator.{Separator}
use Rattle.xpath_plan.specs.declared.plan_node.Separator.TheVariants as l
use Rattle.xpath_tokens.specs.declared.token.Operator.TheVariants as o
use Rattle.xpath_plan.specs.declared.plan_node.Simple.{Simple}
use Rattle.xpath_plan.specs.declared.plan_node.Simple.TheVariants as s
use Rattle.xpath_plan.specs.declared.plan_node.StepTest.{StepTest}
use Rattle.xpath_plan.specs.declared.plan_node.StepTest.TheVariants as t
use Rattle.xpath_plan.specs.declared.plan_node.PlanNode.{PlanNode, map-PlanNode}
use Rattle.xpath_plan.specs.declared.plan_node.PlanNode.TheOpen.{PlanNode-F}
use Rattle.xpath_plan.specs.declared.plan_node.PlanNode.TheFolds.{fold-roll-PlanNode, ind-PlanNode}
use Rattle.xpath_plan.specs.declared.plan_node.PlanNode.TheVariants as w
use Rattle.xpath_plan.specs.Plans.{seen, made, test_seen}
use Rattle.xpath_parts.specs.declared.dynamic.DynamicContext.{DynamicContext}
use Rattle.xpath_parts.specs.declared.named.Walk.{Walk}
use Rattle.xpath_parts.specs.Contexts.{value_in, context}
use Rattle.xpath_parts.specs.Named.{Form, name_of, name_on, child_name, is_item, simple_form, is_double_slash, is_other, child_of, is_item_form, inner_name}
use Rattle.xpath_parts.specs.Named.{is_focus, as_walk, chain_walk, walk_form, plain_of, kept_form, node_form, is_chain, form_step, form, forms, any_of}
use Rattle.xpath_parts.specs.Named.{plain_walk, walk_of, inner_part, focus_part, parts_by, walk_parts, begin_by}
use Rattle.xpath_parts.specs.Slots.{whole_step, whole_slot}
use Rattle.xpath_parts.specs.Whole.{IsWhole}
use Rattle.xpath_parts.proofs.SeenLemmas.{seen-node, seen-simple}
use Rattle.xpath_parts.proofs.WalkLemmas.{leading_value, inner_value}
use Rattle.xpath_steps.specs.Steps.{inside_seen}

none_some : {X : Type 0} (x : X) → ◌≡◌ {A = Option X} None (Some x) → ⊥
none_some x e = cc

-- ---- the form of a work by its parts

pub form-simple : (x : Simple) → form (w.Simple x) ≡ simple_form (is_item x) (child_name x)
form-simple x = ap form (sym (w.rolls-Simple x)) ∙ fold-roll-PlanNode Form form_step (PlanNode-F.Simple x)

pub form-node : (kind : Operation) (parts : List (Separator × PlanNode)) → form (w.Node kind parts) ≡ node_form kind (forms parts)
form-node kind parts = ap form (sym (w.rolls-Node kind parts)) ∙ fold-roll-PlanNode Form form_step (PlanNode-F.Node kind parts)

-- ---- steps to children of a name

name_is : (test : StepTest) (k : ℕ) → name_of test ≡ Some k → test ≡ t.Named k
name_is (t.Named n) k e = ap t.Named (let same : n ≡ k = cc in same)
name_is (t.InNamespace uri) k e = absurd (none_some k e)
name_is (t.WithLocal local) k e = absurd (none_some k e)
name_is t.AnyName k e = absurd (none_some k e)
name_is (t.Kind kind) k e = absurd (none_some k e)

on_child : (axis : Axis) (test : StepTest) (k : ℕ) → name_on axis test ≡ Some k → s.Step axis test ≡ s.Step a.Child (t.Named k)
on_child a.Child test k e = ap (s.Step a.Child) (name_is test k e)
on_child a.Descendant test k e = absurd (none_some k e)
on_child a.DescendantOrSelf test k e = absurd (none_some k e)
on_child a.Itself test k e = absurd (none_some k e)
on_child a.Attribute test k e = absurd (none_some k e)
on_child a.Parent test k e = absurd (none_some k e)
on_child a.Ancestor test k e = absurd (none_some k e)
on_child a.AncestorOrSelf test k e = absurd (none_some k e)
on_child a.FollowingSibling test k e = absurd (none_some k e)
on_child a.PrecedingSibling test k e = absurd (none_some k e)
on_child a.Following test k e = absurd (none_some k e)
on_child a.Preceding test k e = absurd (none_some k e)

child_is : (simple : Simple) (k : ℕ) → child_name simple ≡ Some k → simple ≡ s.Step a.Child (t.Named k)
child_is (s.Step axis test) k e = on_child axis test k e
child_is (s.Text text) k e = absurd (none_some k e)
child_is (s.Number number) k e = absurd (none_some k e)
child_is s.Nothing k e = absurd (none_some k e)
child_is s.Item k e = absurd (none_some k e)
child_is s.Root k e = absurd (none_some k e)
child_is (s.Variable height) k e = absurd (none_some k e)
child_is (s.Outer name) k e = absurd (none_some k e)
child_is (s.Called function) k e = absurd (none_some k e)

pub child_some : (simple : Simple) (found : Option ℕ) → found ≡ child_name simple → IfSome found (λ k. simple ≡ s.Step a.Child (t.Named k))
child_some simple None e = tt
child_some simple (Some k) e = child_is simple k (sym e)

pub work_some : (work : PlanNode) (simple : Simple) (found : Option ℕ) → work ≡ w.Simple simple → IfSome found (λ k. simple ≡ s.Step a.Child (t.Named k))
    → IfSome found (λ k. work ≡ w.Simple (s.Step a.Child (t.Named k)))
work_some work simple None is h = tt
work_some work simple (Some k) is h = is ∙ ap w.Simple h

named_child : (found : Option ℕ) → child_of (simple_form false found) ≡ found
named_child None = refl
named_child (Some k) = refl

child_simple : (x : Simple) → child_of (simple_form (is_item x) (child_name x)) ≡ child_name x
child_simple (s.Step axis test) = named_child (name_on axis test)
child_simple (s.Text text) = refl
child_simple (s.Number number) = refl
child_simple s.Nothing = refl
child_simple s.Item = refl
child_simple s.Root = refl
child_simple (s.Variable height) = refl
child_simple (s.Outer name) = refl
child_simple (s.Called function) = refl

pub child-of_simple : (work : PlanNode) (simple : Simple) → work ≡ w.Simple simple → child_of (form work) ≡ child_name simple
child-of_simple work simple is = ap (λ x. child_of (form x)) is ∙ (ap child_of (form-simple simple) ∙ child_simple simple)

-- ---- a work with parts is neither a step nor `.`

walk_child : (found : Option Walk) → child_of (walk_form found) ≡ None
walk_child None = refl
walk_child (Some it) = refl

kept_child : (found : Option Walk) → child_of (kept_form found) ≡ None
kept_child None = refl
kept_child (Some it) = refl

node_child : (kind : Operation) (parts : List (Separator × Form)) → child_of (node_form kind parts) ≡ None
node_child m.Chain parts = walk_child (chain_walk parts)
node_child (m.Once slot zero) [] = refl
node_child (m.Once slot zero) (part ∷ parts) = kept_child (plain_of part.1)
node_child (m.Once slot (suc height)) parts = refl
node_child (m.Bound binder) parts = refl
node_child m.Conditional parts = refl
node_child (m.Cast word function optional) parts = refl
node_child (m.Signs signs) parts = refl
node_child m.FilteredStep parts = refl
node_child m.FreeStep parts = refl
node_child m.Filtered parts = refl
node_child m.Only parts = refl
node_child (m.Call function) parts = refl
node_child (m.Matches pattern) parts = refl
node_child m.Nothing parts = refl

pub child-of_node : (work : PlanNode) (kind : Operation) (parts : List (Separator × PlanNode)) → work ≡ w.Node kind parts → child_of (form work) ≡ None
child-of_node work kind parts is = ap (λ x. child_of (form x)) is ∙ (ap child_of (form-node kind parts) ∙ node_child kind (forms parts))

walk_item : (found : Option Walk) → is_item_form (walk_form found) ≡ false
walk_item None = refl
walk_item (Some it) = refl

kept_item : (found : Option Walk) → is_item_form (kept_form found) ≡ false
kept_item None = refl
kept_item (Some it) = refl

node_item : (kind : Operation) (parts : List (Separator × Form)) → is_item_form (node_form kind parts) ≡ false
node_item m.Chain parts = walk_item (chain_walk parts)
node_item (m.Once slot zero) [] = refl
node_item (m.Once slot zero) (part ∷ parts) = kept_item (plain_of part.1)
node_item (m.Once slot (suc height)) parts = refl
node_item (m.Bound binder) parts = refl
node_item m.Conditional parts = refl
node_item (m.Cast word function optional) parts = refl
node_item (m.Signs signs) parts = refl
node_item m.FilteredStep parts = refl
node_item m.FreeStep parts = refl
node_item m.Filtered parts = refl
node_item m.Only parts = refl
node_item (m.Call function) parts = refl
node_item (m.Matches pattern) parts = refl
node_item m.Nothing parts = refl

pub item-of_node : (work : PlanNode) (kind : Operation) (parts : List (Separator × PlanNode)) → work ≡ w.Node kind parts → is_item_form (form work) ≡ false
item-of_node work kind parts is = ap (λ x. is_item_form (form x)) is ∙ (ap is_item_form (form-node kind parts) ∙ node_item kind (forms parts))

named_item : (found : Option ℕ) → is_item_form (simple_form false found) ≡ false
named_item None = refl
named_item (Some k) = refl

simple_item : (x : Simple) → is_item_form (simple_form (is_item x) (child_name x)) ≡ is_item x
simple_item (s.Step axis test) = named_item (name_on axis test)
simple_item (s.Text text) = refl
simple_item (s.Number number) = refl
simple_item s.Nothing = refl
simple_item s.Item = refl
simple_item s.Root = refl
simple_item (s.Variable height) = refl
simple_item (s.Outer name) = refl
simple_item (s.Called function) = refl

pub item-of_simple : (work : PlanNode) (simple : Simple) → work ≡ w.Simple simple → is_item_form (form work) ≡ is_item simple
item-of_simple work simple is = ap (λ x. is_item_form (form x)) is ∙ (ap is_item_form (form-simple simple) ∙ simple_item simple)

-- ---- links

pub double_slash_is : (link : Separator) → is_double_slash link ≡ true → link ≡ l.Operator o.DoubleSlash
double_slash_is (l.Operator o.DoubleSlash) h = refl
double_slash_is (l.Operator _) h = absurd (false≢true h)
double_slash_is l.Comma h = absurd (false≢true h)
double_slash_is l.Other h = absurd (false≢true h)

pub other_is : (link : Separator) → is_other link ≡ true → link ≡ l.Other
other_is l.Other h = refl
other_is (l.Operator operator) h = absurd (false≢true h)
other_is l.Comma h = absurd (false≢true h)

pub inner_some : (part : Separator × PlanNode) (found : Option ℕ) → is_double_slash part.0 ≡ true → IfSome found (λ k. part.1
    ≡ w.Simple (s.Step a.Child (t.Named k)))
    → IfSome found (λ k. part ≡ inner_part k)
inner_some part None is h = tt
inner_some part (Some k) is h = λ j. (double_slash_is part.0 is j, h j)

pub inner_yes : (link : Separator) (it : Form) → is_double_slash link ≡ true → inner_name link it ≡ child_of it
inner_yes link it h = ap (λ (b : Bool). elim b [ true ↦ child_of it | false ↦ None ]) h

pub inner_no : (link : Separator) (it : Form) → is_double_slash link ≡ false → inner_name link it ≡ None
inner_no link it h = ap (λ (b : Bool). elim b [ true ↦ child_of it | false ↦ None ]) h

pub focus_yes : (link : Separator) (it : Form) → is_other link ≡ true → is_focus link it ≡ is_item_form it
focus_yes link it h = ap (λ (b : Bool). elim b [ true ↦ is_item_form it | false ↦ false ]) h

pub focus_no : (link : Separator) (it : Form) → is_other link ≡ false → is_focus link it ≡ false
focus_no link it h = ap (λ (b : Bool). elim b [ true ↦ is_item_form it | false ↦ false ]) h

-- ---- chains

pub one_only : {X : Type 0} (xs : List X) (x : X) → length xs ≡ 1 → x ≡ get_or xs 0 x → xs ≡ x ∷ []
one_only [] x l is = absurd (omega (arith, l))
one_only (y ∷ []) x l is = λ j. sym is j ∷ []
one_only (y ∷ z ∷ ys) x l is = absurd (omega (arith, l))

pub two_only : {X : Type 0} (xs : List X) (x y : X) → length xs ≡ 2 → x ≡ get_or xs 0 x → y ≡ get_or xs 1 y → xs ≡ x ∷ y ∷ []
two_only [] x y l is there = absurd (omega (arith, l))
two_only (a' ∷ []) x y l is there = absurd (omega (arith, l))
two_only (a' ∷ b' ∷ []) x y l is there = λ j. sym is j ∷ sym there j ∷ []
two_only (a' ∷ b' ∷ z ∷ ys) x y l is there = absurd (omega (arith, l))

pub leading_parts : (part : Separator × PlanNode) (name : Option ℕ) (found : Option Walk) → found ≡ as_walk true name → IfSome name (λ k. part ≡ inner_part k)
    → IfSome found (λ it. part ∷ [] ≡ walk_parts it)
leading_parts part None found is h = rw is tt
leading_parts part (Some k) found is h = rw is (ap (λ p. p ∷ []) h)

pub inside_parts : (first part : Separator × PlanNode) (name : Option ℕ) (found : Option Walk) → found ≡ as_walk false name → first ≡ focus_part
    → IfSome name (λ k. part ≡ inner_part k)
    → IfSome found (λ it. first ∷ part ∷ [] ≡ walk_parts it)
inside_parts first part None found is there h = rw is tt
inside_parts first part (Some k) found is there h = rw is (λ j. there j ∷ h j ∷ [])

plain_chain : (found : Option Walk) → plain_of (walk_form found) ≡ found
plain_chain None = refl
plain_chain (Some it) = refl

pub plain-chain : (work : PlanNode) (parts : List (Separator × PlanNode)) → work ≡ w.Node m.Chain parts → plain_walk work ≡ chain_walk (forms parts)
plain-chain work parts is = ap plain_walk is ∙ (ap plain_of (form-node m.Chain parts) ∙ plain_chain (chain_walk (forms parts)))

pub chain_is : (kind : Operation) → is_chain kind ≡ true → kind ≡ m.Chain
chain_is m.Chain h = refl
chain_is (m.Once slot height) h = absurd (false≢true h)
chain_is (m.Bound binder) h = absurd (false≢true h)
chain_is m.Conditional h = absurd (false≢true h)
chain_is (m.Cast word function optional) h = absurd (false≢true h)
chain_is (m.Signs signs) h = absurd (false≢true h)
chain_is m.FilteredStep h = absurd (false≢true h)
chain_is m.FreeStep h = absurd (false≢true h)
chain_is m.Filtered h = absurd (false≢true h)
chain_is m.Only h = absurd (false≢true h)
chain_is (m.Call function) h = absurd (false≢true h)
chain_is (m.Matches pattern) h = absurd (false≢true h)
chain_is m.Nothing h = absurd (false≢true h)

pub by_chain : (kind : Operation) (parts : List (Separator × PlanNode)) (found : Option Walk) → is_chain kind ≡ true → found ≡ chain_walk (forms parts)
    → found ≡ plain_walk (w.Node kind parts)
by_chain kind parts found h is = is ∙ sym (plain-chain (w.Node kind parts) parts (ap (λ kind. w.Node kind parts) (chain_is kind h)))

pub chain_some : (kind : Operation) (parts : List (Separator × PlanNode)) (found : Option Walk) → is_chain kind ≡ true → IfSome found (λ it. parts
    ≡ walk_parts it)
    → IfSome found (λ it. w.Node kind parts ≡ w.Node m.Chain (walk_parts it))
chain_some kind parts None h e = tt
chain_some kind parts (Some it) h e = λ j. w.Node (chain_is kind h j) (e j)

kept_plain : (found : Option Walk) → plain_of (kept_form found) ≡ None
kept_plain None = refl
kept_plain (Some it) = refl

no_chain : (kind : Operation) (parts : List (Separator × Form)) → is_chain kind ≡ false → plain_of (node_form kind parts) ≡ None
no_chain m.Chain parts h = absurd (false≢true (sym h))
no_chain (m.Once slot zero) [] h = refl
no_chain (m.Once slot zero) (part ∷ parts) h = kept_plain (plain_of part.1)
no_chain (m.Once slot (suc height)) parts h = refl
no_chain (m.Bound binder) parts h = refl
no_chain m.Conditional parts h = refl
no_chain (m.Cast word function optional) parts h = refl
no_chain (m.Signs signs) parts h = refl
no_chain m.FilteredStep parts h = refl
no_chain m.FreeStep parts h = refl
no_chain m.Filtered parts h = refl
no_chain m.Only parts h = refl
no_chain (m.Call function) parts h = refl
no_chain (m.Matches pattern) parts h = refl
no_chain m.Nothing parts h = refl

pub by_no_chain : (kind : Operation) (parts : List (Separator × PlanNode)) → is_chain kind ≡ false → None ≡ plain_walk (w.Node kind parts)
by_no_chain kind parts h = sym (ap plain_of (form-node kind parts) ∙ no_chain kind (forms parts) h)

simple_plain : (is : Bool) (name : Option ℕ) → plain_of (simple_form is name) ≡ None
simple_plain true name = refl
simple_plain false None = refl
simple_plain false (Some k) = refl

pub plain-of_simple : (work : PlanNode) (simple : Simple) → work ≡ w.Simple simple → None ≡ plain_walk work
plain-of_simple work simple is = sym (ap plain_walk is ∙ (ap plain_of (form-simple simple) ∙ simple_plain (is_item simple) (child_name simple)))

pub plain-of_node : (work : PlanNode) (kind : Operation) (parts parts' : List (Separator × PlanNode)) (found : Option Walk) → work ≡ w.Node kind parts
    → parts' ≡ parts
    → found ≡ plain_walk (w.Node kind parts')
    → found ≡ plain_walk work
plain-of_node work kind parts parts' found is same h = h ∙ (ap (λ ps. plain_walk (w.Node kind ps)) same ∙ ap plain_walk (sym is))

pub node_some : (work : PlanNode) (kind : Operation) (parts parts' : List (Separator × PlanNode)) (found : Option Walk) → work ≡ w.Node kind parts → parts'
    ≡ parts
    → IfSome found (λ it. w.Node kind parts' ≡ w.Node m.Chain (walk_parts it)) → IfSome found (λ it. work ≡ w.Node m.Chain (walk_parts it))
node_some work kind parts parts' None is same h = tt
node_some work kind parts parts' (Some it) is same h = is ∙ (ap (w.Node kind) (sym same) ∙ h)

-- ---- what a walk means

pub walk_begin : (base : DynamicContext) (leading : Bool) (k n : ℕ) (focus : Focus) → focus.item ≡ i.Node n
    → value_in base (seen base.names.now (w.Node m.Chain (parts_by leading k))) focus []
    ≡ inside_seen (tree_nodes base.doc.now) (test_seen base.names.now (t.Named k)) (i.Node (begin_by leading n) ∷ [])
walk_begin base true k n focus is =
    ap (λ e. value_in base e focus []) (seen-node base.names.now m.Chain (parts_by true k)
    ∙ ap (λ e. made m.Chain ((b.Link o.DoubleSlash, e) ∷ [])) (seen-simple base.names.now (s.Step a.Child (t.Named k))))
    ∙ leading_value (tree_nodes base.doc.now) (test_seen base.names.now (t.Named k)) n (context base focus []) is
walk_begin base false k n focus is =
    ap (λ e. value_in base e focus []) (seen-node base.names.now m.Chain (parts_by false k)
    ∙ (λ j. made m.Chain ((b.First, seen-simple base.names.now s.Item j) ∷
    (b.Link o.DoubleSlash, seen-simple base.names.now (s.Step a.Child (t.Named k)) j) ∷ [])))
    ∙ inner_value (tree_nodes base.doc.now) (test_seen base.names.now (t.Named k)) n (context base focus []) is

pub begin_leading : (leading : Bool) (n from : ℕ) → from ≡ begin_by leading n → leading ≡ true → (from == 0) ≡ true
begin_leading true n from is h = ap (λ m. m == 0) is
begin_leading false n from is h = absurd (false≢true h)

-- ---- walks that are kept

kept_any : (found : Option Walk) → any_of (kept_form found) ≡ found
kept_any None = refl
kept_any (Some it) = refl

pub whole_walk : (work part : PlanNode) (slot : ℕ) → IsWhole work slot part → walk_of work ≡ plain_walk part
whole_walk work part slot whole =
    ap walk_of whole.is ∙ (ap any_of (form-node (m.Once slot zero) ((whole.link, part) ∷ whole.others)) ∙ kept_any (plain_of (form part)))

walk_any : (found : Option Walk) → any_of (walk_form found) ≡ plain_of (walk_form found)
walk_any None = refl
walk_any (Some it) = refl

some_none : {X : Type 0} (x : X) → ◌≡◌ {A = Option X} (Some x) None → ⊥
some_none x e = cc

unkept : (kind : Operation) (parts : List (Separator × PlanNode)) → whole_step (PlanNode-F.Node kind (map (λ (p : Separator
    × PlanNode). (p.0, whole_slot p.1)) parts)) ≡ None
    → any_of (node_form kind (forms parts)) ≡ plain_of (node_form kind (forms parts))
unkept m.Chain parts h = walk_any (chain_walk (forms parts))
unkept (m.Once slot zero) [] h = refl
unkept (m.Once slot zero) (part ∷ parts) h = absurd (some_none slot h)
unkept (m.Once slot (suc height)) parts h = refl
unkept (m.Bound binder) parts h = refl
unkept m.Conditional parts h = refl
unkept (m.Cast word function optional) parts h = refl
unkept (m.Signs signs) parts h = refl
unkept m.FilteredStep parts h = refl
unkept m.FreeStep parts h = refl
unkept m.Filtered parts h = refl
unkept m.Only parts h = refl
unkept (m.Call function) parts h = refl
unkept (m.Matches pattern) parts h = refl
unkept m.Nothing parts h = refl

unkept_simple : (is : Bool) (name : Option ℕ) → any_of (simple_form is name) ≡ plain_of (simple_form is name)
unkept_simple true name = refl
unkept_simple false None = refl
unkept_simple false (Some k) = refl

unkept_by : (x : PlanNode-F PlanNode) → whole_step (map-PlanNode PlanNode (Option ℕ) whole_slot x) ≡ None
    → any_of (form_step (map-PlanNode PlanNode Form form x)) ≡ plain_of (form_step (map-PlanNode PlanNode Form form x))
unkept_by (PlanNode-F.Simple x) h = unkept_simple (is_item x) (child_name x)
unkept_by (PlanNode-F.Node kind parts) h = unkept kind parts h

pub unkept_walk : (work : PlanNode) → whole_slot work ≡ None → walk_of work ≡ plain_walk work
unkept_walk = ind-PlanNode (λ work. whole_slot work ≡ None → walk_of work ≡ plain_walk work) (λ x y is h.
    ap any_of (fold-roll-PlanNode Form form_step x)
    ∙ (unkept_by x (sym (fold-roll-PlanNode (Option ℕ) whole_step x) ∙ h)
    ∙ ap plain_of (sym (fold-roll-PlanNode Form form_step x))))

-- ---- what a walk takes

pub on_ok_any : {X E : Type 0} (P : Type 0) (r : Result X E) → P → OnOk r P
on_ok_any P (Ok x) h = h
on_ok_any P (Err error) h = tt

pub bounds_along : {Y F : Type 0} (count : ℕ) (leading : Bool) (s : Result Y F) (before after after' : ℕ) → after' ≡ after
    → (leading ≡ true → before + count ≤ after) → after ≤ before + (2 * count + 2) → Bounds count leading s before after'
bounds_along count leading s before after after' same least most = record {
  most = omega (arith, same, most);
  least = λ h. on_ok_any (before + count ≤ after') s (omega (arith, same, least h));
}

pub no_bounds_left : {X : Type 0} (slots : List (Option Value)) (slot : ℕ) (found : Option Lent) (lent : Lent)
    → option_map lent_value found ≡ get_or slots slot None → found ≡ Some lent
    → get_or slots slot None ≡ None → X
no_bounds_left slots slot found lent read there empty = absurd (none_some (lent_value lent) (sym empty ∙ (sym read ∙ ap (option_map lent_value) there)))
