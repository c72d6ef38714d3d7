-- Which works are those of patterns that are a full name alone.
use Rattle.std.proofs.Common.{◌≡◌, ℕ, Bool, true, false, List, [], ◌∷◌, Option, Some, None, IfSome, refl, ap, sym, ◌∙◌}
use Rattle.std.proofs.lemmas.Bool.{false≢true, true≢false}
use Rattle.inv_base.specs.Tree.{Name}
use Rattle.xpath_grammar.specs.declared.step.Axis.{Axis}
use Rattle.xpath_grammar.specs.declared.step.Axis.TheVariants as a
use Rattle.xpath_meaning.specs.Expressions as x
use Rattle.xpath_meaning.specs.Expressions.{Exp, NodeTest}
use Rattle.xpath_meaning.specs.Items.{is_empty}
use Rattle.xpath_meaning.specs.Resolving.{Operand, in_axis_order, kept_of, step_of}
use Rattle.xpath_plan.specs.declared.plan_node.Operation.{Operation}
use Rattle.xpath_plan.specs.declared.plan_node.Operation.TheVariants as kd
use Rattle.xpath_plan.specs.declared.plan_node.Separator.{Separator}
use Rattle.xpath_plan.specs.declared.plan_node.Simple.{Simple}
use Rattle.xpath_plan.specs.declared.plan_node.Simple.TheVariants as s
use Rattle.xpath_plan.specs.declared.plan_node.StepTest.{StepTest}
use Rattle.xpath_plan.specs.declared.plan_node.StepTest.TheVariants as t
use Rattle.xpath_plan.specs.declared.plan_node.PlanNode.{PlanNode}
use Rattle.xpath_plan.specs.declared.plan_node.PlanNode.TheVariants as w
use Rattle.xpath_plan.specs.Plans.{seen, made, simple_seen, test_seen}
use Rattle.xpath_parts.proofs.SeenLemmas.{seen-simple}
use Rattle.xpath_parts.specs.Contexts.{operands_of}
use Rattle.xpath_parts.specs.Named.{name_of, name_on, child_name, step_name}
use Rattle.xpath_marks.specs.FirstSteps.{filtered_name, is_found_by_first}
use Rattle.xpath_marks.specs.Marking.{is_first_part, is_filter, is_root}
use Rattle.xpath_marks.specs.Shapes.{alone, child_test, is_downward, is_step}
use Rattle.xpath_marks.proofs.TurnLemmas.{node_seen, first_part_is, no_step}

none_some : {X : Type 0} (x : X) → ◌≡◌ {A = Option X} None (Some x) → ⊥
none_some x e = cc

-- ---- the name that a first part goes to

pub filtered_yes : (kind : Operation) (first : PlanNode) → is_filter kind ≡ true → filtered_name kind first ≡ step_name first
filtered_yes kind first h = ap (λ (b : Bool). elim b [ true ↦ step_name first | false ↦ None ]) h

pub filtered_no : (kind : Operation) (first : PlanNode) → is_filter kind ≡ false → filtered_name kind first ≡ None
filtered_no kind first h = ap (λ (b : Bool). elim b [ true ↦ step_name first | false ↦ None ]) h

pub some_so : {P : Type 0} (o : Option ℕ) → P → IfSome o (λ k. P)
some_so None p = tt
some_so (Some k) p = p

-- ---- a name alone

record IsNamed (axis : Axis) (test : NodeTest) (name : Name) : Type 0 where
  pub axis_is : axis ≡ a.Child
  pub test_is : test ≡ x.named name

named_by : (test : NodeTest) (name : Name) → child_test a.Child test ≡ Some name → IsNamed a.Child test name
named_by (x.named other) name e = record { axis_is = refl; test_is = ap x.named (let same : other ≡ name = cc in same) }
named_by (x.in_namespace uri) name e = absurd (none_some name e)
named_by (x.with_local local) name e = absurd (none_some name e)
named_by x.any_name name e = absurd (none_some name e)
named_by (x.of_kind kind) name e = absurd (none_some name e)

named_on : (axis : Axis) (test : NodeTest) (name : Name) → child_test axis test ≡ Some name → IsNamed axis test name
named_on a.Child test name e = named_by test name e
named_on a.Descendant test name e = absurd (none_some name e)
named_on a.DescendantOrSelf test name e = absurd (none_some name e)
named_on a.Itself test name e = absurd (none_some name e)
named_on a.Attribute test name e = absurd (none_some name e)
named_on a.Parent test name e = absurd (none_some name e)
named_on a.Ancestor test name e = absurd (none_some name e)
named_on a.AncestorOrSelf test name e = absurd (none_some name e)
named_on a.FollowingSibling test name e = absurd (none_some name e)
named_on a.PrecedingSibling test name e = absurd (none_some name e)
named_on a.Following test name e = absurd (none_some name e)
named_on a.Preceding test name e = absurd (none_some name e)

-- It is a step.
alone_step : (e : Exp) (name : Name) → alone e ≡ Some name → is_step e ≡ true
alone_step (x.axis_step axis test) name e = ap is_downward (named_on axis test name e).axis_is
alone_step (x.stepped step) name e = alone_step step name e
alone_step x.nothing name e = absurd (none_some name e)
alone_step (x.filtered step predicate) name e = absurd (none_some name e)
alone_step (x.text t) name e = absurd (none_some name e)
alone_step (x.number z) name e = absurd (none_some name e)
alone_step x.the_item name e = absurd (none_some name e)
alone_step x.the_root name e = absurd (none_some name e)
alone_step (x.variable height) name e = absurd (none_some name e)
alone_step (x.outer variable) name e = absurd (none_some name e)
alone_step (x.slash f g) name e = absurd (none_some name e)
alone_step (x.comma f g) name e = absurd (none_some name e)
alone_step (x.both f g) name e = absurd (none_some name e)
alone_step (x.either f g) name e = absurd (none_some name e)
alone_step (x.operated operator f g) name e = absurd (none_some name e)
alone_step (x.signed signs f) name e = absurd (none_some name e)
alone_step (x.chosen c f g) name e = absurd (none_some name e)
alone_step (x.bound binder f g) name e = absurd (none_some name e)
alone_step (x.cast word type optional f) name e = absurd (none_some name e)
alone_step (x.called function arguments) name e = absurd (none_some name e)

alone_ordered : (e : Exp) → alone (in_axis_order e) ≡ alone e
alone_ordered (x.text t) = refl
alone_ordered (x.number z) = refl
alone_ordered x.nothing = refl
alone_ordered x.the_item = refl
alone_ordered x.the_root = refl
alone_ordered (x.variable height) = refl
alone_ordered (x.outer name) = refl
alone_ordered (x.axis_step axis test) = refl
alone_ordered (x.filtered e predicate) = refl
alone_ordered (x.stepped e) = refl
alone_ordered (x.slash e f) = refl
alone_ordered (x.comma e f) = refl
alone_ordered (x.both e f) = refl
alone_ordered (x.either e f) = refl
alone_ordered (x.operated operator e f) = refl
alone_ordered (x.signed signs e) = refl
alone_ordered (x.chosen c e f) = refl
alone_ordered (x.bound binder e f) = refl
alone_ordered (x.cast word type optional e) = refl
alone_ordered (x.called function arguments) = refl

alone_kept : (parts : List Operand) (e predicate : Exp) → alone (kept_of (x.filtered e predicate) parts) ≡ None
alone_kept [] e predicate = refl
alone_kept (part ∷ parts) e predicate = alone_kept parts (x.filtered e predicate) part.1

record IsNamedStep (axis : Axis) (test : Option NodeTest) (name : Name) : Type 0 where
  pub axis_is : axis ≡ a.Child
  pub test_is : test ≡ Some (x.named name)

named_step : (axis : Axis) (test : Option NodeTest) (name : Name) → alone (step_of axis test) ≡ Some name → IsNamedStep axis test name
named_step axis None name e = absurd (none_some name e)
named_step axis (Some test) name e = let is = named_on axis test name e in record { axis_is = is.axis_is; test_is = ap Some is.test_is }

root_none : (names : List Name) (simple : Simple) (name : Name) → is_root simple ≡ true → alone (simple_seen names simple) ≡ Some name → ⊥
root_none names s.Root name h e = none_some name e
root_none names (s.Text text) name h e = false≢true h
root_none names (s.Number number) name h e = false≢true h
root_none names s.Nothing name h e = false≢true h
root_none names s.Item name h e = false≢true h
root_none names (s.Variable height) name h e = false≢true h
root_none names (s.Outer other) name h e = false≢true h
root_none names (s.Step axis test) name h e = false≢true h
root_none names (s.Called function) name h e = false≢true h

pub root_alone : (names : List Name) (work : PlanNode) (simple : Simple) (name : Name) → work ≡ w.Simple simple → is_root simple ≡ true →
    alone (seen names work) ≡ Some name → ⊥
root_alone names work simple name is root e = root_none names simple name root (sym (ap alone (ap (seen names) is ∙ seen-simple names simple)) ∙ e)

-- the name that a step looks for
pub alone_named : (names : List Name) (work : PlanNode) (simple : Simple) (k : ℕ) (name : Name) → work ≡ w.Simple simple → simple ≡ s.Step a.Child (t.Named k)
    → alone (seen names work) ≡ Some name → test_seen names (t.Named k) ≡ Some (x.named name)
alone_named names work simple k name is step e =
    (named_step a.Child (test_seen names (t.Named k)) name
    (sym (ap (λ y. alone (simple_seen names y)) step) ∙ (sym (ap alone (ap (seen names) is ∙ seen-simple names simple)) ∙ e))).test_is

-- Other works without parts look for none.
not_named : (names : List Name) (test : StepTest) (name : Name) → test_seen names test ≡ Some (x.named name) → name_of test ≡ None → ⊥
not_named names (t.Named n) name e none = none_some n (sym none)
not_named names (t.InNamespace uri) name e none = cc
not_named names (t.WithLocal local) name e none = cc
not_named names t.AnyName name e none = cc
not_named names (t.Kind kind) name e none = cc

simple_alone : (names : List Name) (simple : Simple) (name : Name) → child_name simple ≡ None → alone (simple_seen names simple) ≡ Some name → ⊥
simple_alone names (s.Step axis test) name none e =
    let is = named_step axis (test_seen names test) name e in
    not_named names test name is.test_is (ap (λ y. name_on y test) (sym is.axis_is) ∙ none)
simple_alone names (s.Text text) name none e = none_some name e
simple_alone names (s.Number number) name none e = none_some name e
simple_alone names s.Nothing name none e = none_some name e
simple_alone names s.Item name none e = none_some name e
simple_alone names s.Root name none e = none_some name e
simple_alone names (s.Variable height) name none e = none_some name e
simple_alone names (s.Outer other) name none e = none_some name e
simple_alone names (s.Called function) name none e = none_some name e

pub other_alone : (names : List Name) (work : PlanNode) (simple : Simple) (name : Name) → work ≡ w.Simple simple → child_name simple ≡ None →
    alone (seen names work) ≡ Some name → ⊥
other_alone names work simple name is none e = simple_alone names simple name none (sym (ap alone (ap (seen names) is ∙ seen-simple names simple)) ∙ e)

-- ---- works with parts

none_made : (kind : Operation) → alone (made kind []) ≡ None
none_made kd.Chain = refl
none_made (kd.Bound binder) = refl
none_made kd.Conditional = refl
none_made (kd.Cast word function optional) = refl
none_made (kd.Signs signs) = refl
none_made kd.FilteredStep = refl
none_made kd.FreeStep = refl
none_made kd.Filtered = refl
none_made kd.Only = refl
none_made (kd.Once slot height) = refl
none_made (kd.Call function) = refl
none_made (kd.Matches pattern) = refl
none_made kd.Nothing = refl

pub empty_alone : (names : List Name) (work : PlanNode) (kind : Operation) (parts : List (Separator × PlanNode)) (name : Name) → work ≡ w.Node kind parts
    → parts ≡ [] →
    alone (seen names work) ≡ Some name → ⊥
empty_alone names work kind parts name is none e =
    none_some name (sym (none_made kind) ∙
    (sym (ap alone (ap (seen names) is ∙ (node_seen names kind parts ∙ ap (λ ps. made kind (operands_of names ps)) none))) ∙ e))

-- The first part alone is the name.
first_made : (names : List Name) (kind : Operation) (link : Separator) (work : PlanNode) (others : List (Separator × PlanNode))
    → is_found_by_first kind link (is_empty others) ≡ true
    → alone (made kind (operands_of names ((link, work) ∷ others))) ≡ alone (seen names work)
first_made names kd.FilteredStep link work [] h = alone_ordered (seen names work)
first_made names kd.FreeStep link work [] h = alone_ordered (seen names work)
first_made names kd.FilteredStep link work (other ∷ others) h = absurd (false≢true h)
first_made names kd.FreeStep link work (other ∷ others) h = absurd (false≢true h)
first_made names kd.Only link work others h = ap alone (first_part_is names kd.Only link work others h)
first_made names (kd.Once slot height) link work others h = ap alone (first_part_is names (kd.Once slot height) link work others h)
first_made names kd.Filtered link work others h = ap alone (first_part_is names kd.Filtered link work others h)
first_made names (kd.Bound binder) link work others h = ap alone (first_part_is names (kd.Bound binder) link work others h)
first_made names kd.Chain link work others h = ap alone (first_part_is names kd.Chain link work others h)
first_made names kd.Conditional link work others h = absurd (false≢true h)
first_made names (kd.Cast word function optional) link work others h = absurd (false≢true h)
first_made names (kd.Signs signs) link work others h = absurd (false≢true h)
first_made names (kd.Call function) link work others h = absurd (false≢true h)
first_made names (kd.Matches pattern) link work others h = absurd (false≢true h)
first_made names kd.Nothing link work others h = absurd (false≢true h)

-- Nothing else that has parts is.
made_none : (names : List Name) (kind : Operation) (link : Separator) (work : PlanNode) (others : List (Separator × PlanNode)) (name : Name) →
    is_first_part kind link (is_empty others) ≡ false → is_filter kind ≡ false
    → alone (made kind (operands_of names ((link, work) ∷ others))) ≡ Some name → ⊥
made_none names kind link work others name h f e =
    let whole = made kind (operands_of names ((link, work) ∷ others)) in
    none_some name (sym (ap alone (no_step names kind link work others h f (alone_step whole name e))) ∙ e)

other_made : (names : List Name) (kind : Operation) (link : Separator) (work : PlanNode) (others : List (Separator × PlanNode)) (name : Name) →
    is_found_by_first kind link (is_empty others) ≡ false
    → alone (made kind (operands_of names ((link, work) ∷ others))) ≡ Some name → ⊥
other_made names kd.FilteredStep link work [] name h e = true≢false h
other_made names kd.FreeStep link work [] name h e = true≢false h
other_made names kd.FilteredStep link work (other ∷ others) name h e =
    none_some name (sym (alone_kept (operands_of names others) (in_axis_order (seen names work)) (seen names other.1)) ∙ e)
other_made names kd.FreeStep link work (other ∷ others) name h e =
    none_some name (sym (alone_kept (operands_of names others) (in_axis_order (seen names work)) (seen names other.1)) ∙ e)
other_made names kd.Filtered link work [] name h e = true≢false h
other_made names kd.Filtered link work (other ∷ others) name h e =
    none_some name (sym (alone_kept (operands_of names others) (seen names work) (seen names other.1)) ∙ e)
other_made names kd.Only link work others name h e = made_none names kd.Only link work others name h refl e
other_made names (kd.Once slot height) link work others name h e = made_none names (kd.Once slot height) link work others name h refl e
other_made names (kd.Bound binder) link work others name h e = made_none names (kd.Bound binder) link work others name h refl e
other_made names kd.Chain link work others name h e = made_none names kd.Chain link work others name h refl e
other_made names kd.Conditional link work others name h e = made_none names kd.Conditional link work others name h refl e
other_made names (kd.Cast word function optional) link work others name h e = made_none names (kd.Cast word function optional) link work others name h refl e
other_made names (kd.Signs signs) link work others name h e = made_none names (kd.Signs signs) link work others name h refl e
other_made names (kd.Call function) link work others name h e = made_none names (kd.Call function) link work others name h refl e
other_made names (kd.Matches pattern) link work others name h e = made_none names (kd.Matches pattern) link work others name h refl e
other_made names kd.Nothing link work others name h e = made_none names kd.Nothing link work others name h refl e

module _ (names : List Name) (work : PlanNode) (kind : Operation) (parts : List (Separator × PlanNode)) (is : work ≡ w.Node kind parts) (first : Separator
    × PlanNode)
    (others : List (Separator × PlanNode)) (divided : parts ≡ first ∷ others) where
  divided_alone : alone (seen names work) ≡ alone (made kind (operands_of names (first ∷ others)))
  divided_alone = ap alone (ap (seen names) is ∙ (node_seen names kind parts ∙ ap (λ ps. made kind (operands_of names ps)) divided))

  pub first_alone : is_found_by_first kind first.0 (is_empty others) ≡ true → alone (seen names first.1) ≡ alone (seen names work)
  first_alone h = sym (divided_alone ∙ first_made names kind first.0 first.1 others h)

  pub others_alone : (name : Name) → is_found_by_first kind first.0 (is_empty others) ≡ false → alone (seen names work) ≡ Some name → ⊥
  others_alone name h e = other_made names kind first.0 first.1 others name h (sym divided_alone ∙ e)
