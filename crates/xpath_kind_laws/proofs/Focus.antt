-- Where the parts of an expression are passed one by one, the contexts of each suit what it is judged in.
use Rattle.std.proofs.Common.{◌≡◌, ℕ, suc, Bool, true, false, List, [], ◌∷◌, length, map, Option, Some, None, Result, Ok, Err, refl, cond}
use Rattle.std.specs.List.{All, list_all}
use Rattle.std.proofs.lemmas.Bool.{false≢true}
use Rattle.std.proofs.lemmas.List.Elements.{All-nil, All-cons}
use Rattle.inv_base.specs.Tree.{Node}
use Rattle.xpath_tokens.specs.declared.token.Name.{Name}
use Rattle.xpath_grammar.specs.declared.operators.Production.TheVariants as p
use Rattle.xpath_grammar.specs.declared.operators.Binder.{Binder}
use Rattle.xpath_grammar.specs.declared.expr.Leaf.TheVariants as l
use Rattle.xpath_grammar.specs.declared.expr.Form.{Form}
use Rattle.xpath_grammar.specs.declared.expr.Form.TheVariants as m
use Rattle.xpath_grammar.specs.declared.expr.Label.{Label}
use Rattle.xpath_grammar.specs.declared.expr.Label.TheVariants as k
use Rattle.xpath_grammar.specs.declared.step.Axis.{Axis}
use Rattle.xpath_grammar.specs.declared.step.Axis.TheVariants as a
use Rattle.xpath_grammar.specs.declared.step.KindTest.TheVariants as q
use Rattle.xpath_grammar.specs.Grammar as g
use Rattle.xpath_grammar.specs.Grammar.{Tree}
use Rattle.xpath_types.specs.declared.kinds.Kinds.{Kinds}
use Rattle.xpath_types.specs.Kinds as kinds
use Rattle.xpath_types.specs.Scopes.{written_name}
use Rattle.xpath_types.specs.Judging as j
use Rattle.xpath_types.specs.Judging.{Environment, judged}
use Rattle.xpath_items.specs.declared.item.Item.{Item}
use Rattle.xpath_items.specs.declared.item.Item.TheVariants as i
use Rattle.xpath_items.specs.declared.outcome.DynError.{DynError}
use Rattle.xpath_meaning.specs.Values.{Value, then_}
use Rattle.xpath_meaning.specs.Axes.{on_axis}
use Rattle.xpath_meaning.specs.Steps.{is_node, node_item, step_from, keeps, with_kept, kept}
use Rattle.xpath_meaning.specs.Expressions as x
use Rattle.xpath_meaning.specs.Expressions.{Exp, NodeTest}
use Rattle.xpath_meaning.specs.Resolving as r
use Rattle.xpath_meaning.specs.Resolving.{resolved}
use Rattle.xpath_meaning.specs.Meaning as c
use Rattle.xpath_meaning.specs.Meaning.{Context, mean}
use Rattle.xpath_meaning.specs.ItemKinds.{IsOf, AreOf, IsValueOf, AreBound, Suits}
use Rattle.xpath_meaning.specs.PartKinds.{Bound, names, AreInScope, expected}
use Rattle.xpath_kind_laws.specs.Arising.{items_of, if_all_nodes, at_each_from, first_source, step_source, source_behind, contexts_inside, contexts_behind}
use Rattle.xpath_kind_laws.proofs.Placing.{scope_behind}
use Rattle.xpath_kind_laws.proofs.Labels.{no_second_first, no_other_binds}

-- Kinds of items

are_of_value : (a : Kinds) (value : Value) → IsValueOf a value → AreOf a (items_of value)
are_of_value a (Ok items) h = h.items
are_of_value a (Err error) h = tt

nodes_alone : (items : List Item) → list_all is_node items ≡ true → AreOf kinds.nodes items
nodes_alone [] h = tt
nodes_alone (i.Node n ∷ items) h = (refl, nodes_alone items h)
nodes_alone (_ ∷ items) h = absurd (false≢true h)

are_nodes : (items : List Item) → AreOf kinds.nodes (if_all_nodes items)
are_nodes items = go (list_all is_node items) refl
  where
    go : (all : Bool) → list_all is_node items ≡ all → AreOf kinds.nodes (elim all as (λ _. List Item) [ true ↦ items | false ↦ [] ])
    go true h = nodes_alone items h
    go false h = tt

-- what comes first leaves less, or nothing
of_then : {X : Type 0} (a : Kinds) (first : Result X DynError) (next : X → Value) → ((x : X) → AreOf a (items_of (next x)))
    → AreOf a (items_of (then_ first next))
of_then a (Ok x) next h = h x
of_then a (Err error) next h = tt

with_one : (a : Kinds) (is_kept : Bool) (item : Item) (others : Value) → IsOf a item → AreOf a (items_of others)
    → AreOf a (items_of (then_ others (λ others. Ok (with_kept is_kept item others))))
with_one a true item (Ok others) h hs = (h, hs)
with_one a false item (Ok others) h hs = hs
with_one a is_kept item (Err error) h hs = tt

are_kept : (a : Kinds) (predicate : Item → ℕ → ℕ → Value) (last position : ℕ) (items : List Item) → AreOf a items
    → AreOf a (items_of (kept predicate last position items))
are_kept a predicate last position [] h = tt
are_kept a predicate last position (item ∷ items) h =
    let others : Value = kept predicate last (suc position) items in
    let next : Bool → Value = λ is_kept. then_ others (λ others. Ok (with_kept is_kept item others)) in
    of_then a (predicate item position last) (λ answer. then_ (keeps position answer) next) (λ answer. of_then a (keeps position answer) next
    (λ is_kept. with_one a is_kept item others h.0 (are_kept a predicate last (suc position) items h.1)))

are_filtered : (nodes : List Node) (a : Kinds) (e predicate : Exp) (context : Context) → AreOf a (items_of (mean nodes e context))
    → AreOf a (items_of (mean nodes (x.filtered e predicate) context))
are_filtered nodes a e predicate context = go (mean nodes e context)
  where
    go : (value : Value) → AreOf a (items_of value) → AreOf a
        (items_of (then_ value (λ items. kept (λ item position last. mean nodes predicate (c.at context item position last)) (length items) 1 items)))
    go (Ok items) h = are_kept a (λ item position last. mean nodes predicate (c.at context item position last)) (length items) 1 items h
    go (Err error) h = tt

-- The nodes of a step in the order of its axis

node_items : (unrefused : Bool) (nodes : List Node) → AreOf (cond unrefused kinds.nodes kinds.all_kinds) (map node_item nodes)
node_items true [] = tt
node_items true (node ∷ nodes) = (refl, node_items true nodes)
node_items false [] = tt
node_items false (node ∷ nodes) = (refl, node_items false nodes)

step_items : (unrefused : Bool) (nodes : List Node) (axis : Axis) (test : NodeTest) (item : Item)
    → AreOf (cond unrefused kinds.nodes kinds.all_kinds) (items_of (step_from nodes axis test item))
step_items unrefused nodes axis test (i.Node n) = node_items unrefused (on_axis nodes axis test n)
step_items unrefused nodes axis test _ = tt

in_axis_order : (unrefused : Bool) (nodes : List Node) (axis : Axis) (test : Option NodeTest) (context : Context)
    → AreOf (cond unrefused kinds.nodes kinds.all_kinds) (items_of (mean nodes (r.in_axis_order (r.step_of axis test)) context))
in_axis_order unrefused nodes axis None context = tt
in_axis_order unrefused nodes axis (Some test) context = step_items unrefused nodes axis test context.focus.item

first_items : (nodes : List Node) (env : Environment) (bound : Bound) (token : ℕ) (tree : Tree) (context : Context)
    → IsValueOf (judged env token tree).kinds (mean nodes (resolved env.declared (names bound) tree) context)
    → AreOf (judged env token tree).kinds (items_of (mean nodes (first_source tree (resolved env.declared (names bound) tree)) context))
unfolding judged resolved
first_items nodes env bound token (g.leaf (l.Step form test)) context h = in_axis_order _ nodes (r.axis_of form test) (r.test_of env.declared test) context
first_items nodes env bound token (g.leaf l.Parent) context h = in_axis_order true nodes a.Parent (Some (x.of_kind q.Node)) context
first_items nodes env bound token (g.leaf leaf) context h = are_of_value _ _ h
first_items nodes env bound token (g.node form parts) context h = are_of_value _ _ h

-- What is known of the context where parts are passed: behind the expression that is filtered, what it is filtered of

abbrev IsFocused : List Node → Form → Option Label → Kinds → Exp → Context → Type 0
IsFocused nodes form None focus before context = IsOf focus context.focus.item
IsFocused nodes m.Filter (Some label) focus before context = AreOf focus (items_of (mean nodes before context))
IsFocused nodes form (Some label) focus before context = IsOf focus context.focus.item

pub record IsReady (nodes : List Node) (form : Form) (behind : Option Label) (env : Environment) (bound : Bound) (before : Exp)
    (context : Context) : Type 0 where
  pub scope : AreInScope bound env
  pub around : AreBound (expected env bound).bound context.bound
  pub focus : IsFocused nodes form behind env.focus before context

pub ready_at_first : (nodes : List Node) (form : Form) (env : Environment) (bound : Bound) (before : Exp) (context : Context) → AreInScope bound env
    → Suits (expected env bound) context → IsReady nodes form None env bound before context
ready_at_first nodes form env bound before context scope suits = record { scope = scope; around = suits.bound; focus = suits.focus }

-- The contexts of a part

at_items : (focus : Kinds) (around : List Kinds) (context : Context) (last position : ℕ) (items : List Item) → AreOf focus items
    → AreBound around context.bound → All (Suits (record { focus = focus; bound = around })) (at_each_from context last position items)
at_items focus around context last position [] h bound = All-nil (Suits (record { focus = focus; bound = around }))
at_items focus around context last position (item ∷ items) h bound =
    All-cons (Suits (record { focus = focus; bound = around })) (c.at context item position last) (at_each_from context last (suc position) items)
    (record { focus = h.0; bound = bound }) (at_items focus around context last (suc position) items h.1 bound)

one : {X : Type 0} (P : X → Type 0) (x : X) → P x → All P (x ∷ [])
one P x h = All-cons P x [] h (All-nil P)

pub contexts_suit : (nodes : List Node) (form : Form) (behind : Option Label) (label : Label) (env : Environment) (bound : Bound) (before : Exp)
    (context : Context) → g.follows form behind label ≡ true → IsReady nodes form behind env bound before context
    → All (Suits (expected (j.inside form label env) bound)) (contexts_inside nodes form label before context)
contexts_suit nodes (m.Chain p.Path) behind (k.Link operator) env bound before context h ready =
    let items : List Item = items_of (mean nodes (step_source operator before) context) in
    at_items kinds.nodes (expected env bound).bound context (length (if_all_nodes items)) 1 (if_all_nodes items) (are_nodes items) ready.around
contexts_suit nodes m.Filter None k.First env bound before context h ready =
    one (Suits (expected env bound)) context (record { focus = ready.focus; bound = ready.around })
contexts_suit nodes m.Filter (Some behind) k.First env bound before context h ready = absurd (no_second_first behind h)
contexts_suit nodes m.Filter None label env bound before context h ready = absurd (false≢true h)
contexts_suit nodes m.Filter (Some behind) label env bound before context h ready =
    let items : List Item = items_of (mean nodes before context) in
    at_items env.focus (expected env bound).bound context (length items) 1 items ready.focus ready.around
contexts_suit nodes form None label env bound before context h ready =
    one (Suits (expected env bound)) context (record { focus = ready.focus; bound = ready.around })
contexts_suit nodes form (Some behind) label env bound before context h ready =
    one (Suits (expected env bound)) context (record { focus = ready.focus; bound = ready.around })

-- What is known behind a part

focus_stays : (nodes : List Node) (form : Form) (behind : Option Label) (label : Label) (tree : Tree) (e : Exp) (focus a : Kinds) (before : Exp)
    (context : Context) → g.follows form behind label ≡ true → IsFocused nodes form behind focus before context
    → (IsOf (j.focus_inside form label focus) context.focus.item → AreOf a (items_of (mean nodes (first_source tree e) context)))
    → IsFocused nodes form (Some label) (j.focus_behind form label a focus) (source_behind form label tree e before) context
focus_stays nodes m.Filter None k.First tree e focus a before context h f first = first f
focus_stays nodes m.Filter (Some behind) k.First tree e focus a before context h f first = absurd (no_second_first behind h)
focus_stays nodes m.Filter None label tree e focus a before context h f first = absurd (false≢true h)
focus_stays nodes m.Filter (Some behind) label tree e focus a before context h f first = are_filtered nodes focus before e context f
focus_stays nodes form None label tree e focus a before context h f first = f
focus_stays nodes form (Some behind) label tree e focus a before context h f first = f

-- each item of the variable's expression
each_bound : (nodes : List Node) (form : Form) (label : Label) (env : Environment) (bound : Bound) (name : List ℕ) (a : Kinds) (before : Exp)
    (context : Context) → AreInScope ((name, a) ∷ bound) env → AreBound (map (λ (variable : List ℕ × Kinds). variable.1) bound) context.bound
    → ((item : Item) → IsFocused nodes form (Some label) env.focus before (c.inside context item)) → (items : List Item) → AreOf a items
    → All (IsReady nodes form (Some label) env ((name, a) ∷ bound) before) (map (c.inside context) items)
each_bound nodes form label env bound name a before context scope around focus [] h =
    All-nil (IsReady nodes form (Some label) env ((name, a) ∷ bound) before)
each_bound nodes form label env bound name a before context scope around focus (item ∷ items) h =
    All-cons (IsReady nodes form (Some label) env ((name, a) ∷ bound) before) (c.inside context item) (map (c.inside context) items)
    (record { scope = scope; around = (h.0, around); focus = focus item })
    (each_bound nodes form label env bound name a before context scope around focus items h.1)

binding_ready : (nodes : List Node) (form : Form) (behind : Option Label) (lead : Option Binder) (name : Name) (env : Environment) (bound : Bound)
    (tree : Tree) (e : Exp) (a : Kinds)
    (before : Exp) (context : Context) → g.follows form behind (k.Binding lead name) ≡ true → IsReady nodes form behind env bound before context
    → (Suits (expected (j.inside form (k.Binding lead name) env) bound) context → IsValueOf a (mean nodes e context))
    → All
    (IsReady nodes form (Some (k.Binding lead name)) (j.behind form (k.Binding lead name) a env) ((written_name name, a) ∷ bound)
    (source_behind form (k.Binding lead name) tree e before))
    (contexts_behind nodes (k.Binding lead name) e context)
binding_ready nodes (m.Bound binder) None lead name env bound tree e a before context h ready value =
    each_bound nodes (m.Bound binder) (k.Binding lead name) (j.behind (m.Bound binder) (k.Binding lead name) a env) bound
    (written_name name) a before context
    (scope_behind (m.Bound binder) (k.Binding lead name) a env bound ready.scope) ready.around (λ item. ready.focus) (items_of (mean nodes e context))
    (are_of_value a (mean nodes e context) (value (record { focus = ready.focus; bound = ready.around })))
binding_ready nodes (m.Bound binder) (Some behind) lead name env bound tree e a before context h ready value =
    each_bound nodes (m.Bound binder) (k.Binding lead name) (j.behind (m.Bound binder) (k.Binding lead name) a env) bound
    (written_name name) a before context
    (scope_behind (m.Bound binder) (k.Binding lead name) a env bound ready.scope) ready.around (λ item. ready.focus) (items_of (mean nodes e context))
    (are_of_value a (mean nodes e context) (value (record { focus = ready.focus; bound = ready.around })))
binding_ready nodes form behind lead name env bound tree e a before context h ready value = absurd (no_other_binds form behind lead name refl h)

pub ready_behind : (nodes : List Node) (form : Form) (behind : Option Label) (label : Label) (env : Environment) (bound : Bound) (token : ℕ) (tree : Tree)
    (before : Exp)
    (context : Context) → g.follows form behind label ≡ true → IsReady nodes form behind env bound before context
    → (Suits (expected (j.inside form label env) bound) context
    → IsValueOf (judged (j.inside form label env) token tree).kinds (mean nodes (resolved env.declared (names bound) tree) context))
    → All (IsReady nodes form (Some label) (j.behind form label (judged (j.inside form label env) token tree).kinds env)
    (j.variables_behind label (judged (j.inside form label env) token tree).kinds bound)
    (source_behind form label tree (resolved env.declared (names bound) tree) before))
    (contexts_behind nodes label (resolved env.declared (names bound) tree) context)
ready_behind nodes form behind (k.Binding lead name) env bound token tree before context h ready value =
    binding_ready nodes form behind lead name env bound tree (resolved env.declared (names bound) tree)
    (judged (j.inside form (k.Binding lead name) env) token tree).kinds before context
    h ready value
ready_behind nodes form behind label env bound token tree before context h ready value =
    let e : Exp = resolved env.declared (names bound) tree in
    let a : Kinds = (judged (j.inside form label env) token tree).kinds in
    one (IsReady nodes form (Some label) (j.behind form label a env) bound (source_behind form label tree e before)) context
    (record {
      scope = scope_behind form label a env bound ready.scope;
      around = ready.around;
      focus = focus_stays nodes form behind label tree e env.focus a before context h ready.focus
          (λ f. first_items nodes (j.inside form label env) bound token tree context (value (record { focus = f; bound = ready.around })));
    })
