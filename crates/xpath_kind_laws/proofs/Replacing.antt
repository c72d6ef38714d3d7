-- Where other parts that come to the same stand in place of some, the whole has the same value.
use Rattle.std.proofs.Common.{◌≡◌, ℕ, ◌+◌, Bool, true, false, List, [], ◌∷◌, ◌++◌, length, Option, Some, None, Ok, refl, sym, ap, ◌∙◌, subst, true≢false}
use Rattle.std.specs.List.{All, Contains, flat_map}
use Rattle.std.specs.Option.{unwrap_or}
use Rattle.std.proofs.lemmas.Bool.{false≢true}
use Rattle.std.proofs.lemmas.List.Elements.{All-nil, All-cons, All-head, All-weaker, All-contains, All-contains_itself}
use Rattle.std.proofs.lemmas.List.Elements.{Contains-append_left, Contains-append_right}
use Rattle.inv_base.specs.Tree.{Node}
use Rattle.xpath_grammar.specs.declared.expr.Leaf.TheVariants as l
use Rattle.xpath_grammar.specs.declared.step.Axis.{Axis}
use Rattle.xpath_grammar.specs.declared.expr.Form.{Form}
use Rattle.xpath_grammar.specs.declared.expr.Form.TheVariants as m
use Rattle.xpath_grammar.specs.declared.expr.Label.{Label}
use Rattle.xpath_grammar.specs.declared.expr.Label.TheVariants as k
use Rattle.xpath_grammar.specs.Grammar as g
use Rattle.xpath_grammar.specs.Grammar.{Tree, Parts}
use Rattle.xpath_types.specs.declared.kinds.Kinds.{Kinds}
use Rattle.xpath_types.specs.Scopes.{Declared}
use Rattle.xpath_types.specs.Judging as j
use Rattle.xpath_types.specs.Judging.{Environment, judged, labels}
use Rattle.xpath_types.specs.Parts.{Placed}
use Rattle.xpath_meaning.specs.Values.{then_}
use Rattle.xpath_meaning.specs.Steps.{in_document_order}
use Rattle.xpath_meaning.specs.Expressions as x
use Rattle.xpath_meaning.specs.Expressions.{Exp, NodeTest}
use Rattle.xpath_meaning.specs.Resolving as r
use Rattle.xpath_meaning.specs.Resolving.{resolved, names_behind, is_step}
use Rattle.xpath_meaning.specs.Meaning.{Context, mean}
use Rattle.xpath_meaning.specs.PartKinds.{Bound, names}
use Rattle.xpath_kind_laws.specs.Arising.{Evaluation, here, first_source, source_behind, contexts_inside, contexts_behind, arising, arising_inside}
use Rattle.xpath_kind_laws.specs.Replacing.{replaced, replaced_inside, AreTheSame, IsSameThere}
use Rattle.xpath_kind_laws.proofs.Alike.{counted, AreOfOneOrder, AreAlike, nothing_left, one_more}
use Rattle.xpath_kind_laws.proofs.SameTurns.{AreSame}
use Rattle.xpath_kind_laws.proofs.SameForms.{form_same}

-- A step's value is its nodes in the order of its axis, put into document order

nothing_ordered : (nodes : List Node) → in_document_order nodes [] ≡ []
nothing_ordered [] = refl
nothing_ordered (node ∷ nodes) = nothing_ordered nodes

abbrev IsOrdered : List Node → Context → Exp → Type 0
IsOrdered nodes context e = mean nodes e context ≡ then_ (mean nodes (r.in_axis_order e) context) (λ items. Ok (in_document_order nodes items))

step_ordered : (nodes : List Node) (context : Context) (axis : Axis) (test : Option NodeTest) → IsOrdered nodes context (r.step_of axis test)
step_ordered nodes context axis None = ap Ok (sym (nothing_ordered nodes))
step_ordered nodes context axis (Some test) = refl

ordered : (nodes : List Node) (d : Declared) (names : List (List ℕ)) (tree : Tree) (context : Context) → is_step tree ≡ true
    → IsOrdered nodes context (resolved d names tree)
unfolding resolved
ordered nodes d names (g.leaf (l.Step form test)) context h = step_ordered nodes context (r.axis_of form test) (r.test_of d test)
ordered nodes d names (g.leaf l.Parent) context h = refl
ordered nodes d names (g.leaf leaf) context h = absurd (false≢true h)
ordered nodes d names (g.node form parts) context h = absurd (false≢true h)

-- so two steps have the same value where the same counts of both
value_same : (nodes : List Node) (d : Declared) (names : List (List ℕ)) (tree other : Tree) (context : Context) → is_step tree ≡ is_step other
    → AreSame nodes (first_source tree (resolved d names tree)) (first_source other (resolved d names other)) context
    → AreSame nodes (resolved d names tree) (resolved d names other) context
value_same nodes d names tree other context order =
    go (is_step tree) (is_step other) order (ordered nodes d names tree context) (ordered nodes d names other context)
  where
    e : Exp
    e = resolved d names tree

    f : Exp
    f = resolved d names other

    go : (is_step is_other : Bool) → is_step ≡ is_other → (is_step ≡ true → IsOrdered nodes context e) → (is_other ≡ true → IsOrdered nodes context f)
        → AreSame nodes (elim is_step as (λ _. Exp) [ true ↦ r.in_axis_order e | false ↦ e ])
        (elim is_other as (λ _. Exp) [ true ↦ r.in_axis_order f | false ↦ f ]) context
        → AreSame nodes e f context
    go true true order p q same = p refl ∙ (λ i. then_ (same i) (λ items. Ok (in_document_order nodes items))) ∙ sym (q refl)
    go false false order p q same = same
    go true false order p q same = absurd (true≢false order)
    go false true order p q same = absurd (false≢true order)

-- The part in a place, and the one that stands there instead

-- either it is another part that comes to the same, or what its parts make of it
in_place : (nodes : List Node) (others : Placed → Option Tree) (e : Evaluation) (inner : Tree) → IsSameThere nodes others e
    → AreTheSame nodes e.place.environment.declared (names e.bound) e.context e.place.part inner
    → AreTheSame nodes e.place.environment.declared (names e.bound) e.context e.place.part (unwrap_or (others e.place) inner)
in_place nodes others e inner same there = go (others e.place) refl
  where
    go : (other : Option Tree) → others e.place ≡ other
        → AreTheSame nodes e.place.environment.declared (names e.bound) e.context e.place.part (unwrap_or other inner)
    go None is = there
    go (Some other) is = same other is

labels_replaced : (others : Placed → Option Tree) (env : Environment) (form : Form) (at : ℕ) (parts : Parts)
    → labels parts ≡ labels (replaced_inside others env form at parts)
unfolding replaced_inside
labels_replaced others env form at g.none = refl
labels_replaced others env form at (g.more label tree parts) =
    let token : ℕ = at + length (g.label_tokens label) in
    ap (λ labels. label ∷ labels)
    (labels_replaced others (j.behind form label (judged (j.inside form label env) token tree).kinds env) form (token + length (g.written tree)) parts)

names_are : (label : Label) (kinds : Kinds) (bound : Bound) → names (j.variables_behind label kinds bound) ≡ names_behind label (names bound)
names_are (k.Binding lead name) kinds bound = refl
names_are _ kinds bound = refl

-- What is known of all evaluations is known of those in one context

front : {X : Type 0} (P : X → Type 0) (xs ys : List X) → All P (xs ++ ys) → All P xs
front P xs ys h = All-weaker (Contains xs) P (λ x is. All-contains P (xs ++ ys) x h (Contains-append_left xs ys x is)) xs (All-contains_itself xs)

back : {X : Type 0} (P : X → Type 0) (xs ys : List X) → All P (xs ++ ys) → All P ys
back P xs ys h = All-weaker (Contains ys) P (λ y is. All-contains P (xs ++ ys) y h (Contains-append_right xs ys y is)) ys (All-contains_itself ys)

at_each : {X Y : Type 0} (P : Y → Type 0) (f : X → List Y) (xs : List X) → All P (flat_map f xs) → All (λ x. All P (f x)) xs
at_each P f [] h = All-nil (λ x. All P (f x))
at_each P f (x ∷ xs) h = All-cons (λ x. All P (f x)) x xs (front P (f x) (flat_map f xs) h) (at_each P f xs (back P (f x) (flat_map f xs) h))

-- what counts of a part, by where it stands
counts_same : (nodes : List Node) (d : Declared) (names : List (List ℕ)) (form : Form) (label : Label) (tree other : Tree) (context : Context)
    → AreTheSame nodes d names context tree other
    → AreSame nodes (counted form label tree (resolved d names tree)) (counted form label other (resolved d names other)) context
counts_same nodes d names m.Filter k.First tree other context same = same.value
counts_same nodes d names m.Filter label tree other context same = value_same nodes d names tree other context same.order same.value
counts_same nodes d names form label tree other context same = value_same nodes d names tree other context same.order same.value

orders_same : (nodes : List Node) (d : Declared) (names : List (List ℕ)) (form : Form) (label : Label) (before : Exp) (tree other : Tree)
    (context : Context) → All (λ context. AreTheSame nodes d names context tree other) (contexts_inside nodes form label before context)
    → AreOfOneOrder form label tree other
orders_same nodes d names m.Filter k.First before tree other context same =
    (All-head (λ context. AreTheSame nodes d names context tree other) context [] same).order
orders_same nodes d names m.Filter label before tree other context same = tt
orders_same nodes d names form label before tree other context same = tt

mutual
  unfolding g.Grammatical g.Runs arising arising_inside replaced replaced_inside

  tree_replaced : (nodes : List Node) (others : Placed → Option Tree) (env : Environment) (bound : Bound) (at : ℕ) (tree : Tree) (context : Context)
      → g.Grammatical tree → All (IsSameThere nodes others) (arising nodes env bound at tree context)
      → AreTheSame nodes env.declared (names bound) context tree (replaced others env at tree)
  tree_replaced nodes others env bound at (g.leaf leaf) context h same = in_place nodes others (here env bound at (g.leaf leaf) context) (g.leaf leaf)
      (All-head (IsSameThere nodes others) (here env bound at (g.leaf leaf) context) [] same) (record { order = refl; value = refl })
  tree_replaced nodes others env bound at (g.node form parts) context h same =
      let first : Evaluation = here env bound at (g.node form parts) context in
      let inner : List Evaluation = arising_inside nodes form env bound at x.the_root parts context in
      in_place nodes others first (g.node form (replaced_inside others env form at parts)) (All-head (IsSameThere nodes others) first inner same) (record {
        order = refl;
        value = form_same nodes env.declared (names bound) form parts (replaced_inside others env form at parts) context h
            (parts_replaced nodes others form env bound at None x.the_root parts context h (back (IsSameThere nodes others) (first ∷ []) inner same));
      })

  parts_replaced : (nodes : List Node) (others : Placed → Option Tree) (form : Form) (env : Environment) (bound : Bound) (at : ℕ) (led : Option Label)
      (before : Exp) (parts : Parts) (context : Context) → g.Runs form led parts
      → All (IsSameThere nodes others) (arising_inside nodes form env bound at before parts context)
      → AreAlike nodes env.declared form (names bound) before context parts (replaced_inside others env form at parts)
  parts_replaced nodes others form env bound at led before g.none context h same = nothing_left
  parts_replaced nodes others form env bound at led before (g.more label tree parts) context h same =
      let token : ℕ = at + length (g.label_tokens label) in
      let kinds : Kinds = (judged (j.inside form label env) token tree).kinds in
      let e : Exp = resolved env.declared (names bound) tree in
      let other : Tree = replaced others (j.inside form label env) token tree in
      let behind : Environment = j.behind form label kinds env in
      let bound_behind : Bound = j.variables_behind label kinds bound in
      let end : ℕ = token + length (g.written tree) in
      let next : Exp = source_behind form label tree e before in
      let inside : Context → List Evaluation = λ context. arising nodes (j.inside form label env) bound token tree context in
      let later : Context → List Evaluation = λ context. arising_inside nodes form behind bound_behind end next parts context in
      let contexts : List Context = contexts_inside nodes form label before context in
      let contexts_later : List Context = contexts_behind nodes label e context in
      let P : Evaluation → Type 0 = IsSameThere nodes others in
      let there : All (λ context. AreTheSame nodes env.declared (names bound) context tree other) contexts =
      All-weaker (λ context. All P (inside context)) (λ context. AreTheSame nodes env.declared (names bound) context tree other)
      (λ context same. tree_replaced nodes others (j.inside form label env) bound token tree context h.2 same)
      contexts (at_each P inside contexts (front P (flat_map inside contexts) (flat_map later contexts_later) same)) in
      one_more label tree other parts (replaced_inside others behind form end parts)
      (orders_same nodes env.declared (names bound) form label before tree other context there)
      (labels_replaced others behind form end parts)
      (All-weaker (λ context. AreTheSame nodes env.declared (names bound) context tree other)
      (λ context. AreSame nodes (counted form label tree e) (counted form label other (resolved env.declared (names bound) other)) context)
      (λ context same. counts_same nodes env.declared (names bound) form label tree other context same) contexts there)
      (λ context is. subst (λ names. AreAlike nodes env.declared form names next context parts (replaced_inside others behind form end parts))
      (names_are label kinds bound)
      (parts_replaced nodes others form behind bound_behind end (Some label) next parts context h.3
      (All-contains (λ context. All P (later context)) contexts_later context
      (at_each P later contexts_later (back P (flat_map inside contexts) (flat_map later contexts_later) same)) is)))

pub value_replaced : (nodes : List Node) (env : Environment) (bound : Bound) (token : ℕ) (tree : Tree) (context : Context) (others : Placed → Option Tree)
    → g.Grammatical tree → All (IsSameThere nodes others) (arising nodes env bound token tree context)
    → AreSame nodes (resolved env.declared (names bound) tree) (resolved env.declared (names bound) (replaced others env token tree)) context
value_replaced nodes env bound token tree context others h same =
    let there : AreTheSame nodes env.declared (names bound) context tree (replaced others env token tree) =
    tree_replaced nodes others env bound token tree context h same in
    value_same nodes env.declared (names bound) tree (replaced others env token tree) context there.order there.value
