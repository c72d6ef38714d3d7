-- Expressions of one form have one value, where their parts come to the same wherever those of the first are evaluated.
use Rattle.std.proofs.Common.{◌≡◌, ℕ, Bool, true, false, ◌||◌, not, List, [], ◌∷◌, Option, Some, None, Ok, refl, sym, ap, ◌∙◌, true≢false, arith}
use Rattle.std.specs.List.{All, Contains}
use Rattle.std.proofs.lemmas.Bool.{false≢true, and_parts}
use Rattle.std.proofs.lemmas.List.Elements.{All-head, All-weaker, All-contains_itself}
use Rattle.inv_base.specs.Tree.{Node}
use Rattle.xpath_tokens.specs.declared.token.Operator.{Operator}
use Rattle.xpath_tokens.specs.declared.token.Operator.TheVariants as o
use Rattle.xpath_grammar.specs.declared.operators.Production.{Production}
use Rattle.xpath_grammar.specs.declared.operators.Production.TheVariants as p
use Rattle.xpath_grammar.specs.declared.operators.Binder.{Binder}
use Rattle.xpath_grammar.specs.declared.operators.CastWord.{CastWord}
use Rattle.xpath_grammar.specs.declared.expr.Form.{Form}
use Rattle.xpath_grammar.specs.declared.expr.Form.TheVariants as m
use Rattle.xpath_grammar.specs.declared.expr.Label.{Label}
use Rattle.xpath_grammar.specs.declared.expr.Label.TheVariants as k
use Rattle.xpath_grammar.specs.Grammar as g
use Rattle.xpath_grammar.specs.Grammar.{Tree, Parts}
use Rattle.xpath_types.specs.declared.functions.Resolved.{Resolved}
use Rattle.xpath_types.specs.declared.functions.Resolved.TheVariants as n
use Rattle.xpath_types.specs.Scopes.{Declared}
use Rattle.xpath_types.specs.Functions.{function_called, type_named}
use Rattle.xpath_types.specs.Judging as j
use Rattle.xpath_meaning.specs.Values.{then_, joined}
use Rattle.xpath_meaning.specs.Items.{atomised}
use Rattle.xpath_meaning.specs.Reading.{cast_by}
use Rattle.xpath_meaning.specs.Numbers.{signed}
use Rattle.xpath_meaning.specs.Comparing.{boolean}
use Rattle.xpath_meaning.specs.Functions.{call}
use Rattle.xpath_meaning.specs.Steps.{in_document_order, path}
use Rattle.xpath_meaning.specs.Expressions as x
use Rattle.xpath_meaning.specs.Expressions.{Exp, Exps}
use Rattle.xpath_meaning.specs.Resolving as r
use Rattle.xpath_meaning.specs.Resolving.{Operand, resolved}
use Rattle.xpath_meaning.specs.Meaning as c
use Rattle.xpath_meaning.specs.Meaning.{Context, truth_of, operated, mean, means}
use Rattle.xpath_kind_laws.specs.Arising.{items_of, if_all_nodes, at_each, step_source, source_behind, contexts_inside, contexts_behind}
use Rattle.xpath_kind_laws.proofs.Alike.{counted, AreAlike, nothing_left, one_more}
use Rattle.xpath_kind_laws.proofs.Labels.{no_second_first, is_binding, no_other_binds, no_slash}
use Rattle.xpath_kind_laws.proofs.SameTurns.{AreSame, slash_same, filtered_same, bound_same}

-- Forms whose parts are all evaluated where the whole is

abbrev is_outer : Form → Bool
is_outer (m.Chain production) = not (g.is_path production)
is_outer (m.Bound binder) = false
is_outer m.Filter = false
is_outer form = true

part_same : (nodes : List Node) (form : Form) (label : Label) (tree other : Tree) (e f before : Exp) (context : Context) → is_outer form ≡ true
    → All (AreSame nodes (counted form label tree e) (counted form label other f)) (contexts_inside nodes form label before context)
    → AreSame nodes e f context
part_same nodes (m.Chain p.Path) label tree other e f before context outer h = absurd (false≢true outer)
part_same nodes (m.Bound binder) label tree other e f before context outer h = absurd (false≢true outer)
part_same nodes m.Filter label tree other e f before context outer h = absurd (false≢true outer)
part_same nodes form label tree other e f before context outer h = All-head (AreSame nodes e f) context [] h

outer_binding : (form : Form) → is_outer form ≡ true → is_binding form ≡ false
outer_binding (m.Bound binder) outer = absurd (false≢true outer)
outer_binding form outer = refl

here : (context : Context) → Contains (context ∷ []) context
here context = (0, omega arith, refl)

-- where no variable is bound, the context stays
behind_here : (nodes : List Node) (form : Form) (led : Option Label) (label : Label) (e : Exp) (context : Context) (P : Context → Type 0)
    → is_binding form ≡ false → g.follows form led label ≡ true → ((next : Context) → Contains (contexts_behind nodes label e context) next → P next)
    → P context
behind_here nodes form led (k.Binding lead name) e context P other follows h = absurd (no_other_binds form led lead name other follows)
behind_here nodes form led label e context P other follows h = h context (here context)

-- Chains of operators but paths

linked_same : (nodes : List Node) (production : Production) (label : Label) (before other e f : Exp) (context : Context) → g.is_path production ≡ false
    → g.joins production label ≡ true → AreSame nodes before other context → AreSame nodes e f context
    → AreSame nodes (r.linked before label e) (r.linked other label f) context
linked_same nodes production (k.Link o.Slash) before other e f context path h same part = absurd (no_slash production path h)
linked_same nodes production (k.Link o.DoubleSlash) before other e f context path h same part = absurd (no_slash production path h)
linked_same nodes production (k.Link o.And) before other e f context path h same part = λ i. then_ (truth_of (same i))
    (λ holds. elim holds [ true ↦ boolean (truth_of (part i)) | false ↦ boolean (Ok false) ])
linked_same nodes production (k.Link o.Or) before other e f context path h same part = λ i. then_ (truth_of (same i))
    (λ holds. elim holds [ true ↦ boolean (Ok true) | false ↦ boolean (truth_of (part i)) ])
linked_same nodes production (k.Link operator) before other e f context path h same part =
    λ i. then_ (same i) (λ xs. then_ (part i) (λ ys. operated nodes operator xs ys))
linked_same nodes production k.Comma before other e f context path h same part = λ i. joined (same i) (part i)
linked_same nodes production label before other e f context path h same part = refl

is_outer_chain : (production : Production) → g.is_path production ≡ false → is_outer (m.Chain production) ≡ true
is_outer_chain p.Path path = absurd (true≢false path)
is_outer_chain _ path = refl

chained_same : (nodes : List Node) (d : Declared) (production : Production) → g.is_path production ≡ false
    → (parts others : Parts) (names : List (List ℕ)) (source e f : Exp) (context : Context) (led : Label)
    → AreAlike nodes d (m.Chain production) names source context parts others → g.Runs (m.Chain production) (Some led) parts → AreSame nodes e f context
    → AreSame nodes (r.chained_on e (r.operands d names parts)) (r.chained_on f (r.operands d names others)) context
unfolding g.Runs r.operands
chained_same nodes d production path g.none _ names source e f context led nothing_left h same = same
chained_same nodes d production path (g.more label tree parts) _ names source e f context led
    (one_more _ _ other _ others order labels values behind) h same =
    let a : Exp = resolved d names tree in
    let b : Exp = resolved d names other in
    chained_same nodes d production path parts others (r.names_behind label names) (source_behind (m.Chain production) label tree a source)
    (r.linked e label a) (r.linked f label b) context label
    (behind_here nodes (m.Chain production) (Some led) label a context
    (λ context. AreAlike nodes d (m.Chain production) (r.names_behind label names) (source_behind (m.Chain production) label tree a source) context parts
    others) refl h.0 behind) h.3
    (linked_same nodes production label e f a b context path
    (and_parts (g.joins production label) (not (g.is_single production) || g.is_first led) h.0).0 same
    (part_same nodes (m.Chain production) label tree other a b source context (is_outer_chain production path) values))

chain_same : (nodes : List Node) (d : Declared) (production : Production) → g.is_path production ≡ false
    → (parts others : Parts) (names : List (List ℕ)) (source : Exp) (context : Context)
    → AreAlike nodes d (m.Chain production) names source context parts others → g.Runs (m.Chain production) None parts
    → AreSame nodes (r.chained (r.operands d names parts)) (r.chained (r.operands d names others)) context
unfolding g.Runs r.operands
chain_same nodes d production path g.none _ names source context nothing_left h = refl
chain_same nodes d production path (g.more k.First tree parts) _ names source context (one_more _ _ other _ others order labels values behind) h =
    let a : Exp = resolved d names tree in
    let b : Exp = resolved d names other in
    chained_same nodes d production path parts others names (source_behind (m.Chain production) k.First tree a source) a b context k.First
    (behind context (here context)) h.3
    (part_same nodes (m.Chain production) k.First tree other a b source context (is_outer_chain production path) values)
chain_same nodes d production path (g.more (k.Link operator) tree parts) _ names source context (one_more _ _ other _ others order labels values behind) h =
    absurd (false≢true (sym path ∙ (and_parts (g.is_path production) (g.joins production (k.Link operator)) h.0).0))
chain_same nodes d production path (g.more label tree parts) _ names source context (one_more _ _ other _ others order labels values behind) h =
    absurd (false≢true h.0)

-- Paths

step_same : (nodes : List Node) (operator : Operator) (before other e f : Exp) (context : Context) → g.joins p.Path (k.Link operator) ≡ true
    → AreSame nodes before other context
    → All (AreSame nodes e f) (at_each (if_all_nodes (items_of (mean nodes (step_source operator before) context))) context)
    → AreSame nodes (r.linked_by operator before e) (r.linked_by operator other f) context
step_same nodes o.Slash before other e f context h same values = slash_same nodes before other e f context same values
step_same nodes o.DoubleSlash before other e f context h same values =
    slash_same nodes (x.slash before r.all_inside) (x.slash other r.all_inside) e f context
    (λ i. then_ (same i) (path nodes (λ item position last. mean nodes r.all_inside (c.at context item position last)))) values
step_same nodes _ before other e f context h same values = absurd (false≢true h)

steps_same : (nodes : List Node) (d : Declared) (parts others : Parts) (names : List (List ℕ)) (e f : Exp) (context : Context) (led : Label)
    → AreAlike nodes d (m.Chain p.Path) names e context parts others → g.Runs (m.Chain p.Path) (Some led) parts → AreSame nodes e f context
    → AreSame nodes (r.chained_on e (r.operands d names parts)) (r.chained_on f (r.operands d names others)) context
unfolding g.Runs r.operands
steps_same nodes d g.none _ names e f context led nothing_left h same = same
steps_same nodes d (g.more (k.Link operator) tree parts) _ names e f context led (one_more _ _ other _ others order labels values behind) h same =
    let a : Exp = resolved d names tree in
    let b : Exp = resolved d names other in
    steps_same nodes d parts others names (r.linked_by operator e a) (r.linked_by operator f b) context (k.Link operator)
    (behind context (here context)) h.3
    (step_same nodes operator e f a b context (and_parts (g.joins p.Path (k.Link operator)) true h.0).0 same values)
steps_same nodes d (g.more label tree parts) _ names e f context led (one_more _ _ other _ others order labels values behind) h same =
    absurd (false≢true h.0)

path_same : (nodes : List Node) (d : Declared) (parts others : Parts) (names : List (List ℕ)) (context : Context)
    → AreAlike nodes d (m.Chain p.Path) names x.the_root context parts others → g.Runs (m.Chain p.Path) None parts
    → AreSame nodes (r.chained (r.operands d names parts)) (r.chained (r.operands d names others)) context
unfolding g.Runs r.operands
path_same nodes d g.none _ names context nothing_left h = refl
path_same nodes d (g.more k.First tree parts) _ names context (one_more _ _ other _ others order labels values behind) h =
    let a : Exp = resolved d names tree in
    let b : Exp = resolved d names other in
    steps_same nodes d parts others names a b context k.First (behind context (here context)) h.3
    (All-head (AreSame nodes a b) context [] values)
path_same nodes d (g.more (k.Link operator) tree parts) _ names context (one_more _ _ other _ others order labels values behind) h =
    let a : Exp = resolved d names tree in
    let b : Exp = resolved d names other in
    steps_same nodes d parts others names (r.linked_by operator x.the_root a) (r.linked_by operator x.the_root b) context (k.Link operator)
    (behind context (here context)) h.3
    (step_same nodes operator x.the_root x.the_root a b context h.0 refl values)
path_same nodes d (g.more label tree parts) _ names context (one_more _ _ other _ others order labels values behind) h = absurd (false≢true h.0)

-- Predicates

kept_same : (nodes : List Node) (d : Declared) (parts others : Parts) (names : List (List ℕ)) (e f : Exp) (context : Context) (led : Label)
    → AreAlike nodes d m.Filter names e context parts others → g.Runs m.Filter (Some led) parts → AreSame nodes e f context
    → AreSame nodes (r.kept_of e (r.operands d names parts)) (r.kept_of f (r.operands d names others)) context
unfolding g.Runs r.operands
kept_same nodes d g.none _ names e f context led nothing_left h same = same
kept_same nodes d (g.more k.First tree parts) _ names e f context led (one_more _ _ other _ others order labels values behind) h same =
    absurd (no_second_first led h.0)
kept_same nodes d (g.more (k.Binding lead name) tree parts) _ names e f context led (one_more _ _ other _ others order labels values behind) h same =
    absurd (no_other_binds m.Filter (Some led) lead name refl h.0)
kept_same nodes d (g.more label tree parts) _ names e f context led (one_more _ _ other _ others order labels values behind) h same =
    let a : Exp = resolved d names tree in
    let b : Exp = resolved d names other in
    kept_same nodes d parts others names (x.filtered e a) (x.filtered f b) context label
    (behind context (here context)) h.3 (filtered_same nodes e f a b context same values)

-- what predicates keep of a step goes into document order
ordered_same : (nodes : List Node) (is_step is_other : Bool) (e f : Exp) (es fs : List Operand) (context : Context) → is_step ≡ is_other
    → AreSame nodes (r.kept_of (elim is_step as (λ _. Exp) [ true ↦ r.in_axis_order e | false ↦ e ]) es)
    (r.kept_of (elim is_other as (λ _. Exp) [ true ↦ r.in_axis_order f | false ↦ f ]) fs) context
    → AreSame nodes (r.filtered_of is_step ((k.First, e) ∷ es)) (r.filtered_of is_other ((k.First, f) ∷ fs)) context
ordered_same nodes true true e f es fs context order same = λ i. then_ (same i) (λ items. Ok (in_document_order nodes items))
ordered_same nodes false false e f es fs context order same = same
ordered_same nodes true false e f es fs context order same = absurd (true≢false order)
ordered_same nodes false true e f es fs context order same = absurd (false≢true order)

filter_same : (nodes : List Node) (d : Declared) (parts others : Parts) (names : List (List ℕ)) (before : Exp) (context : Context)
    → AreAlike nodes d m.Filter names before context parts others → g.Runs m.Filter None parts
    → AreSame nodes (r.filtered_of (r.begins_with_step parts) (r.operands d names parts))
    (r.filtered_of (r.begins_with_step others) (r.operands d names others)) context
unfolding g.Runs r.operands
filter_same nodes d g.none _ names before context nothing_left h = refl
filter_same nodes d (g.more k.First tree parts) _ names before context (one_more _ _ other _ others order labels values behind) h =
    let a : Exp = counted m.Filter k.First tree (resolved d names tree) in
    let b : Exp = counted m.Filter k.First other (resolved d names other) in
    ordered_same nodes (r.is_step tree) (r.is_step other) (resolved d names tree) (resolved d names other) (r.operands d names parts)
    (r.operands d names others) context order
    (kept_same nodes d parts others names a b context k.First (behind context (here context)) h.3
    (All-head (AreSame nodes a b) context [] values))
filter_same nodes d (g.more label tree parts) _ names before context (one_more _ _ other _ others order labels values behind) h = absurd (false≢true h.0)

-- Variables

bindings_same : (nodes : List Node) (d : Declared) (binder : Binder) (parts others : Parts) (names : List (List ℕ)) (before : Exp) (context : Context)
    (led : Option Label) → AreAlike nodes d (m.Bound binder) names before context parts others → g.Runs (m.Bound binder) led parts
    → AreSame nodes (r.bound_all binder (r.operands d names parts)) (r.bound_all binder (r.operands d names others)) context
unfolding g.Runs r.operands
bindings_same nodes d binder g.none _ names before context led nothing_left h = refl
bindings_same nodes d binder (g.more (k.Binding lead name) tree g.none) _ names before context led (one_more _ _ other _ others order labels values behind) h =
    absurd (false≢true h.3)
bindings_same nodes d binder (g.more (k.Binding lead name) tree (g.more next inner parts)) _ names before context led
    (one_more _ _ other _ g.none order labels values behind) h =
    absurd (false≢true (ap j.is_empty labels))
bindings_same nodes d binder (g.more (k.Binding lead name) tree (g.more next inner parts)) _ names before context led
    (one_more _ _ other _ (g.more next' inner' others) order labels values behind) h =
    let a : Exp = resolved d names tree in
    let b : Exp = resolved d names other in
    let around : List (List ℕ) = r.names_behind (k.Binding lead name) names in
    let body : Exp = r.bound_all binder (r.operands d around (g.more next inner parts)) in
    let body' : Exp = r.bound_all binder (r.operands d around (g.more next' inner' others)) in
    let contexts : List Context = contexts_behind nodes (k.Binding lead name) a context in
    bound_same binder nodes a b body body' context (All-head (AreSame nodes a b) context [] values)
    (All-weaker (Contains contexts) (AreSame nodes body body')
    (λ later is. bindings_same nodes d binder (g.more next inner parts) (g.more next' inner' others) around before later (Some (k.Binding lead name))
    (behind later is) h.3)
    contexts (All-contains_itself contexts))
bindings_same nodes d binder (g.more label tree g.none) _ names before context led (one_more _ _ other _ g.none order labels values behind) h =
    All-head (AreSame nodes (resolved d names tree) (resolved d names other)) context [] values
bindings_same nodes d binder (g.more label tree g.none) _ names before context led
    (one_more _ _ other _ (g.more next inner others) order labels values behind) h =
    absurd (true≢false (ap j.is_empty labels))
bindings_same nodes d binder (g.more label tree (g.more next inner parts)) _ names before context led
    (one_more _ _ other _ others order labels values behind) h =
    absurd (false≢true h.3.0)

-- The other forms

data Same (nodes : List Node) (context : Context) : List Operand → List Operand → Type 0 where
  none_left : Same nodes context [] []
  one_same : (label : Label) (e f : Exp) (es fs : List Operand) → AreSame nodes e f context → Same nodes context es fs
      → Same nodes context ((label, e) ∷ es) ((label, f) ∷ fs)

outer_same : (nodes : List Node) (d : Declared) (form : Form) → is_outer form ≡ true
    → (parts others : Parts) (names : List (List ℕ)) (before : Exp) (context : Context) (led : Option Label)
    → AreAlike nodes d form names before context parts others → g.Runs form led parts
    → Same nodes context (r.operands d names parts) (r.operands d names others)
unfolding g.Runs r.operands
outer_same nodes d form outer g.none _ names before context led nothing_left h = none_left
outer_same nodes d form outer (g.more label tree parts) _ names before context led (one_more _ _ other _ others order labels values behind) h =
    let a : Exp = resolved d names tree in
    let b : Exp = resolved d names other in
    one_same label a b (r.operands d (r.names_behind label names) parts) (r.operands d (r.names_behind label names) others)
    (part_same nodes form label tree other a b before context outer values)
    (outer_same nodes d form outer parts others (r.names_behind label names) (source_behind form label tree a before) context (Some label)
    (behind_here nodes form led label a context
    (λ context. AreAlike nodes d form (r.names_behind label names) (source_behind form label tree a before) context parts others)
    (outer_binding form outer) h.0 behind) h.3)

chosen_same : (nodes : List Node) (context : Context) (es fs : List Operand) → Same nodes context es fs
    → AreSame nodes (r.chosen_of es) (r.chosen_of fs) context
chosen_same nodes context _ _ none_left = refl
chosen_same nodes context _ _ (one_same _ _ _ _ _ condition none_left) = refl
chosen_same nodes context _ _ (one_same _ _ _ _ _ condition (one_same _ _ _ _ _ first none_left)) = refl
chosen_same nodes context _ _ (one_same _ _ _ _ _ condition (one_same _ _ _ _ _ first (one_same _ _ _ _ _ second none_left))) =
    λ i. then_ (truth_of (condition i)) (λ holds. elim holds [ true ↦ first i | false ↦ second i ])
chosen_same nodes context _ _ (one_same _ _ _ _ _ condition (one_same _ _ _ _ _ first (one_same _ _ _ _ _ second (one_same _ _ _ _ _ other others)))) = refl

first_same : (nodes : List Node) (context : Context) (es fs : List Operand) → Same nodes context es fs
    → AreSame nodes (r.first_part es) (r.first_part fs) context
first_same nodes context _ _ none_left = refl
first_same nodes context _ _ (one_same label e f es fs same others) = same

cast_same : (nodes : List Node) (word : CastWord) (type : Resolved) (optional : Bool) (e f : Exp) (context : Context) → AreSame nodes e f context
    → AreSame nodes (r.cast_of word type optional e) (r.cast_of word type optional f) context
cast_same nodes word (n.Known function) optional e f context same =
    λ i. then_ (same i) (λ items. cast_by nodes word function optional (atomised nodes items))
cast_same nodes word _ optional e f context same = refl

signed_same : (nodes : List Node) (context : Context) (es fs : List Operand) → Same nodes context es fs
    → AreSame nodes (r.signed_of es) (r.signed_of fs) context
signed_same nodes context _ _ none_left = refl
signed_same nodes context _ _ (one_same (k.Signed signs) e f es fs same others) = λ i. then_ (same i) (λ items. signed signs (atomised nodes items))
signed_same nodes context _ _ (one_same label e f es fs same others) = refl

arguments_same : (nodes : List Node) (context : Context) (es fs : List Operand) → Same nodes context es fs
    → means nodes (r.arguments_of es) context ≡ means nodes (r.arguments_of fs) context
arguments_same nodes context _ _ none_left = refl
arguments_same nodes context _ _ (one_same label e f es fs same others) =
    λ i. then_ (same i) (λ value. then_ (arguments_same nodes context es fs others i) (λ values. Ok (value ∷ values)))

call_same : (nodes : List Node) (function : Resolved) (context : Context) (es fs : Exps) → means nodes es context ≡ means nodes fs context
    → AreSame nodes (r.call_of function es) (r.call_of function fs) context
call_same nodes (n.Known function) context es fs same = λ i. then_ (same i) (call nodes function context.focus)
call_same nodes _ context es fs same = refl

called_same : (nodes : List Node) (d : Declared) (context : Context) (es fs : List Operand) → Same nodes context es fs
    → AreSame nodes (r.called_of d es) (r.called_of d fs) context
called_same nodes d context _ _ none_left = refl
called_same nodes d context _ _ (one_same (k.Calling name) e f es fs same others) =
    call_same nodes (function_called d name) context (r.arguments_of ((k.Calling name, e) ∷ es)) (r.arguments_of ((k.Calling name, f) ∷ fs))
    (arguments_same nodes context ((k.Calling name, e) ∷ es) ((k.Calling name, f) ∷ fs) (one_same (k.Calling name) e f es fs same others))
called_same nodes d context _ _ (one_same label e f es fs same others) = refl

pub form_same : (nodes : List Node) (d : Declared) (names : List (List ℕ)) (form : Form) (parts others : Parts) (context : Context)
    → g.Grammatical (g.node form parts) → AreAlike nodes d form names x.the_root context parts others
    → AreSame nodes (resolved d names (g.node form parts)) (resolved d names (g.node form others)) context
unfolding g.Grammatical resolved
form_same nodes d names (m.Chain p.Path) parts others context h alike = path_same nodes d parts others names context alike h
form_same nodes d names (m.Chain production) parts others context h alike = chain_same nodes d production refl parts others names x.the_root context alike h
form_same nodes d names (m.Bound binder) parts others context h alike = bindings_same nodes d binder parts others names x.the_root context None alike h
form_same nodes d names m.Filter parts others context h alike = filter_same nodes d parts others names x.the_root context alike h
form_same nodes d names m.Conditional parts others context h alike =
    chosen_same nodes context (r.operands d names parts) (r.operands d names others)
    (outer_same nodes d m.Conditional refl parts others names x.the_root context None alike h)
form_same nodes d names (m.Cast word type optional) parts others context h alike =
    cast_same nodes word (type_named d type) optional (r.first_part (r.operands d names parts)) (r.first_part (r.operands d names others)) context
    (first_same nodes context (r.operands d names parts) (r.operands d names others)
    (outer_same nodes d (m.Cast word type optional) refl parts others names x.the_root context None alike h))
form_same nodes d names m.Signs parts others context h alike =
    signed_same nodes context (r.operands d names parts) (r.operands d names others)
    (outer_same nodes d m.Signs refl parts others names x.the_root context None alike h)
form_same nodes d names m.Parentheses parts others context h alike =
    first_same nodes context (r.operands d names parts) (r.operands d names others)
    (outer_same nodes d m.Parentheses refl parts others names x.the_root context None alike h)
form_same nodes d names m.Call parts others context h alike =
    called_same nodes d context (r.operands d names parts) (r.operands d names others)
    (outer_same nodes d m.Call refl parts others names x.the_root context None alike h)
