-- The kinds of a resolved expression are among those that its tree is judged to have.
use Rattle.std.proofs.Common.{◌≡◌, ℕ, suc, ◌+◌, ◌≤◌, Bool, true, false, ◌&&◌, ◌||◌, not, ◌==◌, List, [], ◌∷◌, ◌++◌, length, map, Option, Some, None, refl, sym}
use Rattle.std.proofs.Common.{ap, ◌∙◌, subst, cond, arith}
use Rattle.std.specs.Str.{bytes_eq}
use Rattle.std.proofs.lemmas.Bool.{false≢true, and_parts}
use Rattle.std.proofs.lemmas.Bool.Decides.{nat_tests}
use Rattle.xpath_tokens.specs.declared.token.Operator.{Operator}
use Rattle.xpath_tokens.specs.declared.token.Operator.TheVariants as o
use Rattle.xpath_grammar.specs.declared.operators.Production.{Production}
use Rattle.xpath_grammar.specs.declared.operators.Production.TheVariants as p
use Rattle.xpath_grammar.specs.declared.operators.CastWord.{CastWord}
use Rattle.xpath_grammar.specs.declared.operators.CastWord.TheVariants as c
use Rattle.xpath_grammar.specs.declared.operators.Binder.{Binder}
use Rattle.xpath_grammar.specs.declared.operators.Binder.TheVariants as b
use Rattle.xpath_grammar.specs.declared.step.Axis.{Axis}
use Rattle.xpath_grammar.specs.declared.expr.Leaf.{Leaf}
use Rattle.xpath_grammar.specs.declared.expr.Leaf.TheVariants as l
use Rattle.xpath_grammar.specs.declared.expr.Form.{Form}
use Rattle.xpath_grammar.specs.declared.expr.Form.TheVariants as m
use Rattle.xpath_grammar.specs.declared.expr.Label.{Label}
use Rattle.xpath_grammar.specs.declared.expr.Label.TheVariants as k
use Rattle.xpath_grammar.specs.Grammar as g
use Rattle.xpath_grammar.specs.Grammar.{Tree, Parts}
use Rattle.xpath_types.specs.declared.functions.Resolved.{Resolved}
use Rattle.xpath_types.specs.declared.functions.Resolved.TheVariants as n
use Rattle.xpath_types.specs.declared.kinds.Kinds.{Kinds}
use Rattle.xpath_types.specs.Kinds as kinds
use Rattle.xpath_types.specs.Kinds.{united, all_united}
use Rattle.xpath_types.specs.Scopes.{Declared, written_name}
use Rattle.xpath_types.specs.Functions.{function_called, type_named}
use Rattle.xpath_types.specs.Judging as j
use Rattle.xpath_types.specs.Judging.{Environment}
use Rattle.xpath_meaning.specs.Expressions as x
use Rattle.xpath_meaning.specs.Expressions.{Exp, Exps, NodeTest}
use Rattle.xpath_meaning.specs.Resolving as r
use Rattle.xpath_meaning.specs.Resolving.{Operand}
use Rattle.xpath_meaning.specs.ItemKinds.{Expected, kinds_at, kinds_of, first_kinds}
use Rattle.xpath_meaning.specs.PartKinds.{Bound, names, AreInScope, expected}
use Rattle.xpath_meaning.proofs.KindFacts.{Within, within_left, within_right, all_have}
use Rattle.xpath_meaning.proofs.Monotone as w

abbrev all_within : (a : Kinds) → Within a kinds.all_kinds
all_within a item h = all_have item

-- a refused part has all kinds
if_within : (a c : Kinds) (t : Bool) → Within a c → Within a (cond t c kinds.all_kinds)
if_within a c true h = h
if_within a c false h = all_within a

-- Variables

-- one variable more at the inside doesn't change what a name of the others means
behind_others : (name : List ℕ) (ns : List (List ℕ)) (focus a : Kinds) (around : List Kinds) → length ns ≤ length around
    → kinds_of (r.variable_in name ns) (record { focus = focus; bound = a ∷ around }) ≡ kinds_of (r.variable_in name ns)
    (record { focus = focus; bound = around })
behind_others name [] focus a around h = refl
behind_others name (inner ∷ ns) focus a around h = go (bytes_eq name inner) (not_there) (behind_others name ns focus a around (grind (arith, nat_tests)))
  where
    not_there : (length ns == length around) ≡ false
    not_there = grind (arith, nat_tests)

    go : (t : Bool) → (length ns == length around) ≡ false
        → kinds_of (r.variable_in name ns) (record { focus = focus; bound = a ∷ around }) ≡ kinds_of (r.variable_in name ns)
        (record { focus = focus; bound = around })
        → kinds_of (elim t as (λ _. Exp) [ true ↦ x.variable (length ns) | false ↦ r.variable_in name ns ]) (record { focus = focus; bound = a ∷ around })
        ≡ kinds_of (elim t as (λ _. Exp) [ true ↦ x.variable (length ns) | false ↦ r.variable_in name ns ]) (record { focus = focus; bound = around })
    go true e q = ap (λ t. elim t as (λ _. Kinds) [ true ↦ a | false ↦ kinds_at (length ns) around ]) e
    go false e q = q

declared_kinds : (name : List ℕ) (variables : List (List ℕ)) →
    j.kinds_or_all (j.variable_kinds name (map (λ name. (name, kinds.all_kinds)) variables)) ≡ kinds.all_kinds
declared_kinds name [] = refl
declared_kinds name (variable ∷ variables) = go (bytes_eq name variable) (declared_kinds name variables)
  where
    go : (t : Bool) → j.kinds_or_all (j.variable_kinds name (map (λ name. (name, kinds.all_kinds)) variables)) ≡ kinds.all_kinds
        → j.kinds_or_all (elim t as (λ _. Option Kinds) [
          | true ↦ Some kinds.all_kinds
          | false ↦ j.variable_kinds name (map (λ name. (name, kinds.all_kinds)) variables)
        ]) ≡ kinds.all_kinds
    go true e = refl
    go false e = e

same_count : (bound : Bound) → length (names bound) ≡ length (map (λ (variable : List ℕ × Kinds). variable.1) bound)
same_count [] = refl
same_count (variable ∷ bound) = ap suc (same_count bound)

equal_itself : (count : ℕ) → (count == count) ≡ true
equal_itself count = grind (arith, nat_tests)

variable_within : (name : List ℕ) (bound : Bound) (focus : Kinds) (variables : List (List ℕ))
    → Within (kinds_of (r.variable_in name (names bound)) (record { focus = focus; bound = map (λ (variable : List ℕ × Kinds). variable.1) bound }))
    (j.kinds_or_all (j.variable_kinds name (bound ++ map (λ name. (name, kinds.all_kinds)) variables)))
variable_within name [] focus variables = subst (Within kinds.all_kinds) (sym (declared_kinds name variables)) (w.same kinds.all_kinds)
variable_within name (variable ∷ bound) focus variables = go (bytes_eq name variable.0) here (variable_within name bound focus variables)
  where
    others : List Kinds
    others = map (λ (variable : List ℕ × Kinds). variable.1) bound

    here : (length (names bound) == length others) ≡ true
    here = subst (λ count. (length (names bound) == count) ≡ true) (same_count bound) (equal_itself (length (names bound)))

    behind : kinds_of (r.variable_in name (names bound)) (record { focus = focus; bound = variable.1 ∷ others }) ≡ kinds_of (r.variable_in name (names bound))
        (record { focus = focus; bound = others })
    behind = behind_others name (names bound) focus variable.1 others (grind (arith, same_count bound))

    go : (t : Bool) → (length (names bound) == length others) ≡ true
        → Within (kinds_of (r.variable_in name (names bound)) (record { focus = focus; bound = others }))
        (j.kinds_or_all (j.variable_kinds name (bound ++ map (λ name. (name, kinds.all_kinds)) variables)))
        → Within (kinds_of (elim t as (λ _. Exp) [ true ↦ x.variable (length (names bound)) | false ↦ r.variable_in name (names bound) ])
        (record { focus = focus; bound = variable.1 ∷ others }))
        (j.kinds_or_all (elim t as (λ _. Option Kinds) [
          | true ↦ Some variable.1
          | false ↦ j.variable_kinds name (bound ++ map (λ name. (name, kinds.all_kinds)) variables)
        ]))
    go true e h = subst (λ a. Within a variable.1)
        (sym (ap (λ t. elim t as (λ _. Kinds) [ true ↦ variable.1 | false ↦ kinds_at (length (names bound)) others ]) e)) (w.same variable.1)
    go false e h = subst (λ a. Within a (j.kinds_or_all (j.variable_kinds name (bound ++ map (λ name. (name, kinds.all_kinds)) variables)))) (sym behind) h

-- Expressions without parts

step_within : (axis : Axis) (test : Option NodeTest) (e : Expected) → Within (kinds_of (r.step_of axis test) e) kinds.nodes
step_within axis None e = w.nothing_within kinds.nodes
step_within axis (Some test) e = w.same kinds.nodes

called_within : (resolved : Resolved) (arguments : Exps) (e : Expected) (a : Kinds) → Within (first_kinds arguments e) a
    → Within (kinds_of (r.call_of resolved arguments) e) (j.called_kinds resolved a)
called_within (n.Known function) arguments e a h = w.value_within function (first_kinds arguments e) a h
called_within n.Unknown arguments e a h = w.nothing_within kinds.all_kinds
called_within n.Unbound arguments e a h = w.nothing_within kinds.all_kinds

leaf_within : (env : Environment) (bound : Bound) (leaf : Leaf) → AreInScope bound env
    → Within (kinds_of (r.leaf_of env.declared (names bound) leaf) (expected env bound)) (j.leaf_kinds env leaf)
leaf_within env bound (l.Literal s) h = w.same kinds.strings
leaf_within env bound (l.Number number) h = w.same kinds.numbers
leaf_within env bound (l.Variable name) h = subst (λ variables. Within (kinds_of (r.variable_in (written_name name) (names bound)) (expected env bound))
    (j.kinds_or_all (j.variable_kinds (written_name name) variables)))
    (sym h) (variable_within (written_name name) bound env.focus env.declared.variables)
leaf_within env bound l.Context h = w.same env.focus
leaf_within env bound l.Parent h = w.same kinds.nodes
leaf_within env bound l.Empty h = w.same kinds.no_kinds
leaf_within env bound l.Root h = w.same kinds.nodes
leaf_within env bound (l.Called name) h = called_within (function_called env.declared name) x.no_more (expected env bound) kinds.no_kinds
    (w.same kinds.no_kinds)
leaf_within env bound (l.Step form test) h = step_within (r.axis_of form test) (r.test_of env.declared test) (expected env bound)

-- Parts: those of an expression beside those of its tree, with what leads to them

abbrev Part : Type 0
Part = Label × Kinds

data Parted (form : Form) : Environment → Bound → List Operand → List Part → Type 0 where
  no_part : {env : Environment} {bound : Bound} → Parted form env bound [] []
  a_part : {env : Environment} {bound : Bound} (label : Label) (e : Exp) (a : Kinds) (es : List Operand) (others : List Part)
      → Within (kinds_of e (expected (j.inside form label env) bound)) a
      → Parted form (j.behind form label a env) (j.variables_behind label a bound) es others
      → Parted form env bound ((label, e) ∷ es) ((label, a) ∷ others)

-- the labels stand where they may
abbrev pub Follow : Form → Option Label → List Operand → Type 0
Follow form before [] = g.finished form before ≡ true
Follow form before (e ∷ es) = (g.follows form before e.0 ≡ true) × Follow form (Some e.0) es

names_behind : (label : Label) (a : Kinds) (bound : Bound) → r.names_behind label (names bound) ≡ names (j.variables_behind label a bound)
names_behind (k.Binding lead name) a bound = refl
names_behind _ a bound = refl

scope_behind : (form : Form) (label : Label) (a : Kinds) (env : Environment) (bound : Bound) → AreInScope bound env →
    AreInScope (j.variables_behind label a bound) (j.behind form label a env)
scope_behind form (k.Binding lead name) a env bound h = ap (λ variables. (written_name name, a) ∷ variables) h
scope_behind form _ a env bound h = h

-- Chains

sequences : (operator : Operator) → g.joins p.Sequence (k.Link operator) ≡ false
sequences o.Slash = refl
sequences _ = refl

united_behind : (a c d e : Kinds) → Within e (united (united a c) d) → Within e (united a (united c d))
united_behind a c d e h item q = w.both_within (united a c) d (united a (united c d))
    (w.both_within a c (united a (united c d)) (within_left a (united c d)) (λ item q. within_right a (united c d) item (within_left c d item q)))
    (λ item q. within_right a (united c d) item (within_right c d item q)) item (h item q)

abbrev members : List Part → Kinds
members others = all_united (map (λ (part : Part). part.1) others)

sequence_within : {env : Environment} {bound : Bound} {es : List Operand} {others : List Part} (e : Exp) (a : Kinds) (before : Label)
    → Parted (m.Chain p.Sequence) env bound es others → Follow (m.Chain p.Sequence) (Some before) es → Within (kinds_of e (expected env bound)) a
    → Within (kinds_of (r.chained_on e es) (expected env bound)) (united a (members others))
sequence_within e a before no_part h u = λ item v. within_left a kinds.no_kinds item (u item v)
sequence_within {env} {bound} e a before (a_part k.Comma y d es others v q) h u =
    united_behind a d (members others) (kinds_of (r.chained_on (x.comma e y) es) (expected env bound))
    (sequence_within (x.comma e y) (united a d) k.Comma q h.1 (w.united_within (kinds_of e (expected env bound)) (kinds_of y (expected env bound)) a d u v))
sequence_within e a before (a_part (k.Link operator) y d es others v q) h u =
    absurd (false≢true (subst (λ t. (t && (true || g.is_first before)) ≡ true) (sequences operator) h.0))
sequence_within e a before (a_part _ y d es others v q) h u = absurd (false≢true h.0)

-- what every other production gives, whatever its operands

or_kinds : (operator : Operator) (e f : Exp) (n : Expected) → g.joins p.Or (k.Link operator) ≡ true → kinds_of (r.linked_by operator e f) n ≡ kinds.booleans
or_kinds o.Or e f n h = refl
or_kinds _ e f n h = absurd (false≢true h)

and_kinds : (operator : Operator) (e f : Exp) (n : Expected) → g.joins p.And (k.Link operator) ≡ true → kinds_of (r.linked_by operator e f) n ≡ kinds.booleans
and_kinds o.And e f n h = refl
and_kinds _ e f n h = absurd (false≢true h)

comparison_kinds : (operator : Operator) (e f : Exp) (n : Expected) → g.joins p.Comparison (k.Link operator) ≡ true →
    kinds_of (r.linked_by operator e f) n ≡ kinds.booleans
comparison_kinds o.Equal e f n h = refl
comparison_kinds o.NotEqual e f n h = refl
comparison_kinds o.Less e f n h = refl
comparison_kinds o.LessOrEqual e f n h = refl
comparison_kinds o.Greater e f n h = refl
comparison_kinds o.GreaterOrEqual e f n h = refl
comparison_kinds o.Eq e f n h = refl
comparison_kinds o.Ne e f n h = refl
comparison_kinds o.Lt e f n h = refl
comparison_kinds o.Le e f n h = refl
comparison_kinds o.Gt e f n h = refl
comparison_kinds o.Ge e f n h = refl
comparison_kinds _ e f n h = absurd (false≢true h)

range_kinds : (operator : Operator) (e f : Exp) (n : Expected) → g.joins p.Range (k.Link operator) ≡ true →
    kinds_of (r.linked_by operator e f) n ≡ kinds.numbers
range_kinds o.To e f n h = refl
range_kinds _ e f n h = absurd (false≢true h)

sum_kinds : (operator : Operator) (e f : Exp) (n : Expected) → g.joins p.Sum (k.Link operator) ≡ true → kinds_of (r.linked_by operator e f) n ≡ kinds.numbers
sum_kinds o.Plus e f n h = refl
sum_kinds o.Minus e f n h = refl
sum_kinds _ e f n h = absurd (false≢true h)

product_kinds : (operator : Operator) (e f : Exp) (n : Expected) → g.joins p.Product (k.Link operator) ≡ true →
    kinds_of (r.linked_by operator e f) n ≡ kinds.numbers
product_kinds o.Times e f n h = refl
product_kinds o.Div e f n h = refl
product_kinds o.Idiv e f n h = refl
product_kinds o.Mod e f n h = refl
product_kinds _ e f n h = absurd (false≢true h)

union_kinds : (operator : Operator) (e f : Exp) (n : Expected) → g.joins p.Union (k.Link operator) ≡ true → kinds_of (r.linked_by operator e f) n ≡ kinds.nodes
union_kinds o.Bar e f n h = refl
union_kinds o.Union e f n h = refl
union_kinds _ e f n h = absurd (false≢true h)

intersection_kinds : (operator : Operator) (e f : Exp) (n : Expected) → g.joins p.Intersection (k.Link operator) ≡ true →
    kinds_of (r.linked_by operator e f) n ≡ kinds.nodes
intersection_kinds o.Intersect e f n h = refl
intersection_kinds o.Except e f n h = refl
intersection_kinds _ e f n h = absurd (false≢true h)

chained_kinds : (production : Production) (a : Kinds) (n : Expected) → g.joins production k.Comma ≡ false
    → ((operator : Operator) (e f : Exp) → g.joins production (k.Link operator) ≡ true → kinds_of (r.linked_by operator e f) n ≡ a)
    → (e : Exp) (before : Label) (part : Operand) (es : List Operand) → Follow (m.Chain production) (Some before) (part ∷ es) →
    kinds_of (r.chained_on e (part ∷ es)) n ≡ a
chained_kinds production a n comma is e before (k.Link operator, y) [] h =
    is operator e y ((and_parts (g.joins production (k.Link operator)) (not (g.is_single production) || g.is_first before) h.0).0)
chained_kinds production a n comma is e before (k.Link operator, y) (next ∷ es) h =
    chained_kinds production a n comma is (r.linked_by operator e y) (k.Link operator) next es h.1
chained_kinds production a n comma is e before (k.Comma, y) es h =
    absurd (false≢true (sym comma ∙ (and_parts (g.joins production k.Comma) (not (g.is_single production) || g.is_first before) h.0).0))
chained_kinds production a n comma is e before (label, y) es h = absurd (false≢true h.0)

chain_kinds : (production : Production) (a : Kinds) (n : Expected) → g.is_path production ≡ false → g.joins production k.Comma ≡ false
    → ((operator : Operator) (e f : Exp) → g.joins production (k.Link operator) ≡ true → kinds_of (r.linked_by operator e f) n ≡ a)
    → (es : List Operand) → Follow (m.Chain production) None es → kinds_of (r.chained es) n ≡ a
chain_kinds production a n path comma is [] h = absurd (false≢true h)
chain_kinds production a n path comma is ((k.First, e) ∷ []) h = absurd (false≢true h.1)
chain_kinds production a n path comma is ((k.First, e) ∷ (part ∷ es)) h = chained_kinds production a n comma is e k.First part es h.1
chain_kinds production a n path comma is ((k.Link operator, e) ∷ es) h =
    absurd (false≢true (sym path ∙ (and_parts (g.is_path production) (g.joins production (k.Link operator)) h.0).0))
chain_kinds production a n path comma is ((label, e) ∷ es) h = absurd (false≢true h.0)

-- Paths

path_kinds : (operator : Operator) (e f : Exp) (n : Expected) → g.joins p.Path (k.Link operator) ≡ true →
    kinds_of (r.linked_by operator e f) n ≡ kinds_of f (record n { focus = kinds.nodes })
path_kinds o.Slash e f n h = refl
path_kinds o.DoubleSlash e f n h = refl
path_kinds _ e f n h = absurd (false≢true h)

path_within : {env : Environment} {bound : Bound} {es : List Operand} {others : List Part} (e : Exp) (a : Kinds) (before : Label)
    → Parted (m.Chain p.Path) env bound es others → Follow (m.Chain p.Path) (Some before) es → Within (kinds_of e (expected env bound)) a
    → Within (kinds_of (r.chained_on e es) (expected env bound)) (j.last_kinds ((before, a) ∷ others))
path_within e a before no_part h u = u
path_within {env} {bound} e a before (a_part (k.Link operator) y d es others v q) h u = path_within (r.linked_by operator e y) d (k.Link operator) q h.1
    (subst (λ a. Within a d) (sym (path_kinds operator e y (expected env bound) (and_parts (g.joins p.Path (k.Link operator)) true h.0).0)) v)
path_within e a before (a_part _ y d es others v q) h u = absurd (false≢true h.0)

-- a path that begins with an operator
rooted_within : {env : Environment} {bound : Bound} (operator : Operator) (y : Exp) (d : Kinds) (es : List Operand) (others : List Part)
    → Within (kinds_of y (expected (j.inside (m.Chain p.Path) (k.Link operator) env) bound)) d → Parted (m.Chain p.Path) env bound es others
    → g.joins p.Path (k.Link operator) ≡ true → Follow (m.Chain p.Path) (Some (k.Link operator)) es
    → Within (kinds_of (r.chained_on x.the_root ((k.Link operator, y) ∷ es)) (expected env bound)) (j.last_kinds ((k.Link operator, d) ∷ others))
rooted_within {env} {bound} operator y d es others v q h f = path_within (r.linked_by operator x.the_root y) d (k.Link operator) q f
    (subst (λ a. Within a d) (sym (path_kinds operator x.the_root y (expected env bound) h)) v)

path_chain_within : {env : Environment} {bound : Bound} {es : List Operand} {others : List Part} → Parted (m.Chain p.Path) env bound es others →
    Follow (m.Chain p.Path) None es
    → Within (kinds_of (r.chained es) (expected env bound)) (j.last_kinds others)
path_chain_within no_part h = absurd (false≢true h)
path_chain_within (a_part (k.Link operator) y d es others v q) h = rooted_within operator y d es others v q h.0 h.1
path_chain_within (a_part k.First y d es others v q) h = path_within y d k.First q h.1 v
path_chain_within (a_part _ y d es others v q) h = absurd (false≢true h.0)

sequence_chain_within : {env : Environment} {bound : Bound} {es : List Operand} {others : List Part} → Parted (m.Chain p.Sequence) env bound es others →
    Follow (m.Chain p.Sequence) None es
    → Within (kinds_of (r.chained es) (expected env bound)) (members others)
sequence_chain_within no_part h = absurd (false≢true h)
sequence_chain_within (a_part k.First y d es others v q) h = sequence_within y d k.First q h.1 v
sequence_chain_within (a_part _ y d es others v q) h = absurd (false≢true h.0)

fixed_within : (production : Production) (a : Kinds) (env : Environment) (bound : Bound) (es : List Operand) → g.is_path production ≡ false →
    g.joins production k.Comma ≡ false
    → ((operator : Operator) (e f : Exp) (n : Expected) → g.joins production (k.Link operator) ≡ true → kinds_of (r.linked_by operator e f) n ≡ a)
    → Follow (m.Chain production) None es → Within (kinds_of (r.chained es) (expected env bound)) a
fixed_within production a env bound es path comma is h =
    subst (λ d. Within d a) (sym (chain_kinds production a (expected env bound) path comma (λ operator e f. is operator e f (expected env bound)) es h))
    (w.same a)

chain_within : (production : Production) (env : Environment) (bound : Bound) (es : List Operand) (others : List Part) →
    Parted (m.Chain production) env bound es others → Follow (m.Chain production) None es
    → Within (kinds_of (r.chained es) (expected env bound)) (j.chain_kinds production others)
chain_within p.Sequence env bound es others q h = sequence_chain_within q h
chain_within p.Or env bound es others q h = fixed_within p.Or kinds.booleans env bound es refl refl or_kinds h
chain_within p.And env bound es others q h = fixed_within p.And kinds.booleans env bound es refl refl and_kinds h
chain_within p.Comparison env bound es others q h = fixed_within p.Comparison kinds.booleans env bound es refl refl comparison_kinds h
chain_within p.Range env bound es others q h = fixed_within p.Range kinds.numbers env bound es refl refl range_kinds h
chain_within p.Sum env bound es others q h = fixed_within p.Sum kinds.numbers env bound es refl refl sum_kinds h
chain_within p.Product env bound es others q h = fixed_within p.Product kinds.numbers env bound es refl refl product_kinds h
chain_within p.Union env bound es others q h = fixed_within p.Union kinds.nodes env bound es refl refl union_kinds h
chain_within p.Intersection env bound es others q h = fixed_within p.Intersection kinds.nodes env bound es refl refl intersection_kinds h
chain_within p.Path env bound es others q h = path_chain_within q h

-- Variables of `for`, `some` and `every`

for_within : {env : Environment} {bound : Bound} {es : List Operand} {others : List Part} (before : Option Label) → Parted (m.Bound b.For) env bound es others →
    Follow (m.Bound b.For) before es
    → Within (kinds_of (r.bound_all b.For es) (expected env bound)) (j.last_kinds others)
for_within before no_part h = w.same kinds.no_kinds
for_within before (a_part label y d [] [] v no_part) h = v
for_within {env} {bound} before (a_part (k.Binding lead name) y d (next ∷ es) (other ∷ others) v q) h = λ item u.
    for_within (Some (k.Binding lead name)) q h.1 item (w.kinds_within (r.bound_all b.For (next ∷ es))
    (record { focus = env.focus; bound = kinds_of y (expected env bound) ∷ map (λ (variable : List ℕ × Kinds). variable.1) bound })
    (record { focus = env.focus; bound = d ∷ map (λ (variable : List ℕ × Kinds). variable.1) bound })
    (record { focus = w.same env.focus; bound = (v, w.are_same (map (λ (variable : List ℕ × Kinds). variable.1) bound)) }) item u)
for_within before (a_part _ y d (next ∷ es) (other ∷ others) v q) h = absurd (false≢true h.1.0)
for_within before (a_part label y d [] (other ∷ others) v q) h = elim q [ ]
for_within before (a_part label y d (next ∷ es) [] v q) h = elim q [ ]

-- some binding stands before what it is for
tests_within : (binder : Binder) (n : Expected) → ((e f : Exp) → kinds_of (x.bound binder e f) n ≡ kinds.booleans) → (es : List Operand) →
    Follow (m.Bound binder) None es
    → Within (kinds_of (r.bound_all binder es) n) kinds.booleans
tests_within binder n is [] h = absurd (false≢true h)
tests_within binder n is ((k.Binding lead name, y) ∷ []) h = absurd (false≢true h.1)
tests_within binder n is ((k.Binding lead name, y) ∷ (next ∷ es)) h = subst (λ a. Within a kinds.booleans) (sym (is y (r.bound_all binder (next ∷ es))))
    (w.same kinds.booleans)
tests_within binder n is ((_, y) ∷ es) h = absurd (false≢true h.0)

bound_all_within : (binder : Binder) (env : Environment) (bound : Bound) (es : List Operand) (others : List Part) → Parted (m.Bound binder) env bound es others
    → Follow (m.Bound binder) None es
    → Within (kinds_of (r.bound_all binder es) (expected env bound)) (j.bound_kinds binder others)
bound_all_within b.For env bound es others q h = for_within None q h
bound_all_within b.Some env bound es others q h = tests_within b.Some (expected env bound) (λ e f. refl) es h
bound_all_within b.Every env bound es others q h = tests_within b.Every (expected env bound) (λ e f. refl) es h

-- The other forms

third_within : {env : Environment} {bound : Bound} {es : List Operand} {others : List Part} (condition second : Operand) (a : Kinds) →
    Parted m.Conditional env bound es others
    → Follow m.Conditional (Some k.Then) es → Within (kinds_of second.1 (expected env bound)) a
    → Within (kinds_of (r.chosen_of (condition ∷ (second ∷ es))) (expected env bound)) (united a (j.branches others))
third_within condition second a no_part h u = absurd (false≢true h)
third_within {env} {bound} condition second a (a_part (k.Link operator) y d [] [] v no_part) h u =
    w.united_within (kinds_of second.1 (expected env bound)) (kinds_of y (expected env bound)) a (united d kinds.no_kinds) u
    (λ item t. within_left d kinds.no_kinds item (v item t))
third_within condition second a (a_part (k.Link operator) y d (next ∷ es) (other ∷ others) v q) h u = absurd (false≢true h.1.0)
third_within condition second a (a_part (k.Link operator) y d [] (other ∷ others) v q) h u = elim q [ ]
third_within condition second a (a_part (k.Link operator) y d (next ∷ es) [] v q) h u = elim q [ ]
third_within condition second a (a_part _ y d es others v q) h u = absurd (false≢true h.0)

second_within : {env : Environment} {bound : Bound} {es : List Operand} {others : List Part} (condition : Operand) → Parted m.Conditional env bound es others
    → Follow m.Conditional (Some k.Condition) es → Within (kinds_of (r.chosen_of (condition ∷ es)) (expected env bound)) (j.branches others)
second_within condition no_part h = absurd (false≢true h)
second_within condition (a_part k.Then y d es others v q) h = third_within condition (k.Then, y) d q h.1 v
second_within condition (a_part _ y d es others v q) h = absurd (false≢true h.0)

conditional_within : {env : Environment} {bound : Bound} {es : List Operand} {others : List Part} → Parted m.Conditional env bound es others →
    Follow m.Conditional None es
    → Within (kinds_of (r.chosen_of es) (expected env bound)) (j.branches others)
conditional_within no_part h = absurd (false≢true h)
conditional_within (a_part k.Condition y d es others v q) h = second_within (k.Condition, y) q h.1
conditional_within (a_part _ y d es others v q) h = absurd (false≢true h.0)

cast_within : (word : CastWord) (type : Resolved) (optional : Bool) (e : Exp) (n : Expected) →
    Within (kinds_of (r.cast_of word type optional e) n) (j.cast_kinds word type)
cast_within c.Cast (n.Known function) optional e m = λ item h. h
cast_within c.Castable (n.Known function) optional e m = λ item h. h
cast_within c.Cast n.Unknown optional e m = w.nothing_within kinds.all_kinds
cast_within c.Cast n.Unbound optional e m = w.nothing_within kinds.all_kinds
cast_within c.Castable n.Unknown optional e m = w.nothing_within kinds.booleans
cast_within c.Castable n.Unbound optional e m = w.nothing_within kinds.booleans

signed_within : (es : List Operand) (n : Expected) → Within (kinds_of (r.signed_of es) n) kinds.numbers
signed_within [] n = w.nothing_within kinds.numbers
signed_within ((k.Signed signs, e) ∷ es) n = w.same kinds.numbers
signed_within ((_, e) ∷ es) n = w.nothing_within kinds.numbers

kept_kinds : (e : Exp) (es : List Operand) (n : Expected) → kinds_of (r.kept_of e es) n ≡ kinds_of e n
kept_kinds e [] n = refl
kept_kinds e (part ∷ es) n = kept_kinds (x.filtered e part.1) es n

axis_kinds : (e : Exp) (n : Expected) → kinds_of (r.in_axis_order e) n ≡ kinds_of e n
axis_kinds (x.stepped e) n = refl
axis_kinds _ n = refl

filtered_within : {env : Environment} {bound : Bound} {es : List Operand} {others : List Part} (is_step : Bool) → Parted m.Filter env bound es others
    → Within (kinds_of (r.filtered_of is_step es) (expected env bound)) (j.first_kinds others)
filtered_within is_step no_part = w.same kinds.no_kinds
filtered_within {env} {bound} true (a_part label y d es others v q) =
    subst (λ a. Within a d) (sym (kept_kinds (r.in_axis_order y) es (expected env bound) ∙ axis_kinds y (expected env bound))) v
filtered_within {env} {bound} false (a_part label y d es others v q) = subst (λ a. Within a d) (sym (kept_kinds y es (expected env bound))) v

first_within : {env : Environment} {bound : Bound} {es : List Operand} {others : List Part} → Parted m.Parentheses env bound es others
    → Within (kinds_of (r.first_part es) (expected env bound)) (j.first_kinds others)
first_within no_part = w.same kinds.no_kinds
first_within (a_part label y d es others v q) = v

call_within : (d : Declared) {env : Environment} {bound : Bound} {es : List Operand} {others : List Part} → Parted m.Call env bound es others
    → Within (kinds_of (r.called_of d es) (expected env bound)) (j.call_kinds d others)
call_within d no_part = w.nothing_within kinds.all_kinds
call_within d {env} {bound} (a_part (k.Calling name) y a es others v q) = called_within (function_called d name) (r.arguments_of ((k.Calling name, y) ∷ es))
    (expected env bound) a v
call_within d (a_part _ y a es others v q) = w.nothing_within kinds.all_kinds

form_within : (d : Declared) (form : Form) (is_step : Bool) (env : Environment) (bound : Bound) (es : List Operand) (others : List Part) →
    Parted form env bound es others → Follow form None es
    → Within (kinds_of (r.combined d form is_step es) (expected env bound)) (j.form_kinds d form others)
form_within d (m.Chain production) is_step env bound es others q h = chain_within production env bound es others q h
form_within d (m.Bound binder) is_step env bound es others q h = bound_all_within binder env bound es others q h
form_within d m.Conditional is_step env bound es others q h = conditional_within q h
form_within d (m.Cast word type optional) is_step env bound es others q h = cast_within word (type_named d type) optional (r.first_part es) (expected env bound)
form_within d m.Signs is_step env bound es others q h = signed_within es (expected env bound)
form_within d m.Filter is_step env bound es others q h = filtered_within is_step q
form_within d m.Parentheses is_step env bound es others q h = first_within q
form_within d m.Call is_step env bound es others q h = call_within d q

-- Trees

pub follow : (d : Declared) (names : List (List ℕ)) (form : Form) (before : Option Label) (parts : Parts) → g.Runs form before parts →
    Follow form before (r.operands d names parts)
unfolding g.Runs g.Grammatical r.operands r.resolved
follow d names form before g.none h = h
follow d names form before (g.more label tree parts) h = (h.0, follow d (r.names_behind label names) form (Some label) parts h.3)

mutual
  unfolding g.Grammatical g.Runs r.resolved r.operands j.judged j.operands

  pub tree_within : (env : Environment) (bound : Bound) (token : ℕ) (tree : Tree) → g.Grammatical tree → AreInScope bound env
      → Within (kinds_of (r.resolved env.declared (names bound) tree) (expected env bound)) (j.judged env token tree).kinds
  tree_within env bound token (g.leaf leaf) h scope = if_within (kinds_of (r.leaf_of env.declared (names bound) leaf) (expected env bound))
      (j.leaf_kinds env leaf) _ (leaf_within env bound leaf scope)
  tree_within env bound token (g.node form parts) h scope =
      if_within (kinds_of (r.combined env.declared form (r.begins_with_step parts) (r.operands env.declared (names bound) parts)) (expected env bound))
      (j.form_kinds env.declared form (j.operands env form token parts).kinds) _
      (form_within env.declared form (r.begins_with_step parts) env bound (r.operands env.declared (names bound) parts) (j.operands env form token parts).kinds
      (parted form env bound token None parts h scope) (follow env.declared (names bound) form None parts h))

  parted : (form : Form) (env : Environment) (bound : Bound) (token : ℕ) (before : Option Label) (parts : Parts) → g.Runs form before parts →
      AreInScope bound env
      → Parted form env bound (r.operands env.declared (names bound) parts) (j.operands env form token parts).kinds
  parted form env bound token before g.none h scope = no_part
  parted form env bound token before (g.more label tree parts) h scope =
      let start : ℕ = token + length (g.label_tokens label) in
      let a : Kinds = (j.judged (j.inside form label env) start tree).kinds in
      a_part label (r.resolved env.declared (names bound) tree) a (r.operands env.declared (r.names_behind label (names bound)) parts)
      (j.operands (j.behind form label a env) form (start + length (g.written tree)) parts).kinds
      (tree_within (j.inside form label env) bound start tree h.2 scope)
      (subst (λ ns. Parted form (j.behind form label a env) (j.variables_behind label a bound) (r.operands env.declared ns parts)
      (j.operands (j.behind form label a env) form (start + length (g.written tree)) parts).kinds)
      (sym (names_behind label a bound))
      (parted form (j.behind form label a env) (j.variables_behind label a bound) (start + length (g.written tree)) (Some label) parts h.3
      (scope_behind form label a env bound scope)))
