-- A pattern is an expression that is spelled and has the shape of one.
use Rattle.std.proofs.Common.{◌≡◌, Bool, true, false, ◌≤◌, List, [], ◌∷◌, ◌++◌, Some, refl, sym, ap, subst, arith, lit≤, append-nil}
use Rattle.std.proofs.lemmas.Bool.{and_from, and_parts}
use Rattle.xpath_tokens.specs.declared.token.Operator.{Operator}
use Rattle.xpath_tokens.specs.declared.token.Operator.TheVariants as o
use Rattle.xpath_tokens.specs.declared.token.Token.{Token}
use Rattle.xpath_tokens.specs.declared.token.Token.TheVariants as t
use Rattle.xpath_grammar.specs.declared.step.AxisForm.{AxisForm}
use Rattle.xpath_grammar.specs.declared.step.Test.{Test}
use Rattle.xpath_grammar.specs.declared.operators.Production.TheVariants as p
use Rattle.xpath_grammar.specs.declared.pattern.PatternKind.{PatternKind}
use Rattle.xpath_grammar.specs.Grammar as g
use Rattle.xpath_grammar.specs.Grammar.{Leaf, Form, Label, Tree, Parts}
use Rattle.xpath_grammar.specs.Productions as r
use Rattle.xpath_grammar.specs.Productions.{Is, Operands, Predicates}
use Rattle.xpath_grammar.specs.Patterns as pa
use Rattle.xpath_grammar.specs.Patterns.{IsStep, Steps, IsPath, Paths, IsPattern}
use Rattle.xpath_grammar.proofs.Facts.{rank_pos}
use Rattle.xpath_grammar.proofs.Derivations.{Sound, derived, is_derived, loosely, is_text, never, production_is, PredicatesOf, predicates_derived, join}

-- What a pattern's derivation says

is_path_label : (operator : Operator) → g.production_of operator ≡ Some p.Path → g.joins p.Path (g.link operator) ≡ true
is_path_label operator e = ap (g.is_production p.Path) e

step_is : {a : List Token} {x : Tree} → IsStep a x → Is r.step a x
step_is (pa.a_step axis test h) = loosely r.step (lit≤ tt) (r.a_step axis test)
step_is (pa.filtered axis test b c y xs h d ps) = r.filtered (g.axis_tokens axis ++ g.test_tokens test) b c (g.leaf (g.step axis test)) y xs
    (r.a_step axis test) d ps

steps_are : {a : List Token} {xs : Parts} → Steps a xs → Operands p.Path a xs
steps_are pa.no_steps = r.no_operands p.Path
steps_are (pa.more_steps operator a b x xs e d ds) = r.an_operand p.Path (g.link operator) a b x xs (is_path_label operator e) (step_is d) (steps_are ds)

path_is : {a : List Token} {x : Tree} → IsPath a x → Is r.path a x
path_is pa.the_root = r.the_root
path_is (pa.from_root operator a b x xs e d ds) = r.from_root operator a b x xs e (step_is d) (steps_are ds)
path_is (pa.one_step a x d) = loosely r.path (lit≤ tt) (step_is d)
path_is (pa.many_steps operator a b c x y xs d e d2 ds) = r.a_chain p.Path (g.link operator) a b c x y xs (step_is d) (is_path_label operator e) (step_is d2)
    (steps_are ds) (λ h. never h)

paths_are : {a : List Token} {xs : Parts} → Paths a xs → Operands p.Union a xs
paths_are pa.no_paths = r.no_operands p.Union
paths_are (pa.more_paths a b x xs d ds) = r.an_operand p.Union (g.link o.Bar) a b x xs refl (loosely 10 (lit≤ tt) (path_is d)) (paths_are ds)

pattern_is : {a : List Token} {x : Tree} → IsPattern a x → Is r.expr a x
pattern_is (pa.one_path a x d) = loosely r.expr (lit≤ tt) (path_is d)
pattern_is (pa.many_paths a b c x y xs d d2 ds) = loosely r.expr (lit≤ tt)
    (r.a_chain p.Union (g.link o.Bar) a b c x y xs (loosely 10 (lit≤ tt) (path_is d)) refl (loosely 10 (lit≤ tt) (path_is d2)) (paths_are ds) (λ h. never h))

-- What it is as a pattern

axis_kind : (b : Bool) → b ≡ true → elim b as (λ _. PatternKind) [ true ↦ pa.step | false ↦ pa.other ] ≡ pa.step
axis_kind b e = ap (λ x. elim x as (λ _. PatternKind) [ true ↦ pa.step | false ↦ pa.other ]) e

step_kind : {a : List Token} {x : Tree} → IsStep a x → pa.kind_of x ≡ pa.step
unfolding pa.kind_of
step_kind (pa.a_step axis test h) = axis_kind (pa.is_pattern_axis axis) h
step_kind (pa.filtered axis test b c y xs h d ps) = ap (λ k. pa.when (pa.is_step k) pa.step) (axis_kind (pa.is_pattern_axis axis) h)

steps_kind : {a : List Token} {xs : Parts} → Steps a xs → pa.all_steps xs ≡ true
unfolding pa.kind_of
steps_kind pa.no_steps = refl
steps_kind (pa.more_steps operator a b x xs e d ds) = and_from _ _ (ap pa.is_step (step_kind d)) (steps_kind ds)

path_kind : {a : List Token} {x : Tree} → IsPath a x → pa.is_path (pa.kind_of x) ≡ true
unfolding pa.kind_of
path_kind pa.the_root = refl
path_kind (pa.from_root operator a b x xs e d ds) = ap (λ k. pa.is_path (pa.when k pa.path)) (and_from _ _ (ap pa.is_step (step_kind d)) (steps_kind ds))
path_kind (pa.one_step a x d) = ap pa.is_path (step_kind d)
path_kind (pa.many_steps operator a b c x y xs d e d2 ds) =
    ap (λ k. pa.is_path (pa.when k pa.path)) (and_from _ _ (ap pa.is_step (step_kind d)) (and_from _ _ (ap pa.is_step (step_kind d2)) (steps_kind ds)))

paths_kind : {a : List Token} {xs : Parts} → Paths a xs → pa.all_paths xs ≡ true
unfolding pa.kind_of
paths_kind pa.no_paths = refl
paths_kind (pa.more_paths a b x xs d ds) = and_from _ _ (path_kind d) (paths_kind ds)

path_pattern : (k : PatternKind) → pa.is_path k ≡ true → pa.is_pattern_kind k ≡ true
path_pattern pa.step h = refl
path_pattern pa.path h = refl
path_pattern _ h = never h

pattern_kind : {a : List Token} {x : Tree} → IsPattern a x → pa.is_pattern x ≡ true
unfolding pa.kind_of
pattern_kind (pa.one_path a x d) = path_pattern (pa.kind_of x) (path_kind d)
pattern_kind (pa.many_paths a b c x y xs d d2 ds) = ap (λ k. pa.is_pattern_kind (pa.when k pa.union))
    (and_from _ _ (path_kind d) (and_from _ _ (path_kind d2) (paths_kind ds)))

-- And back

axis_back : (b : Bool) → pa.is_step (elim b as (λ _. PatternKind) [ true ↦ pa.step | false ↦ pa.other ]) ≡ true → b ≡ true
axis_back true h = refl
axis_back false h = never h

axis_path_back : (b : Bool) → pa.is_path (elim b as (λ _. PatternKind) [ true ↦ pa.step | false ↦ pa.other ]) ≡ true → b ≡ true
axis_path_back true h = refl
axis_path_back false h = never h

when_step : (b : Bool) → pa.is_path (pa.when b pa.step) ≡ true → b ≡ true
when_step true h = refl
when_step false h = never h

when_path : (b : Bool) → pa.is_path (pa.when b pa.path) ≡ true → b ≡ true
when_path true h = refl
when_path false h = never h

when_union : (b : Bool) → pa.is_pattern_kind (pa.when b pa.union) ≡ true → b ≡ true
when_union true h = refl
when_union false h = never h

path_no_step : {P : Type 0} (b : Bool) → pa.is_step (pa.when b pa.path) ≡ true → P
path_no_step true h = never h
path_no_step false h = never h

union_no_path : {P : Type 0} (b : Bool) → pa.is_path (pa.when b pa.union) ≡ true → P
union_no_path true h = never h
union_no_path false h = never h

union_no_step : {P : Type 0} (b : Bool) → pa.is_step (pa.when b pa.union) ≡ true → P
union_no_step true h = never h
union_no_step false h = never h

step_is_path : (k : PatternKind) → pa.is_step k ≡ true → pa.is_path k ≡ true
step_is_path pa.step h = refl
step_is_path _ h = never h

-- a step without predicates
record Bare (x : Tree) : Type 0 where
  axis : AxisForm
  test : Test
  is : x ≡ g.leaf (g.step axis test)
  ok : pa.is_pattern_axis axis ≡ true

bare : (x : Tree) → 16 ≤ g.rank x → pa.is_step (pa.kind_of x) ≡ true → Bare x
unfolding pa.kind_of
bare (g.leaf (g.step axis test)) high h = record { axis = axis; test = test; is = refl; ok = axis_back (pa.is_pattern_axis axis) h }
bare (g.leaf _) high h = never h
bare (g.node (g.chain p.Path) parts) high h = path_no_step (pa.all_steps parts) h
bare (g.node (g.chain p.Union) parts) high h = union_no_step (pa.all_paths parts) h
bare (g.node g.filter parts) high h = absurd (omega (arith, high))
bare (g.node (g.chain _) parts) high h = never h
bare (g.node _ parts) high h = never h

filter_back : (x y : Tree) (xs : Parts) → Bare x → Is r.expr (g.written y) y → PredicatesOf xs →
    IsStep (g.written (g.node g.filter (g.more g.first x (g.more g.predicate y xs)))) (g.node g.filter (g.more g.first x (g.more g.predicate y xs)))
unfolding g.written
filter_back x y xs b d found = subst (λ z. IsStep (g.written (g.node g.filter (g.more g.first z (g.more g.predicate y xs))))
    (g.node g.filter (g.more g.first z (g.more g.predicate y xs)))) (sym b.is)
    (subst (λ l. IsStep l (g.node g.filter (g.more g.first (g.leaf (g.step b.axis b.test)) (g.more g.predicate y xs))))
    (join (t.LeftBracket ∷ (g.written y ++ g.parts_written xs)) (t.RightBracket ∷ []) refl
    (ap (λ l. t.LeftBracket ∷ l) (join (g.parts_written xs) (t.RightBracket ∷ []) refl found.text)))
    (pa.filtered b.axis b.test (g.written y) found.tokens y xs b.ok d found.derived))

step_back : (x : Tree) → g.Grammatical x → pa.is_step (pa.kind_of x) ≡ true → IsStep (g.written x) x
unfolding pa.kind_of g.written g.Grammatical
step_back (g.leaf (g.step axis test)) ok h = pa.a_step axis test (axis_back (pa.is_pattern_axis axis) h)
step_back (g.leaf _) ok h = never h
step_back (g.node g.filter g.none) ok h = never ok
step_back (g.node g.filter (g.more g.first x g.none)) ok h = never ok.3
step_back (g.node g.filter (g.more g.first x (g.more g.predicate y xs))) ok h =
    filter_back x y xs (bare x ok.1 (when_step (pa.is_step (pa.kind_of x)) (step_is_path _ h))) (loosely r.expr ok.3.1 (is_derived y ok.3.2))
    (predicates_derived xs g.predicate refl ok.3.3)
step_back (g.node g.filter (g.more g.first x (g.more _ y xs))) ok h = never ok.3.0
step_back (g.node g.filter (g.more _ x xs)) ok h = never ok.0
step_back (g.node (g.chain p.Path) parts) ok h = path_no_step (pa.all_steps parts) h
step_back (g.node (g.chain p.Union) parts) ok h = union_no_step (pa.all_paths parts) h
step_back (g.node (g.chain _) parts) ok h = never h
step_back (g.node _ parts) ok h = never h

steps_back : (xs : Parts) (before : Label) → g.Runs (g.chain p.Path) (Some before) xs → pa.all_steps xs ≡ true → Steps (g.parts_written xs) xs
unfolding pa.kind_of g.written g.Grammatical
steps_back g.none before runs h = pa.no_steps
steps_back (g.more (g.link operator) x xs) before runs h =
    pa.more_steps operator (g.written x) (g.parts_written xs) x xs (production_is p.Path (g.production_of operator) (and_parts _ _ runs.0).0)
    (step_back x runs.2 (and_parts _ _ h).0) (steps_back xs (g.link operator) runs.3 (and_parts _ _ h).1)
steps_back (g.more _ x xs) before runs h = never runs.0

path_text : {a b : List Token} {x : Tree} → a ≡ b → IsPath a x → IsPath b x
path_text {a} {b} {x} e d = subst (λ l. IsPath l x) e d

path_back : (x : Tree) → g.Grammatical x → pa.is_path (pa.kind_of x) ≡ true → IsPath (g.written x) x
unfolding pa.kind_of g.written g.Grammatical
path_back (g.leaf g.root) ok h = pa.the_root
path_back (g.leaf (g.step axis test)) ok h = pa.one_step _ _ (pa.a_step axis test (axis_path_back (pa.is_pattern_axis axis) h))
path_back (g.leaf _) ok h = never h
path_back (g.node g.filter g.none) ok h = never ok
path_back (g.node g.filter (g.more label x xs)) ok h =
    pa.one_step _ _ (step_back (g.node g.filter (g.more label x xs)) ok (ap (λ b. pa.is_step (pa.when b pa.step)) (when_step (pa.is_step (pa.kind_of x)) h)))
path_back (g.node (g.chain p.Path) g.none) ok h = never ok
path_back (g.node (g.chain p.Path) (g.more g.first x g.none)) ok h = never ok.3
path_back (g.node (g.chain p.Path) (g.more g.first x (g.more (g.link operator) y xs))) ok h =
    path_text (sym (append-nil _)) (pa.many_steps operator (g.written x) (g.written y) (g.parts_written xs) x y xs
    (step_back x ok.2 (and_parts _ _ (when_path _ h)).0) (production_is p.Path (g.production_of operator) (and_parts _ _ ok.3.0).0)
    (step_back y ok.3.2 (and_parts _ _ (and_parts _ _ (when_path _ h)).1).0)
    (steps_back xs (g.link operator) ok.3.3 (and_parts _ _ (and_parts _ _ (when_path _ h)).1).1))
path_back (g.node (g.chain p.Path) (g.more g.first x (g.more _ y xs))) ok h = never ok.3.0
path_back (g.node (g.chain p.Path) (g.more (g.link operator) x xs)) ok h =
    path_text (ap (λ l. t.Operator operator ∷ l) (sym (append-nil (g.written x ++ g.parts_written xs))))
    (pa.from_root operator (g.written x) (g.parts_written xs) x xs
    (production_is p.Path (g.production_of operator) ok.0) (step_back x ok.2 (and_parts _ _ (when_path _ h)).0)
    (steps_back xs (g.link operator) ok.3 (and_parts _ _ (when_path _ h)).1))
path_back (g.node (g.chain p.Path) (g.more _ x xs)) ok h = never ok.0
path_back (g.node (g.chain p.Union) parts) ok h = union_no_path (pa.all_paths parts) h
path_back (g.node (g.chain _) parts) ok h = never h
path_back (g.node _ parts) ok h = never h

bar_is : (operator : Operator) → g.joins p.Union (g.link operator) ≡ true → pa.is_bar (g.link operator) ≡ true → operator ≡ o.Bar
bar_is o.Bar h i = refl
bar_is o.Union h i = never i
bar_is _ h i = never h

paths_back : (xs : Parts) (before : Label) → g.Runs (g.chain p.Union) (Some before) xs → pa.all_paths xs ≡ true → Paths (g.parts_written xs) xs
unfolding pa.kind_of g.written g.Grammatical
paths_back g.none before runs h = pa.no_paths
paths_back (g.more (g.link operator) x xs) before runs h = subst (λ z. Paths (t.Operator z ∷ (g.written x ++ g.parts_written xs)) (g.more (g.link z) x xs))
    (sym (bar_is operator (and_parts _ _ runs.0).0 (and_parts _ _ (and_parts _ _ h).1).0))
    (pa.more_paths (g.written x) (g.parts_written xs) x xs (path_back x runs.2 (and_parts _ _ h).0)
    (paths_back xs (g.link operator) runs.3 (and_parts _ _ (and_parts _ _ h).1).1))
paths_back (g.more _ x xs) before runs h = never runs.0

pattern_path : (k : PatternKind) → pa.is_pattern_kind k ≡ true → ((k ≡ pa.union) → ⊥) → pa.is_path k ≡ true
pattern_path pa.step h n = refl
pattern_path pa.path h n = refl
pattern_path pa.union h n = absurd (n refl)
pattern_path pa.other h n = never h

union_back : (x y : Tree) (operator : Operator) (xs : Parts) → operator ≡ o.Bar → IsPath (g.written x) x → IsPath (g.written y) y →
    Paths (g.parts_written xs) xs
    → IsPattern (g.written (g.node (g.chain p.Union) (g.more g.first x (g.more (g.link operator) y xs))))
    (g.node (g.chain p.Union) (g.more g.first x (g.more (g.link operator) y xs)))
unfolding g.written
union_back x y operator xs same d d2 ds = subst (λ z. IsPattern (g.written (g.node (g.chain p.Union) (g.more g.first x (g.more (g.link z) y xs))))
    (g.node (g.chain p.Union) (g.more g.first x (g.more (g.link z) y xs)))) (sym same)
    (subst (λ l. IsPattern l (g.node (g.chain p.Union) (g.more g.first x (g.more (g.link o.Bar) y xs)))) (sym (append-nil _))
    (pa.many_paths (g.written x) (g.written y) (g.parts_written xs) x y xs d d2 ds))

single_path : (x : Tree) → g.Grammatical x → pa.is_path (pa.kind_of x) ≡ true → IsPattern (g.written x) x
single_path x ok h = pa.one_path (g.written x) x (path_back x ok h)

leaf_path : (x : Leaf) → pa.is_pattern_kind (pa.leaf_kind x) ≡ true → pa.is_path (pa.leaf_kind x) ≡ true
leaf_path (g.step axis test) h = by (pa.is_pattern_axis axis) h where
  by : (b : Bool) → pa.is_pattern_kind (elim b as (λ _. PatternKind) [ true ↦ pa.step | false ↦ pa.other ]) ≡ true →
      pa.is_path (elim b as (λ _. PatternKind) [ true ↦ pa.step | false ↦ pa.other ]) ≡ true
  by true h = refl
  by false h = never h
leaf_path g.root h = refl
leaf_path _ h = never h

when_path_kind : (b : Bool) (k : PatternKind) → pa.is_path k ≡ true → pa.is_pattern_kind (pa.when b k) ≡ true → pa.is_path (pa.when b k) ≡ true
when_path_kind true k e h = e
when_path_kind false k e h = never h

pattern_back : (x : Tree) → g.Grammatical x → pa.is_pattern x ≡ true → IsPattern (g.written x) x
unfolding pa.kind_of g.Grammatical
pattern_back (g.leaf x) ok h = single_path (g.leaf x) ok (leaf_path x h)
pattern_back (g.node g.filter parts) ok h = single_path (g.node g.filter parts) ok (when_path_kind (pa.is_step (pa.first_kind parts)) pa.step refl h)
pattern_back (g.node (g.chain p.Path) parts) ok h = single_path (g.node (g.chain p.Path) parts) ok (when_path_kind (pa.all_steps parts) pa.path refl h)
pattern_back (g.node (g.chain p.Union) g.none) ok h = never ok
pattern_back (g.node (g.chain p.Union) (g.more g.first x g.none)) ok h = never ok.3
pattern_back (g.node (g.chain p.Union) (g.more g.first x (g.more (g.link operator) y xs))) ok h =
    let all : pa.all_paths (g.more g.first x (g.more (g.link operator) y xs)) ≡ true = when_union _ h in
    let behind : pa.all_paths (g.more (g.link operator) y xs) ≡ true = (and_parts _ _ all).1 in
    union_back x y operator xs (bar_is operator (and_parts _ _ ok.3.0).0 (and_parts _ _ (and_parts _ _ behind).1).0) (path_back x ok.2 (and_parts _ _ all).0)
    (path_back y ok.3.2 (and_parts _ _ behind).0)
    (paths_back xs (g.link operator) ok.3.3 (and_parts _ _ (and_parts _ _ behind).1).1)
pattern_back (g.node (g.chain p.Union) (g.more g.first x (g.more _ y xs))) ok h = never ok.3.0
pattern_back (g.node (g.chain p.Union) (g.more _ x xs)) ok h = never ok.0
pattern_back (g.node (g.chain _) parts) ok h = never h
pattern_back (g.node _ parts) ok h = never h

-- the productions of patterns spell exactly the expressions that are patterns
pub pattern_spelled : (tokens : List Token) (x : Tree) → IsPattern tokens x → g.Spells tokens x × (pa.is_pattern x ≡ true)
pattern_spelled tokens x d = let s : Sound r.expr tokens x = derived (pattern_is d) in (record { text = s.text; grammatical = s.grammatical }, pattern_kind d)

pub spelled_pattern : (tokens : List Token) (x : Tree) → g.Spells tokens x → pa.is_pattern x ≡ true → IsPattern tokens x
spelled_pattern tokens x s h = subst (λ l. IsPattern l x) (sym s.text) (pattern_back x s.grammatical h)

-- the productions of expressions spell exactly what the tree writes
pub derived_spelled : (tokens : List Token) (x : Tree) → Is r.expr tokens x → g.Spells tokens x
derived_spelled tokens x d = let s : Sound r.expr tokens x = derived d in record { text = s.text; grammatical = s.grammatical }

pub spelled_derived : (tokens : List Token) (x : Tree) → g.Spells tokens x → Is r.expr tokens x
spelled_derived tokens x s = is_text (sym s.text) (loosely r.expr (rank_pos x) (is_derived x s.grammatical))
