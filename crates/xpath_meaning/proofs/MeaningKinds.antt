-- The items of an expression's value are of its kinds.
use Rattle.std.proofs.Common.{◌≡◌, ℕ, Bool, true, false, List, [], ◌∷◌, length, Result, Ok, Err, refl, sym, ap, suc, true≢false, ◌==◌}
use Rattle.inv_base.specs.Tree.{Node}
use Rattle.xpath_grammar.specs.Comparisons.{comparison_of}
use Rattle.xpath_grammar.specs.declared.operators.Binder.{Binder}
use Rattle.xpath_grammar.specs.declared.operators.Binder.TheVariants as b
use Rattle.xpath_types.specs.declared.kinds.Kinds.{Kinds}
use Rattle.xpath_types.specs.Kinds as k
use Rattle.xpath_items.specs.declared.item.Item.{Item}
use Rattle.xpath_items.specs.declared.item.Item.TheVariants as i
use Rattle.xpath_items.specs.declared.outcome.DynError.{DynError}
use Rattle.xpath_meaning.specs.Values.{Value, then_}
use Rattle.xpath_meaning.specs.Items as items
use Rattle.xpath_meaning.specs.Comparing.{any_of, all_of}
use Rattle.xpath_meaning.specs.Steps.{root_of, step_from}
use Rattle.xpath_meaning.specs.Axes.{on_axis}
use Rattle.xpath_meaning.specs.Expressions as x
use Rattle.xpath_meaning.specs.Expressions.{Exp, Exps, NodeTest}
use Rattle.xpath_grammar.specs.declared.step.Axis.{Axis}
use Rattle.xpath_meaning.specs.Meaning.{Context, at, inside, bound_at, truth_of, bound_by, outer_value, mean, means}
use Rattle.xpath_meaning.specs.ItemKinds.{IsOf, AreOf, IsValueOf, AreBound, Expected, Suits, kinds_at, bound_kinds, kinds_of, first_kinds}
use Rattle.xpath_meaning.proofs.KindFacts as g
use Rattle.xpath_meaning.proofs.CallKinds as v

same_length : (kinds : List Kinds) (xs : List Item) → AreBound kinds xs → length kinds ≡ length xs
same_length [] [] h = refl
same_length (a ∷ around) (x ∷ xs) h = ap suc (same_length around xs h.1)
same_length [] (x ∷ xs) h = absurd h
same_length (a ∷ around) [] h = absurd h

of_bound_at : (height : ℕ) (kinds : List Kinds) (xs : List Item) → AreBound kinds xs → AreOf (kinds_at height kinds) (bound_at height xs)
of_bound_at height [] [] h = tt
of_bound_at height (a ∷ around) (x ∷ xs) h = go (height == length around) (height == length xs) (ap (λ n. height == n) (same_length around xs h.1))
    (of_bound_at height around xs h.1)
  where
    go : (b c : Bool) → b ≡ c → AreOf (kinds_at height around) (bound_at height xs)
        → AreOf (elim b as (λ _. Kinds) [ true ↦ a | false ↦ kinds_at height around ])
        (elim c as (λ _. List Item) [ true ↦ x ∷ [] | false ↦ bound_at height xs ])
    go true true e p = (h.0, tt)
    go false false e p = p
    go true false e p = absurd (true≢false e)
    go false true e p = absurd (true≢false (sym e))
of_bound_at height [] (x ∷ xs) h = absurd h
of_bound_at height (a ∷ around) [] h = absurd h

of_root : (x : Item) → IsValueOf k.nodes (root_of x)
of_root (i.Node n) = g.given (refl, tt)
of_root _ = g.given tt

of_step : (ns : List Node) (axis : Axis) (test : NodeTest) (x : Item) → IsValueOf k.nodes (step_from ns axis test x)
of_step ns axis test (i.Node n) = g.given (g.are_nodes (on_axis ns axis test n))
of_step ns axis test _ = g.given tt

of_bound_by : (binder : Binder) {a : Kinds} (b : Kinds) {body : Item → Value} → ((x : Item) → IsOf b x → IsValueOf a (body x)) → (xs : List Item) → AreOf b xs
    → IsValueOf (bound_kinds binder a) (bound_by binder body xs)
of_bound_by b.For e h xs p = g.of_each e h xs p
of_bound_by b.Some e {body} h xs p = v.of_boolean (any_of (λ item. truth_of (body item)) xs)
of_bound_by b.Every e {body} h xs p = v.of_boolean (all_of (λ item. truth_of (body item)) xs)

abbrev AreArguments : Kinds → Result (List (List Item)) DynError → Type 0
AreArguments a (Ok arguments) = v.IsFirst a arguments
AreArguments a (Err error) = Unit {0}

of_arguments : (a : Kinds) {c : Kinds} (arguments : Result (List (List Item)) DynError) {f : List (List Item) → Value} → AreArguments a arguments
    → ((values : List (List Item)) → v.IsFirst a values → IsValueOf c (f values)) → IsValueOf c (then_ arguments f)
of_arguments a (Ok values) h p = p values h
of_arguments a (Err error) h p = g.given tt

first_of : (a : Kinds) (value : Value) (values : Result (List (List Item)) DynError) → IsValueOf a value
    → AreArguments a (then_ value (λ value. then_ values (λ values. Ok (value ∷ values))))
first_of a (Ok xs) (Ok values) h = h.items
first_of a (Ok xs) (Err error) h = tt
first_of a (Err error) values h = tt

mutual
  pub of_mean : (ns : List Node) (e : Exp) (expected : Expected) (c : Context) → Suits expected c → IsValueOf (kinds_of e expected) (mean ns e c)
  of_mean ns (x.text s) m c h = g.given (refl, tt)
  of_mean ns (x.number z) m c h = g.given (refl, tt)
  of_mean ns x.nothing m c h = g.given tt
  of_mean ns x.the_item m c h = g.given (h.focus, tt)
  of_mean ns x.the_root m c h = of_root c.focus.item
  of_mean ns (x.variable height) m c h = g.given (of_bound_at height m.bound c.bound h.bound)
  of_mean ns (x.outer name) m c h = g.value_all (outer_value name c.outer)
  of_mean ns (x.axis_step axis test) m c h = of_step ns axis test c.focus.item
  of_mean ns (x.filtered e predicate) m c h = g.of_items (mean ns e c) (of_mean ns e m c h)
      (λ xs p. g.of_kept (kinds_of e m) (λ item position last. mean ns predicate (at c item position last)) (length xs) 1 xs p)
  of_mean ns (x.stepped e) m c h = g.of_items (mean ns e c) (of_mean ns e m c h) (λ xs p. g.given (g.are_ordered (kinds_of e m) ns xs p))
  of_mean ns (x.slash e step) m c h = g.of_then (mean ns e c)
      (λ xs. g.of_path (kinds_of step (record m { focus = k.nodes })) ns (λ item position last. mean ns step (at c item position last))
      (λ item position last p. of_mean ns step (record m { focus = k.nodes }) (at c item position last) (record { focus = p; bound = h.bound })) xs)
  of_mean ns (x.comma e f) m c h = g.of_joined (mean ns e c) (mean ns f c)
      (g.value-within (kinds_of e m) (kinds_of (x.comma e f) m) (g.within_left (kinds_of e m) (kinds_of f m)) (mean ns e c) (of_mean ns e m c h))
      (g.value-within (kinds_of f m) (kinds_of (x.comma e f) m) (g.within_right (kinds_of e m) (kinds_of f m)) (mean ns f c) (of_mean ns f m c h))
  of_mean ns (x.both e f) m c h = g.of_then (truth_of (mean ns e c)) (λ b. g.of_either b (v.of_boolean (truth_of (mean ns f c))) (g.given (refl, tt)))
  of_mean ns (x.either e f) m c h = g.of_then (truth_of (mean ns e c)) (λ b. g.of_either b (g.given (refl, tt)) (v.of_boolean (truth_of (mean ns f c))))
  of_mean ns (x.operated operator e f) m c h = g.of_then (mean ns e c)
      (λ xs. g.of_then (mean ns f c) (λ ys. v.of_operated ns (comparison_of operator) operator xs ys))
  of_mean ns (x.signed signs e) m c h = g.of_then (mean ns e c) (λ xs. v.of_signed signs (items.atomised ns xs))
  of_mean ns (x.chosen condition e f) m c h = g.of_then (truth_of (mean ns condition c)) (λ b. g.of_either b
      (g.value-within (kinds_of e m) (kinds_of (x.comma e f) m) (g.within_left (kinds_of e m) (kinds_of f m)) (mean ns e c) (of_mean ns e m c h))
      (g.value-within (kinds_of f m) (kinds_of (x.comma e f) m) (g.within_right (kinds_of e m) (kinds_of f m)) (mean ns f c) (of_mean ns f m c h)))
  of_mean ns (x.bound binder e body) m c h = g.of_items (mean ns e c) (of_mean ns e m c h)
      (λ xs p. of_bound_by binder (kinds_of e m)
      (λ item q. of_mean ns body (record m { bound = kinds_of e m ∷ m.bound }) (inside c item) (record { focus = h.focus; bound = (q, h.bound) })) xs p)
  of_mean ns (x.cast word type optional e) m c h = g.of_then (mean ns e c) (λ xs. v.of_cast ns word type optional (items.atomised ns xs))
  of_mean ns (x.called function arguments) m c h = of_arguments (first_kinds arguments m) (means ns arguments c) (of_means ns arguments m c h)
      (λ values p. v.of_call ns function (first_kinds arguments m) c.focus values p)

  of_means : (ns : List Node) (arguments : Exps) (expected : Expected) (c : Context) → Suits expected c →
      AreArguments (first_kinds arguments expected) (means ns arguments c)
  of_means ns x.no_more m c h = tt
  of_means ns (x.argument e arguments) m c h = first_of (kinds_of e m) (mean ns e c) (means ns arguments c) (of_mean ns e m c h)
