-- More kinds around an expression are more kinds of its value.
use Rattle.std.proofs.Common.{◌≡◌, ℕ, Bool, true, false, ◌||◌, ◌==◌, List, [], ◌∷◌, length, refl, sym, ap, suc, true≢false}
use Rattle.xpath_grammar.specs.declared.operators.Binder.{Binder}
use Rattle.xpath_grammar.specs.declared.operators.Binder.TheVariants as b
use Rattle.xpath_grammar.specs.declared.functions.Function.{Function}
use Rattle.xpath_grammar.specs.declared.functions.Function.TheVariants as f
use Rattle.xpath_types.specs.declared.kinds.Kinds.{Kinds}
use Rattle.xpath_types.specs.Kinds as k
use Rattle.xpath_types.specs.Kinds.{united}
use Rattle.xpath_types.specs.Functions.{value_kinds}
use Rattle.xpath_items.specs.declared.item.Item.{Item}
use Rattle.xpath_items.specs.declared.item.Item.TheVariants as i
use Rattle.xpath_meaning.specs.Expressions as x
use Rattle.xpath_meaning.specs.Expressions.{Exp, Exps}
use Rattle.xpath_meaning.specs.ItemKinds.{Expected, kinds_at, bound_kinds, kinds_of, first_kinds}
use Rattle.xpath_meaning.proofs.KindFacts.{Within, or_left, or_right, none_has}

pub same : (a : Kinds) → Within a a
same a item h = h

pub nothing_within : (a : Kinds) → Within k.no_kinds a
nothing_within a item h = absurd (none_has item h)

-- from one of two
or_within : (p q s t : Bool) → (p ≡ true → s ≡ true) → (q ≡ true → t ≡ true) → (p || q) ≡ true → (s || t) ≡ true
or_within true q s t g h e = or_left s t (g refl)
or_within false q s t g h e = or_right s t (h e)

pub united_within : (a b c d : Kinds) → Within a c → Within b d → Within (united a b) (united c d)
united_within a b c d g h (i.Node n) e = or_within a.node b.node c.node d.node (g (i.Node n)) (h (i.Node n)) e
united_within a b c d g h (i.Boolean t) e = or_within a.boolean b.boolean c.boolean d.boolean (g (i.Boolean t)) (h (i.Boolean t)) e
united_within a b c d g h (i.Number z) e = or_within a.number b.number c.number d.number (g (i.Number z)) (h (i.Number z)) e
united_within a b c d g h (i.String s) e = or_within a.string b.string c.string d.string (g (i.String s)) (h (i.String s)) e
united_within a b c d g h (i.Untyped s) e = or_within a.untyped b.untyped c.untyped d.untyped (g (i.Untyped s)) (h (i.Untyped s)) e
united_within a b c d g h (i.Date day) e = or_within a.date b.date c.date d.date (g (i.Date day)) (h (i.Date day)) e

or_twice : (p : Bool) → (p || p) ≡ true → p ≡ true
or_twice true e = refl
or_twice false e = e

united_same : (a : Kinds) → Within (united a a) a
united_same a (i.Node n) e = or_twice a.node e
united_same a (i.Boolean t) e = or_twice a.boolean e
united_same a (i.Number z) e = or_twice a.number e
united_same a (i.String s) e = or_twice a.string e
united_same a (i.Untyped s) e = or_twice a.untyped e
united_same a (i.Date day) e = or_twice a.date e

-- two that are within one
pub both_within : (a b c : Kinds) → Within a c → Within b c → Within (united a b) c
both_within a b c g h item e = united_same c item (united_within a b c c g h item e)

-- Functions

a_node : Item
a_node = i.Node 0

atomised_within : (a b : Kinds) → Within a b → Within (k.atomised a) (k.atomised b)
atomised_within a b w (i.Node n) e = e
atomised_within a b w (i.Boolean t) e = w (i.Boolean t) e
atomised_within a b w (i.Number z) e = w (i.Number z) e
atomised_within a b w (i.String s) e = w (i.String s) e
atomised_within a b w (i.Untyped s) e = or_within a.node a.untyped b.node b.untyped (w (i.Node 0)) (w (i.Untyped s)) e
atomised_within a b w (i.Date day) e = w (i.Date day) e

extreme_within : (a b : Kinds) → Within a b → Within (k.extreme a) (k.extreme b)
extreme_within a b w (i.Node n) e = e
extreme_within a b w (i.Boolean t) e = e
extreme_within a b w (i.Number z) e = or_within a.node (a.untyped || a.number) b.node (b.untyped || b.number) (w (i.Node 0))
    (λ h. or_within a.untyped a.number b.untyped b.number (w (i.Untyped [])) (w (i.Number z)) h) e
extreme_within a b w (i.String s) e = w (i.String s) e
extreme_within a b w (i.Untyped s) e = e
extreme_within a b w (i.Date day) e = w (i.Date day) e

pub value_within : (function : Function) (a b : Kinds) → Within a b → Within (value_kinds function a) (value_kinds function b)
value_within f.Reverse a b w = w
value_within f.Data a b w = atomised_within a b w
value_within f.DistinctValues a b w = atomised_within a b w
value_within f.Min a b w = extreme_within a b w
value_within f.Max a b w = extreme_within a b w
value_within _ a b w = λ item h. h

-- Expressions

abbrev pub AreWithin : List Kinds → List Kinds → Type 0
AreWithin [] [] = Unit {0}
AreWithin (a ∷ around) (b ∷ others) = Within a b × AreWithin around others
AreWithin [] (b ∷ others) = ⊥
AreWithin (a ∷ around) [] = ⊥

pub are_same : (kinds : List Kinds) → AreWithin kinds kinds
are_same [] = tt
are_same (a ∷ around) = (same a, are_same around)

pub record LiesWithin (m n : Expected) : Type 0 where
  pub focus : Within m.focus n.focus
  pub bound : AreWithin m.bound n.bound

same_lengths : (kinds others : List Kinds) → AreWithin kinds others → length kinds ≡ length others
same_lengths [] [] h = refl
same_lengths (a ∷ around) (b ∷ others) h = ap suc (same_lengths around others h.1)
same_lengths [] (b ∷ others) h = absurd h
same_lengths (a ∷ around) [] h = absurd h

at_within : (height : ℕ) (kinds others : List Kinds) → AreWithin kinds others → Within (kinds_at height kinds) (kinds_at height others)
at_within height [] [] h = same k.no_kinds
at_within height (a ∷ around) (b ∷ others) h = go (height == length around) (height == length others) (ap (λ n. height == n) (same_lengths around others h.1))
    (at_within height around others h.1)
  where
    go : (p q : Bool) → p ≡ q → Within (kinds_at height around) (kinds_at height others)
        → Within (elim p as (λ _. Kinds) [ true ↦ a | false ↦ kinds_at height around ]) (elim q as (λ _. Kinds) [ true ↦ b | false ↦ kinds_at height others ])
    go true true e w = h.0
    go false false e w = w
    go true false e w = absurd (true≢false e)
    go false true e w = absurd (true≢false (sym e))
at_within height [] (b ∷ others) h = absurd h
at_within height (a ∷ around) [] h = absurd h

bound_within : (binder : Binder) (a b : Kinds) → Within a b → Within (bound_kinds binder a) (bound_kinds binder b)
bound_within b.For a c w = w
bound_within _ a c w = λ item h. h

mutual
  pub kinds_within : (e : Exp) (m n : Expected) → LiesWithin m n → Within (kinds_of e m) (kinds_of e n)
  kinds_within x.the_item m n h = h.focus
  kinds_within (x.variable height) m n h = at_within height m.bound n.bound h.bound
  kinds_within (x.filtered e predicate) m n h = kinds_within e m n h
  kinds_within (x.stepped e) m n h = kinds_within e m n h
  kinds_within (x.slash e step) m n h = kinds_within step (record m { focus = k.nodes }) (record n { focus = k.nodes })
      (record { focus = same k.nodes; bound = h.bound })
  kinds_within (x.comma e f) m n h = united_within (kinds_of e m) (kinds_of f m) (kinds_of e n) (kinds_of f n) (kinds_within e m n h) (kinds_within f m n h)
  kinds_within (x.chosen condition e f) m n h = united_within (kinds_of e m) (kinds_of f m) (kinds_of e n) (kinds_of f n) (kinds_within e m n h)
      (kinds_within f m n h)
  kinds_within (x.bound binder e body) m n h = bound_within binder (kinds_of body (record m { bound = kinds_of e m ∷ m.bound }))
      (kinds_of body (record n { bound = kinds_of e n ∷ n.bound }))
      (kinds_within body (record m { bound = kinds_of e m ∷ m.bound }) (record n { bound = kinds_of e n ∷ n.bound })
      (record { focus = h.focus; bound = (kinds_within e m n h, h.bound) }))
  kinds_within (x.called function arguments) m n h = value_within function (first_kinds arguments m) (first_kinds arguments n) (firsts_within arguments m n h)
  kinds_within _ m n h = λ item p. p

  firsts_within : (arguments : Exps) (m n : Expected) → LiesWithin m n → Within (first_kinds arguments m) (first_kinds arguments n)
  firsts_within x.no_more m n h = same k.no_kinds
  firsts_within (x.argument e arguments) m n h = kinds_within e m n h
