-- The kinds of an expression, gathered part by part.
use Rattle.std.proofs.Common.{◌≡◌, Bool, true, false, ◌||◌, List, [], ◌∷◌, map, refl, sym, ap, ◌∙◌}
use Rattle.xpath_grammar.specs.declared.operators.Production.TheVariants as p
use Rattle.xpath_grammar.specs.declared.operators.Binder.TheVariants as b
use Rattle.xpath_grammar.specs.declared.expr.Form.{Form}
use Rattle.xpath_grammar.specs.declared.expr.Form.TheVariants as m
use Rattle.xpath_grammar.specs.declared.expr.Label.{Label}
use Rattle.xpath_grammar.specs.declared.expr.Label.TheVariants as k
use Rattle.xpath_types.specs.declared.uses.Uses.{Uses}
use Rattle.xpath_types.specs.Kinds.{Kinds, no_kinds, united, all_united}
use Rattle.xpath_types.specs.Scopes.{Declared}
use Rattle.xpath_types.specs.Judging.{branches, is_branch, first_kinds, last_kinds, call_kinds, form_kinds}
use Rattle.xpath_types.specs.Parts.{joined, no_uses}
use Rattle.xpath_types.specs.Walking.{gathered, called_in, kinds_concluded}

or-assoc : (a b c : Bool) → ((a || b) || c) ≡ (a || (b || c))
or-assoc true b c = refl
or-assoc false b c = refl

or-false : (a : Bool) → (a || false) ≡ a
or-false true = refl
or-false false = refl

pub united-assoc : (a b c : Kinds) → united (united a b) c ≡ united a (united b c)
united-assoc a b c = λ j. record {
  node = or-assoc a.node b.node c.node j;
  boolean = or-assoc a.boolean b.boolean c.boolean j;
  number = or-assoc a.number b.number c.number j;
  string = or-assoc a.string b.string c.string j;
  untyped = or-assoc a.untyped b.untyped c.untyped j;
  date = or-assoc a.date b.date c.date j;
}

united-none : (a : Kinds) → united a no_kinds ≡ a
united-none a = λ j. record {
  node = or-false a.node j;
  boolean = or-false a.boolean j;
  number = or-false a.number j;
  string = or-false a.string j;
  untyped = or-false a.untyped j;
  date = or-false a.date j;
}

pub joined-assoc : (a b c : Uses) → joined (joined a b) c ≡ joined a (joined b c)
joined-assoc a b c = λ j. record {
  position = or-assoc a.position b.position c.position j;
  root = or-assoc a.root b.root c.root j;
  item =
      or-assoc a.item b.item c.item j;
}

pub joined-none : (a : Uses) → joined a no_uses ≡ a
joined-none a = λ j. record { position = or-false a.position j; root = or-false a.root j; item = or-false a.item j }

-- the kinds gathered of several parts more
abbrev pub gathered_all : Form → Bool → Kinds → List (Label × Kinds) → Kinds
gathered_all form first so_far [] = so_far
gathered_all form first so_far (part ∷ parts) = gathered_all form false (gathered form part.0 first so_far part.1) parts

sequence : (first : Bool) (so_far : Kinds) (parts : List (Label × Kinds)) →
    gathered_all (m.Chain p.Sequence) first so_far parts ≡ united so_far (all_united (map (λ part. part.1) parts))
sequence first so_far [] = sym (united-none so_far)
sequence first so_far (part ∷ parts) = sequence false (united so_far part.1) parts ∙ united-assoc so_far part.1 (all_united (map (λ part. part.1) parts))

last_or : Kinds → List (Label × Kinds) → Kinds
last_or so_far [] = so_far
last_or so_far (part ∷ parts) = last_or part.1 parts

last-is : (so_far : Kinds) (part : Label × Kinds) (parts : List (Label × Kinds)) → last_or so_far (part ∷ parts) ≡ last_kinds (part ∷ parts)
unfolding last_or
last-is so_far part [] = refl
last-is so_far part (other ∷ parts) = last-is part.1 other parts

path : (first : Bool) (so_far : Kinds) (parts : List (Label × Kinds)) → gathered_all (m.Chain p.Path) first so_far parts ≡ last_or so_far parts
unfolding last_or
path first so_far [] = refl
path first so_far (part ∷ parts) = path false part.1 parts

path-last : (parts : List (Label × Kinds)) → gathered_all (m.Chain p.Path) true no_kinds parts ≡ last_kinds parts
path-last [] = refl
path-last (part ∷ parts) = path true no_kinds (part ∷ parts) ∙ last-is no_kinds part parts

for : (first : Bool) (so_far : Kinds) (parts : List (Label × Kinds)) → gathered_all (m.Bound b.For) first so_far parts ≡ last_or so_far parts
unfolding last_or
for first so_far [] = refl
for first so_far (part ∷ parts) = for false part.1 parts

for-last : (parts : List (Label × Kinds)) → gathered_all (m.Bound b.For) true no_kinds parts ≡ last_kinds parts
for-last [] = refl
for-last (part ∷ parts) = for true no_kinds (part ∷ parts) ∙ last-is no_kinds part parts

abbrev next_branch : Bool → Kinds → Kinds → Kinds
next_branch is kinds others = elim is as (λ _. Kinds) [ true ↦ united kinds others | false ↦ others ]

conditional : (first : Bool) (so_far : Kinds) (parts : List (Label × Kinds)) → gathered_all m.Conditional first so_far parts ≡ united so_far (branches parts)
conditional first so_far [] = sym (united-none so_far)
conditional first so_far (part ∷ parts) = conditional false (gathered m.Conditional part.0 first so_far part.1) parts ∙ by part.0 where
  by : (label : Label) → united (gathered m.Conditional label first so_far part.1) (branches parts) ≡ united so_far
      (next_branch (is_branch label) part.1 (branches parts))
  by k.First = united-assoc so_far part.1 (branches parts)
  by (k.Link operator) = united-assoc so_far part.1 (branches parts)
  by k.Comma = united-assoc so_far part.1 (branches parts)
  by (k.Binding lead name) = united-assoc so_far part.1 (branches parts)
  by k.Condition = refl
  by k.Then = united-assoc so_far part.1 (branches parts)
  by (k.Signed operators) = united-assoc so_far part.1 (branches parts)
  by k.Predicate = united-assoc so_far part.1 (branches parts)
  by k.Again = united-assoc so_far part.1 (branches parts)
  by k.Opened = united-assoc so_far part.1 (branches parts)
  by (k.Calling name) = united-assoc so_far part.1 (branches parts)

filter : (so_far : Kinds) (parts : List (Label × Kinds)) → gathered_all m.Filter false so_far parts ≡ so_far
filter so_far [] = refl
filter so_far (part ∷ parts) = filter so_far parts

parentheses : (so_far : Kinds) (parts : List (Label × Kinds)) → gathered_all m.Parentheses false so_far parts ≡ so_far
parentheses so_far [] = refl
parentheses so_far (part ∷ parts) = parentheses so_far parts

call : (so_far : Kinds) (parts : List (Label × Kinds)) → gathered_all m.Call false so_far parts ≡ so_far
call so_far [] = refl
call so_far (part ∷ parts) = call so_far parts

filter-first : (parts : List (Label × Kinds)) → gathered_all m.Filter true no_kinds parts ≡ first_kinds parts
filter-first [] = refl
filter-first (part ∷ parts) = filter part.1 parts

parentheses-first : (parts : List (Label × Kinds)) → gathered_all m.Parentheses true no_kinds parts ≡ first_kinds parts
parentheses-first [] = refl
parentheses-first (part ∷ parts) = parentheses part.1 parts

called : (declared : Declared) (parts : List (Label × Kinds)) →
    called_in declared (map (λ part. part.0) parts) (gathered_all m.Call true no_kinds parts) ≡ call_kinds declared parts
called declared [] = refl
called declared ((k.First, kinds) ∷ parts) = refl
called declared ((k.Link operator, kinds) ∷ parts) = refl
called declared ((k.Comma, kinds) ∷ parts) = refl
called declared ((k.Binding lead name, kinds) ∷ parts) = refl
called declared ((k.Condition, kinds) ∷ parts) = refl
called declared ((k.Then, kinds) ∷ parts) = refl
called declared ((k.Signed operators, kinds) ∷ parts) = refl
called declared ((k.Predicate, kinds) ∷ parts) = refl
called declared ((k.Again, kinds) ∷ parts) = refl
called declared ((k.Opened, kinds) ∷ parts) = refl
called declared ((k.Calling name, kinds) ∷ parts) = ap (called_in declared (k.Calling name ∷ map (λ part. part.0) parts)) (call kinds parts)

pub kinds-gathered : (declared : Declared) (form : Form) (parts : List (Label × Kinds)) →
    kinds_concluded declared form (map (λ part. part.0) parts) (gathered_all form true no_kinds parts) ≡ form_kinds declared form parts
kinds-gathered declared (m.Chain p.Sequence) parts = sequence true no_kinds parts
kinds-gathered declared (m.Chain p.Or) parts = refl
kinds-gathered declared (m.Chain p.And) parts = refl
kinds-gathered declared (m.Chain p.Comparison) parts = refl
kinds-gathered declared (m.Chain p.Range) parts = refl
kinds-gathered declared (m.Chain p.Sum) parts = refl
kinds-gathered declared (m.Chain p.Product) parts = refl
kinds-gathered declared (m.Chain p.Union) parts = refl
kinds-gathered declared (m.Chain p.Intersection) parts = refl
kinds-gathered declared (m.Chain p.Path) parts = path-last parts
kinds-gathered declared (m.Bound b.For) parts = for-last parts
kinds-gathered declared (m.Bound b.Some) parts = refl
kinds-gathered declared (m.Bound b.Every) parts = refl
kinds-gathered declared m.Conditional parts = conditional true no_kinds parts
kinds-gathered declared (m.Cast word type optional) parts = refl
kinds-gathered declared m.Signs parts = refl
kinds-gathered declared m.Filter parts = filter-first parts
kinds-gathered declared m.Parentheses parts = parentheses-first parts
kinds-gathered declared m.Call parts = called declared parts
