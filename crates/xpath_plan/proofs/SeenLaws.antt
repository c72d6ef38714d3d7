-- What is known of a work, part by part.
use Rattle.std.proofs.Common.{◌≡◌, ℕ, ◌+◌, ◌-◌, ◌<◌, ◌≤◌, Bool, true, false, ◌&&◌, List, [], ◌∷◌, ◌++◌, length, get_or, map, take, drop, refl, sym, ap, subst}
use Rattle.std.proofs.Common.{◌∙◌, arith, append_assoc, append-nil, length-append}
use Rattle.std.proofs.Math.Seq.{drop-drop}
use Rattle.std.proofs.lemmas.List.{drop_more, at_drop_all, length-take, take-take, take-append-drop, map-append}
use Rattle.inv_base.specs.Tree.{Name}
use Rattle.xpath_grammar.specs.Grammar as g
use Rattle.xpath_grammar.specs.Grammar.{Tree, Parts}
use Rattle.xpath_grammar.specs.View.{view, viewed}
use Rattle.xpath_grammar.specs.declared.expr.Expr.{Expr}
use Rattle.xpath_grammar.specs.declared.expr.Form.{Form}
use Rattle.xpath_grammar.specs.declared.expr.Label.{Label}
use Rattle.xpath_grammar.specs.declared.expr.Leaf.{Leaf}
use Rattle.xpath_types.specs.declared.part.Part.{Part}
use Rattle.xpath_types.specs.Judging.{labels}
use Rattle.xpath_types.specs.Scopes.{Declared}
use Rattle.xpath_meaning.specs.Expressions.{Exp}
use Rattle.xpath_meaning.specs.Resolving.{names_behind, begins_with_step, leaf_of}
use Rattle.xpath_plan.specs.declared.plan_node.Simple.{Simple}
use Rattle.xpath_plan.specs.declared.plan_node.Separator.{Separator}
use Rattle.xpath_plan.specs.declared.plan_node.Separator.TheVariants as l
use Rattle.xpath_plan.specs.declared.plan_node.Operation.{Operation}
use Rattle.xpath_plan.specs.declared.plan_node.Operation.TheVariants as m
use Rattle.xpath_plan.specs.declared.plan_node.PlanNode.{PlanNode, map-PlanNode}
use Rattle.xpath_plan.specs.declared.plan_node.PlanNode.TheOpen.{PlanNode-F}
use Rattle.xpath_plan.specs.declared.plan_node.PlanNode.TheFolds.{fold-roll-PlanNode, ind-PlanNode}
use Rattle.xpath_plan.specs.declared.plan_node.PlanNode.TheVariants as w
use Rattle.xpath_plan.specs.Plans.{label_of, simple_seen, made, seen_step, seen}
use Rattle.xpath_plan.specs.Claims.{Kept, Known, known_alone, known_node, known_step, known, operands_known, kept_known}
use Rattle.xpath_plan.specs.Kinds.{link_of, kind_of, second_literal}
use Rattle.xpath_plan.specs.Shapes.{one_if}
use Rattle.xpath_plan.specs.Walking.{size, sizes, is_kept_by, is_free_by, all_free_by, kept_if, kind_in, walked, walked_inside}
use Rattle.xpath_plan.proofs.WalkLaws.{node-kept, node-length, leaf-length}

-- each part with what is known of it
abbrev pub known_all : List Name → List (Separator × PlanNode) → List (Separator × Known)
known_all names works = map (λ part. (part.0, known names part.1)) works

pub known-simple : (names : List Name) (x : Simple) → known names (w.Simple x) ≡ known_alone (simple_seen names x)
known-simple names x = ap (known names) (sym (w.rolls-Simple x)) ∙ fold-roll-PlanNode Known (known_step names) (PlanNode-F.Simple x)

pub known-node : (names : List Name) (kind : Operation) (works : List (Separator × PlanNode)) → known names (w.Node kind works)
    ≡ known_node kind (known_all names works)
known-node names kind works = ap (known names) (sym (w.rolls-Node kind works)) ∙ fold-roll-PlanNode Known (known_step names) (PlanNode-F.Node kind works)

-- a work in its slot
pub slot-known : (names : List Name) (slot height : ℕ) (works : List (Separator × PlanNode)) (work : PlanNode) → works ≡ (l.Other, work) ∷ [] →
    known names (w.Node (m.Once slot height) works) ≡ kept_if true slot height (known names work)
slot-known names slot height works work is = known-node names (m.Once slot height) works ∙
    ap (λ works. known_node (m.Once slot height) (known_all names works)) is

-- The expression that is known of a work is the work's.

abbrev Agreeing : List Name → Type 0
Agreeing names = (work : PlanNode) × ((known names work).exp ≡ seen names work)

abbrev works_of : (names : List Name) → List (Separator × Agreeing names) → List (Separator × PlanNode)
works_of names parts = map (λ (p : Separator × Agreeing names). (p.0, p.1.0)) parts

operands-agree : (names : List Name) (parts : List (Separator × Agreeing names))
    → operands_known (known_all names (works_of names parts)) ≡ map (λ (p : Separator × Exp). (label_of p.0, p.1))
    (map (λ (p : Separator × PlanNode). (p.0, seen names p.1)) (works_of names parts))
operands-agree names [] = refl
operands-agree names (part ∷ parts) = λ j. (label_of part.0, part.1.1 j) ∷ operands-agree names parts j

step-agrees : (names : List Name) (y : PlanNode-F (Agreeing names))
    → (known_step names (map-PlanNode PlanNode Known (known names) (map-PlanNode (Agreeing names) PlanNode (λ e. e.0) y))).exp
    ≡ seen_step names (map-PlanNode PlanNode Exp (seen names) (map-PlanNode (Agreeing names) PlanNode (λ e. e.0) y))
step-agrees names (PlanNode-F.Simple x) = refl
step-agrees names (PlanNode-F.Node kind parts) = ap (made kind) (operands-agree names parts)

pub known-exp : (names : List Name) (work : PlanNode) → (known names work).exp ≡ seen names work
known-exp names = ind-PlanNode (λ work. (known names work).exp ≡ seen names work) (λ x y is.
    ap (λ (part : Known). part.exp) (fold-roll-PlanNode Known (known_step names) x)
    ∙ (subst (λ z. (known_step names (map-PlanNode PlanNode Known (known names) z)).exp ≡ seen_step names (map-PlanNode PlanNode Exp (seen names) z)) is
    (step-agrees names y)
    ∙ sym (fold-roll-PlanNode Exp (seen_step names) x)))

-- Tables that grow

more_names : (names names' : List Name) → take (length names) names' ≡ names → names' ≡ names ++ drop (length names) names'
more_names names names' grown = sym (take-append-drop (length names) names') ∙ ap (λ front. front ++ drop (length names) names') grown

-- what is so for all later names stays so
pub later-grown : {X : Type 0} (see : List Name → X) (x : X) (names names' : List Name) → take (length names) names' ≡ names
    → ((later : List Name) → see (names ++ later) ≡ x) → (later : List Name) → see (names' ++ later) ≡ x
later-grown see x names names' grown known later =
    ap see (ap (λ front. front ++ later) (more_names names names' grown) ∙ append_assoc names (drop (length names) names') later) ∙
    known (drop (length names) names' ++ later)

pub still-grown : (first names names' : List Name) → take (length first) names ≡ first → take (length names) names' ≡ names → take (length first) names' ≡ first
still-grown first names names' grown more =
    let long : length (take (length first) names) ≡ length first = ap length grown in
    let within : length first ≤ length names = omega (arith, long, length-take (length first) names) in
    sym (take-take (length first) (length names) names' within) ∙ (ap (take (length first)) more ∙ grown)

-- One part more

-- What a turn of the loop keeps: what is known of the parts so far, whether their predicates test no position, how many parts were
-- passed, and how many are kept.
pub record Goes (declared : Declared) (stated : List Part) (outer bound : List (List ℕ)) (first names : List Name) (parts : List (Label × Expr)) (i : ℕ)
    (works : List (Separator × PlanNode)) (height : ℕ)
    (begin before low slots : ℕ) (free : Bool) : Type 0 where
  pub whole : (later : List Name) → known_all (names ++ later) works ++
      walked_inside declared bound (drop before stated) slots (viewed (drop i parts)) ≡ walked_inside declared outer (drop begin stated) low (viewed parts)
  pub freely : (free && all_free_by (drop before stated) (viewed (drop i parts))) ≡ all_free_by (drop begin stated) (viewed parts)
  pub passed : before + sizes (viewed (drop i parts)) ≡ begin + sizes (viewed parts)
  pub counted : slots + length (kept_known (walked_inside declared bound (drop before stated) slots (viewed (drop i parts)))) ≡ low + length
      (kept_known (walked_inside declared outer (drop begin stated) low (viewed parts)))
  pub grown : take (length first) names ≡ first
  pub kept : drop (length bound - height) bound ≡ outer
  pub high : height ≤ length bound

and_assoc : (x y z : Bool) → ((x && y) && z) ≡ (x && (y && z))
and_assoc true y z = refl
and_assoc false y z = refl

sum_on : (a b c d e f : ℕ) → a ≡ b + c → b + (c + d) ≡ e + f → a + d ≡ e + f
sum_on a b c d e f h i = omega (arith, h, i)

module _ (declared : Declared) (stated : List Part) (bound : List (List ℕ)) (names names' : List Name) (parts : List (Label × Expr)) (i : ℕ)
    (part : Label × Expr) (at : part ≡ get_or parts i part) (h : i < length parts)
    (bound' : List (List ℕ)) (bound_is : bound' ≡ names_behind part.0 bound)
    (before before' slots slots' : ℕ) (before_is : before' ≡ before + size (view part.1))
    (slots_is : slots' ≡ slots + length (walked declared bound (drop before stated) slots (view part.1)).kept) where
  here : viewed (drop i parts) ≡ g.more part.0 (view part.1) (viewed (drop (i + 1) parts))
  here = ap viewed (drop_more parts i part h) ∙ ap (λ (it : Label × Expr). g.more it.0 (view it.1) (viewed (drop (i + 1) parts))) (sym at)

  this : Known
  this = walked declared bound (drop before stated) slots (view part.1)

  behind : drop before' stated ≡ drop (size (view part.1)) (drop before stated)
  behind = ap (λ n. drop n stated) before_is ∙ sym (drop-drop (size (view part.1)) before stated)

  abbrev rest : List (Separator × Known)
  rest = walked_inside declared bound' (drop before' stated) slots' (viewed (drop (i + 1) parts))

  opened : walked_inside declared bound (drop before stated) slots (viewed (drop i parts)) ≡ (link_of part.0, this) ∷ rest
  unfolding walked_inside this
  opened =
      let names_are : names_behind part.0 bound ≡ bound' = sym bound_is in
      let stated_are : drop (size (view part.1)) (drop before stated) ≡ drop before' stated = sym behind in
      let count_is : slots + length (walked declared bound (drop before stated) slots (view part.1)).kept ≡ slots' = sym slots_is in
      ap (walked_inside declared bound (drop before stated) slots) here
      ∙ (λ j. (link_of part.0, walked declared bound (drop before stated) slots (view part.1)) ∷ walked_inside declared (names_are j) (stated_are j)
      (count_is j) (viewed (drop (i + 1) parts)))

  pub step : (works works' : List (Separator × PlanNode)) (work : PlanNode) (all : List (Separator × Known)) (link : Separator) → take (length names) names'
      ≡ names
      → ((later : List Name) → known_all (names ++ later) works ++ walked_inside declared bound (drop before stated) slots (viewed (drop i parts)) ≡ all)
      → ((later : List Name) → known (names' ++ later) work ≡ walked declared bound (drop before stated) slots (view part.1))
      → link ≡ link_of part.0 → works' ≡ works ++ (link, work) ∷ [] → (later : List Name) → known_all (names' ++ later) works' ++ rest ≡ all
  unfolding this
  step works works' work all link grown whole is link_is pushed later =
      let front : List (Separator × Known) = known_all (names' ++ later) works in
      ap (λ works. known_all (names' ++ later) works ++ rest) pushed
      ∙ (ap (λ seen. seen ++ rest) (map-append (λ part. (part.0, known (names' ++ later) part.1)) works ((link, work) ∷ []))
      ∙ (append_assoc front ((link, known (names' ++ later) work) ∷ []) rest
      ∙ ((λ j. front ++ (link_is j, is later j) ∷ rest)
      ∙ (ap (λ more. front ++ more) (sym opened)
      ∙ later-grown (λ names. known_all names works ++ walked_inside declared bound (drop before stated) slots (viewed (drop i parts))) all names names' grown
      whole later))))

  pub still-free : (free free' all : Bool) → free' ≡ (free && is_free_by (drop before stated) part.0) →
      (free && all_free_by (drop before stated) (viewed (drop i parts))) ≡ all
      → (free' && all_free_by (drop before' stated) (viewed (drop (i + 1) parts))) ≡ all
  unfolding all_free_by
  still-free free free' all is so =
      let here_free : Bool = is_free_by (drop before stated) part.0 in
      let rest_free : Bool = all_free_by (drop before' stated) (viewed (drop (i + 1) parts)) in
      let opened_free : all_free_by (drop before stated) (viewed (drop i parts)) ≡ (here_free && rest_free) = ap (all_free_by (drop before stated)) here
      ∙ ap (λ behind. here_free && all_free_by behind (viewed (drop (i + 1) parts))) (sym behind) in
      ap (λ b. b && rest_free) is ∙ (and_assoc free here_free rest_free ∙ (ap (λ b. free && b) (sym opened_free) ∙ so))

  pub still-passed : (begin all : ℕ) → before + sizes (viewed (drop i parts)) ≡ begin + all → before' + sizes (viewed (drop (i + 1) parts)) ≡ begin + all
  unfolding sizes
  still-passed begin all so = sum_on before' before (size (view part.1)) (sizes (viewed (drop (i + 1) parts))) begin all before_is
      (ap (λ parts. before + sizes parts) (sym here) ∙ so)

  pub still-counted : (low all : ℕ) → slots + length (kept_known (walked_inside declared bound (drop before stated) slots (viewed (drop i parts)))) ≡ low + all
      → slots' + length (kept_known rest) ≡ low + all
  unfolding this
  still-counted low all so = sum_on slots' slots (length this.kept) (length (kept_known rest)) low all slots_is
      (ap (λ n. slots + n) (sym (length-append this.kept (kept_known rest))) ∙ (ap (λ inner. slots + length (kept_known inner)) (sym opened) ∙ so))

-- Behind the last part

viewed-labels : (parts : List (Label × Expr)) → map (λ part. part.0) parts ≡ labels (viewed parts)
viewed-labels [] = refl
viewed-labels (part ∷ parts) = λ j. part.0 ∷ viewed-labels parts j

module _ (declared : Declared) (stated : List Part) (outer bound : List (List ℕ)) (first names : List Name) (parts : List (Label × Expr)) (i : ℕ)
    (works : List (Separator × PlanNode)) (height : ℕ)
    (begin before low slots : ℕ) (free : Bool) (goes : Goes declared stated outer bound first names parts i works height begin before low slots free)
    (h : length parts ≤ i) where
  abbrev inner : List (Separator × Known)
  inner = walked_inside declared outer (drop begin stated) low (viewed parts)

  none : viewed (drop i parts) ≡ g.none
  none = at_drop_all viewed parts i h

  pub all-known : (later : List Name) → known_all (names ++ later) works ≡ inner
  unfolding walked_inside
  all-known later = sym (append-nil (known_all (names ++ later) works))
      ∙ (ap (λ parts. known_all (names ++ later) works ++ walked_inside declared bound (drop before stated) slots parts) (sym none) ∙ goes.whole later)

  and_true : (b : Bool) → (b && true) ≡ b
  and_true true = refl
  and_true false = refl

  pub all-free : free ≡ all_free_by (drop begin stated) (viewed parts)
  unfolding all_free_by
  all-free = sym (and_true free) ∙ (ap (λ parts. free && all_free_by (drop before stated) parts) (sym none) ∙ goes.freely)

  pub all-passed : before ≡ begin + sizes (viewed parts)
  unfolding sizes
  all-passed = let end : before + 0 ≡ begin + sizes (viewed parts) = ap (λ parts. before + sizes parts) (sym none) ∙ goes.passed in omega (arith, end)

  pub all-counted : slots ≡ low + length (kept_known inner)
  unfolding walked_inside
  all-counted =
      let end : slots + 0 ≡ low + length (kept_known inner) =
      ap (λ parts. slots + length (kept_known (walked_inside declared bound (drop before stated) slots parts))) (sym none) ∙ goes.counted in
      omega (arith, end)

  pub node-passed : (form : Form) (ahead : ℕ) → begin ≡ ahead + 1 → before ≡ ahead + size (g.node form (viewed parts))
  unfolding size
  node-passed form ahead begins = let all : before ≡ begin + sizes (viewed parts) = all-passed in omega (arith, all, begins)

  pub node-slots : (form : Form) (ahead new : ℕ) (keeps : Bool) → begin ≡ ahead + 1 → keeps ≡ is_kept_by (drop ahead stated) (g.node form (viewed parts)) →
      new ≡ slots + one_if keeps
      → new ≡ low + length (walked declared outer (drop ahead stated) low (g.node form (viewed parts))).kept
  node-slots form ahead new keeps begins keeps_is is =
      let behind : drop begin stated ≡ drop 1 (drop ahead stated) = ap (λ n. drop n stated) begins ∙ sym (drop-drop 1 ahead stated) in
      let one : one_if keeps ≡ one_if (is_kept_by (drop ahead stated) (g.node form (viewed parts))) = ap one_if keeps_is in
      let all : slots ≡ low + length (kept_known (walked_inside declared outer (drop 1 (drop ahead stated)) low (viewed parts)))
      = all-counted ∙ ap (λ stated. low + length (kept_known (walked_inside declared outer stated low (viewed parts)))) behind in
      let whole : length (walked declared outer (drop ahead stated) low (g.node form (viewed parts))).kept
      ≡ length (kept_known (walked_inside declared outer (drop 1 (drop ahead stated)) low (viewed parts))) + one_if
      (is_kept_by (drop ahead stated) (g.node form (viewed parts)))
      = node-length declared outer (drop ahead stated) low form (viewed parts) in
      omega (arith, is, one, all, whole)

  -- the work of the whole, in its slot where it is kept
  pub node-known : (form : Form) (kind : Operation) (ahead : ℕ) (keeps : Bool) (kept : PlanNode) (later : List Name)
      → kind ≡ kind_of declared form (begins_with_step (viewed parts)) free (second_literal (viewed parts)) (map (λ part. part.0) parts)
      → begin ≡ ahead + 1 → height ≡ length outer → keeps ≡ is_kept_by (drop ahead stated) (g.node form (viewed parts))
      → known (names ++ later) kept ≡ kept_if keeps slots height (known (names ++ later) (w.Node kind works))
      → known (names ++ later) kept ≡ walked declared outer (drop ahead stated) low (g.node form (viewed parts))
  unfolding walked
  node-known form kind ahead keeps kept later kind_is begins high keeps_is is =
      let behind : drop begin stated ≡ drop 1 (drop ahead stated) = ap (λ n. drop n stated) begins ∙ sym (drop-drop 1 ahead stated) in
      let named : kind ≡ kind_in declared form (drop begin stated) (viewed parts) = kind_is ∙
      (λ j. kind_of declared form (begins_with_step (viewed parts)) (all-free j) (second_literal (viewed parts)) (viewed-labels parts j)) in
      let node : known (names ++ later) (w.Node kind works) ≡ known_node (kind_in declared form (drop begin stated) (viewed parts)) inner =
      known-node (names ++ later) kind works ∙ (λ j. known_node (named j) (all-known later j)) in
      let slot : slots ≡ low + length (known_node (kind_in declared form (drop begin stated) (viewed parts)) inner).kept
      = all-counted ∙ ap (λ (kept : List Kept). low + length kept) (sym (node-kept declared form (drop begin stated) (viewed parts) inner)) in
      is ∙ ((λ j. kept_if (keeps_is j) (slot j) (high j) (node j))
      ∙ (λ j. kept_if (is_kept_by (drop ahead stated) (g.node form (viewed parts)))
      (low + length (known_node (kind_in declared form (behind j) (viewed parts)) (walked_inside declared outer (behind j) low (viewed parts))).kept)
      (length outer)
      (known_node (kind_in declared form (behind j) (viewed parts)) (walked_inside declared outer (behind j) low (viewed parts)))))

-- the work of a part without parts, in its slot where it is kept
pub leaf-known : (declared : Declared) (stated : List Part) (bound : List (List ℕ)) (names : List Name) (ahead low slots height : ℕ) (x : Leaf) (keeps : Bool)
    (work kept : PlanNode)
    → slots ≡ low → height ≡ length bound → keeps ≡ is_kept_by (drop ahead stated) (g.leaf x) → known names work ≡ known_alone (leaf_of declared bound x)
    → known names kept ≡ kept_if keeps slots height (known names work) → known names kept ≡ walked declared bound (drop ahead stated) low (g.leaf x)
unfolding walked
leaf-known declared stated bound names ahead low slots height x keeps work kept slots_are high keeps_is known_is is =
    let slot : slots ≡ low + 0 = omega (arith, slots_are) in
    is ∙ (λ j. kept_if (keeps_is j) (slot j) (high j) (known_is j))

pub leaf-passed : (ahead new : ℕ) (x : Leaf) → new ≡ ahead + 1 → new ≡ ahead + size (g.leaf x)
unfolding size
leaf-passed ahead new x is = is

pub leaf-slots : (declared : Declared) (stated : List Part) (bound : List (List ℕ)) (ahead low new : ℕ) (x : Leaf) (keeps : Bool) →
    keeps ≡ is_kept_by (drop ahead stated) (g.leaf x) → new ≡ low + one_if keeps
    → new ≡ low + length (walked declared bound (drop ahead stated) low (g.leaf x)).kept
leaf-slots declared stated bound ahead low new x keeps keeps_is is =
    is ∙ (ap (λ keeps. low + one_if keeps) keeps_is ∙ ap (λ n. low + n) (sym (leaf-length declared bound (drop ahead stated) low x)))
