-- What a plan says of its parts, once its work is known.
use Rattle.std.proofs.Common.{◌≡◌, ℕ, ◌+◌, ◌*◌, ◌≤◌, List, [], ◌++◌, Option, Some, None, Ok, length, map, sym, ap, subst, ◌∙◌, append-nil, zero-add}
use Rattle.std.specs.List.{AllByRecursion}
use Rattle.inv_base.specs.Tree.{Name}
use Rattle.xpath_grammar.specs.Grammar.{Tree, Grammatical, level}
use Rattle.xpath_types.specs.declared.part.Part.{Part}
use Rattle.xpath_types.specs.Judging.{judged}
use Rattle.xpath_types.specs.Parts.{placed, facts}
use Rattle.xpath_types.specs.Refusals.{first_of}
use Rattle.xpath_types.specs.Scopes.{Declared}
use Rattle.xpath_types.specs.Typing.{Typing, typing_of, answer, outermost}
use Rattle.xpath_meaning.specs.Resolving.{resolved}
use Rattle.xpath_plan.specs.declared.plan_node.PlanNode.{PlanNode}
use Rattle.xpath_plan.specs.Plans.{seen}
use Rattle.xpath_plan.specs.Claims.{Kept, Known, known, AreNumbered, IsFree, IsPlaced, IsSound}
use Rattle.xpath_plan.specs.Shapes.{shapes, apart, count_kept}
use Rattle.xpath_plan.specs.Walking.{walked}
use Rattle.xpath_plan.proofs.SeenLaws.{known-exp}
use Rattle.xpath_plan.proofs.WalkLaws.{walked-exp, walked-depth, numbered}
use Rattle.xpath_plan.proofs.StatedLaws.{shown-is, counted}
use Rattle.xpath_plan.proofs.SoundLaws.{Alone, Moving, all-placed, steady, free}

abbrev typing_in : Declared → Tree → Typing
typing_in declared x = record { expression = x; declared = declared; parts = map facts (placed (outermost declared) 0 x) }

answered : (declared : Declared) (x : Tree) (typing : Typing) (refusal : Option _) → answer refusal (typing_in declared x) ≡ Ok typing →
    typing_in declared x ≡ typing
answered declared x typing None h = cc
answered declared x typing (Some refusal) h = absurd cc

-- of an expression that is typed, the parts are stated
pub parts-stated : (declared : Declared) (x : Tree) (typing : Typing) → typing_of declared x ≡ Ok typing →
    typing.parts ≡ map facts (placed (outermost declared) 0 x)
unfolding typing_of
parts-stated declared x typing h = ap (λ (t : Typing). t.parts) (sym (answered declared x typing (first_of None (judged (outermost declared) 0 x).refusals) h))

-- it is the expression that was typed
pub grammatical-typed : (declared : Declared) (x : Tree) (typing : Typing) → typing_of declared x ≡ Ok typing → Grammatical x → Grammatical typing.expression
unfolding typing_of
grammatical-typed declared x typing h = subst Grammatical
    (ap (λ (t : Typing). t.expression) (answered declared x typing (first_of None (judged (outermost declared) 0 x).refusals) h))

-- what is known of the work by all later names, at the beginning of the walk
pub known-first : (declared : Declared) (x y : Tree) (bound : List (List ℕ)) (parts : List Part) (names : List Name) (work : PlanNode) → bound ≡ [] → y ≡ x
    → ((later : List Name) → known (names ++ later) work ≡ walked declared bound parts 0 y) → known names work ≡ walked declared [] parts 0 x
known-first declared x y bound parts names work none same is =
    ap (λ names. known names work) (sym (append-nil names)) ∙ (is [] ∙ (λ j. walked declared (none j) parts 0 (same j)))

pub counted-first : (declared : Declared) (x y : Tree) (bound : List (List ℕ)) (parts : List Part) (slots : ℕ) → bound ≡ [] → y ≡ x
    → slots ≡ 0 + length (walked declared bound parts 0 y).kept → slots ≡ length (walked declared [] parts 0 x).kept
counted-first declared x y bound parts slots none same is =
    is ∙ (zero-add (length (walked declared bound parts 0 y).kept) ∙ (λ j. length (walked declared (none j) parts 0 (same j)).kept))

module _ (declared : Declared) (x : Tree) (parts : List Part) (names : List Name) (work : PlanNode) (slots : ℕ)
    (stated : parts ≡ map facts (placed (outermost declared) 0 x))
    (is : known names work ≡ walked declared [] parts 0 x) (count : slots ≡ length (walked declared [] parts 0 x).kept) where
  ended : parts ≡ map facts (placed (outermost declared) 0 x) ++ []
  ended = stated ∙ sym (append-nil (map facts (placed (outermost declared) 0 x)))

  pub plan-expression : seen names work ≡ resolved declared [] x
  plan-expression = sym (known-exp names work) ∙ (ap (λ (part : Known). part.exp) is ∙ walked-exp declared [] parts 0 x)

  pub plan-shapes : (known names work).shown apart ≡ shapes (outermost declared) 0 apart x
  plan-shapes = ap (λ (part : Known). part.shown apart) is ∙ shown-is (outermost declared) [] 0 0 apart x parts [] ended

  pub plan-slots : slots ≡ count_kept (shapes (outermost declared) 0 apart x)
  plan-slots = count ∙ counted (outermost declared) [] 0 0 apart x parts [] ended

  pub plan-depth : (known names work).depth ≤ 2 * level x
  plan-depth = subst (λ (part : Known). part.depth ≤ 2 * level x) (sym is) (walked-depth declared [] parts 0 x)

  pub plan-sound : Alone → Moving → Grammatical x → IsSound (record { names = names; work = work; slots = slots })
  plan-sound alone moving grammatical =
      let all : List Kept = (walked declared [] parts 0 x).kept in
      let same : (known names work).kept ≡ all = ap (λ (part : Known). part.kept) is in
      let slots_are : AreNumbered 0 all = numbered declared [] parts 0 x in
      record {
        count = count ∙ ap (λ (kept : List Kept). length kept) (sym same);
        placed = subst (λ kept. AllByRecursion (IsPlaced kept) kept) (sym same)
            (all-placed all slots_are (steady alone (outermost declared) [] 0 0 x parts [] ended grammatical));
        numbered = subst (AreNumbered 0) (sym same) slots_are;
        free = subst (AllByRecursion IsFree) (ap (λ (part : Known). part.free) (sym is)) (free moving (outermost declared) [] 0 0 x parts [] ended grammatical);
      }
