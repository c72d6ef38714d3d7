-- What a turn of each loop keeps.
use Rattle.std.proofs.Common.{◌≡◌, ℕ, suc, ◌+◌, ◌<◌, Bool, true, false, List, [], ◌∷◌, ◌++◌, length, drop, get_or, Result, Ok, Err, if◌then◌else◌, refl, sym}
use Rattle.std.proofs.Common.{ap, ◌∙◌, subst, arith, append_assoc, append-nil}
use Rattle.std.proofs.lemmas.List.{drop_more}
use Rattle.inv_base.specs.Tree.{Node, Name}
use Rattle.xpath_items.specs.declared.fault.Fault.{Fault}
use Rattle.xpath_items.specs.declared.fault.Fault.TheVariants as m
use Rattle.xpath_items.specs.Faults.{Gives}
use Rattle.xpath_items.specs.declared.item.Item.{Item}
use Rattle.xpath_items.specs.declared.outcome.DynError.{DynError}
use Rattle.xpath_meaning.specs.Values.{Value, then_, joined}
use Rattle.xpath_meaning.specs.Steps.{turns, kept, keeps, with_kept, filtered_by}
use Rattle.xpath_meaning.specs.Expressions.{Exp}
use Rattle.xpath_meaning.specs.Resolving.{arguments_of}
use Rattle.xpath_meaning.specs.Meaning.{Context, mean, means}
use Rattle.xpath_operators.specs.Nodes.{IsWithin, AreWithin}
use Rattle.xpath_plan.specs.declared.plan_node.Separator.{Separator}
use Rattle.xpath_plan.specs.declared.plan_node.PlanNode.{PlanNode}
use Rattle.xpath_plan.specs.Plans.{seen}
use Rattle.xpath_parts.specs.Contexts.{operands_of}
use Rattle.xpath_parts.specs.Links.{linked_value, chain_value, linked_parts, kept_by_all}
use Rattle.xpath_run.proofs.Continuing.{behind_those}
use Rattle.xpath_parts.proofs.WithinLemmas.{within-along, within-append}

-- the rest of a list, from its next item on
pub here : {X : Type 0} (xs : List X) (i : ℕ) (x : X) → i < length xs → x ≡ get_or xs i x → drop i xs ≡ x ∷ drop (i + 1) xs
here xs i x h at = drop_more xs i x h ∙ ap (λ y. y ∷ drop (i + 1) xs) (sym at)

behind-again : {X : Type 0} (xs ys : List X) (others : Result (List X) DynError) →
    behind_those (xs ++ ys) others ≡ behind_those xs (then_ others (λ zs. Ok (ys ++ zs)))
behind-again xs ys (Ok zs) = ap Ok (append_assoc xs ys zs)
behind-again xs ys (Err error) = refl

-- Arguments

pub begun : (values : List (List Item)) (others : Result (List (List Item)) DynError) → values ≡ [] → behind_those values others ≡ others
begun values (Ok zs) is = ap (λ vs. Ok (vs ++ zs)) is
begun values (Err error) is = refl

module _ (nodes : List Node) (names : List Name) (c : Context) (parts : List (Separator × PlanNode)) (i : ℕ) (part : Separator
    × PlanNode) (within : i < length parts)
    (at : part ≡ get_or parts i part) where
  pub argument-ok : (values values' : List (List Item)) (items : List Item) → mean nodes (seen names part.1) c ≡ Ok items → values' ≡ values ++ items ∷ []
      → behind_those values' (means nodes (arguments_of (operands_of names (drop (i + 1) parts))) c) ≡ behind_those values
      (means nodes (arguments_of (operands_of names (drop i parts))) c)
  argument-ok values values' items is pushed =
      ap (λ values. behind_those values (means nodes (arguments_of (operands_of names (drop (i + 1) parts))) c)) pushed
      ∙ (behind-again values (items ∷ []) (means nodes (arguments_of (operands_of names (drop (i + 1) parts))) c)
      ∙ (ap (λ v. behind_those values
      (then_ v (λ value. then_ (means nodes (arguments_of (operands_of names (drop (i + 1) parts))) c) (λ values. Ok (value ∷ values))))) (sym is)
      ∙ ap (λ parts. behind_those values (means nodes (arguments_of (operands_of names parts)) c)) (sym (here parts i part within at))))

  pub argument-err : (values : List (List Item)) (error : DynError) → mean nodes (seen names part.1) c ≡ Err error
      → behind_those values (means nodes (arguments_of (operands_of names (drop i parts))) c) ≡ Err error
  argument-err values error is =
      ap (λ parts. behind_those values (means nodes (arguments_of (operands_of names parts)) c)) (here parts i part within at)
      ∙ ap (λ v. behind_those values (then_ v (λ value. then_ (means nodes (arguments_of (operands_of names (drop (i + 1) parts))) c)
      (λ values. Ok (value ∷ values))))) is

-- Links

pub link-step : (nodes : List Node) (names : List Name) (c : Context) (parts : List (Separator × PlanNode)) (i : ℕ) (part : Separator
    × PlanNode) (within : i < length parts)
    (at : part ≡ get_or parts i part) (before after : Value)
    → after ≡ linked_value nodes part.0 before (seen names part.1) c
    → chain_value nodes (linked_parts names (drop (i + 1) parts)) after c ≡ chain_value nodes (linked_parts names (drop i parts)) before c
link-step nodes names c parts i part within at before after is =
    ap (λ v. chain_value nodes (linked_parts names (drop (i + 1) parts)) v c) is
    ∙ ap (λ parts. chain_value nodes (linked_parts names parts) before c) (sym (here parts i part within at))

-- Predicates

module _ (f : Exp → Item → ℕ → ℕ → Value) (names : List Name) (parts : List (Separator × PlanNode)) (i : ℕ) (part : Separator
    × PlanNode) (within : i < length parts)
    (at : part ≡ get_or parts i part) (items : List Item) where
  abbrev kept_here : Value → Value
  kept_here v = then_ v (λ kept. kept_by_all f (operands_of names (drop (i + 1) parts)) kept)

  opened : kept_by_all f (operands_of names (drop i parts)) items ≡ kept_here (filtered_by (f (seen names part.1)) items)
  opened = ap (λ parts. kept_by_all f (operands_of names parts) items) (here parts i part within at)

  pub predicate-ok : (kept : List Item) → filtered_by (f (seen names part.1)) items ≡ Ok kept
      → kept_by_all f (operands_of names (drop (i + 1) parts)) kept ≡ kept_by_all f (operands_of names (drop i parts)) items
  predicate-ok kept is = sym (opened ∙ ap kept_here is)

  pub predicate-err : (error : DynError) → filtered_by (f (seen names part.1)) items ≡ Err error →
      kept_by_all f (operands_of names (drop i parts)) items ≡ Err error
  predicate-err error is = opened ∙ ap kept_here is

  pub predicate-fault : (whole : Value) (fault : Fault) → kept_by_all f (operands_of names (drop i parts)) items ≡ whole →
      Gives {X = List Item} (Err fault) (filtered_by (f (seen names part.1)) items) → Gives {X = List Item} (Err fault) whole
  predicate-fault whole m.Memory goes is = tt
  predicate-fault whole (m.Error error) goes is = sym goes ∙ predicate-err error is

-- The rest of what is gone through

pub fewer : {X : Type 0} (items rest : List X) (x : X) (long short : ℕ) → items ≡ x ∷ rest → short + 1 ≡ long → long ≡ length items → short ≡ length rest
fewer items rest x long short e l h = omega (arith, ap length e)

pub counts : {X : Type 0} (items rest : List X) (x : X) (position last : ℕ) → items ≡ x ∷ rest → position + length items ≡ last →
    position + 1 + length rest ≡ last
counts items rest x position last e h = omega (arith, ap length e, h)

pub rest-within : (count : ℕ) (items rest : List Item) (x : Item) → items ≡ x ∷ rest → AreWithin count items → IsWithin count x × AreWithin count rest
rest-within count items rest x e h = subst (AreWithin count) e h

pub kept-within : (count : ℕ) (b : Bool) (x : Item) (out out' : List Item) → out' ≡ out ++ (if b then x ∷ [] else []) → IsWithin count x → AreWithin count out →
    AreWithin count out'
kept-within count true x out out' e h k = within-along count out' (out ++ x ∷ []) e (within-append count out (x ∷ []) k (h, tt))
kept-within count false x out out' e h k = within-along count out' (out ++ []) e (within-append count out [] k tt)

-- Turns of a path

module _ (f : Item → ℕ → ℕ → Value) (last p q : ℕ) (q_is : q ≡ suc p) (x : Item) (xs items : List Item) (items_are : items ≡ x ∷ xs) (out : List Item) where
  pub turn-ok : (out' found : List Item) → f x q last ≡ Ok found → out' ≡ out ++ found
      → behind_those out' (turns f last (suc q) xs) ≡ behind_those out (turns f last (suc p) items)
  turn-ok out' found is appended =
      ap (λ out. behind_those out (turns f last (suc q) xs)) appended
      ∙ (behind-again out found (turns f last (suc q) xs)
      ∙ (ap (λ v. behind_those out (joined v (turns f last (suc q) xs))) (sym is)
      ∙ (ap (λ q. behind_those out (joined (f x q last) (turns f last (suc q) xs))) q_is
      ∙ ap (λ items. behind_those out (turns f last (suc p) items)) (sym items_are))))

  pub turn-err : (error : DynError) → f x q last ≡ Err error → behind_those out (turns f last (suc p) items) ≡ Err error
  turn-err error is =
      ap (λ items. behind_those out (turns f last (suc p) items)) items_are
      ∙ (ap (λ q. behind_those out (joined (f x q last) (turns f last (suc q) xs))) (sym q_is)
      ∙ ap (λ v. behind_those out (joined v (turns f last (suc q) xs))) is)

  -- and of a predicate
  abbrev kept_then : ℕ → Result Bool DynError → Value
  kept_then q r = then_ r (λ is_kept. then_ (kept f last (suc q) xs) (λ others. Ok (with_kept is_kept x others)))

  abbrev answered_then : ℕ → Value → Value
  answered_then q v = then_ v (λ answer. kept_then q (keeps q answer))

  kept-opened : behind_those out (kept f last (suc p) items) ≡ behind_those out (answered_then q (f x q last))
  kept-opened = ap (λ items. behind_those out (kept f last (suc p) items)) items_are ∙ ap (λ q. behind_those out (answered_then q (f x q last))) (sym q_is)

  with-kept : (b : Bool) (others : Value) → behind_those (out ++ (if b then x ∷ [] else [])) others ≡ behind_those out
      (then_ others (λ others. Ok (with_kept b x others)))
  with-kept true others = behind-again out (x ∷ []) others
  with-kept false (Ok zs) = ap (λ out. Ok (out ++ zs)) (append-nil out)
  with-kept false (Err error) = refl

  pub keep-ok : (answer : List Item) (b : Bool) (out' : List Item) → f x q last ≡ Ok answer → keeps q answer ≡ Ok b → out' ≡ out ++ (if b then x ∷ [] else [])
      → behind_those out' (kept f last (suc q) xs) ≡ behind_those out (kept f last (suc p) items)
  keep-ok answer b out' is judged pushed =
      ap (λ out. behind_those out (kept f last (suc q) xs)) pushed
      ∙ (with-kept b (kept f last (suc q) xs)
      ∙ (ap (λ r. behind_those out (kept_then q r)) (sym judged)
      ∙ (ap (λ v. behind_those out (answered_then q v)) (sym is)
      ∙ sym kept-opened)))

  pub keep-err : (error : DynError) → f x q last ≡ Err error → behind_those out (kept f last (suc p) items) ≡ Err error
  keep-err error is = kept-opened ∙ ap (λ v. behind_those out (answered_then q v)) is

  pub keep-unjudged : (answer : List Item) (error : DynError) → f x q last ≡ Ok answer → keeps q answer ≡ Err error →
      behind_those out (kept f last (suc p) items) ≡ Err error
  keep-unjudged answer error is judged =
      kept-opened ∙ (ap (λ v. behind_those out (answered_then q v)) is ∙ ap (λ r. behind_those out (kept_then q r)) judged)
