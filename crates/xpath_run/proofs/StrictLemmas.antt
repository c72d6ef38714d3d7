-- What is made of values that are all evaluated first.
use Rattle.std.proofs.Common.{◌≡◌, ℕ, ◌≤◌, true, List, [], ◌∷◌, Ok, Err, refl, sym, ap, ◌∙◌, arith}
use Rattle.std.proofs.lemmas.Bool.{false≢true}
use Rattle.inv_base.specs.Tree.{Node, Name}
use Rattle.xpath_grammar.specs.declared.functions.Function.TheVariants as f
use Rattle.xpath_items.specs.declared.item.Item.{Item}
use Rattle.xpath_items.specs.declared.item.Item.TheVariants as i
use Rattle.xpath_items.specs.declared.outcome.Focus.{Focus}
use Rattle.xpath_meaning.specs.Values.{Value, then_}
use Rattle.xpath_meaning.specs.Functions.{call}
use Rattle.xpath_meaning.specs.Resolving.{Operand, arguments_of}
use Rattle.xpath_meaning.specs.Meaning.{Context, mean, means}
use Rattle.xpath_plan.specs.declared.plan_node.Separator.{Separator}
use Rattle.xpath_plan.specs.declared.plan_node.Operation.{Operation}
use Rattle.xpath_plan.specs.declared.plan_node.Operation.TheVariants as m
use Rattle.xpath_plan.specs.declared.plan_node.PlanNode.{PlanNode}
use Rattle.xpath_plan.specs.Plans.{made}
use Rattle.xpath_parts.specs.Contexts.{operands_of}
use Rattle.xpath_parts.specs.Depths.{deepest}
use Rattle.xpath_parts.specs.Finishing.{is_strict, wanted, first_alone, finished}
use Rattle.xpath_parts.proofs.DepthLemmas.{first_alone-no_deeper}

one-argument : (v : Value) (g : List (List Item) → Value) → then_ v (λ value. g (value ∷ [])) ≡ then_ (then_ v (λ value. Ok (value ∷ []))) g
one-argument (Ok items) g = refl
one-argument (Err error) g = refl

same-value : (v : Value) → v ≡ then_ v (λ items. Ok items)
same-value (Ok items) = refl
same-value (Err error) = refl

-- `matches` with its pattern, at the value of the first argument
matches-value : (nodes : List Node) (pattern : List ℕ) (v : Value) (focus : Focus) →
    then_ (then_ v (λ items. Ok (items ∷ (i.String pattern ∷ []) ∷ []))) (call nodes f.Matches focus)
    ≡ then_ (then_ v (λ items. Ok (items ∷ []))) (finished nodes (m.Matches pattern) focus)
matches-value nodes pattern (Ok items) focus = refl
matches-value nodes pattern (Err error) focus = refl

strict-value : (nodes : List Node) (kind : Operation) (parts : List Operand) (c : Context) → is_strict kind ≡ true
    → mean nodes (made kind parts) c ≡ then_ (means nodes (arguments_of (wanted kind parts)) c) (finished nodes kind c.focus)
strict-value nodes (m.Cast word function optional) [] c h = refl
strict-value nodes (m.Cast word function optional) (part ∷ parts) c h =
    one-argument (mean nodes part.1 c) (finished nodes (m.Cast word function optional) c.focus)
strict-value nodes (m.Signs signs) [] c h = refl
strict-value nodes (m.Signs signs) (part ∷ parts) c h = one-argument (mean nodes part.1 c) (finished nodes (m.Signs signs) c.focus)
strict-value nodes m.Only [] c h = refl
strict-value nodes m.Only (part ∷ parts) c h = same-value (mean nodes part.1 c) ∙ one-argument (mean nodes part.1 c) (finished nodes m.Only c.focus)
strict-value nodes (m.Call function) parts c h = refl
strict-value nodes (m.Matches pattern) [] c h = refl
strict-value nodes (m.Matches pattern) (part ∷ parts) c h = matches-value nodes pattern (mean nodes part.1 c) c.focus
strict-value nodes m.Nothing parts c h = refl
strict-value nodes m.Chain parts c h = absurd (false≢true h)
strict-value nodes (m.Bound binder) parts c h = absurd (false≢true h)
strict-value nodes m.Conditional parts c h = absurd (false≢true h)
strict-value nodes (m.Once slot height) parts c h = absurd (false≢true h)
strict-value nodes m.FilteredStep parts c h = absurd (false≢true h)
strict-value nodes m.FreeStep parts c h = absurd (false≢true h)
strict-value nodes m.Filtered parts c h = absurd (false≢true h)

first_alone-of : (names : List Name) (parts : List (Separator × PlanNode)) → first_alone (operands_of names parts) ≡ operands_of names (first_alone parts)
first_alone-of names [] = refl
first_alone-of names (part ∷ parts) = refl

wanted-of : (names : List Name) (kind : Operation) (parts : List (Separator × PlanNode)) → wanted kind (operands_of names parts)
    ≡ operands_of names (wanted kind parts)
wanted-of names (m.Cast word function optional) parts = first_alone-of names parts
wanted-of names (m.Signs signs) parts = first_alone-of names parts
wanted-of names m.Only parts = first_alone-of names parts
wanted-of names (m.Call function) parts = refl
wanted-of names (m.Matches pattern) parts = first_alone-of names parts
wanted-of names _ parts = refl

pub wanted-no_deeper : (kind : Operation) (parts : List (Separator × PlanNode)) → deepest (wanted kind parts) ≤ deepest parts
wanted-no_deeper (m.Cast word function optional) parts = first_alone-no_deeper parts
wanted-no_deeper (m.Signs signs) parts = first_alone-no_deeper parts
wanted-no_deeper m.Only parts = first_alone-no_deeper parts
wanted-no_deeper (m.Call function) parts = omega arith
wanted-no_deeper (m.Matches pattern) parts = first_alone-no_deeper parts
wanted-no_deeper _ parts = omega arith

-- a strict kind, at the parts that it wants
pub strict : (nodes : List Node) (names : List Name) (kind : Operation) (parts wanted_parts : List (Separator × PlanNode)) (c : Context) → is_strict kind
    ≡ true →
    wanted_parts ≡ wanted kind parts
    → mean nodes (made kind (operands_of names parts)) c ≡ then_ (means nodes (arguments_of (operands_of names wanted_parts)) c) (finished nodes kind c.focus)
strict nodes names kind parts wanted_parts c h is =
    strict-value nodes kind (operands_of names parts) c h
    ∙ ap (λ parts. then_ (means nodes (arguments_of parts) c) (finished nodes kind c.focus)) (wanted-of names kind parts ∙ ap (operands_of names) (sym is))
