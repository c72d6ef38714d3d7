-- What `//` and a step by name mean at a node.
use Rattle.std.proofs.Common.{◌≡◌, ℕ, List, [], ◌∷◌, Option, Some, None, refl}
use Rattle.inv_base.specs.Tree.{Node}
use Rattle.xpath_grammar.specs.declared.expr.Label.TheVariants as k
use Rattle.xpath_grammar.specs.declared.step.Axis.TheVariants as a
use Rattle.xpath_tokens.specs.declared.token.Operator.TheVariants as o
use Rattle.xpath_items.specs.declared.item.Item.TheVariants as i
use Rattle.xpath_meaning.specs.Expressions.{NodeTest, the_item}
use Rattle.xpath_meaning.specs.Meaning.{Context, mean}
use Rattle.xpath_meaning.specs.Resolving.{step_of}
use Rattle.xpath_plan.specs.declared.plan_node.Operation.TheVariants as m
use Rattle.xpath_plan.specs.Plans.{made}
use Rattle.xpath_steps.specs.Steps.{inside_seen}

pub leading_value : (nodes : List Node) (test : Option NodeTest) (n : ℕ) (c : Context) → c.focus.item ≡ i.Node n
    → mean nodes (made m.Chain ((k.Link o.DoubleSlash, step_of a.Child test) ∷ [])) c ≡ inside_seen nodes test (i.Node 0 ∷ [])
leading_value nodes None n c e = rw e refl
leading_value nodes (Some test) n c e = rw e refl

pub inner_value : (nodes : List Node) (test : Option NodeTest) (n : ℕ) (c : Context) → c.focus.item ≡ i.Node n
    → mean nodes (made m.Chain ((k.First, the_item) ∷ (k.Link o.DoubleSlash, step_of a.Child test) ∷ [])) c ≡ inside_seen nodes test (i.Node n ∷ [])
inner_value nodes None n c e = rw e refl
inner_value nodes (Some test) n c e = rw e refl
