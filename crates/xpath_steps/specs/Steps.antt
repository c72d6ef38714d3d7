-- Steps whose test is a plan's, by the names of the plan.
use Rattle.std.specs.Prelude.{◌≡◌, ℕ, List, [], Option, Some, None, Result, Ok, Err, IfOk, length}
use Rattle.std.specs.List.{flat_map}
use Rattle.inv_base.specs.Tree.{Node, Name}
use Rattle.node_arena.specs.Document.{Document}
use Rattle.xpath_grammar.specs.declared.step.Axis.{Axis}
use Rattle.xpath_grammar.specs.declared.step.Axis.TheVariants as a
use Rattle.xpath_grammar.specs.declared.step.KindTest.TheVariants as q
use Rattle.xpath_items.specs.declared.fault.Fault.{Fault}
use Rattle.xpath_items.specs.declared.item.Item.{Item}
use Rattle.xpath_items.specs.declared.outcome.DynError.{DynError}
use Rattle.xpath_items.specs.declared.outcome.DynError.TheVariants as e
use Rattle.xpath_items.specs.Faults.{Gives}
use Rattle.xpath_meaning.specs.Expressions.{NodeTest, of_kind}
use Rattle.xpath_meaning.specs.Steps.{step_from, in_document_order, path}
use Rattle.xpath_meaning.specs.Values.{Value, then_}
use Rattle.xpath_operators.specs.Nodes.{AreWithin}
use Rattle.xpath_plan.specs.Plans.{test_seen}
use Rattle.xpath_steps.specs.Numbers.{at_number}
use Rattle.xpath_walks.specs.declared.step.Step.{Step}
use Rattle.xpath_walks.specs.Tests.{numbers_of}
use Rattle.xpath_walks.specs.Walks.{axis_numbers}

-- the nodes of a step in the order of its axis; without a test there is no step, and its value is empty
abbrev pub step_seen : List Node → Axis → Option NodeTest → Item → Value
step_seen nodes axis None item = Ok []
step_seen nodes axis (Some test) item = step_from nodes axis test item

-- the same in document order, which is what a step without predicates means
abbrev pub stepped_seen : List Node → Axis → Option NodeTest → Item → Value
stepped_seen nodes axis None item = Ok []
stepped_seen nodes axis (Some test) item = then_ (step_from nodes axis test item) (λ items. Ok (in_document_order nodes items))

-- `/` and a step without predicates behind items
abbrev pub path_seen : List Node → Axis → Option NodeTest → List Item → Value
path_seen nodes axis test items = path nodes (λ item position last. step_seen nodes axis test item) items

-- the same, where each turn's nodes are in document order
abbrev pub stepped_path_seen : List Node → Axis → Option NodeTest → List Item → Value
stepped_path_seen nodes axis test items = path nodes (λ item position last. stepped_seen nodes axis test item) items

-- `//` and a step without predicates on the child axis behind items (XPath 2.0, section 3.2.4)
abbrev pub inside_seen : List Node → Option NodeTest → List Item → Value
inside_seen nodes test items =
    then_ (stepped_path_seen nodes a.DescendantOrSelf (Some (of_kind q.Node)) items) (stepped_path_seen nodes a.Child test)

-- Exactly this is given of the step's test, for any names that the step's numbers are those of.
abbrev pub GivesOf : {X : Type 0} → Document → Step → Result X Fault → (Option NodeTest → Result X DynError) → Type 0
GivesOf document step result what =
    (names : List Name) → step.numbers.now ≡ numbers_of document.names names → Gives result (what (test_seen names step.test.now))

-- The nodes that are given are those of the document, where the step's numbers are those of some names.
abbrev pub GivesWithin : Document → Step → Result (List Item) Fault → Type 0
GivesWithin document step result =
    (names : List Name) → step.numbers.now ≡ numbers_of document.names names → IfOk result (AreWithin (length document.nodes))

-- a step at an item that is no node
abbrev pub off_nodes : Option NodeTest → Value
off_nodes None = Ok []
off_nodes (Some test) = Err e.XPTY0020

-- the numbers of the nodes of a step from each item, one item's behind the other's
abbrev pub numbers_over : List Node → Axis → Option NodeTest → List Item → List ℕ
numbers_over nodes axis test items = flat_map (at_number (λ n. axis_numbers nodes axis n test)) items
