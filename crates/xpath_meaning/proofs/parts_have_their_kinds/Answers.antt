use Rattle.xpath_types.specs.Judging.{judged}
use Rattle.xpath_meaning.specs.Resolving.{resolved}
use Rattle.xpath_meaning.specs.Meaning.{mean}
use Rattle.xpath_meaning.specs.ItemKinds.{kinds_of}
use Rattle.xpath_meaning.specs.PartKinds.{names, expected}
use Rattle.xpath_meaning.proofs.KindFacts.{value-within}
use Rattle.xpath_meaning.proofs.MeaningKinds.{of_mean}
use Rattle.xpath_meaning.proofs.TreeKinds.{tree_within}
use Rattle.xpath_meaning.proofs.parts_have_their_kinds.Goals as goal

pub returns : goal.returns
returns c = λ nodes env bound at token x h scope suits.
    value-within (kinds_of (resolved env.declared (names bound) x) (expected env bound)) (judged env token x).kinds (tree_within env bound token x h scope)
    (mean nodes (resolved env.declared (names bound) x) at) (of_mean nodes (resolved env.declared (names bound) x) (expected env bound) at suits)
