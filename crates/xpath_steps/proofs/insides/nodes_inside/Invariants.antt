use Rattle.std.proofs.Common.{◌≡◌, ◌<◌, List, length, IfSome}
use Rattle.inv_base.specs.Tree.{Name}
use Rattle.xpath_plan.specs.Plans.{test_seen}
use Rattle.xpath_walks.specs.Tests.{numbers_of}
use Rattle.xpath_walks.specs.Walks.{IsWalked}
use Rattle.xpath_steps.proofs.CoverLemmas.{Gone}
use Rattle.xpath_steps.proofs.insides.nodes_inside.Given as goal

abbrev pub invariant-from : goal.invariant-from
invariant-from g l = record {
  around : IfSome l.around (λ m. m < length l.doc.nodes);
  gone : (names : List Name) → l.numbers ≡ numbers_of l.doc.names names → (w : IsWalked l.doc)
      → Gone l.doc w (test_seen names l.test) l.from l.n-index l.around l.found.items;
}
