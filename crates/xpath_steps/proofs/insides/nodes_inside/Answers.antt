use Rattle.std.proofs.Common.{◌<◌, length, sym, subst}
use Rattle.xpath_plan.specs.Plans.{test_seen}
use Rattle.xpath_steps.proofs.CoverLemmas.{at_within, begins, goes_on, ends}
use Rattle.xpath_steps.proofs.insides.nodes_inside.Goals as goal

pub from-init : goal.from-init
from-init g c = record {
  around = tt;
  gone = λ names is w. begins c.args.doc.now w (test_seen names c.args.test.now) c.args.from.now c.new-found.result.items c.new-found.ensures.items;
}

pub go_in-requires-clause-within : goal.go_in-requires-clause-within
go_in-requires-clause-within g c = at_within (length c.args.doc.now.nodes) c.args.from.now c.from.n-index c.n-item.result c.requires c.from-test.true
    c.n-item.is

pub from-preserved : goal.from-preserved
from-preserved g c = record {
  around = c.in_ok-go_in.ensures.within;
  gone = λ names is w. goes_on c.args.doc.now w (test_seen names c.args.test.now) c.args.from.now c.from.n-index c.n-item.result c.from.around
      c.in_ok-go_in.field-0
      c.from.found.items c.go_in.new.out.items c.n-item.is c.from-test.true
      (subst (λ k. c.n-item.result < k) (sym w.long)
      (at_within (length c.args.doc.now.nodes) c.args.from.now c.from.n-index c.n-item.result c.requires c.from-test.true c.n-item.is))
      (c.in_ok-go_in.ensures.goes names is) (c.from.invariant.gone names is w);
}

pub returns : goal.returns
returns g c = λ names is.
    ends c.args.doc.now c.documents_are_walkable.ensures (test_seen names c.args.test.now) c.args.from.now c.from.n-index c.from.around c.from.found.items
    c.from-test.false (c.from.invariant.gone names is c.documents_are_walkable.ensures)
