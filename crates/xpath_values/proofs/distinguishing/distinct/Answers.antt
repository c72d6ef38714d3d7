use Rattle.std.specs.Cmp.{int_cmp_total}
use Rattle.xpath_values.specs.Distinct.{is_atomic}
use Rattle.xpath_values.proofs.DistinctLemmas.{distinct_start, distinct_more, distinct_end, known_start, all_at}
use Rattle.xpath_values.proofs.distinguishing.distinct.Goals as goal

pub items-init : goal.items-init
items-init c = record {
  kept = distinct_start c.new-kept.result.items c.args.items.now c.new-kept.ensures.items;
  known = known_start c.new-known.result c.new-kept.result.items c.new-known.ensures c.new-kept.ensures.items;
}

pub keep-requires : goal.keep-requires
keep-requires c = record {
  known = c.items.invariant.known;
  atomic = all_at is_atomic c.args.items.now c.items.item-index c.item-item.result c.items-test.true c.item-item.is c.requires;
}

pub items-preserved : goal.items-preserved
items-preserved c = record {
  kept = distinct_more int_cmp_total c.days_are_ordered.ensures.total _ _ c.args.items.now c.items.item-index c.item-item.result _ c.items-test.true
      c.item-item.is c.items.invariant.kept c.in_ok-keep.ensures.kept;
  known = c.in_ok-keep.ensures.known;
}

pub returns : goal.returns
returns c = distinct_end c.items.kept.items c.args.items.now c.items.item-index _ c.items-test.false c.items.invariant.kept
