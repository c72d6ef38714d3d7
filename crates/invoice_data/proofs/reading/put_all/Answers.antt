use Rattle.invoice_data.proofs.EntryLemmas.{one_more, rest_fits, one_less}
use Rattle.invoice_data.proofs.reading.put_all.Goals as goal

pub founds-preserved : goal.founds-preserved
founds-preserved c = record {
  same = one_more _ _ _ _ _ c.in-Some.found c.in-Some.ensures.steps.0 c.in-Ok.ensures c.founds.invariant.same;
  fit = rest_fits _ _ c.in-Some.found c.in-Some.ensures.steps.0 c.founds.invariant.fit;
  len = one_less _ _ c.in-Some.found _ _ c.in-Some.ensures.steps.0 c.in-Some.ensures.steps.1 c.founds.invariant.len;
}
