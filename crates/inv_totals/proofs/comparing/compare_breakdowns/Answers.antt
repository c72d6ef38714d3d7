use Rattle.std.proofs.Common.{◌++◌, sym, ap, ◌∙◌}
use Rattle.inv_totals.specs.Totals.{in_breakdown}
use Rattle.inv_totals.proofs.CompareLemmas.{found-append, breakdowns-more}
use Rattle.inv_totals.proofs.comparing.compare_breakdowns.Goals as goal

pub breakdowns-preserved : goal.breakdowns-preserved
breakdowns-preserved c = record {
  tally = c.in_ok-compare_breakdown.ensures.tally;
  found = found-append c.args.found.now c.breakdowns.found c.compare_breakdown.new.found _ _ c.breakdowns.invariant.found
      c.in_ok-compare_breakdown.ensures.found
      ∙ ap (λ x. c.args.found.now ++ x) (sym (breakdowns-more (in_breakdown c.args.i.now) c.breakdowns.before));
}
