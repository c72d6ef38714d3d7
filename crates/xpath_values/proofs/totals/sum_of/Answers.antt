use Rattle.std.proofs.Common.{◌∙◌}
use Rattle.xpath_values.proofs.TotalLemmas.{sum_summed, sum_refused}
use Rattle.xpath_values.proofs.totals.sum_of.Goals as goal

pub returns-then-are_numbers : goal.returns-then-are_numbers
returns-then-are_numbers c = c.summed.ensures ∙ sum_summed c.args.items.now c.if-are_numbers.ensures

pub returns-else-are_numbers : goal.returns-else-are_numbers
returns-else-are_numbers c = sum_refused c.args.items.now c.if-are_numbers.ensures
